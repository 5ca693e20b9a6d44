-- Looking up the least number, and within the extents of a file.
use Rattle.std.proofs.Common.{◌≡◌, ℕ, ◌+◌, ◌-◌, Bool, true, false, cond, Option, Some, None, Ok, Err, List, [], ◌∷◌, ◌++◌, nat_lt, refl, ap, ◌∙◌, arith}
use Rattle.std.proofs.lemmas.Bool.{ltb-false}
use Rattle.std.proofs.lemmas.List.Sums.{sum_by-cons}
use Rattle.record_model.specs.declared.types.Extent.{Extent}
use Rattle.log_model.specs.FileTable.{size_of}
use Rattle.extent_map.specs.Lookups.{lower, rest_of, rest_in}

-- lower numbers in any grouping
pub lower_assoc : (a b c : Option ℕ) → lower (lower a b) c ≡ lower a (lower b c)
lower_assoc None b c = refl
lower_assoc (Some a) None c = refl
lower_assoc (Some a) (Some b) None = refl
lower_assoc (Some a) (Some b) (Some c) = ap Some (omega arith)

-- ---- within the extents of a file

-- a byte within the first of the extents, or not
front_choice : (b : Bool) (offset : ℕ) (x : Extent) (xs ys : List Extent) (r : Extent)
    → (rest_in (offset - x.len) xs ≡ Ok r → rest_in (offset - x.len) (xs ++ ys) ≡ Ok r)
    → cond b (Ok (rest_of x offset)) (rest_in (offset - x.len) xs) ≡ Ok r → cond b (Ok (rest_of x offset)) (rest_in (offset - x.len) (xs ++ ys)) ≡ Ok r
front_choice true offset x xs ys r rest h = h
front_choice false offset x xs ys r rest h = rest h

-- a byte within the first of two parts
pub rest_in_front : (offset : ℕ) (xs ys : List Extent) (r : Extent) → rest_in offset xs ≡ Ok r → rest_in offset (xs ++ ys) ≡ Ok r
rest_in_front offset [] ys r h = absurd cc
rest_in_front offset (x ∷ xs) ys r h = front_choice (nat_lt offset x.len) offset x xs ys r (rest_in_front (offset - x.len) xs ys r) h

-- a byte lies so far behind some extents
pub record LiesBehind (offset : ℕ) (xs : List Extent) (behind : ℕ) : Type 0 where
  pub size : offset ≡ size_of xs + behind
  pub joined : (ys : List Extent) → rest_in offset (xs ++ ys) ≡ rest_in behind ys

-- a byte behind the first of the extents, or not
behind_choice : (b : Bool) (offset : ℕ) (x : Extent) (xs : List Extent) (behind : ℕ) → nat_lt offset x.len ≡ b
    → (rest_in (offset - x.len) xs ≡ Err behind → LiesBehind (offset - x.len) xs behind)
    → cond b (Ok (rest_of x offset)) (rest_in (offset - x.len) xs) ≡ Err behind → LiesBehind offset (x ∷ xs) behind
behind_choice true offset x xs behind is rest h = absurd cc
behind_choice false offset x xs behind is rest h = record {
  size = let size = (rest h).size in omega (arith, size, sum_by-cons (λ (e : Extent). e.len) x xs, ltb-false offset x.len is);
  joined = λ ys. ap (λ c. cond c (Ok (rest_of x offset)) (rest_in (offset - x.len) (xs ++ ys))) is ∙ (rest h).joined ys;
}

-- a byte behind some extents
pub rest_behind : (offset : ℕ) (xs : List Extent) (behind : ℕ) → rest_in offset xs ≡ Err behind → LiesBehind offset xs behind
rest_behind offset [] behind h = record { size = let e : offset ≡ behind = cc in omega arith; joined = λ ys. let e : offset ≡ behind = cc in ap (λ n. rest_in n ys) e }
rest_behind offset (x ∷ xs) behind h = behind_choice (nat_lt offset x.len) offset x xs behind refl (rest_behind (offset - x.len) xs behind) h
