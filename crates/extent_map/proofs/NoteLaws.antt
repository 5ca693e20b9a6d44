-- One more extent.
use Rattle.std.specs.Prelude.{◌≡◌, ℕ, zero, suc, ◌+◌, ◌-◌, ◌<◌, ◌≤◌, Bool, true, false, cond, List, [], ◌∷◌, ◌++◌, length, ◌==◌, refl}
use Rattle.std.proofs.Common.{set, get_or, ap, sym, ◌∙◌, arith}
use Rattle.std.proofs.lemmas.List.Sums.{sum_by-cons}
use Rattle.record_model.specs.declared.types.Extent.{Extent}
use Rattle.log_model.specs.FileTable.{size_of}
use Rattle.fs_model.specs.FileSteps.{extents_with}

-- an extent that is longer
abbrev pub longer : Extent → Extent → Extent
longer y x = record y { len = y.len + x.len }

-- the last extent that is made longer, by its place
longer_at : (xs : List Extent) (k : ℕ) (x last : Extent) → length xs ≡ suc k → last ≡ get_or xs k last → (last.start + last.len == x.start) ≡ true
    → set xs k (longer last x) ≡ extents_with xs x
longer_at [] k x last count is follows = absurd (omega arith)
longer_at (y ∷ []) zero x last count is follows =
    ap (λ e. longer e x ∷ []) is ∙ sym (ap (λ b. cond b (longer y x ∷ []) (y ∷ x ∷ [])) (ap (λ e. e.start + e.len == x.start) (sym is) ∙ follows))
longer_at (y ∷ []) (suc k) x last count is follows = absurd (omega arith)
longer_at (y ∷ z ∷ zs) zero x last count is follows = absurd (omega arith)
longer_at (y ∷ z ∷ zs) (suc k) x last count is follows = ap (λ (es : List Extent). y ∷ es) (longer_at (z ∷ zs) k x last (omega arith) is follows)

-- an extent that stands alone behind the last, by its place
apart_at : (xs : List Extent) (k : ℕ) (x last : Extent) → length xs ≡ suc k → last ≡ get_or xs k last → (last.start + last.len == x.start) ≡ false
    → xs ++ x ∷ [] ≡ extents_with xs x
apart_at [] k x last count is apart = absurd (omega arith)
apart_at (y ∷ []) zero x last count is apart =
    sym (ap (λ b. cond b (longer y x ∷ []) (y ∷ x ∷ [])) (ap (λ e. e.start + e.len == x.start) (sym is) ∙ apart))
apart_at (y ∷ []) (suc k) x last count is apart = absurd (omega arith)
apart_at (y ∷ z ∷ zs) zero x last count is apart = absurd (omega arith)
apart_at (y ∷ z ∷ zs) (suc k) x last count is apart = ap (λ (es : List Extent). y ∷ es) (apart_at (z ∷ zs) k x last (omega arith) is apart)

-- the last extent that is made longer
pub last_longer : (xs : List Extent) (n : ℕ) (x last : Extent) → n ≡ length xs → 0 < n → last ≡ get_or xs (n - 1) last → (last.start + last.len == x.start) ≡ true
    → set xs (n - 1) (longer last x) ≡ extents_with xs x
last_longer xs n x last count some is follows = longer_at xs (n - 1) x last (omega arith) is follows

-- an extent that stands alone behind the last
pub last_apart : (xs : List Extent) (n : ℕ) (x last : Extent) → n ≡ length xs → 0 < n → last ≡ get_or xs (n - 1) last → (last.start + last.len == x.start) ≡ false
    → xs ++ x ∷ [] ≡ extents_with xs x
last_apart xs n x last count some is apart = apart_at xs (n - 1) x last (omega arith) is apart

-- the sum of the lengths with one more
pub size_with : (xs : List Extent) (x : Extent) → size_of (extents_with xs x) ≡ size_of xs + x.len
size_with [] x = refl
size_with (y ∷ []) x = choice (y.start + y.len == x.start)
  where
    choice : (b : Bool) → size_of (cond b (longer y x ∷ []) (y ∷ x ∷ [])) ≡ size_of (y ∷ []) + x.len
    choice true = omega arith
    choice false = omega arith
size_with (y ∷ z ∷ zs) x =
    omega (arith, sum_by-cons (λ (e : Extent). e.len) y (extents_with (z ∷ zs) x), sum_by-cons (λ (e : Extent). e.len) y (z ∷ zs), size_with (z ∷ zs) x)

-- the number of extents with one more
pub length_with : (xs : List Extent) (x : Extent) → (0 < length (extents_with xs x)) × (length (extents_with xs x) ≤ length xs + 1)
length_with [] x = (omega arith, omega arith)
length_with (y ∷ []) x = choice (y.start + y.len == x.start)
  where
    choice : (b : Bool) → (0 < length (cond b (longer y x ∷ []) (y ∷ x ∷ []))) × (length (cond b (longer y x ∷ []) (y ∷ x ∷ [])) ≤ 2)
    choice true = (omega arith, omega arith)
    choice false = (omega arith, omega arith)
length_with (y ∷ z ∷ zs) x = let rest = length_with (z ∷ zs) x in (omega arith, omega (arith, rest.1))
