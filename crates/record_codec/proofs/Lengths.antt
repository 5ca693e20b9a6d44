-- Lengths that stop at the greatest 64-bit number.
use Rattle.std.proofs.Common.{◌≡◌, ℕ, ◌+◌, ◌-◌, ◌^◌, ◌<◌, List, [], ◌∷◌, ◌++◌, length, get_or, take, min, refl, sym, ap, ◌∙◌, arith, inl, inr, length-append}
use Rattle.std.specs.List.{flat_map}
use Rattle.std.proofs.lemmas.Grind.{flat_map-append}
use Rattle.std.proofs.lemmas.Bool.{cases_lt}
use Rattle.std.proofs.lemmas.List.{take_more}
use Rattle.record_model.specs.Numbers.{u32, u64, varint}
use Rattle.record_model.specs.Encoding.{field_bytes, slice}
use Rattle.record_model.specs.declared.field.Field.TheVariants.{Linked}
use Rattle.record_codec.specs.Length.{told}
use Rattle.record_codec.proofs.Entries.{slice_len, name_len}

pub told_sum : (a b : ℕ) → told (told a + told b) ≡ told (a + b)
told_sum a b = omega arith

pub told_slice : (n : ℕ) → told (length (varint (told n)) + told n) ≡ told (length (varint n) + n)
told_slice n =
    elim (cases_lt n (2 ^ 64)) [
      | inl fits ↦ let same : told n ≡ n = omega arith in rw same refl
      | inr over ↦ omega arith
    ]

-- one more piece
pub told_more : {X : Type 0} (f : X → List ℕ) (xs : List X) (i : ℕ) (x : X) (so_far next : ℕ) → i < length xs → x ≡ get_or xs i x
    → so_far ≡ told (length (flat_map f (take i xs))) → next ≡ told (length (f x)) → min (so_far + next) (2 ^ 64 - 1) ≡ told (length (flat_map f (take (i + 1) xs)))
told_more f xs i x so_far next lt is first second =
    let front : flat_map f (take (i + 1) xs) ≡ flat_map f (take i xs) ++ (f (get_or xs i x) ++ []) = ap (flat_map f) (take_more xs i x lt) ∙ flat_map-append f (take i xs) (get_or xs i x ∷ []) in
    let size = ap length front ∙ length-append (flat_map f (take i xs)) (f (get_or xs i x) ++ []) in
    let last = length-append (f (get_or xs i x)) [] in
    let at : length (f x) ≡ length (f (get_or xs i x)) = ap (λ y. length (f y)) is in
    omega (arith, size, last, at, first, second)

pub told_name : (name : List ℕ) → told (4 + (length (varint (length name)) + length name)) ≡ told (length (field_bytes (Linked name)))
told_name name = ap told (sym (name_len name))

pub told_sliced : (bytes : List ℕ) → told (length (varint (told (length bytes))) + told (length bytes)) ≡ told (length (slice bytes))
told_sliced bytes = told_slice (length bytes) ∙ ap told (sym (slice_len bytes))

pub told_tagged : (tag : ℕ) (bytes : List ℕ) → told (4 + (length (varint (told (length bytes))) + told (length bytes))) ≡ told (length (u32 tag ++ slice bytes))
told_tagged tag bytes =
    let whole = length-append (u32 tag) (slice bytes) in
    omega (arith, told_sliced bytes, whole)

-- the length of a payload that is a tag and a slice, from the length of what is inside
pub told_payload : (tag inside len : ℕ) (bytes : List ℕ) → inside ≡ told (length bytes) → len ≡ told (4 + (length (varint inside) + inside)) → len ≡ told (length (u32 tag ++ slice bytes))
told_payload tag inside len bytes e whole =
    whole ∙ ap (λ (n : ℕ). told (4 + (length (varint n) + n))) e ∙ told_tagged tag bytes

pub deletion_inside : (id : ℕ) (name : List ℕ) → told (8 + length (slice name)) ≡ told (length (u64 id ++ slice name))
deletion_inside id name = ap told (sym (length-append (u64 id) (slice name)))
