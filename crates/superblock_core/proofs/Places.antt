-- Fields that stand one after the other, and what stands at a place.
use Rattle.std.proofs.Common.{◌≡◌, ℕ, zero, suc, ◌+◌, List, [], ◌∷◌, ◌++◌, length, take, drop, refl, sym, ap, ◌∙◌}
use Rattle.std.proofs.Math.Seq.{take-append_seam, drop-append-add}

-- the fields, one after the other
abbrev pub joined : List (List ℕ) → List ℕ
joined [] = []
joined (field ∷ fields) = field ++ joined fields

-- where a field begins
abbrev pub place_of : ℕ → List (List ℕ) → ℕ
place_of n [] = 0
place_of zero (field ∷ fields) = 0
place_of (suc n) (field ∷ fields) = length field + place_of n fields

-- a field, by its number
abbrev pub nth : ℕ → List (List ℕ) → List ℕ
nth n [] = []
nth zero (field ∷ fields) = field
nth (suc n) (field ∷ fields) = nth n fields

taken_field : (n : ℕ) (fields : List (List ℕ)) → take (length (nth n fields)) (drop (place_of n fields) (joined fields)) ≡ nth n fields
taken_field n [] = refl
taken_field zero (field ∷ fields) = take-append_seam field (joined fields)
taken_field (suc n) (field ∷ fields) =
    ap (take (length (nth n fields))) (drop-append-add field (joined fields) (place_of n fields)) ∙ taken_field n fields

-- what stands at a field's place
pub field-at : (bytes : List ℕ) (fields : List (List ℕ)) (n at size : ℕ) → bytes ≡ joined fields → place_of n fields ≡ at → length (nth n fields) ≡ size
    → take size (drop at bytes) ≡ nth n fields
field-at bytes fields n at size is place long =
    ap (λ b. take size (drop at b)) is ∙ ap (λ k. take size (drop k (joined fields))) (sym place)
    ∙ ap (λ k. take k (drop (place_of n fields) (joined fields))) (sym long) ∙ taken_field n fields
