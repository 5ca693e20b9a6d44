-- The rows of the table are those of the register.
use Rattle.std.proofs.Common.{◌≡◌, ℕ, zero, suc, ◌<◌, List, [], ◌∷◌, length, map, get_or, ap, ◌∙◌, arith}
use Rattle.std.proofs.lemmas.List.{get_or-map, length-map}
use Rattle.std.proofs.lemmas.List.FromFn.{get_or-map-range_with_len}
use Rattle.std.specs.List.{range_with_len}
use Rattle.crc32c_core.proofs.Shifts.{shifted, shifts}

-- each row is the one before it, shifted
unfoldable pub rows : ℕ → List ℕ → List (List ℕ)
rows zero row = []
rows (suc n) row = map shifted row ∷ rows n (map shifted row)

-- the values of a byte
unfoldable pub bytes_in_order : List ℕ
bytes_in_order = map (λ b. b) (range_with_len 0 256)

entry-of_row : (n k i : ℕ) (row d : List ℕ) → k < n → i < length row → get_or (get_or (rows n row) k d) i 0 ≡ shifts (suc k) (get_or row i 0)
unfolding rows shifts
entry-of_row zero k i row d h within = absurd (omega arith)
entry-of_row (suc n) zero i row d h within = get_or-map shifted row i 0 0 within
entry-of_row (suc n) (suc k) i row d h within =
    entry-of_row n k i (map shifted row) d (omega arith) (omega (arith, length-map row shifted))
    ∙ ap (shifts (suc k)) (get_or-map shifted row i 0 0 within)

-- an entry of a table whose rows are these
pub entry-of_table : (table : List (List ℕ)) (k i : ℕ) (d : List ℕ) → table ≡ rows 8 bytes_in_order → k < 8 → i < 256 → get_or (get_or table k d) i 0 ≡ shifts (suc k) i
unfolding bytes_in_order
entry-of_table table k i d is h within =
    ap (λ t. get_or (get_or t k d) i 0) is ∙ entry-of_row 8 k i bytes_in_order d h within
    ∙ ap (shifts (suc k)) (get_or-map-range_with_len (λ b. b) 0 256 i i 0 within (omega arith))
