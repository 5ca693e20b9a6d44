-- Extents that are moved, one after another.
use Rattle.std.specs.Prelude.{◌≡◌, ℕ, zero, suc, ◌+◌, ◌<◌, ◌≤◌, List, [], ◌∷◌, length, map, refl}
use Rattle.std.proofs.Common.{set, get_or, ap, sym, ◌∙◌, arith}
use Rattle.std.proofs.lemmas.List.Sums.{sum_by-cons}
use Rattle.record_model.specs.declared.types.Extent.{Extent}
use Rattle.log_model.specs.FileTable.{size_of}
use Rattle.fs_model.specs.declared.zones.Move.{Move}
use Rattle.fs_model.specs.FileSteps.{moved_extent}

-- the extents of which so many are moved
abbrev pub moved_to : List Move → ℕ → List Extent → List Extent
moved_to ms zero xs = xs
moved_to ms (suc k) [] = []
moved_to ms (suc k) (x ∷ xs) = moved_extent ms x ∷ moved_to ms k xs

-- as many as before
pub moved_length : (ms : List Move) (k : ℕ) (xs : List Extent) → length (moved_to ms k xs) ≡ length xs
moved_length ms zero xs = refl
moved_length ms (suc k) [] = refl
moved_length ms (suc k) (x ∷ xs) = ap suc (moved_length ms k xs)

-- one more that is moved
pub moved_next : (ms : List Move) (k : ℕ) (xs : List Extent) (x : Extent) → k < length xs → x ≡ get_or (moved_to ms k xs) k x
    → set (moved_to ms k xs) k (moved_extent ms x) ≡ moved_to ms (suc k) xs
moved_next ms k [] x lt is = absurd (omega arith)
moved_next ms zero (y ∷ ys) x lt is = ap (λ (e : Extent). moved_extent ms e ∷ ys) is
moved_next ms (suc k) (y ∷ ys) x lt is = ap (λ (es : List Extent). moved_extent ms y ∷ es) (moved_next ms k ys x (omega arith) is)

-- all of them
pub moved_all : (ms : List Move) (k : ℕ) (xs : List Extent) → length xs ≤ k → moved_to ms k xs ≡ map (moved_extent ms) xs
moved_all ms zero [] le = refl
moved_all ms zero (x ∷ xs) le = absurd (omega arith)
moved_all ms (suc k) [] le = refl
moved_all ms (suc k) (x ∷ xs) le = ap (λ (es : List Extent). moved_extent ms x ∷ es) (moved_all ms k xs (omega arith))

-- ---- what moves keep

-- the sum of the lengths
pub moved_size : (ms : List Move) (xs : List Extent) → size_of (map (moved_extent ms) xs) ≡ size_of xs
moved_size ms [] = refl
moved_size ms (x ∷ xs) =
    sum_by-cons (λ (e : Extent). e.len) (moved_extent ms x) (map (moved_extent ms) xs) ∙ ap (λ n. x.len + n) (moved_size ms xs) ∙ sym (sum_by-cons (λ (e : Extent). e.len) x xs)

-- the number of extents
pub moved_count : (ms : List Move) (xs : List Extent) → length (map (moved_extent ms) xs) ≡ length xs
moved_count ms [] = refl
moved_count ms (x ∷ xs) = ap suc (moved_count ms xs)
