-- One frame, whole or in part.
use Rattle.std.specs.Prelude.{◌≡◌, ℕ, zero, suc, ◌+◌, ◌-◌, ◌*◌, ◌^◌, ◌<◌, ◌≤◌, Bool, true, false, ◌||◌, cond, List, [], ◌∷◌, ◌++◌, length, take, drop, replicate, nat_lt, ◌==◌, refl}
use Rattle.std.proofs.Common.{◌∙◌, ap, arith}
use Rattle.std.proofs.lemmas.Bool.{le-ltb, lt-ltb, ne_eqb, or_from}
use Rattle.std.proofs.lemmas.List.{take-take, drop_all}
use Rattle.std.proofs.lemmas.Nat.{from_le_bytes-to_le_bytes_8}
use Rattle.std.specs.Int.{w64, from_le_bytes, to_le_bytes}
use Rattle.zone_image.specs.Changes.{chunks}
use Rattle.zone_image.proofs.BlockLaws.{length-chunks, take-chunks}
use Rattle.record_model.specs.declared.types.Extent.{Extent}
use Rattle.log_model.specs.Frames.{frame_then, frame_blocks, frames_within}
use Rattle.least_crash.proofs.FillLaws.{frame_positive}
use Rattle.least_crash.specs.Filling.{frame_of, IsFrameOf, FrameIsFound, PartIsNotFound}

-- the bytes of a frame with its filling
padded : ℕ → List ℕ → List ℕ
padded filling bytes = to_le_bytes w64 (length bytes) ++ bytes ++ replicate filling 0

-- its first block tells its length
told_len : (block filling : ℕ) (bytes : List ℕ) → 8 ≤ block → length bytes < 2 ^ 64 → from_le_bytes w64 (take 8 (take block (padded filling bytes))) ≡ length bytes
unfolding padded
told_len block filling bytes head short =
    ap (λ bs. from_le_bytes w64 bs) (take-take 8 block (to_le_bytes w64 (length bytes) ++ bytes ++ replicate filling 0) head)
    ∙ from_le_bytes-to_le_bytes_8 (length bytes) short

-- a walk that finds one frame, and nothing behind it
one : (stop : Bool) (x : Extent) (others : List Extent) → stop ≡ false → others ≡ [] → cond stop [] (x ∷ others) ≡ x ∷ []
one true x others goes h = cc
one false x others goes h = ap (λ es. x ∷ es) h

-- a walk that finds none
none : (stop : Bool) (x : Extent) (others : List Extent) → stop ≡ true → cond stop [] (x ∷ others) ≡ []
none true x others stops = refl
none false x others stops = cc

-- no frame in no blocks
no_blocks : (k block at : ℕ) (xs : List (List ℕ)) → xs ≡ [] → frames_within k block at xs ≡ []
no_blocks zero block at xs h = ap (λ bs. frames_within zero block at bs) h
no_blocks (suc k) block at xs h = ap (λ bs. frames_within (suc k) block at bs) h

-- a test that holds at its second part
second_holds : (a b : Bool) → b ≡ true → a || b ≡ true
second_holds true b h = refl
second_holds false b h = h

-- a walk over so many blocks of the frame
whole_walk : (m block at filling : ℕ) (bytes : List ℕ) → IsFrameOf block bytes → frame_blocks block (length bytes) ≡ suc m
    → frames_within (suc m) block at (chunks block (suc m) (padded filling bytes)) ≡ (record { start = at + 8; len = length bytes }) ∷ []
whole_walk m block at filling bytes is count =
    let n : ℕ = length bytes in
    let xs = chunks block (suc m) (padded filling bytes) in
    let others : ℕ → List Extent = λ c. frames_within m block (at + c * block) (drop c xs) in
    let many : length xs ≡ suc m = length-chunks block (suc m) (padded filling bytes) in
    ap (λ len. frame_then block at (length xs) len others) (told_len block filling bytes is.head is.short)
    ∙ one ((n == 0) || nat_lt (length xs) (frame_blocks block n)) (record { start = at + 8; len = n }) (others (frame_blocks block n))
    (or_from (n == 0) (nat_lt (length xs) (frame_blocks block n)) (ne_eqb n 0 (λ same. omega (arith, is.some, same))) (le-ltb (length xs) (frame_blocks block n) (omega (arith, many, count))))
    (no_blocks m block (at + frame_blocks block n * block) (drop (frame_blocks block n) xs) (drop_all (frame_blocks block n) xs (omega (arith, many, count))))

part_walk : (m block at filling : ℕ) (bytes : List ℕ) → IsFrameOf block bytes → suc m < frame_blocks block (length bytes)
    → frames_within (suc m) block at (chunks block (suc m) (padded filling bytes)) ≡ []
part_walk m block at filling bytes is less =
    let n : ℕ = length bytes in
    let xs = chunks block (suc m) (padded filling bytes) in
    let others : ℕ → List Extent = λ c. frames_within m block (at + c * block) (drop c xs) in
    let many : length xs ≡ suc m = length-chunks block (suc m) (padded filling bytes) in
    ap (λ len. frame_then block at (length xs) len others) (told_len block filling bytes is.head is.short)
    ∙ none ((n == 0) || nat_lt (length xs) (frame_blocks block n)) (record { start = at + 8; len = n }) (others (frame_blocks block n))
    (second_holds (n == 0) (nat_lt (length xs) (frame_blocks block n)) (lt-ltb (length xs) (frame_blocks block n) (omega (arith, many, less))))

-- the walk over the blocks of the frame, by their number
found_by : (c block at filling : ℕ) (bytes : List ℕ) → IsFrameOf block bytes → frame_blocks block (length bytes) ≡ c
    → frames_within c block at (chunks block c (padded filling bytes)) ≡ (record { start = at + 8; len = length bytes }) ∷ []
found_by zero block at filling bytes is count = absurd (omega (arith, frame_positive block (length bytes) (omega (arith, is.head)), count))
found_by (suc m) block at filling bytes is count = whole_walk m block at filling bytes is count

lost_by : (c block at filling : ℕ) (bytes : List ℕ) → IsFrameOf block bytes → c < frame_blocks block (length bytes)
    → frames_within c block at (chunks block c (padded filling bytes)) ≡ []
lost_by zero block at filling bytes is less = refl
lost_by (suc m) block at filling bytes is less = part_walk m block at filling bytes is less

pub frame_is_found : FrameIsFound
unfolding padded
frame_is_found block at bytes is =
    let c : ℕ = frame_blocks block (length bytes) in
    let filling : ℕ = frame_blocks block (length bytes) * block - (8 + length bytes) in
    ap (λ k. frames_within k block at (frame_of block bytes)) (length-chunks block c (padded filling bytes))
    ∙ found_by c block at filling bytes is refl

pub part_is_not_found : PartIsNotFound
unfolding padded
part_is_not_found block at k bytes is less =
    let c : ℕ = frame_blocks block (length bytes) in
    let filling : ℕ = frame_blocks block (length bytes) * block - (8 + length bytes) in
    let taken : take k (frame_of block bytes) ≡ chunks block k (padded filling bytes) = take-chunks block k c (padded filling bytes) (omega (arith, less)) in
    ap (λ bs. frames_within (length bs) block at bs) taken
    ∙ ap (λ m. frames_within m block at (chunks block k (padded filling bytes))) (length-chunks block k (padded filling bytes))
    ∙ lost_by k block at filling bytes is less
