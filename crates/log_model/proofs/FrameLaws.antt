-- The frames of a zone that keeps its first blocks.
use Rattle.std.specs.Prelude.{◌≡◌, ℕ, zero, suc, ◌+◌, ◌*◌, ◌/◌, ◌<◌, ◌≤◌, Bool, true, false, ◌||◌, cond, List, [], ◌∷◌, ◌++◌, length, take, drop, nat_lt, ◌==◌, refl}
use Rattle.std.proofs.Common.{ap, sym, subst, ⊎_elim, arith}
use Rattle.std.proofs.lemmas.Bool.{ltb-false, le-ltb, or_parts, or_from, cases_lt}
use Rattle.std.proofs.lemmas.List.{drop-append-le, drop_all, length-append, length-drop}
use Rattle.std.proofs.lemmas.Grind.{div_ceil_times}
use Rattle.std.specs.Int.{w64, from_le_bytes}
use mathlib.Core.List.{IsPrefix}
use Rattle.zone_image.specs.declared.Geometry.{Geometry}
use Rattle.zone_image.specs.Image.{zone_at, zone_of, offset_of}
use Rattle.record_model.specs.declared.types.Extent.{Extent}
use Rattle.log_model.specs.Frames.{frame_blocks, frames_within, frames_at}
use Rattle.log_model.specs.MountLaws.{FrontHasFirstFrames, FramesStayInOrder}

-- some bytes are more than none
positive_from : (n block len : ℕ) → 8 + len ≤ n * block → 0 < n
positive_from zero block len h = omega arith
positive_from (suc n) block len h = omega arith

-- a frame takes a block at least
frame_positive : (block len : ℕ) → 0 < block → 0 < frame_blocks block len
frame_positive block len h = positive_from (frame_blocks block len) block len (div_ceil_times (8 + len) block h).0

-- a frame and those behind it, where the walk goes on in both
frame_front : (stop halt : Bool) (x : Extent) (front whole : List Extent) → (stop ≡ false → halt ≡ false) → (stop ≡ false → IsPrefix front whole)
    → IsPrefix (cond stop [] (x ∷ front)) (cond halt [] (x ∷ whole))
frame_front true halt x front whole goes h = (_, refl)
frame_front false true x front whole goes h = let wrong : true ≡ false = goes refl in cc
frame_front false false x front whole goes h = ((h refl).0, ap (λ es. x ∷ es) (h refl).1)

-- the frames of the first blocks are the first frames
front_within : (k m block at : ℕ) (xs ys : List (List ℕ)) → 0 < block → length xs ≤ k → length (xs ++ ys) ≤ m
    → IsPrefix (frames_within k block at xs) (frames_within m block at (xs ++ ys))
front_within zero m block at xs ys pos h g = (_, refl)
front_within (suc k) m block at [] ys pos h g = (_, refl)
front_within (suc k) zero block at (b ∷ bs) ys pos h g = absurd (omega arith)
front_within (suc k) (suc m) block at (b ∷ bs) ys pos h g =
    let len : ℕ = from_le_bytes w64 (take 8 b) in
    let n : ℕ = frame_blocks block len in
    let some : 0 < n = frame_positive block len pos in
    frame_front ((len == 0) || nat_lt (length (b ∷ bs)) n) ((len == 0) || nat_lt (length ((b ∷ bs) ++ ys)) n) (record { start = at + 8; len = len })
    (frames_within k block (at + n * block) (drop n (b ∷ bs))) (frames_within m block (at + n * block) (drop n ((b ∷ bs) ++ ys)))
    (λ goes.
    let parts = or_parts (len == 0) (nat_lt (length (b ∷ bs)) n) goes in
    let fits : n ≤ length (b ∷ bs) = ltb-false (length (b ∷ bs)) n parts.1 in
    or_from (len == 0) (nat_lt (length ((b ∷ bs) ++ ys)) n) parts.0 (le-ltb (length ((b ∷ bs) ++ ys)) n (omega (arith, length-append (b ∷ bs) ys))))
    (λ goes.
    let parts = or_parts (len == 0) (nat_lt (length (b ∷ bs)) n) goes in
    let fits : n ≤ length (b ∷ bs) = ltb-false (length (b ∷ bs)) n parts.1 in
    let left : length (drop n (b ∷ bs)) ≤ k = omega (arith, length-drop n (b ∷ bs)) in
    let left_too : length (drop n (b ∷ bs) ++ ys) ≤ m = omega (arith, length-drop n (b ∷ bs), length-append (drop n (b ∷ bs)) ys, length-append (b ∷ bs) ys) in
    subst (λ zs. IsPrefix (frames_within k block (at + n * block) (drop n (b ∷ bs))) (frames_within m block (at + n * block) zs)) (sym (drop-append-le n (b ∷ bs) ys fits))
    (front_within k m block (at + n * block) (drop n (b ∷ bs)) ys pos left left_too))

pub front_has_first_frames : FrontHasFirstFrames
front_has_first_frames block at front rest pos = front_within (length front) (length (front ++ rest)) block at front rest pos (omega arith) (omega arith)

-- the frames from a block on
frames_behind : ℕ → ℕ → ℕ → List (List ℕ) → List Extent
frames_behind block at d blocks = frames_within (length (drop d blocks)) block at (drop d blocks)

-- those of the first blocks, from a block on
behind_front : (block at d : ℕ) (front rest : List (List ℕ)) → 0 < block → IsPrefix (frames_behind block at d front) (frames_behind block at d (front ++ rest))
unfolding frames_behind
behind_front block at d front rest pos =
    ⊎_elim
    (λ past. let none : drop d front ≡ [] = drop_all d front (omega arith) in
    subst (λ bs. IsPrefix (frames_within (length bs) block at bs) (frames_behind block at d (front ++ rest))) (sym none) (_, refl))
    (λ within.
    subst (λ bs. IsPrefix (frames_behind block at d front) (frames_within (length bs) block at bs)) (sym (drop-append-le d front rest within))
    (front_has_first_frames block at (drop d front) rest pos))
    (cases_lt (length front) d)

-- the frames of an image, by the geometry and the blocks of their zone
frames_of : Geometry → ℕ → List (List ℕ) → List Extent
frames_of g start blocks = frames_behind g.block start (offset_of g start / g.block) blocks

pub frames_stay_in_order : FramesStayInOrder
unfolding frames_at frames_of frames_behind
frames_stay_in_order i j start pos same h =
    let read : frames_at j start ≡ frames_of i.geometry start (zone_at j (zone_of i.geometry start)).blocks =
    ap (λ g. frames_of g start (zone_at j (zone_of g start)).blocks) same in
    subst (λ fs. IsPrefix fs (frames_at i start)) (sym read)
    (subst (λ bs. IsPrefix (frames_of i.geometry start (zone_at j (zone_of i.geometry start)).blocks) (frames_of i.geometry start bs)) h.1
    (behind_front i.geometry.block start (offset_of i.geometry start / i.geometry.block) (zone_at j (zone_of i.geometry start)).blocks h.0 pos))
