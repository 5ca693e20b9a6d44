-- Frames behind frames that fill their blocks.
use Rattle.std.specs.Prelude.{◌≡◌, ℕ, zero, suc, ◌+◌, ◌*◌, ◌<◌, ◌≤◌, Bool, true, false, not, ◌||◌, cond, List, [], ◌∷◌, ◌++◌, length, take, drop, nat_lt, ◌==◌, refl}
use Rattle.std.proofs.Common.{◌∙◌, ap, arith}
use Rattle.std.proofs.Math.Nat.{add-mul}
use Rattle.std.proofs.lemmas.Bool.{ltb-false, le-ltb, or_parts, or_from, and_parts}
use Rattle.std.proofs.lemmas.List.{drop-append-le, length-append, length-drop}
use Rattle.std.proofs.lemmas.Grind.{div_ceil_times}
use Rattle.std.specs.Int.{w64, from_le_bytes}
use Rattle.record_model.specs.declared.types.Extent.{Extent}
use Rattle.log_model.specs.Frames.{frame_blocks, frames_within}
use Rattle.least_crash.specs.Filling.{fill_within, FramesGoOn}

positive_from : (n block len : ℕ) → 8 + len ≤ n * block → 0 < n
positive_from zero block len h = omega arith
positive_from (suc n) block len h = omega arith

pub frame_positive : (block len : ℕ) → 0 < block → 0 < frame_blocks block len
frame_positive block len h = positive_from (frame_blocks block len) block len (div_ceil_times (8 + len) block h).0

-- a test that holds of what isn't so
not_true : (b : Bool) → not b ≡ true → b ≡ false
not_true true h = cc
not_true false h = refl

-- the walk with another bound
same_if : (stop : Bool) (x : Extent) (few many : List Extent) → (stop ≡ false → few ≡ many) → cond stop [] (x ∷ few) ≡ cond stop [] (x ∷ many)
same_if true x few many h = refl
same_if false x few many h = ap (λ es. x ∷ es) (h refl)

same_bound : (k m block at : ℕ) (xs : List (List ℕ)) → 0 < block → length xs ≤ k → length xs ≤ m → frames_within k block at xs ≡ frames_within m block at xs
same_bound zero zero block at [] pos h g = refl
same_bound zero (suc m) block at [] pos h g = refl
same_bound (suc k) zero block at [] pos h g = refl
same_bound (suc k) (suc m) block at [] pos h g = refl
same_bound zero m block at (b ∷ bs) pos h g = absurd (omega arith)
same_bound (suc k) zero block at (b ∷ bs) pos h g = absurd (omega arith)
same_bound (suc k) (suc m) block at (b ∷ bs) pos h g =
    let len : ℕ = from_le_bytes w64 (take 8 b) in
    let n : ℕ = frame_blocks block len in
    let some : 0 < n = frame_positive block len pos in
    same_if ((len == 0) || nat_lt (length (b ∷ bs)) n) (record { start = at + 8; len = len })
    (frames_within k block (at + n * block) (drop n (b ∷ bs))) (frames_within m block (at + n * block) (drop n (b ∷ bs)))
    (λ goes.
    let few : length (drop n (b ∷ bs)) ≤ k = omega (arith, length-drop n (b ∷ bs)) in
    let many : length (drop n (b ∷ bs)) ≤ m = omega (arith, length-drop n (b ∷ bs)) in
    same_bound k m block (at + n * block) (drop n (b ∷ bs)) pos few many)

-- a frame and those behind it, in both walks
both_go : (stop halt : Bool) (x : Extent) (front whole tail : List Extent) → stop ≡ false → halt ≡ false → whole ≡ front ++ tail
    → cond halt [] (x ∷ whole) ≡ cond stop [] (x ∷ front) ++ tail
both_go true halt x front whole tail goes runs h = cc
both_go false true x front whole tail goes runs h = cc
both_go false false x front whole tail goes runs h = ap (λ es. x ∷ es) h

-- the place behind the first of two runs of blocks
place : (at n d all block : ℕ) → n + d ≡ all → at + n * block + d * block ≡ at + all * block
place at n d all block h =
    let products : (n + d) * block ≡ n * block + d * block = add-mul n d block in
    let same : (n + d) * block ≡ all * block = ap (λ c. c * block) h in
    omega (arith, products, same)

go_on : (k m block at : ℕ) (xs ys : List (List ℕ)) → 0 < block → length xs ≤ k → length (xs ++ ys) ≤ m → fill_within k block xs ≡ true
    → frames_within m block at (xs ++ ys) ≡ frames_within k block at xs ++ frames_within (length ys) block (at + length xs * block) ys
go_on zero m block at [] ys pos h g fills = same_bound m (length ys) block at ys pos g (omega arith) ∙ ap (λ p. frames_within (length ys) block p ys) (omega arith)
go_on (suc k) m block at [] ys pos h g fills = same_bound m (length ys) block at ys pos g (omega arith) ∙ ap (λ p. frames_within (length ys) block p ys) (omega arith)
go_on zero m block at (b ∷ bs) ys pos h g fills = cc
go_on (suc k) zero block at (b ∷ bs) ys pos h g fills = absurd (omega arith)
go_on (suc k) (suc m) block at (b ∷ bs) ys pos h g fills =
    let len : ℕ = from_le_bytes w64 (take 8 b) in
    let n : ℕ = frame_blocks block len in
    let some : 0 < n = frame_positive block len pos in
    let parts = and_parts (not ((len == 0) || nat_lt (length (b ∷ bs)) n)) (fill_within k block (drop n (b ∷ bs))) fills in
    let goes : (len == 0) || nat_lt (length (b ∷ bs)) n ≡ false = not_true ((len == 0) || nat_lt (length (b ∷ bs)) n) parts.0 in
    let tests = or_parts (len == 0) (nat_lt (length (b ∷ bs)) n) goes in
    let fits : n ≤ length (b ∷ bs) = ltb-false (length (b ∷ bs)) n tests.1 in
    let rest = drop n (b ∷ bs) in
    let few : length (drop n (b ∷ bs)) ≤ k = omega (arith, length-drop n (b ∷ bs)) in
    let many : length (drop n (b ∷ bs) ++ ys) ≤ m = omega (arith, length-drop n (b ∷ bs), length-append (drop n (b ∷ bs)) ys, length-append (b ∷ bs) ys) in
    let count : n + length (drop n (b ∷ bs)) ≡ length (b ∷ bs) = omega (arith, length-drop n (b ∷ bs), fits) in
    let behind : frames_within m block (at + n * block) (drop n (b ∷ bs) ++ ys)
    ≡ frames_within k block (at + n * block) (drop n (b ∷ bs)) ++ frames_within (length ys) block (at + n * block + length (drop n (b ∷ bs)) * block) ys =
    go_on k m block (at + n * block) (drop n (b ∷ bs)) ys pos few many parts.1 in
    let there : frames_within m block (at + n * block) (drop n ((b ∷ bs) ++ ys))
    ≡ frames_within k block (at + n * block) (drop n (b ∷ bs)) ++ frames_within (length ys) block (at + length (b ∷ bs) * block) ys =
    ap (frames_within m block (at + n * block)) (drop-append-le n (b ∷ bs) ys fits) ∙ behind
    ∙ ap (λ p. frames_within k block (at + n * block) (drop n (b ∷ bs)) ++ frames_within (length ys) block p ys) (place at n (length (drop n (b ∷ bs))) (length (b ∷ bs)) block count) in
    both_go ((len == 0) || nat_lt (length (b ∷ bs)) n) ((len == 0) || nat_lt (length ((b ∷ bs) ++ ys)) n) (record { start = at + 8; len = len })
    (frames_within k block (at + n * block) (drop n (b ∷ bs))) (frames_within m block (at + n * block) (drop n ((b ∷ bs) ++ ys)))
    (frames_within (length ys) block (at + length (b ∷ bs) * block) ys) goes
    (or_from (len == 0) (nat_lt (length ((b ∷ bs) ++ ys)) n) tests.0 (le-ltb (length ((b ∷ bs) ++ ys)) n (omega (arith, length-append (b ∷ bs) ys, fits))))
    there

pub frames_go_on : FramesGoOn
frames_go_on block at front rest pos fills = go_on (length front) (length (front ++ rest)) block at front rest pos (omega arith) (omega arith) fills
