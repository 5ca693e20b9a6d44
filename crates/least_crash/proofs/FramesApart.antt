-- The frames of a walk begin at or behind its address, and share no byte.
use Rattle.std.specs.Prelude.{◌≡◌, ℕ, zero, suc, ◌+◌, ◌*◌, ◌<◌, ◌≤◌, Bool, true, false, not, ◌||◌, cond, List, [], ◌∷◌, length, take, drop, nat_lt, ◌==◌, refl}
use Rattle.std.proofs.Common.{arith}
use Rattle.std.proofs.lemmas.Bool.{or_from}
use Rattle.std.proofs.lemmas.Grind.{div_ceil_times}
use Rattle.std.specs.Int.{w64, from_le_bytes}
use Rattle.std.specs.List.{AllByRecursion, list_any}
use Rattle.zone_image.specs.Image.{Image}
use Rattle.record_model.specs.declared.types.Extent.{Extent}
use Rattle.record_model.specs.declared.types.FileEntry.{FileEntry}
use Rattle.log_model.specs.Frames.{no_active, frame_blocks, frames_within, frames_at, blocks_from, rest_at, is_recovery_point, recovered_extents}
use Rattle.log_model.specs.Mounted.{share_a_byte, overlap}
use Rattle.least_crash.proofs.Apart.{ends_before}

-- begins at this address, or behind it
abbrev pub BeginsAt : ℕ → Extent → Type 0
BeginsAt at x = at ≤ x.start

-- what begins behind a later address
later : (at from : ℕ) (xs : List Extent) → at ≤ from → AllByRecursion (BeginsAt from) xs → AllByRecursion (BeginsAt at) xs
later at from [] low h = tt
later at from (x ∷ xs) low h = (omega (arith, h.0), later at from xs low h.1)

-- a frame and those behind it
all_if : (stop : Bool) (P : Extent → Type 0) (x : Extent) (xs : List Extent) → P x → AllByRecursion P xs → AllByRecursion P (cond stop [] (x ∷ xs))
all_if true P x xs h g = tt
all_if false P x xs h g = (h, g)

begin_at : (k block at : ℕ) (blocks : List (List ℕ)) → AllByRecursion (BeginsAt at) (frames_within k block at blocks)
begin_at zero block at blocks = tt
begin_at (suc k) block at [] = tt
begin_at (suc k) block at (b ∷ bs) =
    let len : ℕ = from_le_bytes w64 (take 8 b) in
    let n : ℕ = frame_blocks block len in
    all_if ((len == 0) || nat_lt (length (b ∷ bs)) n) (BeginsAt at) (record { start = at + 8; len = len }) (frames_within k block (at + n * block) (drop n (b ∷ bs)))
    (omega arith)
    (later at (at + n * block) (frames_within k block (at + n * block) (drop n (b ∷ bs))) (omega arith) (begin_at k block (at + n * block) (drop n (b ∷ bs))))

-- an extent that ends before others begin
before_all : (x : Extent) (at : ℕ) (xs : List Extent) → x.start + x.len ≤ at → AllByRecursion (BeginsAt at) xs → list_any (share_a_byte x) xs ≡ false
before_all x at [] end h = refl
before_all x at (y ∷ ys) end h =
    or_from (share_a_byte x y) (list_any (share_a_byte x) ys) (ends_before x y (omega (arith, end, h.0))) (before_all x at ys end h.1)

overlap_if : (stop : Bool) (x : Extent) (xs : List Extent) → list_any (share_a_byte x) xs ≡ false → overlap xs ≡ false → overlap (cond stop [] (x ∷ xs)) ≡ false
overlap_if true x xs h g = refl
overlap_if false x xs h g = or_from (list_any (share_a_byte x) xs) (overlap xs) h g

frames_apart : (k block at : ℕ) (blocks : List (List ℕ)) → 0 < block → overlap (frames_within k block at blocks) ≡ false
frames_apart zero block at blocks pos = refl
frames_apart (suc k) block at [] pos = refl
frames_apart (suc k) block at (b ∷ bs) pos =
    let len : ℕ = from_le_bytes w64 (take 8 b) in
    let n : ℕ = frame_blocks block len in
    let x : Extent = record { start = at + 8; len = len } in
    let room : 8 + len ≤ n * block = (div_ceil_times (8 + len) block pos).0 in
    overlap_if ((len == 0) || nat_lt (length (b ∷ bs)) n) x (frames_within k block (at + n * block) (drop n (b ∷ bs)))
    (before_all x (at + n * block) (frames_within k block (at + n * block) (drop n (b ∷ bs))) (omega (arith, room)) (begin_at k block (at + n * block) (drop n (b ∷ bs))))
    (frames_apart k block (at + n * block) (drop n (b ∷ bs)) pos)

-- what is found from a recovery point, if it is one
found_begins : (unset p sparse : Bool) (at : ℕ) (frames rest : List Extent) → AllByRecursion (BeginsAt at) frames → AllByRecursion (BeginsAt at) rest
    → AllByRecursion (BeginsAt at) (cond (unset || not p) [] (cond sparse frames rest))
found_begins true p sparse at frames rest h g = tt
found_begins false false sparse at frames rest h g = tt
found_begins false true true at frames rest h g = h
found_begins false true false at frames rest h g = g

found_overlaps : (unset p sparse : Bool) (frames rest : List Extent) → overlap frames ≡ false → overlap rest ≡ false
    → overlap (cond (unset || not p) [] (cond sparse frames rest)) ≡ false
found_overlaps true p sparse frames rest h g = refl
found_overlaps false false sparse frames rest h g = refl
found_overlaps false true true frames rest h g = h
found_overlaps false true false frames rest h g = g

pub recovered_begin : (i : Image) (e : FileEntry) → AllByRecursion (BeginsAt e.active) (recovered_extents i e)
unfolding frames_at
recovered_begin i e =
    found_begins (e.active == no_active) (is_recovery_point i e.active) e.sparse e.active (frames_at i e.active) (rest_at i e.active)
    (begin_at (length (blocks_from i e.active)) i.geometry.block e.active (blocks_from i e.active))
    (all_if (length (blocks_from i e.active) * i.geometry.block == 0) (BeginsAt e.active) (record { start = e.active; len = length (blocks_from i e.active) * i.geometry.block }) [] (omega arith) tt)

pub recovered_apart : (i : Image) (e : FileEntry) → 0 < i.geometry.block → overlap (recovered_extents i e) ≡ false
unfolding frames_at
recovered_apart i e pos =
    found_overlaps (e.active == no_active) (is_recovery_point i e.active) e.sparse (frames_at i e.active) (rest_at i e.active)
    (frames_apart (length (blocks_from i e.active)) i.geometry.block e.active (blocks_from i e.active) pos)
    (overlap_if (length (blocks_from i e.active) * i.geometry.block == 0) (record { start = e.active; len = length (blocks_from i e.active) * i.geometry.block }) [] refl refl)
