-- A walk over the frames of a zone.
use Rattle.std.proofs.Common.{◌≡◌, ℕ, zero, suc, ◌+◌, ◌*◌, ◌-◌, ◌<◌, ◌≤◌, Bool, true, false, cond, ◌||◌, List, [], ◌∷◌, ◌++◌, length, take, drop, Some, None, nat_lt, refl, sym, ◌∙◌, ap, arith, append-nil, append_assoc, length-drop}
use Rattle.std.specs.Prelude.{◌==◌, IsTrue}
use Rattle.std.specs.Int.{w64, from_le_bytes}
use Rattle.std.specs.List.{concat}
use Rattle.std.proofs.lemmas.List.{nil_from_length, length-map, drop-drop}
use Rattle.std.proofs.lemmas.Grind.{div_ceil_times}
use Rattle.zone_image.specs.declared.Geometry.{Geometry}
use Rattle.zone_image.specs.declared.ZoneInfo.{ZoneInfo}
use Rattle.zone_image.specs.Image.{Image, is_valid, zone_at}
use Rattle.zone_image.specs.Infos.{info_at, info_of, IsPossible, IsImage}
use Rattle.zone_image.proofs.InfoLaws.{info_at_is}
use Rattle.record_model.specs.declared.types.Extent.{Extent}
use Rattle.log_model.specs.Frames.{frame_blocks, frames_within}
use Rattle.mount_replay.specs.declared.frames.Frame.{Frame}
use Rattle.mount_replay.specs.FrameWalk.{frame_of, frame_in, frames_from}

-- some bytes are more than none
positive_from : (n block len : ℕ) → 8 + len ≤ n * block → 0 < n
positive_from zero block len h = omega arith
positive_from (suc n) block len h = omega arith

-- a frame takes a block at least
frame_positive : (block len : ℕ) → 0 < block → 0 < frame_blocks block len
frame_positive block len h = positive_from (frame_blocks block len) block len (div_ceil_times (8 + len) block h).0

-- behind the last block begins no frame
pub no_frame : (block at : ℕ) (blocks : List (List ℕ)) → length blocks ≤ at → frame_in block (drop at blocks) ≡ None
no_frame block at blocks past =
    let none : length (drop at blocks) ≡ 0 = length-drop at blocks ∙ omega arith in
    ap (frame_in block) (nil_from_length (drop at blocks) none)

-- the first block says which frame begins there
pub frame_read : (block left : ℕ) (bytes : List ℕ) (bs : List (List ℕ)) → 0 < length bs → left ≡ length bs → bytes ≡ concat (take 1 bs) → frame_of block left (from_le_bytes w64 (take 8 bytes)) ≡ frame_in block bs
frame_read block left bytes [] some same read = absurd (omega arith)
frame_read block left bytes (b ∷ bs) some same read =
    ap (λ (n : ℕ). frame_of block n (from_le_bytes w64 (take 8 bytes))) same
    ∙ ap (λ (xs : List ℕ). frame_of block (length (b ∷ bs)) (from_le_bytes w64 (take 8 xs))) (read ∙ append-nil b)

none_within : (k block at : ℕ) → frames_within k block at [] ≡ []
none_within zero block at = refl
none_within (suc k) block at = refl

-- more steps change nothing
same_walk : (k m block at : ℕ) (xs : List (List ℕ)) → 0 < block → length xs ≤ k → length xs ≤ m → frames_within k block at xs ≡ frames_within m block at xs
same_walk k m block at [] pos h g = none_within k block at ∙ sym (none_within m block at)
same_walk zero m block at (b ∷ bs) pos h g = absurd (omega arith)
same_walk (suc k) zero block at (b ∷ bs) pos h g = absurd (omega arith)
same_walk (suc k) (suc m) block at (b ∷ bs) pos h g =
    let len : ℕ = from_le_bytes w64 (take 8 b) in
    let n : ℕ = frame_blocks block len in
    let some : 0 < n = frame_positive block len pos in
    let left : length (drop n (b ∷ bs)) ≤ k = omega (arith, length-drop n (b ∷ bs)) in
    let left_too : length (drop n (b ∷ bs)) ≤ m = omega (arith, length-drop n (b ∷ bs)) in
    ap (λ (es : List Extent). cond ((len == 0) || nat_lt (length (b ∷ bs)) n) [] ((record { start = at + 8; len = len }) ∷ es))
    (same_walk k m block (at + n * block) (drop n (b ∷ bs)) pos left left_too)

-- a frame, and those behind it
pub frame_step : (k block at : ℕ) (xs : List (List ℕ)) (f : Frame) → 0 < block → length xs ≤ k → frame_in block xs ≡ Some f
    → frames_within k block at xs ≡ (record { start = at + 8; len = f.len }) ∷ frames_from block (at + f.blocks * block) (drop f.blocks xs)
frame_step k block at [] f pos h found = cc
frame_step zero block at (b ∷ bs) f pos h found = absurd (omega arith)
frame_step (suc k) block at (b ∷ bs) f pos h found =
    go ((from_le_bytes w64 (take 8 b) == 0) || nat_lt (length (b ∷ bs)) (frame_blocks block (from_le_bytes w64 (take 8 b)))) found
  where
    here : Frame
    here = record { len = from_le_bytes w64 (take 8 b); blocks = frame_blocks block (from_le_bytes w64 (take 8 b)) }

    behind : ℕ → List Extent
    behind n = frames_within k block (at + n * block) (drop n (b ∷ bs))

    left : length (drop here.blocks (b ∷ bs)) ≤ k
    left = omega (arith, length-drop here.blocks (b ∷ bs), frame_positive block (from_le_bytes w64 (take 8 b)) pos)

    go : (c : Bool) → cond c None (Some here) ≡ Some f
        → cond c [] ((record { start = at + 8; len = here.len }) ∷ behind here.blocks) ≡ (record { start = at + 8; len = f.len }) ∷ frames_from block (at + f.blocks * block) (drop f.blocks (b ∷ bs))
    go true e = cc
    go false e =
        let same : here ≡ f = cc in
        ap (λ (es : List Extent). (record { start = at + 8; len = here.len }) ∷ es)
        (same_walk k (length (drop here.blocks (b ∷ bs))) block (at + here.blocks * block) (drop here.blocks (b ∷ bs)) pos left (omega arith))
        ∙ ap (λ (g : Frame). (record { start = at + 8; len = g.len }) ∷ frames_from block (at + g.blocks * block) (drop g.blocks (b ∷ bs))) same

-- where none begins there is none
pub frame_end : (k block at : ℕ) (xs : List (List ℕ)) → frame_in block xs ≡ None → frames_within k block at xs ≡ []
frame_end k block at [] none = none_within k block at
frame_end zero block at (b ∷ bs) none = refl
frame_end (suc k) block at (b ∷ bs) none =
    go ((from_le_bytes w64 (take 8 b) == 0) || nat_lt (length (b ∷ bs)) (frame_blocks block (from_le_bytes w64 (take 8 b)))) none
  where
    here : Frame
    here = record { len = from_le_bytes w64 (take 8 b); blocks = frame_blocks block (from_le_bytes w64 (take 8 b)) }

    go : (c : Bool) → cond c None (Some here) ≡ None → cond c [] ((record { start = at + 8; len = here.len }) ∷ frames_within k block (at + here.blocks * block) (drop here.blocks (b ∷ bs))) ≡ []
    go true e = refl
    go false e = cc

-- a zone's written number is the number of its blocks
pub written_is : (g : Geometry) (infos : List ZoneInfo) (i : Image) (zone : ℕ) → IsPossible g infos → IsImage g infos i → zone < g.zones
    → (info_at infos zone).written ≡ length (zone_at i zone).blocks
written_is g infos i zone possible image within =
    let count : length i.zones ≡ g.zones = sym (length-map i.zones info_of) ∙ ap length image.told ∙ possible.count in
    ap (λ all. (info_at all zone).written) (sym image.told) ∙ ap (λ info. info.written) (info_at_is i zone (omega (arith, count, within)))

pub block_positive : (g : Geometry) → IsTrue (is_valid g) → 0 < g.block
block_positive g valid = grind (arith, valid)

-- one frame more was found
pub found_more : (block start at step : ℕ) (blocks : List (List ℕ)) (f : Frame) (items new all : List Extent) → 0 < block → frame_in block (drop at blocks) ≡ Some f
    → new ≡ items ++ (record { start = start + 8; len = f.len }) ∷ [] → step ≡ f.blocks * block → items ++ frames_from block start (drop at blocks) ≡ all
    → new ++ frames_from block (start + step) (drop (at + f.blocks) blocks) ≡ all
found_more block start at step blocks f items new all pos found pushed steps rest =
    let x : Extent = record { start = start + 8; len = f.len } in
    let xs = drop at blocks in
    ap (λ (n : ℕ). new ++ frames_from block (start + n) (drop (at + f.blocks) blocks)) steps
    ∙ ap (λ (bs : List (List ℕ)). new ++ frames_from block (start + f.blocks * block) bs) (sym (drop-drop f.blocks at blocks))
    ∙ ap (λ (es : List Extent). es ++ frames_from block (start + f.blocks * block) (drop f.blocks xs)) pushed
    ∙ append_assoc items (x ∷ []) (frames_from block (start + f.blocks * block) (drop f.blocks xs))
    ∙ ap (λ (es : List Extent). items ++ es) (sym (frame_step (length xs) block start xs f pos (omega arith) found))
    ∙ rest

-- none was found
pub found_all : (block start at : ℕ) (blocks : List (List ℕ)) (items all : List Extent) → frame_in block (drop at blocks) ≡ None → items ++ frames_from block start (drop at blocks) ≡ all → items ≡ all
found_all block start at blocks items all none rest =
    sym (append-nil items)
    ∙ ap (λ (es : List Extent). items ++ es) (sym (frame_end (length (drop at blocks)) block start (drop at blocks) none))
    ∙ rest

-- the addresses that are left
pub addresses_left : (start at n written block end step : ℕ) → at + n ≤ written → step ≡ n * block → start + (written - at) * block ≡ end → (start + step) + (written - (at + n)) * block ≡ end
addresses_left start at n written block end step within steps rest =
    let split : written - at ≡ (written - (at + n)) + n = omega arith in
    omega (arith, ap (λ (k : ℕ). k * block) split, steps, rest)
