-- Frames of sparse files, and the bytes of files.
use Rattle.std.specs.Prelude.{ℕ, zero, suc, ◌+◌, ◌*◌, ◌-◌, ◌/◌, ◌%◌, ◌^◌, Bool, not, ◌&&◌, ◌||◌, List, [], ◌∷◌, length, take, drop, flat_map, nat_lt, nat_le, ◌==◌, if◌then◌else◌}
use Rattle.std.specs.Int.{w64, div_ceil, from_le_bytes}
use Rattle.std.specs.List.{concat}
use Rattle.zone_image.specs.Image.{Image, zone_at, zone_of, offset_of}
use Rattle.record_model.specs.declared.types.Extent.{Extent}
use Rattle.record_model.specs.declared.types.FileEntry.{FileEntry}

-- no recovery point
abbrev pub no_active : ℕ
no_active = 2 ^ 64 - 1

-- the blocks of a frame
abbrev pub frame_blocks : ℕ → ℕ → ℕ
frame_blocks block len = div_ceil (8 + len) block

-- a frame of this length, where it fits so many blocks, and the frames behind it
abbrev pub frame_then : ℕ → ℕ → ℕ → ℕ → (ℕ → List Extent) → List Extent
frame_then block at count len others =
    if (len == 0) || nat_lt count (frame_blocks block len) then []
    else (record { start = at + 8; len = len }) ∷ others (frame_blocks block len)

-- the frames in these blocks, of which the first has this address; each takes a block, so k bounds them
abbrev pub frames_within : ℕ → ℕ → ℕ → List (List ℕ) → List Extent
frames_within zero block at blocks = []
frames_within (suc k) block at [] = []
frames_within (suc k) block at (b ∷ bs) =
    frame_then block at (length (b ∷ bs)) (from_le_bytes w64 (take 8 b)) (λ n. frames_within k block (at + n * block) (drop n (b ∷ bs)))

-- the blocks of a zone from an address on
abbrev pub blocks_from : Image → ℕ → List (List ℕ)
blocks_from i start = drop (offset_of i.geometry start / i.geometry.block) (zone_at i (zone_of i.geometry start)).blocks

-- the frames of an image from an address on
unfoldable pub frames_at : Image → ℕ → List Extent
frames_at i start = frames_within (length (blocks_from i start)) i.geometry.block start (blocks_from i start)

-- an extent of so many bytes, if there are any
abbrev pub extent_if_any : ℕ → ℕ → List Extent
extent_if_any start len = if len == 0 then [] else (record { start = start; len = len }) ∷ []

-- all blocks from an address on, as one extent
abbrev pub rest_at : Image → ℕ → List Extent
rest_at i start = extent_if_any start (length (blocks_from i start) * i.geometry.block)

-- a recovery point is the start of a block of a data zone, from the first to the one behind the last
abbrev pub is_recovery_point : Image → ℕ → Bool
is_recovery_point i start =
    nat_le 3 (zone_of i.geometry start) && nat_lt (zone_of i.geometry start) i.geometry.zones
    && (offset_of i.geometry start % i.geometry.block == 0)
    && nat_le (offset_of i.geometry start) (length (zone_at i (zone_of i.geometry start)).blocks * i.geometry.block)

-- the extents that are found again from a file's recovery point
abbrev pub recovered_extents : Image → FileEntry → List Extent
recovered_extents i e =
    if (e.active == no_active) || not (is_recovery_point i e.active) then []
    else if e.sparse then frames_at i e.active else rest_at i e.active

-- the bytes of an extent
abbrev pub extent_bytes : Image → Extent → List ℕ
extent_bytes i x = take x.len (drop (offset_of i.geometry x.start) (concat (zone_at i (zone_of i.geometry x.start)).blocks))

-- the bytes of extents, joined
abbrev pub bytes_of : Image → List Extent → List ℕ
bytes_of i extents = flat_map (extent_bytes i) extents
