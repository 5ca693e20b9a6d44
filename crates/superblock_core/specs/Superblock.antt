-- The superblock: 512 bytes.
use Rattle.std.specs.Prelude.{ℕ, Bool, not, ◌&&◌, List, ◌++◌, take, drop, replicate, Option, Some, None, Result, Ok, Err, nat_lt, ◌==◌, if◌then◌else◌, slice_index}
use Rattle.std.specs.Int.{w32, w128, from_le_bytes, from_be_bytes, to_be_bytes}
use Rattle.std.specs.Option.{option_map}
use Rattle.uuid.specs.Text.{parsed_hyphenated, hyphenated_text, lower}
use Rattle.record_model.specs.Numbers.{u32}
use Rattle.superblock_core.specs.Text.{padded, text_in}
use Rattle.superblock_core.specs.declared.superblock.Superblock.{Superblock}
use Rattle.superblock_core.specs.declared.superblock.Differs.{Differs}
use Rattle.superblock_core.specs.declared.superblock.SbError.{SbError}
use Rattle.zone_image.specs.declared.Geometry.{Geometry}
use Rattle.superblock_core.specs.declared.superblock.SbError.TheVariants.{Magic, Version, Flags, Text}

-- the four bytes at an offset, as a number
abbrev pub u32_at : ℕ → List ℕ → ℕ
u32_at offset bytes = from_le_bytes w32 (take 4 (drop offset bytes))

-- the number with which a superblock begins
abbrev pub magic : ℕ
magic = 0x5A454E46

-- the number of a hyphenated UUID of either case, its first byte the highest
abbrev pub uuid_of : List ℕ → Option ℕ
uuid_of text = option_map (from_be_bytes w128) (parsed_hyphenated text)

-- the identifier of a field of 37 bytes
abbrev pub uuid_in : List ℕ → Option ℕ
uuid_in field = if slice_index field 36 == 0 then uuid_of (take 36 field) else None

-- the field of the identifier
abbrev pub id_field : List ℕ → List ℕ
id_field bytes = take 37 (drop 4 bytes)

-- the field of the auxiliary path
abbrev pub path_field : List ℕ → List ℕ
path_field bytes = take 256 (drop 69 bytes)

-- the field of the version's text
abbrev pub text_field : List ℕ → List ℕ
text_field bytes = take 64 (drop 325 bytes)

-- goes on with what a field of text says, if it keeps its rule
abbrev pub with_text : {A : Type 0} → ℕ → Option A → (A → Result Superblock SbError) → Result Superblock SbError
with_text offset None next = Err (Text offset)
with_text offset (Some x) next = next x

-- the superblock with these three, and with the numbers of the bytes
abbrev pub with_numbers : List ℕ → ℕ → List ℕ → List ℕ → Superblock
with_numbers bytes id path version = record {
  id = id;
  sequence = u32_at 41 bytes;
  flags = u32_at 49 bytes;
  block = u32_at 53 bytes;
  zone_blocks = u32_at 57 bytes;
  zones = u32_at 61 bytes;
  finish_threshold = u32_at 65 bytes;
  aux_path = path;
  version_text = version;
}

-- the superblock of 512 bytes, or the first fault
unfoldable pub superblock_of : List ℕ → Result Superblock SbError
superblock_of bytes =
    if not (u32_at 0 bytes == magic) then Err Magic
    else if not (u32_at 45 bytes == 2) then Err (Version (u32_at 45 bytes))
    else if nat_lt 1 (u32_at 49 bytes) then Err (Flags (u32_at 49 bytes))
    else with_text 4 (uuid_in (id_field bytes)) (λ id.
    with_text 69 (text_in (path_field bytes)) (λ path.
    with_text 325 (text_in (text_field bytes)) (λ version. Ok (with_numbers bytes id path version))))

-- an identifier as it is written, in lower case with hyphens
unfoldable pub uuid_text : ℕ → List ℕ
uuid_text id = hyphenated_text lower (to_be_bytes w128 id)

-- the bytes that are written for a superblock
unfoldable pub superblock_bytes : Superblock → List ℕ
superblock_bytes s =
    u32 magic ++ padded 37 (uuid_text s.id) ++ u32 s.sequence ++ u32 2 ++ u32 s.flags
    ++ u32 s.block ++ u32 s.zone_blocks ++ u32 s.zones ++ u32 s.finish_threshold
    ++ padded 256 s.aux_path ++ padded 64 s.version_text ++ replicate 123 0

-- a superblock has the numbers of this shape of a device
abbrev pub fits : Superblock → Geometry → Bool
fits s g = (s.block == g.block) && (s.zone_blocks == g.zone_blocks) && (s.zones == g.zones)

-- a superblock's own numbers
abbrev pub own_numbers : Superblock → Differs
own_numbers s = record { block = s.block; zone_blocks = s.zone_blocks; zones = s.zones }
