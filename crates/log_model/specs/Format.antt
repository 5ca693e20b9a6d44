-- What making a file system leaves on a device.
pub use Rattle.superblock_core.specs.Text.{is_aux_path}
use Rattle.std.specs.Prelude.{ℕ, ◌+◌, ◌*◌, ◌-◌, ◌/◌, ◌%◌, ◌^◌, Bool, true, false, ◌&&◌, List, [], ◌∷◌, ◌++◌, length, replicate, codes, Option, Some, None, Result, Ok, Err, nat_lt, ◌==◌, if◌then◌else◌}
use Rattle.zone_image.specs.declared.Geometry.{Geometry}
use Rattle.zone_image.specs.Image.{Image, Zone, no_zone, zone_at}
use Rattle.record_model.specs.Encoding.{payload_of}
use Rattle.record_model.specs.declared.types.Record.TheVariants.{Snapshot}
use Rattle.superblock_core.specs.Superblock.{u32_at, magic, superblock_of, superblock_bytes}
use Rattle.superblock_core.specs.declared.superblock.Superblock.{Superblock}
use Rattle.superblock_core.specs.declared.superblock.SbError.{SbError}
use Rattle.log_model.specs.LogScan.{record_blocks, scan}

-- the first payload of a zone, if it has one
abbrev pub first_of : List (ℕ × List ℕ) → Option (List ℕ)
first_of [] = None
first_of (p ∷ ps) = Some p.1

-- the first payload of a zone of an image
abbrev pub first_payload : Image → ℕ → Option (List ℕ)
first_payload i zone = first_of (scan i.geometry.block (zone_at i zone).blocks).payloads

-- a payload with the length and the magic number of a superblock
abbrev pub looks_formatted : Option (List ℕ) → Bool
looks_formatted None = false
looks_formatted (Some payload) = (length payload == 512) && (u32_at 0 payload == magic)

-- the lowest of these zones that begins with a superblock's magic number
abbrev pub first_formatted : Image → List ℕ → Option ℕ
first_formatted i [] = None
first_formatted i (zone ∷ zones) = if looks_formatted (first_payload i zone) then Some zone else first_formatted i zones

-- the lowest metadata zone that does
unfoldable pub begins_in : Image → Option ℕ
begins_in i = first_formatted i (0 ∷ 1 ∷ 2 ∷ [])

-- the sequence of a superblock that can be read
abbrev pub sequence_of : Result Superblock SbError → Option ℕ
sequence_of (Ok s) = Some s.sequence
sequence_of (Err why) = None

-- the sequence of a first payload that is a superblock
abbrev pub sequence_in : Option (List ℕ) → Option ℕ
sequence_in None = None
sequence_in (Some payload) = if length payload == 512 then sequence_of (superblock_of payload) else None

-- the sequence with which a metadata zone begins
abbrev pub sequence_at : Image → ℕ → Option ℕ
sequence_at i zone = sequence_in (first_payload i zone)

-- whether the first sequence is below the second; none is below all
abbrev pub is_below : Option ℕ → Option ℕ → Bool
is_below (Some n) (Some m) = nat_lt n m
is_below None (Some m) = true
is_below _ None = false

-- puts a zone before those of a sequence that isn't below its own
abbrev pub insert_zone : Image → ℕ → List ℕ → List ℕ
insert_zone i zone [] = zone ∷ []
insert_zone i zone (z ∷ zs) =
    if is_below (sequence_at i z) (sequence_at i zone) then z ∷ insert_zone i zone zs else zone ∷ z ∷ zs

-- the order in which formatting resets the metadata zones: first those without a superblock, then by rising sequence
unfoldable pub reset_order : Image → List ℕ
reset_order i = insert_zone i 0 (insert_zone i 1 (insert_zone i 2 []))

-- the blocks of the first zone: the superblock and an empty snapshot
abbrev pub formatted_blocks : Geometry → Superblock → List (List ℕ)
formatted_blocks g s = record_blocks g.block (superblock_bytes s) ++ record_blocks g.block (payload_of (Snapshot []))

-- a zone with these blocks, all of them durable
abbrev pub durable_zone : List (List ℕ) → Zone
durable_zone blocks = record { blocks = blocks; kept = length blocks; sealed = false }

-- the image after formatting: all other zones are empty, and nothing is pending
unfoldable pub formatted_image : Geometry → Superblock → Image
formatted_image g s = record { geometry = g; zones = durable_zone (formatted_blocks g s) ∷ replicate (g.zones - 1) no_zone }

-- the identifier that is made of 128 random bits: version 4, and the variant with the bits 10
abbrev pub identifier_of : ℕ → ℕ
identifier_of random =
    random / 2 ^ 80 * 2 ^ 80 + 4 * 2 ^ 76 + random / 2 ^ 64 % 2 ^ 12 * 2 ^ 64 + 2 * 2 ^ 62 + random % 2 ^ 62

-- the superblock of a new file system
abbrev pub new_superblock : Geometry → ℕ → List ℕ → ℕ → Bool → Superblock
new_superblock g random aux_path finish_threshold collect = record {
  id = identifier_of random;
  sequence = 1;
  flags = if collect then 1 else 0;
  block = g.block;
  zone_blocks = g.zone_blocks;
  zones = g.zones;
  finish_threshold = finish_threshold;
  aux_path = aux_path;
  version_text = codes "profile-2";
}
