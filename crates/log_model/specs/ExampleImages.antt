-- Images for worked cases.
use Rattle.std.specs.Prelude.{ℕ, ◌+◌, ◌-◌, ◌^◌, false, Bool, List, [], ◌∷◌, ◌++◌, length, replicate, codes, take, drop, flat_map, map, Option, Some, None, Result, Ok, Err}
use Rattle.zone_image.specs.declared.Geometry.{Geometry}
use Rattle.zone_image.specs.Image.{Image, Zone}
use Rattle.record_model.specs.Encoding.{payload_of}
use Rattle.record_model.specs.declared.types.Extent.{Extent}
use Rattle.record_model.specs.declared.types.FileEntry.{FileEntry}
use Rattle.record_model.specs.declared.types.Record.TheVariants.{Snapshot}
use Rattle.superblock_core.specs.Superblock.{superblock_bytes}
use Rattle.superblock_core.specs.declared.superblock.Superblock.{Superblock}
use Rattle.log_model.specs.declared.selection.Refusal.{Refusal}
use Rattle.log_model.specs.declared.selection.Refusal.TheVariants.{Damaged}
use Rattle.log_model.specs.LogScan.{record_blocks}
use Rattle.log_model.specs.FileTree.{Tree}
use Rattle.log_model.specs.FileTable.{Table}
use Rattle.log_model.specs.declared.selection.Chosen.{Chosen}
use Rattle.record_model.specs.Numbers.{u32}

-- a small device
abbrev pub g : Geometry
g = record { block = 512; zone_blocks = 16; capacity = 16; zones = 32; active_limit = 6 }

-- its superblock with this sequence
abbrev pub superblock : ℕ → Superblock
superblock sequence = record { id = 0x40008000000000000000; sequence = sequence; flags = 0; block = 512; zone_blocks = 16; zones = 32; finish_threshold = 0; aux_path = codes "/aux"; version_text = codes "profile-2" }

-- the blocks of these payloads
abbrev pub blocks : List (List ℕ) → List (List ℕ)
blocks payloads = flat_map (record_blocks 512) payloads

-- the payload of a superblock with this sequence
abbrev pub first : ℕ → List ℕ
first sequence = superblock_bytes (superblock sequence)

-- an open zone with these blocks, all durable
abbrev pub zone : List (List ℕ) → Zone
zone bs = record { blocks = bs; kept = length bs; sealed = false }

-- an image whose metadata zones have these blocks, as has the first data zone
abbrev pub image_with : List (List ℕ) → List (List ℕ) → List (List ℕ) → List (List ℕ) → Image
image_with a b c d = record { geometry = g; zones = zone a ∷ zone b ∷ zone c ∷ zone d ∷ replicate 28 (zone []) }

-- an image with one log, in its first zone
abbrev pub one_log : List (List ℕ) → Image
one_log payloads = image_with (blocks (first 1 ∷ payloads)) [] [] []

-- an image with one log, and these blocks in its first data zone
abbrev pub one_log_over : List (List ℕ) → List (List ℕ) → Image
one_log_over payloads data_blocks = image_with (blocks (first 1 ∷ payloads)) [] [] data_blocks

-- an empty file with these names
abbrev pub file : ℕ → List (List ℕ) → FileEntry
file id names = record { id = id; size = 0; hint = 0; time = 7; active = 2 ^ 64 - 1; sparse = false; extents = []; names = names }

-- the payload of a snapshot with these files
abbrev pub snapshot : List FileEntry → List ℕ
snapshot files = payload_of (Snapshot files)

-- the names of a tree
abbrev pub names_in : Result Tree Refusal → Result (List (List (List ℕ))) Refusal
names_in (Ok tree) = Ok (map (λ f. f.names) tree)
names_in (Err why) = Err why

-- the zone of a selected log
abbrev pub zone_in : Result Chosen Refusal → Result ℕ Refusal
zone_in (Ok chosen) = Ok chosen.zone
zone_in (Err why) = Err why

-- the highest sequence that was seen
abbrev pub greatest_in : Result Chosen Refusal → Result ℕ Refusal
greatest_in (Ok chosen) = Ok chosen.greatest
greatest_in (Err why) = Err why

-- the zone and the block of damage
abbrev pub damage_at : Result Tree Refusal → Option (ℕ × ℕ)
damage_at (Err (Damaged damage)) = Some (damage.zone, damage.block)
damage_at _ = None

-- whether a selected log may take an end record
abbrev pub can_end_in : Result Chosen Refusal → Result Bool Refusal
can_end_in (Ok chosen) = Ok chosen.can_end
can_end_in (Err why) = Err why

-- the bytes of each file of a tree
abbrev pub bytes_in : Result Tree Refusal → Result (List (List ℕ)) Refusal
bytes_in (Ok tree) = Ok (map (λ f. f.bytes) tree)
bytes_in (Err why) = Err why

-- the extents of each file of a table
abbrev pub extents_in : Result Table Refusal → Result (List (List Extent)) Refusal
extents_in (Ok files) = Ok (map (λ f. f.extents) files)
extents_in (Err why) = Err why

-- these bytes with a number of four bytes in place of those at an offset
abbrev pub with_u32 : ℕ → ℕ → List ℕ → List ℕ
with_u32 offset n bytes = take offset bytes ++ u32 n ++ drop (offset + 4) bytes

-- a file with one name, this size, these extents
abbrev pub file_over : ℕ → List ℕ → ℕ → List Extent → FileEntry
file_over id name size extents = record (file id (name ∷ [])) { size = size; extents = extents }

-- bytes filled up with zeros to a whole block
abbrev pub block_of : List ℕ → List ℕ
block_of bytes = bytes ++ replicate (512 - length bytes) 0
