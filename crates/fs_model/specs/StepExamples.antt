-- Worked cases of the steps, computed.
use Rattle.std.specs.Prelude.{◌≡◌, ℕ, zero, suc, ◌+◌, true, false, List, [], ◌∷◌, replicate, map, codes, Ok, Err, refl}
use Rattle.fs_model.specs.Opened.{changing}
use Rattle.zone_image.specs.declared.Geometry.{Geometry}
use Rattle.record_model.specs.declared.types.Extent.{Extent}
use Rattle.superblock_core.specs.declared.superblock.Superblock.{Superblock}
use Rattle.fs_model.specs.declared.zones.Owner.TheVariants.{Idle}
use Rattle.fs_model.specs.declared.error.FsError.TheVariants.{MetaFull}
use Rattle.fs_model.specs.FsState.{FsState, ZoneDescriptor, descriptor_at}
use Rattle.fs_model.specs.Trace.{done, ◌>>◌}
use Rattle.fs_model.specs.LogSteps.{NoValue, FsAction}
use Rattle.fs_model.specs.TreeSteps.{create, rename, delete, mount_write}
use Rattle.fs_model.specs.Turn.{LockState, new_lock}

-- a small device
abbrev pub g : Geometry
g = record { block = 512; zone_blocks = 16; capacity = 16; zones = 32; active_limit = 6 }

-- an open zone with so many blocks
abbrev pub zone : ℕ → ZoneDescriptor
zone written = record { info = record { written = written; sealed = false }; owner = Idle; hint = 0 }

-- its superblock
abbrev pub superblock : Geometry → Superblock
superblock shape = record { id = 0; sequence = 1; flags = 0; block = shape.block; zone_blocks = shape.zone_blocks; zones = shape.zones; finish_threshold = 0; aux_path = codes "/aux"; version_text = codes "profile-2" }

-- after mkfs
abbrev pub formatted_on : Geometry → FsState
formatted_on shape = record {
  geometry = shape;
  zones = zone 3 ∷ replicate 31 (zone 0);
  rows = [];
  greatest = 0;
  writers = [];
  log = record { zone = 0; superblock = superblock shape; greatest = 1; can_end = true };
}

-- a new file system on the small device
abbrev pub formatted : FsState
formatted = formatted_on g

-- the blocks of the first zones
abbrev pub written : FsState → List ℕ
written s = map (λ n. (descriptor_at s n).info.written) (0 ∷ 1 ∷ 2 ∷ 3 ∷ 4 ∷ [])

-- the recorded extents of each file
abbrev pub extents : FsState → List (List Extent)
extents s = map (λ r. r.entry.extents) s.rows

-- the names of each file
abbrev pub names : FsState → List (List (List ℕ))
names s = map (λ r. r.entry.names) s.rows

-- a name
abbrev pub a : List ℕ
a = codes "a"

-- another
abbrev pub b : List ℕ
b = codes "b"

-- renames to and fro
abbrev back_and_forth : ℕ → FsAction NoValue
back_and_forth zero = done tt
back_and_forth (suc n) = rename a b >> rename b a >> back_and_forth n

-- a file made by one mount, and then a second mount
abbrev second_mount : FsState
second_mount = ((mount_write >> create a 0 false 7 >> mount_write) formatted).last

-- one mount makes a file, and a second puts the log into zone 2 with sequence 3 and 3 blocks
two_mounts : written second_mount ≡ 0 ∷ 0 ∷ 3 ∷ 0 ∷ 0 ∷ []
unfolding changing
two_mounts = refl

-- twelve records leave one block for the end
twelve_renames : written ((back_and_forth 6) second_mount).last ≡ 0 ∷ 0 ∷ 15 ∷ 0 ∷ 0 ∷ []
unfolding changing
twelve_renames = refl

-- the thirteenth rolls
thirteen_renames : written ((back_and_forth 6 >> rename a b) second_mount).last ≡ 4 ∷ 0 ∷ 0 ∷ 0 ∷ 0 ∷ []
unfolding changing
thirteen_renames = refl

-- with the next sequence
rolled_sequence : ((back_and_forth 6 >> rename a b) second_mount).last.log.superblock.sequence ≡ 4
unfolding changing
rolled_sequence = refl

-- and the name moved
renamed_in_the_end : names ((back_and_forth 6 >> rename a b) second_mount).last ≡ (b ∷ []) ∷ []
unfolding changing
renamed_in_the_end = refl

-- two empty files
abbrev two_made : FsAction ℕ
two_made = mount_write >> create a 0 false 7 >> create b 0 false 7

-- the ids of the files
abbrev ids : FsState → List ℕ
ids s = map (λ r. r.entry.id) s.rows

-- a rename onto another file's name takes it from that file, which is gone then
renamed_over : ids ((two_made >> rename b a) formatted).last ≡ 2 ∷ []
unfolding changing
renamed_over = refl

-- and the other has it
renamed_over_name : names ((two_made >> rename b a) formatted).last ≡ (a ∷ []) ∷ []
unfolding changing
renamed_over_name = refl

-- a rename to the same name changes nothing, though it takes a record
renamed_to_itself : names ((two_made >> rename a a) formatted).last ≡ (a ∷ []) ∷ (b ∷ []) ∷ []
unfolding changing
renamed_to_itself = refl

-- its record
record_of_itself : written ((two_made >> rename a a) formatted).last ≡ 0 ∷ 6 ∷ 0 ∷ 0 ∷ 0 ∷ []
unfolding changing
record_of_itself = refl

-- eight files with names of 200 bytes on a device of eight blocks a zone
abbrev pub c : Geometry
c = record g { capacity = 8 }

-- a name of 200 bytes
abbrev name : ℕ → List ℕ
name n = replicate 200 (96 + n)

-- an empty file of that name
abbrev make : ℕ → FsAction ℕ
make n = create (name n) 0 false 7

-- seven of them
abbrev seven_files : FsAction ℕ
seven_files = mount_write >> make 1 >> make 2 >> make 3 >> make 4 >> make 5 >> make 6 >> make 7

-- an eighth needs nine blocks
eighth_refused : (make 8 (seven_files (formatted_on c)).last).answer ≡ Err (MetaFull 9 8)
unfolding changing
eighth_refused = refl

-- a deletion fits all the same
one_deleted : (delete (name 3) (seven_files (formatted_on c)).last).answer ≡ Ok tt
unfolding changing
one_deleted = refl

-- a lock over it
abbrev pub locked : FsState → LockState
locked s = new_lock s
