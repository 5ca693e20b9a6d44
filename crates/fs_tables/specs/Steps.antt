-- What steps in memory ask for, and what they keep.
use Rattle.std.specs.Prelude.{◌≡◌, ℕ, ◌+◌, ◌≤◌, false, List, [], ◌∷◌, ◌++◌, map, drop}
use Rattle.zone_image.specs.declared.ZoneInfo.{ZoneInfo}
use Rattle.zone_image.specs.Changes.{change_at}
use Rattle.zone_image.specs.Infos.{no_info}
use Rattle.fs_model.specs.FsState.{FsState, ZoneDescriptor, descriptor_at, on_descriptor}
use Rattle.fs_tables.specs.MountedTables.{MountedTables}

-- as much room is made as before
pub record HasSameRoom (old new : MountedTables) : Type 0 where
  pub names_spare : new.names_spare ≡ old.names_spare
  pub reserved : new.reserved ≡ old.reserved

-- the numbers and seals of all zones
abbrev pub infos_in : FsState → List ZoneInfo
infos_in s = map (λ z. z.info) s.zones

-- the log's zone takes so many blocks
pub record TakesBlocks (s : FsState) (blocks : ℕ) : Type 0 where
  pub unsealed : (descriptor_at s s.log.zone).info.sealed ≡ false
  pub room : (descriptor_at s s.log.zone).info.written + blocks ≤ s.geometry.capacity

-- so many blocks, and one more for the end record
abbrev pub TakesRecord : FsState → ℕ → Type 0
TakesRecord s blocks = TakesBlocks s (blocks + 1)

-- an empty zone, with its owner and its hint
abbrev pub emptied : ZoneDescriptor → ZoneDescriptor
emptied z = record z { info = no_info }

-- zones of which the three of metadata are empty
abbrev pub with_emptied_metadata : List ZoneDescriptor → List ZoneDescriptor
with_emptied_metadata zs = on_descriptor 2 emptied (on_descriptor 1 emptied (on_descriptor 0 emptied zs))

-- the numbers and seals after a roll: the new log has so many blocks, the other two metadata zones are empty, and the data zones are as they were
abbrev pub rolled_infos : List ZoneInfo → ℕ → ℕ → List ZoneInfo
rolled_infos infos zone count =
    change_at zone (λ _. record { written = count; sealed = false }) (no_info ∷ no_info ∷ no_info ∷ []) ++ drop 3 infos
