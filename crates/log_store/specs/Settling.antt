-- A log that is rolled where a mount begins to write, whatever is pending then.
use Rattle.std.specs.Prelude.{◌≡◌, ◌⊎◌, ℕ, ◌+◌, Bool, false, List, map, Option, Some, None, Ok, ◌==◌}
use Rattle.zone_image.specs.declared.ZoneInfo.{ZoneInfo}
use Rattle.zone_image.specs.Image.{Image, IsCrash}
use Rattle.zone_image.specs.Changes.{finished}
use Rattle.zone_image.specs.Infos.{infos_finished}
use Rattle.zone_image.specs.Moments.{PassedByFinish}
use Rattle.record_model.specs.Decoding.{record_of}
use Rattle.record_model.specs.declared.types.Record.TheVariants.{Snapshot}
use Rattle.log_model.specs.declared.selection.Chosen.{Chosen}
use Rattle.log_model.specs.FileTable.{Table}
use Rattle.log_model.specs.FileTree.{Tree}
use Rattle.log_model.specs.Mounted.{MountsTo, table_in}
use Rattle.log_model.specs.MountLaws.{HaveSameBlocks}
use Rattle.crash_cover.specs.AtRest.{IsAtRest}
use Rattle.log_store.specs.RollRest.{new_log}
use Rattle.log_store.specs.Settled.{without_point}

-- the payload is the snapshot of the table that the image mounts, without recovery points
pub record Settles (i : Image) (snapshot : List ℕ) (es : Table) : Type 0 where
  pub mounted : table_in i ≡ Ok es
  pub reads : record_of snapshot ≡ Ok (Snapshot (map without_point es))

-- where the payload is such a snapshot, an image mounts to the tree to which the other one mounts
abbrev pub MountsAlike : Image → List ℕ → Image → Type 0
MountsAlike i snapshot j = (es : Table) → Settles i snapshot es → (t : Tree) → MountsTo i t → MountsTo j t

-- and it is at rest with the new log and the table of the snapshot
abbrev pub RestsSettled : Chosen → List ℕ → Image → Image → Type 0
RestsSettled old snapshot i j = (es : Table) → Settles i snapshot es → IsAtRest j (new_log j.geometry old snapshot) (old.greatest + 1) (map without_point es)

-- what a crash leaves: of the image that stood, or the tree to which that mounts
abbrev pub LeftBySettling : List ℕ → Image → Image → Type 0
LeftBySettling snapshot i j = IsCrash i j ⊎ MountsAlike i snapshot j

-- the numbers and seals after the finish of a zone, if there is one to be finished
abbrev pub infos_sealed : List ZoneInfo → Option ℕ → List ZoneInfo
infos_sealed infos None = infos
infos_sealed infos (Some zone) = infos_finished infos zone

-- the image after that
abbrev pub sealed_image : Image → Option ℕ → Image
sealed_image i None = i
sealed_image i (Some zone) = finished i zone

-- what that passes
abbrev pub PassedBySeal : Option ℕ → Image → Image → Type 0
PassedBySeal None i j = IsCrash i j
PassedBySeal (Some zone) i j = PassedByFinish i zone j

-- what a crash leaves of a sync and of that: of the image that stood, or all of its blocks
abbrev pub LeftBySeal : Image → Image → Type 0
LeftBySeal i j = IsCrash i j ⊎ HaveSameBlocks i j

-- this is the zone to be finished
abbrev pub is_sealed_by : Option ℕ → ℕ → Bool
is_sealed_by None n = false
is_sealed_by (Some zone) n = n == zone
