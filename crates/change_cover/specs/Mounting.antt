-- Mounting for writing: the table that is mounted, without recovery points, goes into a new log.
use Rattle.std.specs.Prelude.{◌≡◌, ℕ, List, map, Ok}
use Rattle.zone_image.specs.Image.{Image}
use Rattle.zone_image.specs.Infos.{IsValidImage}
use Rattle.log_model.specs.LogSelection.{LogAt, selected_log}
use Rattle.log_model.specs.Mounted.{MountsTo, table_in}
use Rattle.fs_model.specs.FsState.{FsState, TableRow, recorded, state_in}
use Rattle.fs_model.specs.CrashClauses.{shown_tree}
use Rattle.fs_model.specs.LogSteps.{next_log}
use Rattle.fs_model.specs.TreeSteps.{cleared}
use Rattle.crash_cover.specs.AtRest.{IsAtRest}
use Rattle.log_store.specs.Settled.{without_point}
use Rattle.change_records.specs.Recorded.{entries}
use Rattle.change_cover.specs.Rests.{AreShown, Becomes, HaveNoPoints, Stands}
use Rattle.change_cover.specs.SameTrees.{MountsTheSame}

-- the state has the table and the log of the image, and shows all of it
pub record ShowsImage (i : Image) (s : FsState) : Type 0 where
  pub table : table_in i ≡ Ok (recorded s)
  pub log : selected_log i ≡ Ok s.log
  pub shown : AreShown s.rows
  pub mounts : MountsTo i (shown_tree i s)

-- the state of an image that mounts is so
abbrev pub MountedShowsImage : Type 0
MountedShowsImage = (i : Image) (s : FsState) → IsValidImage i → state_in i ≡ Ok s → ShowsImage i s

-- what rows record whose recovery points are cleared
pub record ClearsRows (rows : List TableRow) : Type 0 where
  pub records : entries (map cleared rows) ≡ map without_point (entries rows)
  pub points : HaveNoPoints (entries (map cleared rows))
  pub shown : AreShown rows → AreShown (map cleared rows)

-- a mount for writing clears all of them
abbrev pub MountClearsRows : Type 0
MountClearsRows = (rows : List TableRow) → ClearsRows rows

-- once the new log counts, the state with the cleared rows stands
abbrev pub SettledStands : Type 0
SettledStands = (j : Image) (s next : FsState) (log : LogAt) (greatest : ℕ) → AreShown s.rows → Becomes (next_log s) (map cleared s.rows) next
    → IsAtRest j log greatest (map without_point (recorded s)) → selected_log j ≡ Ok (next_log s) → Stands j next

-- it shows the tree that was mounted
abbrev pub SettledShowsTheSame : Type 0
SettledShowsTheSame = (i j : Image) (s next : FsState) → MountsTo i (shown_tree i s) → MountsTheSame i j → Stands j next → shown_tree j next ≡ shown_tree i s
