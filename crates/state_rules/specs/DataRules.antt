-- Steps on the data of a file keep the rules.
use Rattle.std.specs.Prelude.{◌≡◌, ℕ, ◌^◌, ◌<◌, true, false, List, [], map, Some}
use Rattle.std.specs.List.{AllByRecursion}
use Rattle.zone_image.specs.Image.{zone_of}
use Rattle.log_model.specs.Mounted.{all_extents, overlap}
use Rattle.fs_model.specs.declared.zones.Move.{Move}
use Rattle.fs_model.specs.declared.zones.Owner.TheVariants.{Collector}
use Rattle.fs_model.specs.FsState.{FsState, TableRow, working_of, row_of, on_row}
use Rattle.fs_model.specs.LogSteps.{set_row, set_rows}
use Rattle.fs_model.specs.TreeSteps.{cleared}
use Rattle.fs_model.specs.FileSteps.{committed, with_recovery_point, show, moved}
use Rattle.state_rules.specs.Rules.{finds_again, LiesInZone, owner_in, KeepsRules}

-- a commit
abbrev pub CommitKeepsRules : Type 0
CommitKeepsRules = (s : FsState) (r : TableRow) (now : ℕ) → KeepsRules s → row_of r.entry.id s.rows ≡ Some r → now < 2 ^ 64
    → KeepsRules (set_row r.entry.id (committed now) s).last

-- a recovery point of a file of which all is recorded
abbrev pub PointKeepsRules : Type 0
PointKeepsRules = (s : FsState) (r : TableRow) (start : ℕ) → KeepsRules s → row_of r.entry.id s.rows ≡ Some r → start < 2 ^ 64 → r.unrecorded ≡ []
    → KeepsRules (set_row r.entry.id (with_recovery_point start) s).last

-- what a sync made durable of a sparse file with a recovery point
abbrev pub ShowKeepsRules : Type 0
ShowKeepsRules = (s : FsState) (r : TableRow) (now : ℕ) → KeepsRules s → row_of r.entry.id s.rows ≡ Some r → now < 2 ^ 64 → finds_again r ≡ true
    → KeepsRules (show r.entry.id now s).last

-- recovery points that a mount for writing clears, where all is recorded
abbrev pub ClearKeepsRules : Type 0
ClearKeepsRules = (s : FsState) → KeepsRules s → AllByRecursion (λ r. r.unrecorded ≡ []) s.rows → KeepsRules (set_rows (map cleared) s).last

-- places to which the collector may move extents of a file: in its own zone, where nothing lies
pub record MayMove (s : FsState) (r : TableRow) (moves : List Move) : Type 0 where
  pub places : AllByRecursion (λ m. m.to < 2 ^ 64) moves
  pub own : AllByRecursion (λ m. owner_in s.zones (zone_of s.geometry m.to) ≡ Collector) moves
  pub lie : AllByRecursion (LiesInZone s.geometry) (all_extents (working_of (on_row r.entry.id (moved moves) s.rows)))
  pub apart : overlap (all_extents (working_of (on_row r.entry.id (moved moves) s.rows))) ≡ false

-- extents that are moved
abbrev pub MoveKeepsRules : Type 0
MoveKeepsRules = (s : FsState) (r : TableRow) (moves : List Move) → KeepsRules s → row_of r.entry.id s.rows ≡ Some r → MayMove s r moves
    → KeepsRules (set_row r.entry.id (moved moves) s).last
