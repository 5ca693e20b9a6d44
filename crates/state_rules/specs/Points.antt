-- What the rules of recovery points give to an append, and that an append and a finish keep them.
use Rattle.std.specs.Prelude.{◌≡◌, ◌≢◌, ℕ, Some}
use Rattle.std.specs.List.{AllByRecursion}
use Rattle.zone_image.specs.Image.{Image, zone_of}
use Rattle.log_model.specs.FileTable.{Table}
use Rattle.log_model.specs.Frames.{no_active}
use Rattle.fs_model.specs.declared.zones.Owner.TheVariants.{Writer, Collector}
use Rattle.fs_model.specs.FsState.{FsState, TableRow, recorded, row_of}
use Rattle.fs_model.specs.LogSteps.{append_blocks, finish_zone}
use Rattle.least_crash.specs.DataSteps.{HasNoPoint, HasOnePoint}
use Rattle.state_rules.specs.Rules.{owner_in, KeepsRules}
use Rattle.state_rules.specs.Unbroken.{PointRules}

-- the zone of a file without a recovery point has none
abbrev pub WriterGivesNoPoint : Type 0
WriterGivesNoPoint = (i : Image) (s : FsState) (zone id : ℕ) → i.geometry ≡ s.geometry → PointRules s.geometry s.zones (recorded s)
    → owner_in s.zones zone ≡ Writer id → AllByRecursion (λ e. e.id ≡ id → e.active ≡ no_active) (recorded s) → HasNoPoint i zone (recorded s)

-- nor has the zone to which the collector copies
abbrev pub CollectorGivesNoPoint : Type 0
CollectorGivesNoPoint = (i : Image) (s : FsState) (zone : ℕ) → i.geometry ≡ s.geometry → PointRules s.geometry s.zones (recorded s)
    → owner_in s.zones zone ≡ Collector → HasNoPoint i zone (recorded s)

-- the zone of a file with a recovery point has that one alone
abbrev pub PointIsAlone : Type 0
PointIsAlone = (s : FsState) (r : TableRow) → KeepsRules s → PointRules s.geometry s.zones (recorded s) → row_of r.entry.id s.rows ≡ Some r
    → r.entry.active ≢ no_active → HasOnePoint s.geometry (zone_of s.geometry r.entry.active) r.entry.id r.entry.active (recorded s)

-- blocks that are appended to a zone
abbrev pub AppendKeepsPoints : Type 0
AppendKeepsPoints = (s : FsState) (es : Table) (zone count : ℕ) → PointRules s.geometry s.zones es → PointRules s.geometry (append_blocks zone count s).last.zones es

-- a finish
abbrev pub FinishKeepsPoints : Type 0
FinishKeepsPoints = (s : FsState) (es : Table) (zone : ℕ) → PointRules s.geometry s.zones es → PointRules s.geometry (finish_zone zone s).last.zones es
