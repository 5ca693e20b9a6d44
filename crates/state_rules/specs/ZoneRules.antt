-- Steps on zones, on the log and on writers keep the rules.
use Rattle.std.specs.Prelude.{◌≡◌, ◌≢◌, ℕ, ◌≤◌, Bool, true, List, Contains}
use Rattle.std.specs.List.{AllByRecursion}
use Rattle.zone_image.specs.declared.Geometry.{Geometry}
use Rattle.zone_image.specs.Image.{zone_of}
use Rattle.fs_model.specs.declared.zones.Owner.{Owner}
use Rattle.fs_model.specs.declared.zones.Owner.TheVariants.{Writer, Collector, Victim}
use Rattle.fs_model.specs.ZonePolicy.{is_idle_owner}
use Rattle.fs_model.specs.FsState.{FsState, TableRow}
use Rattle.fs_model.specs.Trace.{intermediate_states}
use Rattle.fs_model.specs.LogSteps.{FsAction, append_blocks, finish_zone, reset_zone, set_owner, open_zone, roll, add_record, reset_dead_zones}
use Rattle.fs_model.specs.TreeSteps.{free_token}
use Rattle.fs_model.specs.FileSteps.{mark_open, mark_closed, give_back, reset_victim}
use Rattle.fs_model.specs.Untouched.{is_one_of}
use Rattle.state_rules.specs.Rules.{owner_in, KeepsRules}

-- what is true of the first state is true of every state that it passes, and of the last one
abbrev pub StaysTrue : {A : Type 0} → (FsState → Type 0) → FsAction A → Type 0
StaysTrue P m = (s t : FsState) → P s → Contains (intermediate_states (m s)) t → P t

-- blocks that are appended to a zone
abbrev pub AppendKeepsRules : Type 0
AppendKeepsRules = (zone count : ℕ) → StaysTrue KeepsRules (append_blocks zone count)

-- a finish
abbrev pub FinishKeepsRules : Type 0
FinishKeepsRules = (zone : ℕ) → StaysTrue KeepsRules (finish_zone zone)

-- a reset
abbrev pub ResetKeepsRules : Type 0
ResetKeepsRules = (zone : ℕ) → StaysTrue KeepsRules (reset_zone zone)

-- a roll of the log
abbrev pub RollKeepsRules : Type 0
RollKeepsRules = StaysTrue KeepsRules roll

-- a record that is added, after a roll where it must
abbrev pub RecordKeepsRules : Type 0
RecordKeepsRules = (blocks : ℕ) → StaysTrue KeepsRules (add_record blocks)

-- resets of the zones that nothing needs
abbrev pub DeadZonesKeepRules : Type 0
DeadZonesKeepRules = StaysTrue KeepsRules reset_dead_zones

-- a zone that is finished for want of a token
abbrev pub FreeTokenKeepsRules : Type 0
FreeTokenKeepsRules = StaysTrue KeepsRules free_token

-- ---- owners

-- a data zone that nobody holds
pub record IsIdleZone (s : FsState) (zone : ℕ) : Type 0 where
  pub data_zone : 3 ≤ zone
  pub idle : is_idle_owner (owner_in s.zones zone) ≡ true

-- no zone has this owner
abbrev pub HasNoZone : FsState → Owner → Type 0
HasNoZone s owner = (n : ℕ) → owner_in s.zones n ≢ owner

-- nothing that isn't recorded lies in this zone
abbrev pub HasNothingFresh : Geometry → ℕ → List TableRow → Type 0
HasNothingFresh g zone rows = AllByRecursion (λ r. AllByRecursion (λ x. zone_of g x.start ≢ zone) r.unrecorded) rows

-- a zone for a writer that has none
abbrev pub TakeKeepsRules : Type 0
TakeKeepsRules = (s : FsState) (id hint zone : ℕ) → KeepsRules s → IsIdleZone s zone → is_one_of s.writers id ≡ true → HasNoZone s (Writer id)
    → KeepsRules (open_zone (Writer id) hint zone s).last

-- a zone to which the collector copies
abbrev pub DestinationKeepsRules : Type 0
DestinationKeepsRules = (s : FsState) (hint zone : ℕ) → KeepsRules s → IsIdleZone s zone → HasNoZone s Collector
    → KeepsRules (open_zone Collector hint zone s).last

-- a zone that the collector empties
abbrev pub VictimKeepsRules : Type 0
VictimKeepsRules = (s : FsState) (zone : ℕ) → KeepsRules s → IsIdleZone s zone → HasNoZone s Victim
    → KeepsRules (set_owner Victim zone s).last

-- a zone that is given back, finished before where little room is left
abbrev pub GiveBackKeepsRules : Type 0
GiveBackKeepsRules = (s : FsState) (zone : ℕ) (close : Bool) → KeepsRules s → HasNothingFresh s.geometry zone s.rows
    → KeepsRules (give_back zone close s).last

-- a victim that is empty
abbrev pub RetireKeepsRules : Type 0
RetireKeepsRules = (s : FsState) (zone : ℕ) → KeepsRules s → owner_in s.zones zone ≡ Victim → KeepsRules (reset_victim zone s).last

-- ---- writers

-- a writer that is opened
abbrev pub OpenKeepsRules : Type 0
OpenKeepsRules = (id : ℕ) → StaysTrue KeepsRules (mark_open id)

-- one that is closed, without a zone
abbrev pub CloseKeepsRules : Type 0
CloseKeepsRules = (s : FsState) (id : ℕ) → KeepsRules s → HasNoZone s (Writer id) → KeepsRules (mark_closed id s).last
