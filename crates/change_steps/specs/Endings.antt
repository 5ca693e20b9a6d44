-- How a change that is recorded may end.
use Rattle.std.specs.Prelude.{◌≡◌, ℕ, Bool, true, false, ◌&&◌, nat_lt, List, [], Option, Some, None, Ok, Err}
use Rattle.record_model.specs.declared.types.Record.{Record}
use Rattle.log_model.specs.Headroom.{blocks_of_record}
use Rattle.fs_model.specs.declared.error.FsError.TheVariants.{SequenceEnd, MetaFull, NoMemory, DevFault}
use Rattle.fs_model.specs.FsState.{FsState, TableRow}
use Rattle.fs_model.specs.Trace.{Refines}
use Rattle.fs_model.specs.LogSteps.{FsAction, must_roll, at_sequence_end, resettable_zones, block_of, rows_need}
use Rattle.fs_model.specs.TreeSteps.{change_rows, delete_by, drop_name}
use Rattle.change_steps.specs.Resetting.{IsResetting}
use Rattle.change_steps.specs.Recording.{after_record}

-- a call that isn't refused: nothing is done yet, or what it stores is, and dead zones are being reset
pub record Ends {A : Type 0} (m : FsAction A) (answer : A) (s stored : FsState) : Type 0 where
  pub answers : (m s).answer ≡ Ok answer
  pub memory_wanting : Refines m s (Err NoMemory) s
  pub fault_before : Refines m s (Err DevFault) s
  pub fault_behind : (t : FsState) → IsResetting stored t → Refines m s (Err DevFault) t
  pub complete : (t : FsState) → IsResetting stored t → resettable_zones t ≡ [] → Refines m s (Ok answer) t

-- a record of so many blocks has to roll, and no sequence is left
abbrev pub lacks_sequence : FsState → ℕ → Bool
lacks_sequence s blocks = must_roll s blocks && at_sequence_end s

-- so many blocks, where a number is given, are above the capacity
abbrev pub lacks_room : FsState → Option ℕ → Bool
lacks_room s None = false
lacks_room s (Some need) = nat_lt s.geometry.capacity need

-- the state with a record of so many blocks and with these rows
abbrev pub stored_state : FsState → ℕ → List TableRow → ℕ → FsState
stored_state s blocks after greatest = record (after_record blocks s) { rows = after; greatest = greatest }

-- what a change asks for behind its tests of names: blocks of its record, and headroom, where it needs any; it makes these rows
pub record Demand : Type 0 where
  pub blocks : ℕ
  pub need : Option ℕ
  pub after : List TableRow
  pub greatest : ℕ

-- the state in which a change is stored
abbrev pub stored_by : Demand → FsState → FsState
stored_by d s = stored_state s d.blocks d.after d.greatest

-- a change that asks for this is refused for want of a sequence or of room, in that order, and for nothing else
pub record Asks {A : Type 0} (m : FsAction A) (answer : A) (d : Demand) (s : FsState) : Type 0 where
  pub sequence_end : lacks_sequence s d.blocks ≡ true → Refines m s (Err SequenceEnd) s
  pub full : (need : ℕ) → d.need ≡ Some need → lacks_sequence s d.blocks ≡ false → nat_lt s.geometry.capacity need ≡ true
      → Refines m s (Err (MetaFull need s.geometry.capacity)) s
  pub granted : lacks_sequence s d.blocks ≡ false → lacks_room s d.need ≡ false → Ends m answer s (stored_by d s)

-- what a change to these rows asks for, by its record
abbrev pub demand_of : FsState → Record → List TableRow → ℕ → Demand
demand_of s r after greatest = record {
  blocks = blocks_of_record (block_of s) r;
  need = Some (rows_need s after (blocks_of_record (block_of s) r));
  after = after;
  greatest = greatest;
}

-- a change to these rows
abbrev pub RowsAsk : Type 0
RowsAsk = (s : FsState) (r : Record) (after : List TableRow) (greatest : ℕ) → Asks (change_rows s r after greatest) tt (demand_of s r after greatest) s

-- what a deletion asks for: it always has room
abbrev pub demand_of_delete : FsState → ℕ → List ℕ → Demand
demand_of_delete s blocks name = record { blocks = blocks; need = None; after = drop_name name s.rows; greatest = s.greatest }

-- a deletion whose record has so many blocks
abbrev pub DeletionAsks : Type 0
DeletionAsks = (s : FsState) (blocks : ℕ) (name : List ℕ) → Asks (delete_by blocks name) tt (demand_of_delete s blocks name) s
