-- When changes of names may be made, by their tests.
use Rattle.std.specs.Prelude.{◌≡◌, ℕ, ◌-◌, ◌^◌, ◌==◌, Bool, false, List, Some, None, Err, IsTrue}
use Rattle.record_model.specs.Name.{is_name}
use Rattle.record_model.specs.declared.types.Record.{Record}
use Rattle.fs_model.specs.declared.error.FsError.{FsError}
use Rattle.fs_model.specs.FsState.{FsState, TableRow, row_named}
use Rattle.fs_model.specs.LogSteps.{FsAction}
use Rattle.fs_model.specs.Trace.{Refines}
use Rattle.fs_model.specs.TreeSteps.{entry_in, entry_update}
use Rattle.change_records.specs.NameRecords.{rows_renamed}
use Rattle.change_steps.specs.Endings.{Demand}
use Rattle.change_steps.specs.NameChanges.{create_demand, delete_demand, link_demand, rename_demand}
use Rattle.fs_core.specs.Changing.{IsEarly}
use Rattle.fs_core.specs.Granting.{IsGranted}

-- what a change asks for is granted
abbrev pub IsDemandGranted : FsState → Demand → Type 0
IsDemandGranted s d = IsGranted s d.blocks d.need

-- the action is refused so, before anything is written
pub record IsRefusal {A : Type 0} (m : FsAction A) (s : FsState) (why : FsError) : Type 0 where
  pub steps : Refines m s (Err why) s
  pub early : IsEarly why

-- a name of a file may be deleted, by a record of one block
pub record MayDelete (s : FsState) (name : List ℕ) : Type 0 where
  pub row : TableRow
  pub found : row_named name s.rows ≡ Some row
  pub one : (delete_demand s row name).blocks ≡ 1
  pub granted : IsDemandGranted s (delete_demand s row name)

-- a file may get one more name
pub record MayLink (s : FsState) (old new : List ℕ) : Type 0 where
  pub row : TableRow
  pub found : row_named old s.rows ≡ Some row
  pub free : row_named new s.rows ≡ None
  pub named : IsTrue (is_name new)
  pub granted : IsDemandGranted s (link_demand s row new)

-- the update that a rename writes
abbrev pub rename_update : FsState → TableRow → List ℕ → List ℕ → Record
rename_update s r old new = entry_update (entry_in r.entry.id (rows_renamed s.rows r old new) r.entry)

-- a file may be renamed
pub record MayRename (s : FsState) (old new : List ℕ) : Type 0 where
  pub row : TableRow
  pub found : row_named old s.rows ≡ Some row
  pub named : IsTrue (is_name new)
  pub granted : IsDemandGranted s (rename_demand s row old new)

-- a file may be made
pub record MayCreate (s : FsState) (name : List ℕ) (hint : ℕ) (sparse : Bool) (time : ℕ) : Type 0 where
  pub free : row_named name s.rows ≡ None
  pub named : IsTrue (is_name name)
  pub ids : (s.greatest == 2 ^ 64 - 2) ≡ false
  pub granted : IsDemandGranted s (create_demand s name hint sparse time)
