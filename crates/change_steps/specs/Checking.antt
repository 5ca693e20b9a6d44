-- What a check answers of a change, on a mount that writes and on one that doesn't.
use Rattle.std.specs.Prelude.{◌≡◌, ℕ, ◌-◌, ◌^◌, ◌==◌, Bool, true, false, List, Some, None, nat_lt, Ok, Err}
use Rattle.fs_model.specs.declared.error.FsError.{FsError}
use Rattle.fs_model.specs.declared.error.FsError.TheVariants.{Exists, IdsEnd, SequenceEnd, MetaFull}
use Rattle.fs_model.specs.FsState.{FsState, TableRow, row_named}
use Rattle.fs_model.specs.Trace.{Refines, done, ◌>>◌}
use Rattle.fs_model.specs.LogSteps.{FsAction, NoValue, at_sequence_end}
use Rattle.fs_model.specs.TreeSteps.{create}
use Rattle.fs_model.specs.Check.{check}
use Rattle.change_steps.specs.Endings.{Asks, Demand, lacks_sequence, lacks_room}
use Rattle.change_steps.specs.NameChanges.{create_demand}
use Rattle.change_steps.specs.WriteMount.{mount_need}

-- a new file whose id isn't answered
abbrev pub create_only : List ℕ → ℕ → Bool → ℕ → FsAction NoValue
create_only name hint sparse now = create name hint sparse now >> done tt

-- it is refused where a file has its name
abbrev pub CreateOnlyFindsName : Type 0
CreateOnlyFindsName = (s : FsState) (name : List ℕ) (hint : ℕ) (sparse : Bool) (now : ℕ) (r : TableRow) → row_named name s.rows ≡ Some r
    → Refines (create_only name hint sparse now) s (Err Exists) s

-- or where no id is left
abbrev pub CreateOnlyFindsNoId : Type 0
CreateOnlyFindsNoId = (s : FsState) (name : List ℕ) (hint : ℕ) (sparse : Bool) (now : ℕ) → row_named name s.rows ≡ None → (s.greatest == 2 ^ 64 - 2) ≡ true
    → Refines (create_only name hint sparse now) s (Err IdsEnd) s

-- else it asks for what the new file does
abbrev pub CreateOnlyAsks : Type 0
CreateOnlyAsks = (s : FsState) (name : List ℕ) (hint : ℕ) (sparse : Bool) (now : ℕ) → row_named name s.rows ≡ None → (s.greatest == 2 ^ 64 - 2) ≡ false
    → Asks (create_only name hint sparse now) tt (create_demand s name hint sparse now) s

-- a change that is refused for this is so by the check too, whether the mount writes or not
abbrev pub IsCheckedFirst : FsError → Type 0
IsCheckedFirst e = (s : FsState) (writing : Bool) (change : FsAction NoValue) → (change s).answer ≡ Err e → Refines (check writing change) s (Err e) s

-- ---- on a mount that writes

-- a record that has to roll at the end of the sequence
abbrev pub WritingAtSequenceEnd : Type 0
WritingAtSequenceEnd = (s : FsState) (change : FsAction NoValue) (d : Demand) → Asks change tt d s → lacks_sequence s d.blocks ≡ true
    → Refines (check true change) s (Err SequenceEnd) s

-- a change that needs more than the capacity
abbrev pub WritingIsFull : Type 0
WritingIsFull = (s : FsState) (change : FsAction NoValue) (d : Demand) (need : ℕ) → Asks change tt d s → lacks_sequence s d.blocks ≡ false
    → d.need ≡ Some need → nat_lt s.geometry.capacity need ≡ true → Refines (check true change) s (Err (MetaFull need s.geometry.capacity)) s

-- a change that nothing is wanting for
abbrev pub WritingPasses : Type 0
WritingPasses = (s : FsState) (change : FsAction NoValue) (d : Demand) → Asks change tt d s → lacks_sequence s d.blocks ≡ false → lacks_room s d.need ≡ false
    → Refines (check true change) s (Ok tt) s

-- ---- on a mount that doesn't

-- no mount for writing at the end of the sequence
abbrev pub IdleAtSequenceEnd : Type 0
IdleAtSequenceEnd = (s : FsState) (change : FsAction NoValue) (d : Demand) → Asks change tt d s → at_sequence_end s ≡ true
    → Refines (check false change) s (Err SequenceEnd) s

-- nor where a log can't take the table
abbrev pub IdleTableIsFull : Type 0
IdleTableIsFull = (s : FsState) (change : FsAction NoValue) (d : Demand) → Asks change tt d s → at_sequence_end s ≡ false
    → nat_lt s.geometry.capacity (mount_need s) ≡ true → Refines (check false change) s (Err (MetaFull (mount_need s) s.geometry.capacity)) s

-- a change that needs more than the capacity
abbrev pub IdleIsFull : Type 0
IdleIsFull = (s : FsState) (change : FsAction NoValue) (d : Demand) (need : ℕ) → Asks change tt d s → at_sequence_end s ≡ false
    → nat_lt s.geometry.capacity (mount_need s) ≡ false → d.need ≡ Some need → nat_lt s.geometry.capacity need ≡ true
    → Refines (check false change) s (Err (MetaFull need s.geometry.capacity)) s

-- a change that nothing is wanting for
abbrev pub IdlePasses : Type 0
IdlePasses = (s : FsState) (change : FsAction NoValue) (d : Demand) → Asks change tt d s → at_sequence_end s ≡ false
    → nat_lt s.geometry.capacity (mount_need s) ≡ false → lacks_room s d.need ≡ false → Refines (check false change) s (Ok tt) s
