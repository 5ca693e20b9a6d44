-- Changes of the tree that are asked about before anything is done.
use Rattle.std.specs.Prelude.{◌≡◌, ⊤, ℕ, Bool, true, false, Option, Result, Err, nat_lt}
use Rattle.fs_model.specs.declared.error.FsError.{FsError}
use Rattle.fs_model.specs.declared.error.FsError.TheVariants.{DevFault, NoMemory}
use Rattle.fs_model.specs.FsState.{FsState}
use Rattle.fs_model.specs.Trace.{Refines}
use Rattle.fs_model.specs.LogSteps.{FsAction, NoValue, at_sequence_end}
use Rattle.fs_model.specs.TreeSteps.{link, rename, delete}
use Rattle.fs_model.specs.Check.{check}
use Rattle.change_steps.specs.Checking.{create_only}
use Rattle.change_steps.specs.Endings.{Asks, Demand, lacks_sequence}
use Rattle.change_steps.specs.WriteMount.{mount_need}
use Rattle.fs_core.specs.declared.check.Change.{Change}
use Rattle.fs_core.specs.declared.check.Change.TheVariants as changes

-- the change in the model; of a new file at any time, which no test looks at
abbrev pub action_of : ℕ → Change → FsAction NoValue
action_of now (changes.Create name hint sparse) = create_only name hint sparse now
action_of now (changes.Link old new) = link old new
action_of now (changes.Rename old new) = rename old new
action_of now (changes.Unlink name) = delete name

-- the answer is that of the check for every change that asks for so many blocks of its record and for this headroom
abbrev pub AnswersDemand : Option ℕ → ℕ → Bool → FsState → Result NoValue FsError → Type 0
AnswersDemand need blocks writing s answer = (change : FsAction NoValue) (d : Demand) → Asks change tt d s → d.blocks ≡ blocks → d.need ≡ need
    → Refines (check writing change) s answer s

-- every change that asks for so many blocks of its record is refused so, whatever headroom it asks for
abbrev pub IsRefusedBy : ℕ → Bool → FsState → FsError → Type 0
IsRefusedBy blocks writing s e = (change : FsAction NoValue) (d : Demand) → Asks change tt d s → d.blocks ≡ blocks → Refines (check writing change) s (Err e) s

-- the log takes a record of so many blocks, or on a mount that doesn't write yet, a mount for writing has a sequence and room
abbrev pub PassesLog : Bool → ℕ → FsState → Type 0
PassesLog true blocks s = lacks_sequence s blocks ≡ false
PassesLog false blocks s = (at_sequence_end s ≡ false) × (nat_lt s.geometry.capacity (mount_need s) ≡ false)

-- an error that is neither want of memory nor a fault of the device
abbrev pub IsNoFailure : FsError → Type 0
IsNoFailure NoMemory = ⊥
IsNoFailure DevFault = ⊥
IsNoFailure _ = ⊤
