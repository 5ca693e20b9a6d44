-- Answers of a check, by what is known of the log, of the room and of names.
use Rattle.std.specs.Prelude.{◌≡◌, ℕ, ◌<◌, ◌≤◌, ◌==◌, Bool, true, false, List, Option, Some, None, is_some, option_map, Result, Ok, Err, refl}
use Rattle.std.proofs.Common.{◌∙◌, ap, sym}
use Rattle.std.proofs.lemmas.Bool.{lt-ltb, le-ltb, eqb-true}
use Rattle.fs_model.specs.declared.error.FsError.{FsError}
use Rattle.fs_model.specs.declared.error.FsError.TheVariants.{SequenceEnd, MetaFull}
use Rattle.fs_model.specs.FsState.{FsState, TableRow, row_named}
use Rattle.fs_model.specs.Trace.{Refines}
use Rattle.fs_model.specs.LogSteps.{FsAction, NoValue, at_sequence_end}
use Rattle.fs_model.specs.Check.{check}
use Rattle.change_steps.specs.Endings.{Asks, Demand, lacks_sequence, lacks_room}
use Rattle.change_steps.specs.WriteMount.{mount_need}
use Rattle.change_steps.proofs.CheckLaws.{writing_at_sequence_end, writing_is_full, writing_passes, idle_at_sequence_end, idle_table_is_full, idle_is_full, idle_passes}
use Rattle.extent_map.specs.Lookups.{id_named}
use Rattle.fs_core.specs.Checking.{AnswersDemand, IsRefusedBy, PassesLog}

-- a need above the capacity
pub need_is_refused : (writing : Bool) (s : FsState) (blocks need : ℕ) → PassesLog writing blocks s → s.geometry.capacity < need
    → AnswersDemand (Some need) blocks writing s (Err (MetaFull need s.geometry.capacity))
need_is_refused true s blocks need passes above change d asks same wanted =
    writing_is_full s change d need asks (ap (lacks_sequence s) same ∙ passes) wanted (lt-ltb s.geometry.capacity need above)
need_is_refused false s blocks need passes above change d asks same wanted =
    idle_is_full s change d need asks passes.0 passes.1 wanted (lt-ltb s.geometry.capacity need above)

-- a change that passes both tests
pub room_passes : (writing : Bool) (s : FsState) (blocks : ℕ) (need : Option ℕ) → PassesLog writing blocks s → lacks_room s need ≡ false
    → AnswersDemand need blocks writing s (Ok tt)
room_passes true s blocks need passes room change d asks same wanted =
    writing_passes s change d asks (ap (lacks_sequence s) same ∙ passes) (ap (lacks_room s) wanted ∙ room)
room_passes false s blocks need passes room change d asks same wanted =
    idle_passes s change d asks passes.0 passes.1 (ap (lacks_room s) wanted ∙ room)

-- a need within the capacity
pub need_passes : (writing : Bool) (s : FsState) (blocks need : ℕ) → PassesLog writing blocks s → need ≤ s.geometry.capacity
    → AnswersDemand (Some need) blocks writing s (Ok tt)
need_passes writing s blocks need passes within = room_passes writing s blocks (Some need) passes (le-ltb s.geometry.capacity need within)

-- a refusal for want of what the log takes is one for every headroom
pub log_answers : (need : Option ℕ) (writing : Bool) (s : FsState) (blocks : ℕ) (answer : Result NoValue FsError) → ((change : FsAction NoValue) (d : Demand) → Asks change tt d s → d.blocks ≡ blocks → Refines (check writing change) s answer s)
    → AnswersDemand need blocks writing s answer
log_answers need writing s blocks answer h change d asks same wanted = h change d asks same

-- a record that has to roll at the end of the sequence
pub record_is_refused : (s : FsState) (blocks : ℕ) → lacks_sequence s blocks ≡ true → IsRefusedBy blocks true s SequenceEnd
record_is_refused s blocks lacks change d asks same = writing_at_sequence_end s change d asks (ap (lacks_sequence s) same ∙ lacks)

-- a mount for writing at the end of the sequence
pub mount_is_refused : (s : FsState) → at_sequence_end s ≡ true → (blocks : ℕ) → IsRefusedBy blocks false s SequenceEnd
mount_is_refused s end blocks change d asks same = idle_at_sequence_end s change d asks end

-- a table that has no room
pub table_is_refused : (s : FsState) → at_sequence_end s ≡ false → s.geometry.capacity < mount_need s
    → (blocks : ℕ) → IsRefusedBy blocks false s (MetaFull (mount_need s) s.geometry.capacity)
table_is_refused s left above blocks change d asks same =
    idle_table_is_full s change d asks left (lt-ltb s.geometry.capacity (mount_need s) above)

-- ---- names

-- no file has a name that isn't found
none_at : (o : Option TableRow) → is_some (option_map (λ r. r.entry.id) o) ≡ false → o ≡ None
none_at None h = refl
none_at (Some r) h = cc

pub none_named : (found : Option ℕ) (name : List ℕ) (rows kept : List TableRow) → found ≡ id_named name rows → rows ≡ kept → is_some found ≡ false → row_named name kept ≡ None
none_named found name rows kept is same h = none_at (row_named name kept) (ap (λ rs. is_some (id_named name rs)) (sym same) ∙ (ap is_some (sym is) ∙ h))

-- a file has one that is found
some_at : (o : Option TableRow) → is_some (option_map (λ r. r.entry.id) o) ≡ true → (r : TableRow) × (o ≡ Some r)
some_at None h = cc
some_at (Some r) h = (r, refl)

pub some_named : (found : Option ℕ) (name : List ℕ) (rows kept : List TableRow) → found ≡ id_named name rows → rows ≡ kept → is_some found ≡ true → (r : TableRow) × (row_named name kept ≡ Some r)
some_named found name rows kept is same h = some_at (row_named name kept) (ap (λ rs. is_some (id_named name rs)) (sym same) ∙ (ap is_some (sym is) ∙ h))

-- a test that doesn't hold
not_true : (b : Bool) → (b ≡ true → ⊥) → b ≡ false
not_true true h = absurd (h refl)
not_true false h = refl

-- an id that isn't the last
pub another_id : (id told last : ℕ) → told ≡ id → (told ≡ last → ⊥) → (id == last) ≡ false
another_id id told last same other = not_true (id == last) (λ h. other (same ∙ eqb-true id last h))
