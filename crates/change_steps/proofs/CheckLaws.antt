-- The answers of a check.
use Rattle.std.specs.Prelude.{◌≡◌, ℕ, ◌+◌, Bool, true, false, ◌&&◌, Option, Some, None, nat_lt, Ok, Err, refl}
use Rattle.std.proofs.Common.{◌∙◌, ap}
use Rattle.fs_model.specs.declared.error.FsError.TheVariants.{NotFound, Exists, IdsEnd, SequenceEnd, MetaFull}
use Rattle.fs_model.specs.FsState.{FsState}
use Rattle.fs_model.specs.Trace.{Refines, ◌>>◌, done}
use Rattle.fs_model.specs.LogSteps.{FsAction, NoValue, must_roll, at_sequence_end}
use Rattle.fs_model.specs.TreeSteps.{create, mount_write}
use Rattle.fs_model.specs.Check.{check, refusal_only, refusal_of_names, name_refusal_only}
use Rattle.fs_model.proofs.TraceLaws.{refines_then, refines_stops}
use Rattle.change_steps.specs.Endings.{Asks, Demand, lacks_sequence, lacks_room}
use Rattle.change_steps.specs.NameChanges.{create_demand}
use Rattle.change_steps.specs.WriteMount.{mount_need}
use Rattle.change_steps.specs.Checking.{CreateOnlyFindsName, CreateOnlyFindsNoId, CreateOnlyAsks, IsCheckedFirst, WritingAtSequenceEnd, WritingIsFull, WritingPasses, IdleAtSequenceEnd, IdleTableIsFull, IdleIsFull, IdlePasses}
use Rattle.change_steps.proofs.Traces.{ok_then}
use Rattle.change_steps.proofs.NameLaws.{asks_with, create_finds_name, create_finds_no_id, create_asks}
use Rattle.change_steps.proofs.MountLaws.{mount_at_sequence_end, mount_is_full, mount_ends}

-- ---- a new file whose id isn't answered

-- it is refused where a file has its name
pub create_only_finds_name : CreateOnlyFindsName
create_only_finds_name s name hint sparse now r h =
    refines_stops (create name hint sparse now) (λ _. done tt) s s Exists (create_finds_name s name hint sparse now r h)

-- or where no id is left
pub create_only_finds_no_id : CreateOnlyFindsNoId
create_only_finds_no_id s name hint sparse now free h =
    refines_stops (create name hint sparse now) (λ _. done tt) s s IdsEnd (create_finds_no_id s name hint sparse now free h)

-- else it asks for what the new file does
pub create_only_asks : CreateOnlyAsks
create_only_asks s name hint sparse now free left =
    asks_with (create name hint sparse now) (s.greatest + 1) tt (create_demand s name hint sparse now) s (create_asks s name hint sparse now free left)

-- ---- names

-- a name that no file has
pub missing_is_checked : IsCheckedFirst NotFound
unfolding check
missing_is_checked s true change h = (h, refl)
missing_is_checked s false change h =
    refines_stops (name_refusal_only change >> refusal_only mount_write) (λ _. refusal_only change) s s NotFound
    (refines_stops (name_refusal_only change) (λ _. refusal_only mount_write) s s NotFound (ap refusal_of_names h, refl))

-- a name that a file has
pub name_is_checked : IsCheckedFirst Exists
unfolding check
name_is_checked s true change h = (h, refl)
name_is_checked s false change h =
    refines_stops (name_refusal_only change >> refusal_only mount_write) (λ _. refusal_only change) s s Exists
    (refines_stops (name_refusal_only change) (λ _. refusal_only mount_write) s s Exists (ap refusal_of_names h, refl))

-- an id that is not left
pub id_is_checked : IsCheckedFirst IdsEnd
unfolding check
id_is_checked s true change h = (h, refl)
id_is_checked s false change h =
    refines_stops (name_refusal_only change >> refusal_only mount_write) (λ _. refusal_only change) s s IdsEnd
    (refines_stops (name_refusal_only change) (λ _. refusal_only mount_write) s s IdsEnd (ap refusal_of_names h, refl))

-- ---- on a mount that writes

-- the sequence is at its end
pub writing_at_sequence_end : WritingAtSequenceEnd
unfolding check
writing_at_sequence_end s change d asks lacks = ((asks.sequence_end lacks).0, refl)

-- the room is wanting
pub writing_is_full : WritingIsFull
unfolding check
writing_is_full s change d need asks left wanted full = ((asks.full need wanted left full).0, refl)

-- nothing is wanting
pub writing_passes : WritingPasses
unfolding check
writing_passes s change d asks left room = ((asks.granted left room).answers, refl)

-- ---- on a mount that doesn't

-- a change whose need is known isn't refused for its names
names_with_room : (s : FsState) (change : FsAction NoValue) (d : Demand) (need : Option ℕ) (b : Bool) → Asks change tt d s → lacks_sequence s d.blocks ≡ false
    → d.need ≡ need → lacks_room s need ≡ b → refusal_of_names (change s).answer ≡ Ok tt
names_with_room s change d need false asks left is room = ap refusal_of_names (asks.granted left (ap (λ n. lacks_room s n) is ∙ room)).answers
names_with_room s change d None true asks left is room = absurd cc
names_with_room s change d (Some need) true asks left is room = ap refusal_of_names (asks.full need is left room).0

-- a change that asks for something isn't refused for its names
names_pass : (s : FsState) (change : FsAction NoValue) (d : Demand) (b : Bool) → Asks change tt d s → lacks_sequence s d.blocks ≡ b → refusal_of_names (change s).answer ≡ Ok tt
names_pass s change d true asks is = ap refusal_of_names (asks.sequence_end is).0
names_pass s change d false asks is = names_with_room s change d d.need (lacks_room s d.need) asks is refl refl

-- the test of names is passed
names_passed : (s : FsState) (change : FsAction NoValue) (d : Demand) → Asks change tt d s → Refines (name_refusal_only change) s (Ok tt) s
names_passed s change d asks = (names_pass s change d (lacks_sequence s d.blocks) asks refl, refl)

-- where the sequence isn't at its end it isn't wanting
never_lacks : (roll end : Bool) → end ≡ false → (roll && end) ≡ false
never_lacks true end h = h
never_lacks false end h = refl

-- names and the mount for writing are passed
mount_passed : (s : FsState) (change : FsAction NoValue) (d : Demand) → Asks change tt d s → at_sequence_end s ≡ false → nat_lt s.geometry.capacity (mount_need s) ≡ false
    → Refines (name_refusal_only change >> refusal_only mount_write) s (Ok tt) s
mount_passed s change d asks left room =
    ok_then (name_refusal_only change) (refusal_only mount_write) s s s tt (names_passed s change d asks) ((mount_ends s left room).answers, refl)

-- the sequence is at its end
pub idle_at_sequence_end : IdleAtSequenceEnd
unfolding check
idle_at_sequence_end s change d asks h =
    refines_stops (name_refusal_only change >> refusal_only mount_write) (λ _. refusal_only change) s s SequenceEnd
    (refines_then (name_refusal_only change) (λ _. refusal_only mount_write) s s s tt (Err SequenceEnd) (names_passed s change d asks)
    ((mount_at_sequence_end s h).0, refl) (λ is. cc))

-- a log can't take the table
pub idle_table_is_full : IdleTableIsFull
unfolding check
idle_table_is_full s change d asks left full =
    refines_stops (name_refusal_only change >> refusal_only mount_write) (λ _. refusal_only change) s s (MetaFull (mount_need s) s.geometry.capacity)
    (refines_then (name_refusal_only change) (λ _. refusal_only mount_write) s s s tt (Err (MetaFull (mount_need s) s.geometry.capacity)) (names_passed s change d asks)
    ((mount_is_full s left full).0, refl) (λ is. cc))

-- the room for the change is wanting
pub idle_is_full : IdleIsFull
unfolding check
idle_is_full s change d need asks left room wanted full =
    refines_then (name_refusal_only change >> refusal_only mount_write) (λ _. refusal_only change) s s s tt (Err (MetaFull need s.geometry.capacity))
    (mount_passed s change d asks left room)
    ((asks.full need wanted (never_lacks (must_roll s d.blocks) (at_sequence_end s) left) full).0, refl) (λ is. cc)

-- nothing is wanting
pub idle_passes : IdlePasses
unfolding check
idle_passes s change d asks left room fits =
    ok_then (name_refusal_only change >> refusal_only mount_write) (refusal_only change) s s s tt (mount_passed s change d asks left room)
    ((asks.granted (never_lacks (must_roll s d.blocks) (at_sequence_end s) left) fits).answers, refl)
