-- Reasons of refusals, from step to step.
use Rattle.std.proofs.Common.{◌≡◌, ℕ, ◌≤◌, true, false, refl, ap, sym, ◌∙◌, subst, arith}
use Rattle.std.specs.Prelude.{Some, None, Ok, Err, IsOk, if◌then◌else◌}
use Rattle.zone_image.specs.Counts.{Rose}
use Rattle.zone_image.specs.Image.{Image}
use Rattle.fs_model.specs.declared.error.FsError.{FsError}
use Rattle.fs_model.specs.declared.error.FsError.TheVariants as error
use Rattle.fs_model.specs.Check.{checked_change}
use Rattle.fs_model.specs.Trace.{done}
use Rattle.fs_model.specs.FsState.{FsState, state_in}
use Rattle.command_model.specs.CommandLine.{Command, bad_name_of}
use Rattle.command_model.specs.CommandLine.Command.{MakeImage, MakeFs}
use Rattle.command_model.specs.Options.{Word}
use Rattle.fs_report.specs.declared.cause.Cause.{Cause}
use Rattle.fs_report.specs.declared.cause.Cause.TheVariants.{Words, DeviceFault, OutputFault, NoMemory, NotAnImage, ImageExists, BadGeometry, FsExists, NoMount, BadName, NotFound, NameExists, IdsEnd, SequenceEnd, MetaFull, NoSpace}
use Rattle.fs_core.specs.declared.check.Change.{Change}
use Rattle.zenfs_cmd.specs.declared.words.Asked.{Asked}
use Rattle.zenfs_cmd.specs.declared.words.Asked.TheVariants as asked
use Rattle.zenfs_cmd.specs.Names.{command_named}
use Rattle.zenfs_cmd.specs.Words.{command_asked}
use Rattle.zenfs_cmd.specs.Plans.{Answers, action_of, changes_names, mounts, planned}
use Rattle.zenfs_cmd.specs.Reasons.{CanBeDone, HasReason, IsAnswered, IsAnsweredFrom, IsCauseOf, IsFailureOf, IsNameRefused, IsNotMounted, IsRefusedBy, LacksImage}

-- a command that mounts lacks an image where none is there
no_image : (tells absent : Type 0) (c : Command) → mounts c ≡ true → (tells → absent) → LacksImage tells absent c
no_image tells absent (MakeImage at g over) is h = absurd cc
no_image tells absent c is h = h

-- why an image isn't mounted is why a command is refused that mounts it
pub not_mounted : (c : Command) (device : Type 0) (output : Command → Type 0) (tells absent : Type 0) (i : Image) (r : Cause) → mounts c ≡ true
    → IsNotMounted device tells absent i r → HasReason (Some c) device output tells absent i r
not_mounted c device output tells absent i DeviceFault is h = h
not_mounted c device output tells absent i NoMemory is h = tt
not_mounted c device output tells absent i NotAnImage is h = no_image tells absent c is h
not_mounted c device output tells absent i (NoMount refusal) is h = (is, h)
not_mounted c device output tells absent i _ is h = absurd h

-- the state of an image that mounts
pub is_mounted : (i : Image) (s : FsState) → state_in i ≡ Ok s → IsOk (state_in i)
is_mounted i s h = subst IsOk (sym h) refl

-- the refusal of a name has its reason
pub name_refused : (c : Command) (device : Type 0) (output : Command → Type 0) (tells absent : Type 0) (i : Image) (r : Cause)
    → (tells → absent → ⊥) → (tells → IsOk (state_in i)) → IsNameRefused (bad_name_of c) r → HasReason (Some c) device output tells absent i r
name_refused c device output tells absent i (BadName name) there mounted h = (h, λ told. (there told, mounted told))
name_refused c device output tells absent i NoMemory there mounted h = tt
name_refused c device output tells absent i _ there mounted h = absurd h

-- the answer to the state that is mounted is that to the image
answered : (c : Command) (tells absent : Type 0) (i : Image) (s : FsState) (e : FsError) → (tells → absent → ⊥) → (tells → state_in i ≡ Ok s)
    → IsAnsweredFrom c s e → IsAnswered tells absent i e c
answered c tells absent i s e there mounted h =
    (h.0, λ told. (there told, record { state = s; mounted = mounted told; answered = h.1 }))

-- the refusal of a mounted file system has its reason
pub refused_by : (c : Command) (device fault : Type 0) (output : Command → Type 0) (tells absent : Type 0) (i : Image) (s : FsState) (r : Cause)
    → (tells → absent → ⊥) → (tells → state_in i ≡ Ok s) → (fault → device) → IsRefusedBy c fault s r → HasReason (Some c) device output tells absent i r
refused_by c device fault output tells absent i s DeviceFault there mounted faults h = faults h
refused_by c device fault output tells absent i s NoMemory there mounted faults h = tt
refused_by c device fault output tells absent i s (BadName name) there mounted faults h = (h, λ told. (there told, is_mounted i s (mounted told)))
refused_by c device fault output tells absent i s (NotFound name) there mounted faults h = (h.0, answered c tells absent i s _ there mounted h.1)
refused_by c device fault output tells absent i s (NameExists name) there mounted faults h = (h.0, answered c tells absent i s _ there mounted h.1)
refused_by c device fault output tells absent i s SequenceEnd there mounted faults h = answered c tells absent i s _ there mounted h
refused_by c device fault output tells absent i s (MetaFull need capacity) there mounted faults h = answered c tells absent i s _ there mounted h
refused_by c device fault output tells absent i s _ there mounted faults h = absurd h

-- a name that is none
pub name_refused_by : (c : Command) (device : Type 0) (s : FsState) (r : Cause) → IsNameRefused (bad_name_of c) r → IsRefusedBy c device s r
name_refused_by c device s (BadName name) h = h
name_refused_by c device s NoMemory h = tt
name_refused_by c device s _ h = absurd h

-- what the change answers
answer_of : (c : Command) (s : FsState) (e f : FsError) → bad_name_of c ≡ None → (planned c s).answer ≡ Err e → e ≡ f → IsAnsweredFrom c s f
answer_of c s e f named h is = (named, h ∙ ap (λ (x : FsError). Err x) is)

pub judged_by : (c : Command) (device : Type 0) (s : FsState) (e : FsError) (r : Cause) → bad_name_of c ≡ None → (planned c s).answer ≡ Err e → IsCauseOf c e r
    → IsRefusedBy c device s r
judged_by c device s e (NotFound name) named h is = (is.0, answer_of c s e _ named h is.1)
judged_by c device s e (NameExists name) named h is = (is.0, answer_of c s e _ named h is.1)
judged_by c device s e SequenceEnd named h is = answer_of c s e _ named h is
judged_by c device s e (MetaFull need capacity) named h is = answer_of c s e _ named h is
judged_by c device s e _ named h is = absurd is

-- a failure
pub failed_by : (c : Command) (device : Type 0) (s : FsState) (e : FsError) (r : Cause) → (e ≡ error.DevFault → device) → IsFailureOf e r → IsRefusedBy c device s r
failed_by c device s e DeviceFault fault is = fault is
failed_by c device s e NoMemory fault is = tt
failed_by c device s e _ fault is = absurd is

-- a count that rose in a part of a call rose in the call
pub rose_before : (before mid now : ℕ) → before ≤ mid → Rose mid now → Rose before now
rose_before before mid now le rose = omega (arith, le, rose)

-- a reason that doesn't lie in the output
pub reason_before : (c : Command) (device : Type 0) (output : Command → Type 0) (tells absent : Type 0) (i : Image) (r : Cause)
    → HasReason (Some c) device (λ _. ⊥) tells absent i r → HasReason (Some c) device output tells absent i r
reason_before c device output tells absent i OutputFault h = absurd h
reason_before c device output tells absent i Words h = h
reason_before c device output tells absent i DeviceFault h = h
reason_before c device output tells absent i NoMemory h = h
reason_before c device output tells absent i NotAnImage h = h
reason_before c device output tells absent i ImageExists h = h
reason_before c device output tells absent i BadGeometry h = h
reason_before c device output tells absent i (FsExists zone) h = h
reason_before c device output tells absent i (NoMount refusal) h = h
reason_before c device output tells absent i (BadName name) h = h
reason_before c device output tells absent i (NotFound name) h = h
reason_before c device output tells absent i (NameExists name) h = h
reason_before c device output tells absent i IdsEnd h = h
reason_before c device output tells absent i SequenceEnd h = h
reason_before c device output tells absent i (MetaFull need capacity) h = h
reason_before c device output tells absent i NoSpace h = h

-- a command that changes no name answers nothing
plan_of_none : (c : Command) (s : FsState) → changes_names c ≡ false → (planned c s).answer ≡ Ok tt
unfolding planned
plan_of_none c s is = ap (λ b. ((if b then checked_change (action_of c) else done tt) s).answer) is

-- a command that mounts and changes no name can be done where the image mounts and its names are names
pub shows : (c : Command) (tells absent : Type 0) (i : Image) (s : FsState) → changes_names c ≡ false → (absent → ⊥) → bad_name_of c ≡ None → state_in i ≡ Ok s
    → (absent → ⊥) × (bad_name_of c ≡ None) × Answers c i (Ok tt)
shows c tells absent i s is there named mounted = (there, named, record { state = s; mounted = mounted; answered = plan_of_none c s is })

-- a change that is done had nothing against it
pub change_can_be_done : (c : Command) (absent : Type 0) (i : Image) → changes_names c ≡ true → (absent → ⊥) → bad_name_of c ≡ None → Answers c i (Ok tt) → CanBeDone absent i c
change_can_be_done (MakeImage at g over) absent i changes there named answers = absurd cc
change_can_be_done (MakeFs at aux threshold collect over) absent i changes there named answers = absurd cc
change_can_be_done c absent i changes there named answers = (there, named, answers)

-- a command that changes names mounts
pub change_mounts : (c : Command) → changes_names c ≡ true → mounts c ≡ true
change_mounts (MakeImage at g over) changes = absurd cc
change_mounts (MakeFs at aux threshold collect over) changes = absurd cc
change_mounts c changes = refl

-- what is asked changes names
pub asked_changes : (at : Word) (a : Asked) → changes_names (command_asked at a) ≡ true
asked_changes at (asked.Link source target) = refl
asked_changes at (asked.Rename source target) = refl
asked_changes at (asked.Delete path) = refl

-- so does what was read
pub named_changes : (at : Word) (a : Asked) (n : Change) → command_named at n ≡ command_asked at a → changes_names (command_named at n) ≡ true
named_changes at a n is = ap changes_names is ∙ asked_changes at a
