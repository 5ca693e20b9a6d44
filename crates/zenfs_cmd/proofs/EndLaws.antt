-- A command against which nothing stands ends well, unless memory is wanting.
use Rattle.std.proofs.Common.{◌≡◌, ◌⊎◌, ℕ, inl, inr, ⊎_elim, Bool, true, false, not, ◌∙◌, refl, ap, sym, subst}
use Rattle.std.specs.Prelude.{Some, None, Result, Ok, Err}
use Rattle.zone_image.specs.Image.{Image, is_valid}
use Rattle.log_model.specs.Format.{begins_in}
use Rattle.log_model.specs.declared.selection.Refusal.{Refusal}
use Rattle.fs_model.specs.declared.error.FsError.{FsError}
use Rattle.fs_model.specs.FsState.{FsState, state_in}
use Rattle.fs_model.specs.LogSteps.{NoValue}
use Rattle.command_model.specs.CommandLine.{Command, bad_name_of}
use Rattle.command_model.specs.CommandLine.Command.{MakeImage, MakeFs}
use Rattle.command_model.specs.Options.{Word}
use Rattle.fs_report.specs.Causes.{ending}
use Rattle.fs_report.specs.declared.cause.Cause.{Cause}
use Rattle.fs_report.specs.declared.cause.Cause.TheVariants.{Words, DeviceFault, OutputFault, NoMemory, NotAnImage, ImageExists, BadGeometry, FsExists, NoMount, BadName, NotFound, NameExists, IdsEnd, SequenceEnd, MetaFull, NoSpace}
use Rattle.fs_report.specs.declared.status.Status.TheVariants as status
use Rattle.zenfs_cmd.specs.Plans.{Answers, mounts, planned}
use Rattle.zenfs_cmd.specs.Reasons.{CanBeDone, FsStands, HasBadGeometry, HasReason, ImageStands, IsAnswered, LacksImage}

-- a test and its opposite
both : (b : Bool) → b ≡ true → not b ≡ true → ⊥
both true holds fails = cc
both false holds fails = cc

-- either of two facts, the second under a premise that holds
pub either_told : (A tells B : Type 0) → tells → A ⊎ (tells → B) → A ⊎ B
either_told A tells B told either = ⊎_elim (λ a. inl a) (λ f. inr (f told)) either

image_there : (tells absent : Type 0) (i : Image) (c : Command) → tells → CanBeDone absent i c → LacksImage tells absent c → ⊥
image_there tells absent i (MakeImage at g over) told can h = h
image_there tells absent i c told can h = can.0 (h told)

none_stands : (tells absent : Type 0) (i : Image) (c : Command) → tells → CanBeDone absent i c → ImageStands tells absent c → ⊥
none_stands tells absent i (MakeImage at g over) told can h = ⊎_elim (λ forced. both over forced h.0) (λ none. h.1 told none) can.0
none_stands tells absent i c told can h = h

right_numbers : (tells absent : Type 0) (i : Image) (c : Command) → CanBeDone absent i c → HasBadGeometry tells absent c → ⊥
right_numbers tells absent i (MakeImage at g over) can h = both (is_valid g) can.1 h.1
right_numbers tells absent i c can h = h

no_fs_stands : (tells absent : Type 0) (i : Image) (zone : ℕ) (c : Command) → tells → CanBeDone absent i c → FsStands tells absent i zone c → ⊥
no_fs_stands tells absent i zone (MakeFs at aux threshold collect over) told can h =
    ⊎_elim (λ forced. both over forced h.0) (λ none. let there : begins_in i ≡ Some zone = (h.1 told).1 in cc) can.1
no_fs_stands tells absent i zone c told can h = h

it_mounts : (absent : Type 0) (i : Image) (c : Command) (r : Refusal) → CanBeDone absent i c → mounts c ≡ true → state_in i ≡ Err r → ⊥
it_mounts absent i (MakeImage at g over) r can is h = cc
it_mounts absent i (MakeFs at aux threshold collect over) r can is h = cc
it_mounts absent i c r can is h = let mounted : state_in i ≡ Ok can.2.state = can.2.mounted in cc

right_names : (absent : Type 0) (i : Image) (c : Command) (name : Word) → CanBeDone absent i c → bad_name_of c ≡ Some name → ⊥
unfolding bad_name_of
right_names absent i (MakeImage at g over) name can h = cc
right_names absent i (MakeFs at aux threshold collect over) name can h = cc
right_names absent i c name can h = let named : bad_name_of c ≡ None = can.1 in cc

-- an image has one answer
one_answer : (c : Command) (i : Image) (a b : Result NoValue FsError) → Answers c i a → Answers c i b → a ≡ b
one_answer c i a b first second =
    let same : first.state ≡ second.state = let mounted : state_in i ≡ Ok first.state = first.mounted in let again : state_in i ≡ Ok second.state = second.mounted in cc in
    sym first.answered ∙ ap (λ (s : FsState). (planned c s).answer) same ∙ second.answered

it_answers : (absent : Type 0) (i : Image) (c : Command) (e : FsError) → CanBeDone absent i c → Answers c i (Err e) → ⊥
unfolding planned
it_answers absent i (MakeImage at g over) e can h = let answered : Ok tt ≡ Err e = h.answered in cc
it_answers absent i (MakeFs at aux threshold collect over) e can h = let answered : Ok tt ≡ Err e = h.answered in cc
it_answers absent i c e can h = let same = one_answer c i (Ok tt) (Err e) can.2 h in cc

-- what is refused nevertheless wants memory
pub wants_memory : (c : Command) (device : Type 0) (output : Command → Type 0) (tells absent : Type 0) (i : Image) (r : Cause) → tells → CanBeDone absent i c → (device → ⊥)
    → (output c → ⊥) → HasReason (Some c) device output tells absent i r → ending r ≡ status.Memory
wants_memory c device output tells absent i Words told can faults outputs h = cc
wants_memory c device output tells absent i DeviceFault told can faults outputs h = absurd (faults h)
wants_memory c device output tells absent i OutputFault told can faults outputs h = absurd (outputs h)
wants_memory c device output tells absent i NoMemory told can faults outputs h = refl
wants_memory c device output tells absent i NotAnImage told can faults outputs h = absurd (image_there tells absent i c told can h)
wants_memory c device output tells absent i ImageExists told can faults outputs h = absurd (none_stands tells absent i c told can h)
wants_memory c device output tells absent i BadGeometry told can faults outputs h = absurd (right_numbers tells absent i c can h)
wants_memory c device output tells absent i (FsExists zone) told can faults outputs h = absurd (no_fs_stands tells absent i zone c told can h)
wants_memory c device output tells absent i (NoMount refusal) told can faults outputs h = absurd (it_mounts absent i c refusal can h.0 (h.1 told).1)
wants_memory c device output tells absent i (BadName name) told can faults outputs h = absurd (right_names absent i c name.now can h.0)
wants_memory c device output tells absent i (NotFound name) told can faults outputs h = absurd (it_answers absent i c _ can (h.1.1 told).1)
wants_memory c device output tells absent i (NameExists name) told can faults outputs h = absurd (it_answers absent i c _ can (h.1.1 told).1)
wants_memory c device output tells absent i IdsEnd told can faults outputs h = absurd h
wants_memory c device output tells absent i SequenceEnd told can faults outputs h = absurd (it_answers absent i c _ can (h.1 told).1)
wants_memory c device output tells absent i (MetaFull need capacity) told can faults outputs h = absurd (it_answers absent i c _ can (h.1 told).1)
wants_memory c device output tells absent i NoSpace told can faults outputs h = absurd h
