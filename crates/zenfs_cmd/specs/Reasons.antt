-- Why a command is refused, and when it isn't.
use Rattle.std.specs.Prelude.{◌≡◌, ◌⊎◌, ⊤, ℕ, Bool, true, false, not, Option, Some, None, Result, Ok, Err, IsOk, IsTrue, IsSomeAnd}
use Rattle.zone_image.specs.Image.{Image, is_valid}
use Rattle.record_model.specs.Name.{is_name}
use Rattle.log_model.specs.Format.{begins_in}
use Rattle.fs_model.specs.declared.error.FsError.{FsError}
use Rattle.fs_model.specs.declared.error.FsError.TheVariants as error
use Rattle.fs_model.specs.FsState.{FsState, state_in}
use Rattle.command_model.specs.CommandLine.{Command, bad_name_of}
use Rattle.command_model.specs.CommandLine.Command.{MakeImage, MakeFs}
use Rattle.command_model.specs.Options.{Word}
use Rattle.fs_report.specs.declared.cause.Cause.{Cause}
use Rattle.fs_report.specs.declared.cause.Cause.TheVariants.{Words, DeviceFault, OutputFault, NoMemory, NotAnImage, ImageExists, BadGeometry, FsExists, NoMount, BadName, NotFound, NameExists, IdsEnd, SequenceEnd, MetaFull, NoSpace}
use Rattle.zenfs_cmd.specs.Plans.{Answers, mounts, changes_names, planned, source_of, target_of}

-- Nothing stands against the command: an image is made of a geometry in place of none, or by force; a file system in an
-- image that has none, or by force; every other command finds an image that mounts, its names are names, and its change,
-- if it makes one, is done.
abbrev pub CanBeDone : (absent : Type 0) → Image → Command → Type 0
CanBeDone absent i (MakeImage at g over) = (IsTrue over ⊎ absent) × IsTrue (is_valid g)
CanBeDone absent i (MakeFs at aux threshold collect over) = (absent → ⊥) × (IsTrue over ⊎ (begins_in i ≡ None))
CanBeDone absent i c = (absent → ⊥) × (bad_name_of c ≡ None) × Answers c i (Ok tt)

-- no image is there for a command that needs one
abbrev pub LacksImage : (tells absent : Type 0) → Command → Type 0
LacksImage tells absent (MakeImage at g over) = ⊥
LacksImage tells absent _ = tells → absent

-- an image is there, and isn't to be replaced
abbrev pub ImageStands : (tells absent : Type 0) → Command → Type 0
ImageStands tells absent (MakeImage at g over) = IsTrue (not over) × (tells → absent → ⊥)
ImageStands tells absent _ = ⊥

-- nothing stands against a new image but its numbers, which are no geometry
abbrev pub HasBadGeometry : (tells absent : Type 0) → Command → Type 0
HasBadGeometry tells absent (MakeImage at g over) = (IsTrue over ⊎ (tells → absent)) × IsTrue (not (is_valid g))
HasBadGeometry tells absent _ = ⊥

-- a file system begins in this zone of the image, and isn't to be replaced
abbrev pub FsStands : (tells absent : Type 0) → Image → ℕ → Command → Type 0
FsStands tells absent i zone (MakeFs at aux threshold collect over) = IsTrue (not over) × (tells → (absent → ⊥) × (begins_in i ≡ Some zone))
FsStands tells absent i zone _ = ⊥

-- the command's names are names, the image is there and mounts, and the change then answers this error
abbrev pub IsAnswered : (tells absent : Type 0) → Image → FsError → Command → Type 0
IsAnswered tells absent i e c = (bad_name_of c ≡ None) × (tells → (absent → ⊥) × Answers c i (Err e))

-- A refusal has its reason: wrong words, a fault of the device or of the output, no image, an image or a file system that
-- stands, wrong numbers, an image that doesn't mount, a name that is none, or the answer of the change to the state that is
-- mounted; want of memory needs none. The earlier reasons don't hold then.
abbrev pub HasReason : (wanted : Option Command) → (device : Type 0) → (output : Command → Type 0) → (tells absent : Type 0) → Image → Cause → Type 0
HasReason wanted device output tells absent i Words = wanted ≡ None
HasReason wanted device output tells absent i DeviceFault = device
HasReason wanted device output tells absent i OutputFault = IsSomeAnd wanted output
HasReason wanted device output tells absent i NoMemory = ⊤
HasReason wanted device output tells absent i NotAnImage = IsSomeAnd wanted (LacksImage tells absent)
HasReason wanted device output tells absent i ImageExists = IsSomeAnd wanted (ImageStands tells absent)
HasReason wanted device output tells absent i BadGeometry = IsSomeAnd wanted (HasBadGeometry tells absent)
HasReason wanted device output tells absent i (FsExists zone) = IsSomeAnd wanted (FsStands tells absent i zone)
HasReason wanted device output tells absent i (NoMount refusal) =
    IsSomeAnd wanted (λ c. (mounts c ≡ true) × (tells → (absent → ⊥) × (state_in i ≡ Err refusal)))
HasReason wanted device output tells absent i (BadName name) =
    IsSomeAnd wanted (λ c. (bad_name_of c ≡ Some name.now) × (tells → (absent → ⊥) × IsOk (state_in i)))
HasReason wanted device output tells absent i (NotFound name) =
    IsSomeAnd wanted (λ c. (source_of c ≡ Some name.now) × IsAnswered tells absent i error.NotFound c)
HasReason wanted device output tells absent i (NameExists name) =
    IsSomeAnd wanted (λ c. (target_of c ≡ Some name.now) × IsAnswered tells absent i error.Exists c)
HasReason wanted device output tells absent i IdsEnd = ⊥
HasReason wanted device output tells absent i SequenceEnd = IsSomeAnd wanted (IsAnswered tells absent i error.SequenceEnd)
HasReason wanted device output tells absent i (MetaFull need capacity) =
    IsSomeAnd wanted (IsAnswered tells absent i (error.MetaFull need capacity))
HasReason wanted device output tells absent i NoSpace = ⊥

-- why an image isn't mounted
abbrev pub IsNotMounted : (device tells absent : Type 0) → Image → Cause → Type 0
IsNotMounted device tells absent i DeviceFault = device
IsNotMounted device tells absent i NoMemory = ⊤
IsNotMounted device tells absent i NotAnImage = tells → absent
IsNotMounted device tells absent i (NoMount refusal) = tells → (absent → ⊥) × (state_in i ≡ Err refusal)
IsNotMounted device tells absent i _ = ⊥

-- the words of a command are refused of which this is the first that is no name
abbrev pub IsNameRefused : Option Word → Cause → Type 0
IsNameRefused bad (BadName name) = bad ≡ Some name.now
IsNameRefused bad NoMemory = ⊤
IsNameRefused bad _ = ⊥

-- the cause is what this judgement of the change means
abbrev pub IsCauseOf : Command → FsError → Cause → Type 0
IsCauseOf c e (NotFound name) = (source_of c ≡ Some name.now) × (e ≡ error.NotFound)
IsCauseOf c e (NameExists name) = (target_of c ≡ Some name.now) × (e ≡ error.Exists)
IsCauseOf c e SequenceEnd = e ≡ error.SequenceEnd
IsCauseOf c e (MetaFull need capacity) = e ≡ error.MetaFull need capacity
IsCauseOf c e _ = ⊥

-- an error that the judgement of a command's change may answer
abbrev pub IsJudgement : Command → FsError → Type 0
IsJudgement c error.NotFound = ⊤
IsJudgement c error.Exists = IsSomeAnd (target_of c) (λ _. ⊤)
IsJudgement c error.SequenceEnd = ⊤
IsJudgement c (error.MetaFull need capacity) = ⊤
IsJudgement c _ = ⊥

-- the cause is what a failure means
abbrev pub IsFailureOf : FsError → Cause → Type 0
IsFailureOf e DeviceFault = e ≡ error.DevFault
IsFailureOf e NoMemory = e ≡ error.NoMemory
IsFailureOf e _ = ⊥

-- an error that needs no reason in the image
abbrev pub IsFailure : FsError → Type 0
IsFailure error.NoMemory = ⊤
IsFailure error.DevFault = ⊤
IsFailure _ = ⊥

-- the command's names are names, and its change of this state answers this error
abbrev pub IsAnsweredFrom : Command → FsState → FsError → Type 0
IsAnsweredFrom c s e = (bad_name_of c ≡ None) × ((planned c s).answer ≡ Err e)

-- on a mounted file system: a name is none, or this is what the change answers, or a call failed
abbrev pub IsRefusedBy : Command → (device : Type 0) → FsState → Cause → Type 0
IsRefusedBy c device s DeviceFault = device
IsRefusedBy c device s NoMemory = ⊤
IsRefusedBy c device s (BadName name) = bad_name_of c ≡ Some name.now
IsRefusedBy c device s (NotFound name) = (source_of c ≡ Some name.now) × IsAnsweredFrom c s error.NotFound
IsRefusedBy c device s (NameExists name) = (target_of c ≡ Some name.now) × IsAnsweredFrom c s error.Exists
IsRefusedBy c device s SequenceEnd = IsAnsweredFrom c s error.SequenceEnd
IsRefusedBy c device s (MetaFull need capacity) = IsAnsweredFrom c s (error.MetaFull need capacity)
IsRefusedBy c device s _ = ⊥

-- a mounted file system is as it was at each refusal but for a fault and want of memory
abbrev pub IsUnwrittenBut : Cause → Type 0 → Type 0
IsUnwrittenBut DeviceFault same = ⊤
IsUnwrittenBut NoMemory same = ⊤
IsUnwrittenBut _ same = same

-- the words are a command that changes names
abbrev pub is_change : Option Command → Bool
is_change None = false
is_change (Some c) = changes_names c

-- Nothing is written on a device before any refusal but for its fault and that of the output, and for want of memory of a
-- command that changes names.
abbrev pub IsUnwritten : Option Command → Cause → Type 0 → Type 0
IsUnwritten wanted DeviceFault same = ⊤
IsUnwritten wanted OutputFault same = ⊤
IsUnwritten wanted NoMemory same = is_change wanted ≡ false → same
IsUnwritten wanted _ same = same
