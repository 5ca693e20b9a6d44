-- Which histories of turns are legal.
use Rattle.std.specs.Prelude.{◌≡◌, ◌⊎◌, ⊤, ℕ, ◌+◌, ◌-◌, ◌^◌, ◌≤◌, Bool, true, false, not, List, [], ◌∷◌, length, ◌≢◌, ◌<◌, Option, Some, None, is_some, is_none, ◌==◌, if◌then◌else◌, IsTrue, MatchBool}
use Rattle.crc32c_core.specs.Checksum.{crc32c}
use Rattle.log_model.specs.FileTree.{Tree, id_of, tree_file, bytes_in}
use Rattle.fs_model.specs.declared.error.FsError.{FsError}
use Rattle.fs_model.specs.declared.error.FsError.TheVariants.{Stopped, Gone, InUse, NotFound, Exists, IdsEnd, NoMemory, DevFault}
use Rattle.fs_model.specs.declared.operations.Op.{Op}
use Rattle.fs_model.specs.declared.operations.Op.TheVariants as ops
use Rattle.fs_model.specs.declared.operations.Reply.{Reply}
use Rattle.fs_model.specs.declared.operations.Reply.TheVariants as replies
use Rattle.fs_model.specs.declared.operations.Made.{Made}
use Rattle.fs_model.specs.declared.operations.Made.TheVariants as made
use Rattle.fs_model.specs.declared.operations.Entry.{Entry}
use Rattle.fs_model.specs.History.{Accepted, accepted_for, HistoryState, file_by, accepted_after, after_entry}

-- ---- which reply the tree calls for

-- refused where the test says so, and else tested further
abbrev pub refusal_if : Bool → FsError → Option Reply → Option Reply
refusal_if broken e other = if broken then Some (replies.Refused e) else other

-- the file that is written isn't in the tree
abbrev pub file_is_gone : Option ℕ → Tree → Bool
file_is_gone None tree = false
file_is_gone (Some id) tree = is_none (tree_file id tree)

-- answered where the test says so, and else tested further
abbrev pub reply_if : Bool → Reply → Option Reply → Option Reply
reply_if holds reply other = if holds then Some reply else other

-- the reply that names, ids and writers call for, if any
abbrev pub expected_reply : Op → Option ℕ → HistoryState → Option Reply
expected_reply (ops.Open name hint sparse) writer w =
    reply_if (is_some writer) replies.HasWriter
    (refusal_if (is_some (id_of name w.tree)) Exists
    (refusal_if (w.greatest == 2 ^ 64 - 2) IdsEnd None))
expected_reply (ops.Append count byte) writer w = reply_if (is_none writer) replies.NoWriter (refusal_if (file_is_gone writer w.tree) Gone None)
expected_reply ops.Sync writer w = reply_if (is_none writer) replies.NoWriter (refusal_if (file_is_gone writer w.tree) Gone None)
expected_reply ops.Close writer w = reply_if (is_none writer) replies.NoWriter None
expected_reply (ops.Link old new) writer w = refusal_if (is_none (id_of old w.tree)) NotFound (refusal_if (is_some (id_of new w.tree)) Exists None)
expected_reply (ops.Rename old new) writer w = refusal_if (is_none (id_of old w.tree)) NotFound None
expected_reply (ops.Delete name) writer w = refusal_if (is_none (id_of name w.tree)) NotFound None
expected_reply (ops.Read name) writer w = refusal_if (is_none (id_of name w.tree)) NotFound None
expected_reply ops.Collect writer w = None

-- a reply that comes only where names, ids or writers call for it, or in no entry at all
abbrev pub needs_cause : Reply → Bool
needs_cause replies.NoWriter = true
needs_cause replies.HasWriter = true
needs_cause replies.NoEntry = true
needs_cause (replies.Refused Gone) = true
needs_cause (replies.Refused NotFound) = true
needs_cause (replies.Refused Exists) = true
needs_cause (replies.Refused IdsEnd) = true
needs_cause (replies.Refused InUse) = true
needs_cause _ = false

-- the tests on the caller's writer come before all others, also before that of a stopped mount
abbrev pub is_tested_first : Reply → Bool
is_tested_first replies.NoWriter = true
is_tested_first replies.HasWriter = true
is_tested_first _ = false

-- a reply that may come in place of the one that is called for
abbrev pub may_replace : Bool → Reply → Bool
may_replace tested_first (replies.Refused Stopped) = not tested_first
may_replace tested_first (replies.Refused NoMemory) = true
may_replace tested_first (replies.Refused DevFault) = true
may_replace tested_first _ = false

-- the reply is the one that is called for, if any
abbrev pub AnswersAsExpected : Reply → Option Reply → Type 0
AnswersAsExpected reply None = needs_cause reply ≡ false
AnswersAsExpected reply (Some named) = (reply ≡ named) ⊎ (may_replace (is_tested_first named) reply ≡ true)

-- ---- which changes an entry may have

-- each of the writer's file, and each shows more
abbrev pub AreGrows : Option ℕ → ℕ → ℕ → List Made → Type 0
AreGrows writer before most [] = ⊤
AreGrows writer before most (made.Grow id shown ∷ ms) = (writer ≡ Some id) × (before + 1 ≤ shown) × (shown ≤ most) × AreGrows writer shown most ms
AreGrows writer before most (m ∷ ms) = ⊥

-- how many bytes of the file were shown
abbrev pub shown_before : Option ℕ → Tree → ℕ
shown_before None tree = 0
shown_before (Some id) tree = length (bytes_in id tree)

-- how many bytes were accepted for it
abbrev pub all_accepted : Option ℕ → Accepted → ℕ
all_accepted None hs = 0
all_accepted (Some id) hs = length (accepted_for id hs)

-- an entry's changes are grows of the file that it writes
abbrev pub GrowsOnly : Entry → HistoryState → Type 0
GrowsOnly e w = AreGrows (file_by e w) (shown_before (file_by e w) w.tree) (all_accepted (file_by e w) (accepted_after e w)) e.changes

-- after a sync that answered Done all accepted bytes of the file are shown
abbrev pub ShowsAll : Entry → HistoryState → Type 0
ShowsAll e w = IsTrue (not (file_is_gone (file_by e w) w.tree)) → shown_before (file_by e w) (after_entry e w).tree ≡ all_accepted (file_by e w) (accepted_after e w)

-- the bytes under a name
abbrev pub bytes_of_name : Option ℕ → Tree → List ℕ
bytes_of_name None tree = []
bytes_of_name (Some id) tree = bytes_in id tree

-- the reply is the one that the shown bytes give
abbrev pub IsShown : Reply → List ℕ → Type 0
IsShown (replies.Shown bytes sum) content = (bytes ≡ length content) × (sum ≡ crc32c content)
IsShown reply content = ⊤

-- the one change of an operation that answers Done
abbrev pub own_changes : Op → ℕ → List Made
own_changes (ops.Open name hint sparse) id = made.Create id ∷ []
own_changes (ops.Link old new) id = made.Linked ∷ []
own_changes (ops.Rename old new) id = made.Renamed ∷ []
own_changes (ops.Delete name) id = made.Unlinked ∷ []
own_changes op id = []

-- the operations of a writer
abbrev pub is_writers : Op → Bool
is_writers (ops.Append count byte) = true
is_writers ops.Sync = true
is_writers ops.Close = true
is_writers _ = false

-- an open
abbrev pub is_opening : Op → Bool
is_opening (ops.Open name hint sparse) = true
is_opening _ = false

-- nothing was changed
abbrev pub NoChange : Entry → Type 0
NoChange e = (e.changes ≡ []) × (e.unsure ≡ false)

-- the operation's own change, and it alone
abbrev pub OwnChange : Op → Entry → HistoryState → Type 0
OwnChange op e w = e.changes ≡ own_changes op (w.greatest + 1)

-- grows alone, all acknowledged
abbrev pub AcknowledgedGrows : Entry → HistoryState → Type 0
AcknowledgedGrows e w = GrowsOnly e w × (e.unsure ≡ false)

-- the own change, acknowledged
abbrev pub AcknowledgedChange : Op → Entry → HistoryState → Type 0
AcknowledgedChange op e w = OwnChange op e w × (e.unsure ≡ false)

-- at Done the own change; at a refusal none, but grows, the create of an open without memory, and what a device fault met
abbrev pub ChangesFit : Op → Reply → Entry → HistoryState → Type 0
ChangesFit op replies.Done e w = MatchBool (is_writers op) (AcknowledgedGrows e w) (AcknowledgedChange op e w)
ChangesFit op (replies.Refused DevFault) e w = MatchBool (is_writers op) (GrowsOnly e w) (NoChange e ⊎ OwnChange op e w)
ChangesFit op (replies.Refused NoMemory) e w =
    MatchBool (is_writers op) (AcknowledgedGrows e w) (MatchBool (is_opening op) (NoChange e ⊎ AcknowledgedChange op e w) (NoChange e))
ChangesFit op reply e w = MatchBool (is_writers op) (AcknowledgedGrows e w) (NoChange e)

-- an append that answers Done takes all its bytes, and one that is refused before its first byte takes none
abbrev pub TakesAll : Op → Reply → ℕ → Type 0
TakesAll (ops.Append count byte) replies.Done taken = taken ≡ count
TakesAll (ops.Append count byte) replies.NoWriter taken = taken ≡ 0
TakesAll (ops.Append count byte) (replies.Refused Stopped) taken = taken ≡ 0
TakesAll (ops.Append count byte) (replies.Refused Gone) taken = taken ≡ 0
TakesAll (ops.Append count byte) reply taken = taken ≤ count
TakesAll op reply taken = taken ≡ 0

-- a sync or close that answers Done shows all
abbrev pub SyncShows : Op → Reply → Entry → HistoryState → Type 0
SyncShows ops.Sync replies.Done e w = ShowsAll e w
SyncShows ops.Close replies.Done e w = ShowsAll e w
SyncShows op reply e w = ⊤

-- a read shows what the tree has, also on a stopped mount
abbrev pub ReadShows : Op → Reply → HistoryState → Type 0
ReadShows (ops.Read name) reply w = IsShown reply (bytes_of_name (id_of name w.tree) w.tree) × (reply ≢ replies.Refused Stopped)
ReadShows op reply w = ⊤

-- an entry that may come next in a history that has come to this
pub record IsLegalEntry (w : HistoryState) (e : Entry) : Type 0 where
  pub expected : AnswersAsExpected e.reply (expected_reply e.op (file_by e w) w)
  pub last_change : w.unsure ≡ true → e.changes ≡ []
  pub unsure_change : e.unsure ≡ true → 0 < length e.changes
  pub taken : TakesAll e.op e.reply e.taken
  pub changes : ChangesFit e.op e.reply e w
  pub synced : SyncShows e.op e.reply e w
  pub read : ReadShows e.op e.reply w

-- each entry may follow those before it
abbrev pub AreLegal : HistoryState → List Entry → Type 0
AreLegal w [] = ⊤
AreLegal w (e ∷ es) = IsLegalEntry w e × AreLegal (after_entry e w) es
