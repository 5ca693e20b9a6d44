-- Legal histories, computed.
use Rattle.std.specs.Prelude.{◌≡◌, ℕ, true, false, List, [], ◌∷◌, codes, replicate, map, refl}
use Rattle.fs_model.specs.Opened.{writing}
use Rattle.std.proofs.Common.{inl, sym, arith}
use Rattle.std.proofs.lemmas.Bool.{false≢true}
use Rattle.crc32c_core.specs.Checksum.{crc32c}
use Rattle.log_model.specs.FileTree.{Tree, apply}
use Rattle.fs_model.specs.declared.error.FsError.TheVariants.{NotFound}
use Rattle.fs_model.specs.declared.operations.Op.{Op}
use Rattle.fs_model.specs.declared.operations.Op.TheVariants as ops
use Rattle.fs_model.specs.declared.operations.Reply.{Reply}
use Rattle.fs_model.specs.declared.operations.Reply.TheVariants as replies
use Rattle.fs_model.specs.declared.operations.Made.{Made}
use Rattle.fs_model.specs.declared.operations.Made.TheVariants as made
use Rattle.fs_model.specs.declared.operations.Entry.{Entry}
use Rattle.fs_model.specs.TreeSteps.{mount_write}
use Rattle.fs_model.specs.Turn.{LockState, turn}
use Rattle.fs_model.specs.History.{initial_history, after_entries}
use Rattle.fs_model.specs.HistoryCover.{acknowledged_by, tree_after}
use Rattle.fs_model.specs.LegalHistory.{AreLegal}
use Rattle.fs_model.specs.Execution.{IsExecution, IsLegalHistory}
use Rattle.fs_model.specs.StepExamples.{formatted, locked}

-- a file system that was made and mounted for writing
abbrev start : LockState
start = locked (mount_write formatted).last

-- an entry of a caller, with what it changed and the bytes that it took
abbrev entry : ℕ → Op → Reply → List Made → ℕ → Entry
entry caller op reply changes taken = record { caller = caller; op = op; now = 7; reply = reply; changes = changes; unsure = false; taken = taken; tick = 0 }

-- the state after a turn
abbrev next : ℕ → Op → LockState → LockState
next caller op s = (turn caller op 7 s).last

-- a name
abbrev a : List ℕ
a = codes "a"

-- another
abbrev b : List ℕ
b = codes "b"

-- opens a file that isn't sparse
abbrev open_a : Op
open_a = ops.Open a 0 false

-- appends five times the letter h
abbrev five : Op
five = ops.Append 5 104

-- the states after each turn of one job
abbrev opened : LockState
opened = next 1 open_a start

-- after the append
abbrev appended : LockState
appended = next 1 five opened

-- after the sync
abbrev synced : LockState
synced = next 1 ops.Sync appended

-- after the read
abbrev read_back : LockState
read_back = next 1 (ops.Read a) synced

-- after the close
abbrev closed : LockState
closed = next 1 ops.Close read_back

-- after the delete
abbrev ended : LockState
ended = next 1 (ops.Delete b) closed

-- the reply to a read of the five bytes
abbrev five_read : Reply
five_read = replies.Shown 5 (crc32c (replicate 5 104))

-- one job: a file is made, written, synced, read and closed, and a delete finds no name
abbrev pub one_job : List Entry
one_job =
    entry 1 open_a replies.Done (made.Create 1 ∷ []) 0
    ∷ entry 1 five replies.Done [] 5
    ∷ entry 1 ops.Sync replies.Done (made.Grow 1 5 ∷ []) 0
    ∷ entry 1 (ops.Read a) five_read [] 0
    ∷ entry 1 ops.Close replies.Done [] 0
    ∷ entry 1 (ops.Delete b) (replies.Refused NotFound) [] 0 ∷ []

-- no history here has a change that isn't acknowledged
never : {A : Type 0} → false ≡ true → A
never h = absurd (false≢true h)

-- its replies and changes are legal
one_job_legal : AreLegal (initial_history []) one_job
unfolding apply
one_job_legal = (
  (record { expected = refl; last_change = never; unsure_change = never; taken = refl; changes = (refl, refl); synced = tt; read = tt }),
  (
    (record { expected = refl; last_change = never; unsure_change = never; taken = refl; changes = (tt, refl); synced = tt; read = tt }),
    (
      (record { expected = refl; last_change = never; unsure_change = never; taken = refl; changes = ((refl, omega arith, omega arith, tt), refl); synced = (λ _. refl); read = tt }),
      (
        (record { expected = refl; last_change = never; unsure_change = never; taken = refl; changes = (refl, refl); synced = tt; read = ((refl, refl), λ h. cc) }),
        (
          (record { expected = refl; last_change = never; unsure_change = never; taken = refl; changes = (tt, refl); synced = (λ _. refl); read = tt }),
          (
            (record { expected = (inl refl); last_change = never; unsure_change = never; taken = refl; changes = (refl, refl); synced = tt; read = tt }),
            tt,
          ),
        ),
      ),
    ),
  ),
)

-- its states are those of the turns
one_job_runs : IsExecution start one_job (opened ∷ appended ∷ synced ∷ read_back ∷ closed ∷ ended ∷ [])
unfolding writing
one_job_runs = (
  (refl, refl),
  ((turn 1 open_a 7 start).passed, [], refl, refl),
  (
    (refl, refl),
    ((turn 1 five 7 opened).passed, [], refl, refl),
    (
      (refl, refl),
      ((turn 1 ops.Sync 7 appended).passed, [], refl, refl),
      (
        (refl, refl),
        ((turn 1 (ops.Read a) 7 synced).passed, [], refl, refl),
        (
          (refl, refl),
          ((turn 1 ops.Close 7 read_back).passed, [], refl, refl),
          (
            (refl, refl),
            ((turn 1 (ops.Delete b) 7 closed).passed, [], refl, refl),
            refl,
          ),
        ),
      ),
    ),
  ),
)

-- so the history is legal
one_job_history : IsLegalHistory [] start one_job
one_job_history = (one_job_legal, opened ∷ appended ∷ synced ∷ read_back ∷ closed ∷ ended ∷ [], one_job_runs)

-- its changes: a file, and five bytes of it
one_job_acknowledged : acknowledged_by 0 one_job ≡ 2
one_job_acknowledged = refl

-- the bytes of the files of a tree
abbrev bytes_of_files : Tree → List (List ℕ)
bytes_of_files tree = map (λ f. f.bytes) tree

-- after none of them there is no file, after one an empty file, and after both it has its bytes
one_job_prefixes : map (λ made. bytes_of_files (tree_after made [] one_job)) (0 ∷ 1 ∷ 2 ∷ []) ≡ [] ∷ ([] ∷ []) ∷ (replicate 5 104 ∷ []) ∷ []
unfolding apply
one_job_prefixes = refl

-- ---- two jobs, of which the second renames what the first makes

-- the rename
abbrev rename_a : Op
rename_a = ops.Rename a b

-- the rename comes last
abbrev rename_last : List Entry
rename_last =
    entry 1 open_a replies.Done (made.Create 1 ∷ []) 0
    ∷ entry 1 ops.Close replies.Done [] 0
    ∷ entry 2 rename_a replies.Done (made.Renamed ∷ []) 0 ∷ []

-- then the file has the new name
rename_last_legal : AreLegal (initial_history []) rename_last
unfolding apply
rename_last_legal = (
  (record { expected = refl; last_change = never; unsure_change = never; taken = refl; changes = (refl, refl); synced = tt; read = tt }),
  (
    (record { expected = refl; last_change = never; unsure_change = never; taken = refl; changes = (tt, refl); synced = (λ _. refl); read = tt }),
    (
      (record { expected = refl; last_change = never; unsure_change = never; taken = refl; changes = (refl, refl); synced = tt; read = tt }),
      tt,
    ),
  ),
)

-- the names in the end
abbrev names_after : List Entry → List (List (List ℕ))
names_after es = map (λ f. f.names) (after_entries (initial_history []) es).tree

-- the file has the new name
renamed_last : names_after rename_last ≡ (b ∷ []) ∷ []
unfolding apply
renamed_last = refl

-- the rename comes first, and finds no name
abbrev rename_first : List Entry
rename_first =
    entry 2 rename_a (replies.Refused NotFound) [] 0
    ∷ entry 1 open_a replies.Done (made.Create 1 ∷ []) 0
    ∷ entry 1 ops.Close replies.Done [] 0 ∷ []

-- then the file keeps its name
rename_first_legal : AreLegal (initial_history []) rename_first
unfolding apply
rename_first_legal = (
  (record { expected = (inl refl); last_change = never; unsure_change = never; taken = refl; changes = (refl, refl); synced = tt; read = tt }),
  (
    (record { expected = refl; last_change = never; unsure_change = never; taken = refl; changes = (refl, refl); synced = tt; read = tt }),
    (
      (record { expected = refl; last_change = never; unsure_change = never; taken = refl; changes = (tt, refl); synced = (λ _. refl); read = tt }),
      tt,
    ),
  ),
)

-- the file keeps its name
renamed_first : names_after rename_first ≡ (a ∷ []) ∷ []
unfolding apply
renamed_first = refl

-- the states when the rename comes last, and when it comes first
rename_last_runs : IsExecution start rename_last (opened ∷ next 1 ops.Close opened ∷ next 2 rename_a (next 1 ops.Close opened) ∷ [])
unfolding writing
rename_last_runs = (
  (refl, refl),
  ((turn 1 open_a 7 start).passed, [], refl, refl),
  (
    (refl, refl),
    ((turn 1 ops.Close 7 opened).passed, [], refl, refl),
    ((refl, refl), ((turn 2 rename_a 7 (next 1 ops.Close opened)).passed, [], refl, refl), refl),
  ),
)

-- the states when the rename comes first
rename_first_runs : IsExecution start rename_first (next 2 rename_a start ∷ next 1 open_a (next 2 rename_a start) ∷ next 1 ops.Close (next 1 open_a (next 2 rename_a start)) ∷ [])
unfolding writing
rename_first_runs = (
  (refl, refl),
  ((turn 2 rename_a 7 start).passed, [], refl, refl),
  (
    (refl, refl),
    ((turn 1 open_a 7 (next 2 rename_a start)).passed, [], refl, refl),
    ((refl, refl), ((turn 1 ops.Close 7 (next 1 open_a (next 2 rename_a start))).passed, [], refl, refl), refl),
  ),
)

-- ---- histories that aren't legal

-- a file is made, and five bytes are appended
abbrev written_five : List Entry → List Entry
written_five es = entry 1 open_a replies.Done (made.Create 1 ∷ []) 0 ∷ entry 1 five replies.Done [] 5 ∷ es

-- a sync that answers Done shows all bytes
dropped_sync : AreLegal (initial_history []) (written_five (entry 1 ops.Sync replies.Done [] 0 ∷ [])) → ⊥
unfolding apply
dropped_sync h = omega (arith, h.1.1.0.synced refl)

-- a read finds no bytes that weren't synced
invented_read : AreLegal (initial_history []) (written_five (entry 1 (ops.Read a) five_read [] 0 ∷ [])) → ⊥
unfolding apply
invented_read h = omega (arith, h.1.1.0.read.0.0)

-- an append that answers Done takes all its bytes
short_append : AreLegal (initial_history []) (entry 1 open_a replies.Done (made.Create 1 ∷ []) 0 ∷ entry 1 five replies.Done [] 4 ∷ []) → ⊥
unfolding apply
short_append h = omega (arith, h.1.0.taken)

-- a name that is there is found
refused_delete : AreLegal (initial_history []) (entry 1 open_a replies.Done (made.Create 1 ∷ []) 0 ∷ entry 2 (ops.Delete a) (replies.Refused NotFound) [] 0 ∷ []) → ⊥
unfolding apply
refused_delete h = false≢true (sym h.1.0.expected)
