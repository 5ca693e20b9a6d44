-- What the replay of a log makes of one record more, and of a snapshot.
use Rattle.std.specs.Prelude.{◌≡◌, ℕ, false, List, [], ◌∷◌, ◌++◌, Ok}
use Rattle.record_model.specs.Decoding.{record_of}
use Rattle.record_model.specs.declared.types.Record.{Record}
use Rattle.record_model.specs.declared.types.Record.TheVariants.{Snapshot}
use Rattle.log_model.specs.LogScan.{has_end}
use Rattle.log_model.specs.FileTable.{Table, after_record, replay_log}
use Rattle.log_model.specs.TableLaws.{IsTable, AreSized}

-- a log without an end record, and one record more
abbrev pub AddedRecordIsReplayed : Type 0
AddedRecordIsReplayed = (payloads : List (ℕ × List ℕ)) (at : ℕ) (payload : List ℕ) (r : Record) (es next : Table) → replay_log payloads ≡ Ok es
    → has_end payloads ≡ false → record_of payload ≡ Ok r → after_record r es ≡ Ok next
    → replay_log (payloads ++ (at, payload) ∷ []) ≡ Ok next

-- the snapshot of a table gives the table
abbrev pub SnapshotIsReplayed : Type 0
SnapshotIsReplayed = (es before : Table) → IsTable es → AreSized es → after_record (Snapshot es) before ≡ Ok es

-- a log that replays makes a table, whoever wrote it
abbrev pub ReplayMakesTable : Type 0
ReplayMakesTable = (payloads : List (ℕ × List ℕ)) (es : Table) → replay_log payloads ≡ Ok es → IsTable es

-- and its sizes are right
abbrev pub ReplayedSizesAreRight : Type 0
ReplayedSizesAreRight = (payloads : List (ℕ × List ℕ)) (es : Table) → replay_log payloads ≡ Ok es → AreSized es
