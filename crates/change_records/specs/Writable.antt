-- Each record that is written is one of the grammar, so that its payload is read as that record again.
use Rattle.std.specs.Prelude.{◌≡◌, ℕ, ◌+◌, ◌-◌, ◌^◌, ◌<◌, ◌≤◌, Bool, List, [], ◌∷◌, ◌++◌, length, Some, None, Ok, IsTrue}
use Rattle.std.specs.List.{AllByRecursion}
use Rattle.record_model.specs.Name.{is_name}
use Rattle.record_model.specs.Encoding.{payload_of}
use Rattle.record_model.specs.Decoding.{record_of}
use Rattle.record_model.specs.Grammar.{IsExtent, IsWritable, InGrammar}
use Rattle.record_model.specs.declared.types.Record.{Record}
use Rattle.record_model.specs.declared.types.Record.TheVariants.{Update, Deletion, Replace}
use Rattle.log_model.specs.FileTable.{Table, size_of, after_record}
use Rattle.fs_model.specs.declared.zones.Move.{Move}
use Rattle.fs_model.specs.FsState.{TableRow, row_of, row_named, on_row}
use Rattle.fs_model.specs.TreeSteps.{new_entry, new_row, with_names, entry_update, drop_name, entry_in}
use Rattle.fs_model.specs.FileSteps.{commit_record, committed, with_recovery_point, moved}
use Rattle.change_records.specs.Recorded.{entries, AreValid}
use Rattle.change_records.specs.NameRecords.{rows_renamed}

-- the payload of a record of the grammar is read as that record
abbrev pub PayloadReadsAgain : Type 0
PayloadReadsAgain = (r : Record) → InGrammar r → length (payload_of r) < 2 ^ 32 → record_of (payload_of r) ≡ Ok r

-- each recorded entry can be written
abbrev pub AreWritable : List TableRow → Type 0
AreWritable rows = AllByRecursion IsWritable (entries rows)

-- a record of the grammar makes a table that can be written of one that can
abbrev pub RecordKeepsWritable : Type 0
RecordKeepsWritable = (es next : Table) (r : Record) → AllByRecursion IsWritable es → InGrammar r → after_record r es ≡ Ok next → AllByRecursion IsWritable next

-- the record is one of the grammar, and what is recorded after it can be written again
pub record StaysWritable (r : Record) (after : List TableRow) : Type 0 where
  pub spelled : InGrammar r
  pub again : AreWritable after

-- a new file of an id, a name, a hint and a time in their ranges
abbrev pub CreateStaysWritable : Type 0
CreateStaysWritable = (rows : List TableRow) (id : ℕ) (name : List ℕ) (hint : ℕ) (sparse : Bool) (now : ℕ) → AreWritable rows
    → id < 2 ^ 64 - 1 → IsTrue (is_name name) → hint ≤ 5 → now < 2 ^ 64
    → StaysWritable (Update (new_entry id name hint sparse now)) (rows ++ new_row (new_entry id name hint sparse now) ∷ [])

-- one more name, which no file has
abbrev pub LinkStaysWritable : Type 0
LinkStaysWritable = (rows : List TableRow) (r : TableRow) (old new : List ℕ) → AreWritable rows → row_named old rows ≡ Some r → row_named new rows ≡ None
    → IsTrue (is_name new)
    → StaysWritable (entry_update (with_names (r.entry.names ++ new ∷ []) r).entry) (on_row r.entry.id (with_names (r.entry.names ++ new ∷ [])) rows)

-- another name
abbrev pub RenameStaysWritable : Type 0
RenameStaysWritable = (rows : List TableRow) (r : TableRow) (old new : List ℕ) → AreValid rows → AreWritable rows → row_named old rows ≡ Some r
    → IsTrue (is_name new)
    → StaysWritable (entry_update (entry_in r.entry.id (rows_renamed rows r old new) r.entry)) (rows_renamed rows r old new)

-- a name fewer
abbrev pub UnlinkStaysWritable : Type 0
UnlinkStaysWritable = (rows : List TableRow) (r : TableRow) (name : List ℕ) → AreWritable rows → row_named name rows ≡ Some r
    → StaysWritable (Deletion r.entry.id name) (drop_name name rows)

-- a commit of extents that have bytes, to a size and at a time in their ranges
abbrev pub CommitStaysWritable : Type 0
CommitStaysWritable = (rows : List TableRow) (r : TableRow) (now : ℕ) → AreValid rows → AreWritable rows → row_of r.entry.id rows ≡ Some r
    → now < 2 ^ 64 → AllByRecursion IsExtent r.unrecorded → r.entry.size + size_of r.unrecorded < 2 ^ 64
    → StaysWritable (commit_record now r) (on_row r.entry.id (committed now) rows)

-- a recovery point at an address
abbrev pub RecoveryPointStaysWritable : Type 0
RecoveryPointStaysWritable = (rows : List TableRow) (r : TableRow) (start : ℕ) → AreWritable rows → row_of r.entry.id rows ≡ Some r
    → start < 2 ^ 64 → StaysWritable (entry_update (with_recovery_point start r).entry) (on_row r.entry.id (with_recovery_point start) rows)

-- extents moved to addresses
abbrev pub ReplacementStaysWritable : Type 0
ReplacementStaysWritable = (rows : List TableRow) (r : TableRow) (moves : List Move) → AreWritable rows → row_of r.entry.id rows ≡ Some r
    → AllByRecursion (λ m. m.to < 2 ^ 64) moves → StaysWritable (Replace (moved moves r).entry) (on_row r.entry.id (moved moves) rows)
