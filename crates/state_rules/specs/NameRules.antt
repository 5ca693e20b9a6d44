-- Changes of names keep the rules.
use Rattle.std.specs.Prelude.{◌≡◌, ℕ, ◌+◌, ◌-◌, ◌^◌, ◌<◌, ◌≤◌, Bool, List, [], ◌∷◌, ◌++◌, Some, None, IsTrue}
use Rattle.record_model.specs.Name.{is_name}
use Rattle.fs_model.specs.FsState.{FsState, TableRow, row_named, on_row}
use Rattle.fs_model.specs.TreeSteps.{new_entry, new_row, with_names, drop_name}
use Rattle.change_records.specs.NameRecords.{rows_renamed}
use Rattle.state_rules.specs.Rules.{KeepsRules}

-- the state with these files
abbrev pub with_rows : FsState → List TableRow → FsState
with_rows s rows = record s { rows = rows }

-- the state with a new file
abbrev pub with_file : FsState → List ℕ → ℕ → Bool → ℕ → FsState
with_file s name hint sparse now =
    record s { rows = s.rows ++ new_row (new_entry (s.greatest + 1) name hint sparse now) ∷ []; greatest = s.greatest + 1 }

-- a new file, of a name that no file has
abbrev pub CreateKeepsRules : Type 0
CreateKeepsRules = (s : FsState) (name : List ℕ) (hint : ℕ) (sparse : Bool) (now : ℕ) → KeepsRules s → row_named name s.rows ≡ None
    → s.greatest + 1 < 2 ^ 64 - 1 → IsTrue (is_name name) → hint ≤ 5 → now < 2 ^ 64 → KeepsRules (with_file s name hint sparse now)

-- one more name, which no file has
abbrev pub LinkKeepsRules : Type 0
LinkKeepsRules = (s : FsState) (r : TableRow) (old new : List ℕ) → KeepsRules s → row_named old s.rows ≡ Some r → row_named new s.rows ≡ None
    → IsTrue (is_name new) → KeepsRules (with_rows s (on_row r.entry.id (with_names (r.entry.names ++ new ∷ [])) s.rows))

-- another name
abbrev pub RenameKeepsRules : Type 0
RenameKeepsRules = (s : FsState) (r : TableRow) (old new : List ℕ) → KeepsRules s → row_named old s.rows ≡ Some r
    → IsTrue (is_name new) → KeepsRules (with_rows s (rows_renamed s.rows r old new))

-- a name fewer
abbrev pub UnlinkKeepsRules : Type 0
UnlinkKeepsRules = (s : FsState) (r : TableRow) (name : List ℕ) → KeepsRules s → row_named name s.rows ≡ Some r
    → KeepsRules (with_rows s (drop_name name s.rows))
