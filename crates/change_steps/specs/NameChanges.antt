-- How new files, links, renames and deletions are refused for their names, and what they ask for behind that.
use Rattle.std.specs.Prelude.{◌≡◌, ℕ, ◌+◌, ◌-◌, ◌^◌, ◌==◌, Bool, true, false, List, [], ◌∷◌, ◌++◌, Some, None, Err}
use Rattle.record_model.specs.declared.types.FileEntry.{FileEntry}
use Rattle.record_model.specs.declared.types.Record.TheVariants as records
use Rattle.log_model.specs.Headroom.{blocks_of_record}
use Rattle.fs_model.specs.declared.error.FsError.TheVariants.{NotFound, Exists, IdsEnd}
use Rattle.fs_model.specs.FsState.{FsState, TableRow, row_named, on_row}
use Rattle.fs_model.specs.Trace.{Refines}
use Rattle.fs_model.specs.LogSteps.{block_of}
use Rattle.fs_model.specs.TreeSteps.{new_entry, new_row, create, with_names, entry_update, link, renamed_rows, entry_in, rename, delete}
use Rattle.change_steps.specs.Endings.{Asks, Demand, demand_of, demand_of_delete}

-- ---- new files

-- what a new file of this entry asks for
abbrev pub demand_of_entry : FsState → FileEntry → Demand
demand_of_entry s e = demand_of s (records.Update e) (s.rows ++ new_row e ∷ []) e.id

-- what a new file asks for
abbrev pub create_demand : FsState → List ℕ → ℕ → Bool → ℕ → Demand
create_demand s name hint sparse now = demand_of_entry s (new_entry (s.greatest + 1) name hint sparse now)

-- a file has the name already
abbrev pub CreateFindsName : Type 0
CreateFindsName = (s : FsState) (name : List ℕ) (hint : ℕ) (sparse : Bool) (now : ℕ) (r : TableRow) → row_named name s.rows ≡ Some r
    → Refines (create name hint sparse now) s (Err Exists) s

-- no id is left
abbrev pub CreateFindsNoId : Type 0
CreateFindsNoId = (s : FsState) (name : List ℕ) (hint : ℕ) (sparse : Bool) (now : ℕ) → row_named name s.rows ≡ None → (s.greatest == 2 ^ 64 - 2) ≡ true
    → Refines (create name hint sparse now) s (Err IdsEnd) s

-- else it asks for its record, and answers the next id
abbrev pub CreateAsks : Type 0
CreateAsks = (s : FsState) (name : List ℕ) (hint : ℕ) (sparse : Bool) (now : ℕ) → row_named name s.rows ≡ None → (s.greatest == 2 ^ 64 - 2) ≡ false
    → Asks (create name hint sparse now) (s.greatest + 1) (create_demand s name hint sparse now) s

-- ---- links

-- what one more name of a file asks for
abbrev pub link_demand : FsState → TableRow → List ℕ → Demand
link_demand s r new =
    demand_of s (entry_update (with_names (r.entry.names ++ new ∷ []) r).entry) (on_row r.entry.id (with_names (r.entry.names ++ new ∷ [])) s.rows) s.greatest

-- no file has the old name
abbrev pub LinkFindsNoFile : Type 0
LinkFindsNoFile = (s : FsState) (old new : List ℕ) → row_named old s.rows ≡ None → Refines (link old new) s (Err NotFound) s

-- a file has the new name already
abbrev pub LinkFindsName : Type 0
LinkFindsName = (s : FsState) (old new : List ℕ) (r other : TableRow) → row_named old s.rows ≡ Some r → row_named new s.rows ≡ Some other
    → Refines (link old new) s (Err Exists) s

-- else it asks for its record
abbrev pub LinkAsks : Type 0
LinkAsks = (s : FsState) (old new : List ℕ) (r : TableRow) → row_named old s.rows ≡ Some r → row_named new s.rows ≡ None
    → Asks (link old new) tt (link_demand s r new) s

-- ---- renames

-- what a change to the rows after a rename asks for
abbrev pub demand_of_rows : FsState → TableRow → List TableRow → Demand
demand_of_rows s r after = demand_of s (entry_update (entry_in r.entry.id after r.entry)) after s.greatest

-- what a rename asks for
abbrev pub rename_demand : FsState → TableRow → List ℕ → List ℕ → Demand
rename_demand s r old new = demand_of_rows s r (renamed_rows r (row_named new s.rows) old new s.rows)

-- no file has the old name
abbrev pub RenameFindsNoFile : Type 0
RenameFindsNoFile = (s : FsState) (old new : List ℕ) → row_named old s.rows ≡ None → Refines (rename old new) s (Err NotFound) s

-- else it asks for its record
abbrev pub RenameAsks : Type 0
RenameAsks = (s : FsState) (old new : List ℕ) (r : TableRow) → row_named old s.rows ≡ Some r → Asks (rename old new) tt (rename_demand s r old new) s

-- ---- deletions

-- what a deletion of a name of a file asks for
abbrev pub delete_demand : FsState → TableRow → List ℕ → Demand
delete_demand s r name = demand_of_delete s (blocks_of_record (block_of s) (records.Deletion r.entry.id name)) name

-- no file has the name
abbrev pub DeleteFindsNoFile : Type 0
DeleteFindsNoFile = (s : FsState) (name : List ℕ) → row_named name s.rows ≡ None → Refines (delete name) s (Err NotFound) s

-- else it asks for its record
abbrev pub DeleteAsks : Type 0
DeleteAsks = (s : FsState) (name : List ℕ) (r : TableRow) → row_named name s.rows ≡ Some r → Asks (delete name) tt (delete_demand s r name) s
