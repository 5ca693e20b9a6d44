-- Rows without recovery points: their names and ids are the same, and changes of names do the same to them.
use Rattle.std.specs.Prelude.{◌≡◌, ℕ, ◌==◌, Bool, true, false, cond, List, [], ◌∷◌, ◌++◌, map, Option, Some, None, option_map, unwrap_or, refl}
use Rattle.std.proofs.Common.{◌∙◌, ap}
use Rattle.record_model.specs.declared.types.FileEntry.{FileEntry}
use Rattle.log_model.specs.Frames.{no_active}
use Rattle.log_model.specs.FileTable.{is_among, is_named, names_left}
use Rattle.log_model.specs.FileTree.{renamed}
use Rattle.fs_model.specs.FsState.{TableRow, row_named, row_of, on_row, working_entry, working_of}
use Rattle.fs_model.specs.TreeSteps.{cleared, with_names, drop_name, renamed_rows, entry_in}

-- an entry without its recovery point
abbrev pub clear : FileEntry → FileEntry
clear e = record e { active = no_active }

-- one of two rows
row_either : (b : Bool) (r : TableRow) (rest rest_cleared : Option TableRow) → rest_cleared ≡ option_map cleared rest
    → cond b (Some (cleared r)) rest_cleared ≡ option_map cleared (cond b (Some r) rest)
row_either true r rest rest_cleared is = refl
row_either false r rest rest_cleared is = is

-- the row of a name
pub named_cleared : (name : List ℕ) (rows : List TableRow) → row_named name (map cleared rows) ≡ option_map cleared (row_named name rows)
named_cleared name [] = refl
named_cleared name (r ∷ rs) = row_either (is_among r.entry.names name) r (row_named name rs) (row_named name (map cleared rs)) (named_cleared name rs)

-- the row of an id
pub of_cleared : (id : ℕ) (rows : List TableRow) → row_of id (map cleared rows) ≡ option_map cleared (row_of id rows)
of_cleared id [] = refl
of_cleared id (r ∷ rs) = row_either (r.entry.id == id) r (row_of id rs) (row_of id (map cleared rs)) (of_cleared id rs)

-- other names for one of two rows
names_either : (b : Bool) (names : List (List ℕ)) (r : TableRow)
    → cond b (with_names names (cleared r)) (cleared r) ≡ cleared (cond b (with_names names r) r)
names_either true names r = refl
names_either false names r = refl

-- other names for the row of an id
pub on_cleared : (id : ℕ) (names : List (List ℕ)) (rows : List TableRow) → on_row id (with_names names) (map cleared rows) ≡ map cleared (on_row id (with_names names) rows)
on_cleared id names [] = refl
on_cleared id names (r ∷ rs) =
    let rest = on_row id (with_names names) (map cleared rs) in
    ap (λ q. q ∷ rest) (names_either (r.entry.id == id) names r)
    ∙ ap (λ qs. cleared (cond (r.entry.id == id) (with_names names r) r) ∷ qs) (on_cleared id names rs)

-- a row, or none, in front of others
front_either : (b : Bool) (r : TableRow) (rest rest_cleared : List TableRow) → rest_cleared ≡ map cleared rest
    → cond b (cleared r ∷ rest_cleared) rest_cleared ≡ map cleared (cond b (r ∷ rest) rest)
front_either true r rest rest_cleared is = ap (λ qs. cleared r ∷ qs) is
front_either false r rest rest_cleared is = is

-- a name is taken away
pub drop_cleared : (name : List ℕ) (rows : List TableRow) → drop_name name (map cleared rows) ≡ map cleared (drop_name name rows)
drop_cleared name [] = refl
drop_cleared name (r ∷ rs) =
    let left : TableRow = with_names (names_left (name ∷ []) r.entry.names) r in
    front_either (is_named left.entry) left (drop_name name rs) (drop_name name (map cleared rs)) (drop_cleared name rs)

-- one of two lists of rows
rows_either : (b : Bool) (rows others others_cleared : List TableRow) → others_cleared ≡ map cleared others
    → cond b (map cleared rows) others_cleared ≡ map cleared (cond b rows others)
rows_either true rows others others_cleared is = refl
rows_either false rows others others_cleared is = is

-- the rows after a rename
pub renamed_cleared : (r : TableRow) (there : Option TableRow) (old new : List ℕ) (rows : List TableRow)
    → renamed_rows (cleared r) (option_map cleared there) old new (map cleared rows) ≡ map cleared (renamed_rows r there old new rows)
renamed_cleared r None old new rows = on_cleared r.entry.id (renamed old new r.entry.names) rows
renamed_cleared r (Some other) old new rows =
    let names : List (List ℕ) = renamed old new r.entry.names in
    rows_either (other.entry.id == r.entry.id) rows (on_row r.entry.id (with_names names) (drop_name new rows))
    (on_row r.entry.id (with_names names) (drop_name new (map cleared rows)))
    (ap (λ qs. on_row r.entry.id (with_names names) qs) (drop_cleared new rows) ∙ on_cleared r.entry.id names (drop_name new rows))

-- the entry of a row that may be found, or another
found_cleared : (there : Option TableRow) (e : FileEntry)
    → unwrap_or (option_map (λ r. r.entry) (option_map cleared there)) (clear e) ≡ clear (unwrap_or (option_map (λ r. r.entry) there) e)
found_cleared None e = refl
found_cleared (Some r) e = refl

-- the entry of an id
pub entry_cleared : (id : ℕ) (rows : List TableRow) (e : FileEntry) → entry_in id (map cleared rows) (clear e) ≡ clear (entry_in id rows e)
entry_cleared id rows e =
    let f : Option TableRow → FileEntry = λ there. unwrap_or (option_map (λ r. r.entry) there) (clear e) in
    ap f (of_cleared id rows) ∙ found_cleared (row_of id rows) e

-- one more row
pub more_cleared : (rows : List TableRow) (r : TableRow) → map cleared (rows ++ r ∷ []) ≡ map cleared rows ++ cleared r ∷ []
more_cleared [] r = refl
more_cleared (q ∷ qs) r = ap (λ rest. cleared q ∷ rest) (more_cleared qs r)

-- the entries of rows
pub entries_cleared : (rows : List TableRow) → map (λ r. r.entry) (map cleared rows) ≡ map clear (map (λ r. r.entry) rows)
entries_cleared [] = refl
entries_cleared (r ∷ rs) = ap (λ es. clear r.entry ∷ es) (entries_cleared rs)

-- and with what isn't recorded
pub working_cleared : (rows : List TableRow) → working_of (map cleared rows) ≡ map clear (working_of rows)
working_cleared [] = refl
working_cleared (r ∷ rs) = ap (λ es. clear (working_entry r) ∷ es) (working_cleared rs)
