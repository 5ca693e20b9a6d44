-- Steps on files leave the others alone.
use Rattle.std.specs.Prelude.{◌≡◌, ℕ, Bool, true, false, ◌==◌, List, [], ◌∷◌, ◌++◌, map, filter, Option, Some, None, refl, if◌then◌else◌}
use Rattle.std.proofs.Common.{sym, ◌∙◌, ap, inl}
use Rattle.std.proofs.lemmas.Bool.{false≢true, eqb-true}
use Rattle.fs_model.specs.FsState.{FsState, TableRow, on_row}
use Rattle.fs_model.specs.TreeSteps.{with_names, drop_name, renamed_rows}
use Rattle.log_model.specs.FileTable.{is_named, names_left}
use Rattle.log_model.specs.FileTree.{renamed}
use Rattle.fs_model.specs.LogSteps.{set_rows}
use Rattle.fs_model.specs.Untouched.{SameFile, WasThere, KeepsFiles, is_one_of}
use Rattle.fs_model.proofs.KeptStates.{Keeps, keeps_step, files_stay, same_file, files_more, files_then}

-- a step that keeps files
pub keeps_rows : {zones ids : List ℕ} {s : FsState} → (f : List TableRow → List TableRow) → KeepsFiles ids s.rows (f s.rows) → Keeps zones ids (set_rows f) s
keeps_rows f kept = keeps_step (λ t. record t { rows = f t.rows }) (λ low. record { log = low; zones = λ n data_zone out held. refl; files = kept })

-- files with other names
pub files_renamed : (ids : List ℕ) (g : TableRow → TableRow) (rows : List TableRow) → ((r : TableRow) → SameFile (g r) r) → KeepsFiles ids rows (map g rows)
files_renamed ids g [] same = tt
files_renamed ids g (r ∷ rs) same = (λ out. inl (same r), files_more ids r rs (map g rs) (files_renamed ids g rs same))

-- one of two
either : (c : Bool) (a b r : TableRow) → SameFile a r → SameFile b r → SameFile (if c then a else b) r
either true a b r h k = h
either false a b r h k = k

-- one file with other names
pub row_renamed : (ids : List ℕ) (id : ℕ) (g : TableRow → TableRow) (rows : List TableRow) → ((r : TableRow) → SameFile (g r) r) → KeepsFiles ids rows (on_row id g rows)
row_renamed ids id g rows same =
    files_renamed ids (λ r. if r.entry.id == id then g r else r) rows (λ r. either (r.entry.id == id) (g r) r r (same r) (same_file r))

-- a change of one file that is named
pub row_changed : (ids : List ℕ) (id : ℕ) (g : TableRow → TableRow) (rows : List TableRow) → is_one_of ids id ≡ true
    → ((r : TableRow) → (g r).entry.id ≡ r.entry.id) → KeepsFiles ids rows (on_row id g rows)
row_changed ids id g [] named same = tt
row_changed ids id g (r ∷ rs) named same =
    (λ out. inl (pick (r.entry.id == id) refl out), files_more ids r rs (on_row id g rs) (row_changed ids id g rs named same))
  where
    pick : (c : Bool) → (r.entry.id == id) ≡ c → is_one_of ids (if c then g r else r).entry.id ≡ false → SameFile (if c then g r else r) r
    pick false is out = same_file r
    pick true is out = absurd (false≢true (sym out ∙ ap (λ n. is_one_of ids n) (same r ∙ eqb-true r.entry.id id is) ∙ named))

-- a file that is there or not
maybe_there : (ids : List ℕ) (there : Bool) (r : TableRow) (before rs : List TableRow) → (is_one_of ids r.entry.id ≡ false → WasThere before r)
    → KeepsFiles ids before rs → KeepsFiles ids before (if there then r ∷ rs else rs)
maybe_there ids true r before rs h rest = (h, rest)
maybe_there ids false r before rs h rest = rest

-- files of which some are gone
files_filtered : (ids : List ℕ) (test : TableRow → Bool) (before rs : List TableRow) → KeepsFiles ids before rs → KeepsFiles ids before (filter test rs)
files_filtered ids test before [] h = tt
files_filtered ids test before (r ∷ rs) h = maybe_there ids (test r) r before (filter test rs) h.0 (files_filtered ids test before rs h.1)

-- files that lost a name
pub name_dropped : (ids : List ℕ) (name : List ℕ) (rows : List TableRow) → KeepsFiles ids rows (drop_name name rows)
name_dropped ids name rows =
    let g : TableRow → TableRow = λ r. with_names (names_left (name ∷ []) r.entry.names) r in
    files_filtered ids (λ r. is_named r.entry) rows (map g rows) (files_renamed ids g rows (λ r. same_but_names (names_left (name ∷ []) r.entry.names) r))
  where
    same_but_names : (names : List (List ℕ)) (r : TableRow) → SameFile (with_names names r) r
    same_but_names names r = record { id = refl; recorded = refl; unrecorded = refl; shown = refl; recovery_point = refl }

-- a file that is named stands at the end
pub file_added : (ids : List ℕ) (new : TableRow) (before rs : List TableRow) → is_one_of ids new.entry.id ≡ true → KeepsFiles ids before rs → KeepsFiles ids before (rs ++ new ∷ [])
file_added ids new before [] named h = (λ out. absurd (false≢true (sym out ∙ named)), tt)
file_added ids new before (r ∷ rs) named h = (h.0, file_added ids new before rs named h.1)

-- a file with one more name, or one in place of another
pub names_set : (ids : List ℕ) (id : ℕ) (names : List (List ℕ)) (rows : List TableRow) → KeepsFiles ids rows (on_row id (with_names names) rows)
names_set ids id names rows =
    row_renamed ids id (with_names names) rows (λ r. record { id = refl; recorded = refl; unrecorded = refl; shown = refl; recovery_point = refl })

-- the files after a rename that takes the name from another
abbrev taken_over : TableRow → List ℕ → List ℕ → List TableRow → List TableRow
taken_over r old new rows = on_row r.entry.id (with_names (renamed old new r.entry.names)) (drop_name new rows)

-- it changes names alone
taken_over_kept : (ids : List ℕ) (r : TableRow) (old new : List ℕ) (rows : List TableRow) → KeepsFiles ids rows (taken_over r old new rows)
taken_over_kept ids r old new rows =
    files_then ids rows (drop_name new rows) (taken_over r old new rows) (name_dropped ids new rows)
    (names_set ids r.entry.id (renamed old new r.entry.names) (drop_name new rows))

-- a rename
pub rows_renamed : (ids : List ℕ) (r : TableRow) (there : Option TableRow) (old new : List ℕ) (rows : List TableRow) → KeepsFiles ids rows (renamed_rows r there old new rows)
rows_renamed ids r None old new rows = names_set ids r.entry.id (renamed old new r.entry.names) rows
rows_renamed ids r (Some other) old new rows = pick (other.entry.id == r.entry.id)
  where
    pick : (c : Bool) → KeepsFiles ids rows (if c then rows else taken_over r old new rows)
    pick true = files_stay ids rows
    pick false = taken_over_kept ids r old new rows
