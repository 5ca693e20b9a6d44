-- Changes of names set no recovery point.
use Rattle.std.specs.Prelude.{◌≡◌, ℕ, Bool, true, false, List, [], ◌∷◌, Option, Some, None, ◌==◌, if◌then◌else◌, refl}
use Rattle.log_model.specs.FileTable.{is_named, names_left}
use Rattle.log_model.specs.FileTree.{renamed}
use Rattle.log_model.specs.Frames.{no_active}
use Rattle.fs_model.specs.FsState.{TableRow, on_row, row_named}
use Rattle.fs_model.specs.TreeSteps.{drop_name, renamed_rows, with_names}
use Rattle.change_records.specs.Recorded.{entries}
use Rattle.change_cover.specs.Rests.{HaveNoPoints}
use Rattle.change_cover.specs.NameChanges.{CreateSetsNoPoint, NamesSetNoPoint, UnlinkSetsNoPoint, RenameSetsNoPoint}

pub create_sets_no_point : CreateSetsNoPoint
create_sets_no_point [] id name hint sparse now points = (refl, tt)
create_sets_no_point (q ∷ qs) id name hint sparse now points = (points.0, create_sets_no_point qs id name hint sparse now points.1)

-- a row with other names, or not
names_choice : (b : Bool) (names : List (List ℕ)) (q : TableRow) → q.entry.active ≡ no_active → (if b then with_names names q else q).entry.active ≡ no_active
names_choice true names q unset = unset
names_choice false names q unset = unset

pub names_set_no_point : NamesSetNoPoint
names_set_no_point [] id names points = tt
names_set_no_point (q ∷ qs) id names points = (names_choice (q.entry.id == id) names q points.0, names_set_no_point qs id names points.1)

-- a row, or none, in front of others
kept_choice : (b : Bool) (q : TableRow) (qs : List TableRow) → q.entry.active ≡ no_active → HaveNoPoints (entries qs) → HaveNoPoints (entries (if b then q ∷ qs else qs))
kept_choice true q qs unset points = (unset, points)
kept_choice false q qs unset points = points

pub unlink_sets_no_point : UnlinkSetsNoPoint
unlink_sets_no_point [] name points = tt
unlink_sets_no_point (q ∷ qs) name points =
    let left : TableRow = with_names (names_left (name ∷ []) q.entry.names) q in
    kept_choice (is_named left.entry) left (drop_name name qs) points.0 (unlink_sets_no_point qs name points.1)

-- the same rows, or those without the name and with the file renamed
same_choice : (b : Bool) (rows other : List TableRow) → HaveNoPoints (entries rows) → HaveNoPoints (entries other) → HaveNoPoints (entries (if b then rows else other))
same_choice true rows other points others = points
same_choice false rows other points others = others

-- by the file that has the new name
rename_cases : (found : Option TableRow) (rows : List TableRow) (r : TableRow) (old new : List ℕ) → HaveNoPoints (entries rows)
    → HaveNoPoints (entries (renamed_rows r found old new rows))
rename_cases None rows r old new points = names_set_no_point rows r.entry.id (renamed old new r.entry.names) points
rename_cases (Some other) rows r old new points =
    same_choice (other.entry.id == r.entry.id) rows (on_row r.entry.id (with_names (renamed old new r.entry.names)) (drop_name new rows)) points
    (names_set_no_point (drop_name new rows) r.entry.id (renamed old new r.entry.names) (unlink_sets_no_point rows new points))

pub rename_sets_no_point : RenameSetsNoPoint
rename_sets_no_point rows r old new points = rename_cases (row_named new rows) rows r old new points
