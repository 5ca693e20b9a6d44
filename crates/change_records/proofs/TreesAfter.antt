-- What is recorded after a change, with its bytes, is the recorded tree with the change made.
use Rattle.std.specs.Prelude.{◌≡◌, ℕ, Bool, true, false, cond, List, [], ◌∷◌, ◌++◌, Option, Some, None, Ok, option_map, ◌==◌, if◌then◌else◌, refl}
use Rattle.std.proofs.Common.{◌∙◌, ap, sym}
use Rattle.std.proofs.lemmas.Bool.{eq-eqb, eqb-true, eqb-false}
use Rattle.std.proofs.lemmas.List.{map-append}
use Rattle.std.specs.List.{AllByRecursion}
use Rattle.zone_image.specs.Image.{Image}
use Rattle.record_model.specs.declared.types.FileEntry.{FileEntry}
use Rattle.record_model.specs.declared.types.Record.{Record}
use Rattle.log_model.specs.FileTable.{file_of, is_among, has_right_size, after_record}
use Rattle.log_model.specs.FileTree.{Tree, Change, apply, id_of, rename_in, renamed, on_file}
use Rattle.log_model.specs.FileTree as trees
use Rattle.log_model.specs.FileTree.Change.{Create, Grow, Link, Rename, Unlink}
use Rattle.log_model.specs.Frames.{no_active, bytes_of}
use Rattle.log_model.specs.Mounted.{file_in, tree_of}
use Rattle.log_model.specs.TableLaws.{IsNameOf, ReplaysAs}
use Rattle.log_model.proofs.TableLaws.{tree_without}
use Rattle.log_model.proofs.ReplayLaws.{file_has, link_is_replayed, rename_is_replayed, rename_over_is_replayed, grow_is_replayed}
use Rattle.log_model.proofs.SelectedLog.{ok_is}
use Rattle.fs_model.specs.FsState.{TableRow, row_named, on_row}
use Rattle.fs_model.specs.TreeSteps.{new_entry, new_row, with_names, drop_name, renamed_rows}
use Rattle.fs_model.specs.FileSteps.{commit_time, committed, with_recovery_point, moved}
use Rattle.fs_model.proofs.TreeLaws.{all_map}
use Rattle.change_records.specs.Recorded.{entries, AreValid}
use Rattle.change_records.specs.TreesAfter.{CreateChangesTree, LinkChangesTree, RenameChangesTree, UnlinkChangesTree, CommitGrowsFile, RecoveryPointKeepsTree, ReplacementKeepsTree}
use Rattle.change_records.proofs.EntryLaws.{entries_dropped, named_row, unnamed, row_entry, only_row}
use Rattle.change_records.proofs.RenameRecords.{link_is_recorded, names_recorded, renamed_free, renamed_over, not_both}
use Rattle.change_records.proofs.DataRecords.{commit_is_recorded}

pub create_changes_tree : CreateChangesTree
unfolding apply
create_changes_tree rows id name hint sparse now i =
    ap (tree_of i) (map-append (λ r. r.entry) rows (new_row (new_entry id name hint sparse now) ∷ []))
    ∙ map-append (file_in i) (entries rows) (new_entry id name hint sparse now ∷ [])

pub unlink_changes_tree : UnlinkChangesTree
unfolding apply
unlink_changes_tree rows name i = ap (tree_of i) (entries_dropped name rows) ∙ tree_without i name (entries rows)

-- a record that replays as a change makes the changed tree
changed_by : (i : Image) (r : Record) (c : Change) (rows after : List TableRow) → after_record r (entries rows) ≡ Ok (entries after) → ReplaysAs i (entries rows) r c
    → tree_of i (entries after) ≡ apply c (tree_of i (entries rows))
changed_by i r c rows after made replays = ap (tree_of i) (ok_is (sym made ∙ replays.replayed)) ∙ replays.tree

-- one file in the tree, or those behind it
id_choice : (b : Bool) (q : TableRow) (later : Option TableRow) → cond b (Some q.entry.id) (option_map (λ r. r.entry.id) later) ≡ option_map (λ r. r.entry.id) (if b then Some q else later)
id_choice true q later = refl
id_choice false q later = refl

-- the recorded tree finds the row of a name
id_recorded : (i : Image) (name : List ℕ) (rows : List TableRow) → id_of name (tree_of i (entries rows)) ≡ option_map (λ r. r.entry.id) (row_named name rows)
id_recorded i name [] = refl
id_recorded i name (q ∷ qs) =
    ap (λ o. cond (is_among q.entry.names name) (Some q.entry.id) o) (id_recorded i name qs) ∙ id_choice (is_among q.entry.names name) q (row_named name qs)

-- the row of a name is its file
name_of_row : (i : Image) (name : List ℕ) (rows : List TableRow) (r : TableRow) → AreValid rows → row_named name rows ≡ Some r → IsNameOf i (entries rows) name r.entry
name_of_row i name rows r valid is =
    let row = named_row 0 name rows r valid.table.ids is in record {
      found = id_recorded i name rows ∙ ap (λ o. option_map (λ q. q.entry.id) o) is;
      entry = row.found;
      among = row.among;
    }

-- its size is right
right_size : (i : Image) (name : List ℕ) (rows : List TableRow) (e : FileEntry) → AreValid rows → IsNameOf i (entries rows) name e → has_right_size e ≡ true
right_size i name rows e valid it = file_has (λ f. has_right_size f ≡ true) e.id (entries rows) e valid.sized it.entry

pub link_changes_tree : LinkChangesTree
link_changes_tree rows r old new valid is none i =
    let it = name_of_row i old rows r valid is in
    changed_by i _ (Link old new) rows (on_row r.entry.id (with_names (r.entry.names ++ new ∷ [])) rows) (link_is_recorded rows r old new valid is none).replayed
    (link_is_replayed i (entries rows) r.entry old new valid.table it (right_size i old rows r.entry valid it) (unnamed new rows none))

-- a rename onto a name of another file, or of the file itself
rename_choice : (b : Bool) (i : Image) (rows : List TableRow) (r other : TableRow) (old new : List ℕ) → (other.entry.id == r.entry.id) ≡ b → AreValid rows → row_named old rows ≡ Some r
    → row_named new rows ≡ Some other
    → tree_of i (entries (if b then rows else on_row r.entry.id (with_names (renamed old new r.entry.names)) (drop_name new rows))) ≡ apply (Rename old new) (tree_of i (entries rows))
unfolding apply
rename_choice true i rows r other old new same valid is there =
    let fs : Tree = tree_of i (entries rows) in
    let mine = name_of_row i old rows r valid is in
    let theirs = name_of_row i new rows other valid there in
    sym (ap (λ o. rename_in o (id_of new fs) old new fs) mine.found
    ∙ ap (λ o. rename_in (Some r.entry.id) o old new fs) theirs.found
    ∙ ap (λ b. cond b fs (on_file r.entry.id (λ f. record f { names = renamed old new f.names }) (trees.drop_name new fs))) (eq-eqb r.entry.id other.entry.id (sym (eqb-true other.entry.id r.entry.id same))))
rename_choice false i rows r other old new same valid is there =
    let differs = eqb-false other.entry.id r.entry.id same in
    let it = name_of_row i old rows r valid is in
    let absent = not_both rows r other old new valid is there differs in
    changed_by i _ (Rename old new) rows (on_row r.entry.id (with_names (renamed old new r.entry.names)) (drop_name new rows))
    (names_recorded rows (drop_name new rows) r (renamed old new r.entry.names) new (renamed_over rows r other old new valid is there differs)).replayed
    (rename_over_is_replayed i (entries rows) r.entry other.entry old new valid.table it (right_size i old rows r.entry valid it) (name_of_row i new rows other valid there)
    (λ same. differs (sym same)) absent)

-- a rename, by who has the new name
rename_cases : (there : Option TableRow) (i : Image) (rows : List TableRow) (r : TableRow) (old new : List ℕ) → AreValid rows → row_named old rows ≡ Some r → row_named new rows ≡ there
    → tree_of i (entries (renamed_rows r there old new rows)) ≡ apply (Rename old new) (tree_of i (entries rows))
rename_cases None i rows r old new valid is none =
    let it = name_of_row i old rows r valid is in
    changed_by i _ (Rename old new) rows (on_row r.entry.id (with_names (renamed old new r.entry.names)) rows) (names_recorded rows rows r (renamed old new r.entry.names) new (renamed_free rows r old new valid is none)).replayed
    (rename_is_replayed i (entries rows) r.entry old new valid.table it (right_size i old rows r.entry valid it) (unnamed new rows none)
    (id_recorded i new rows ∙ ap (λ o. option_map (λ q. q.entry.id) o) none))
rename_cases (Some other) i rows r old new valid is there = rename_choice (other.entry.id == r.entry.id) i rows r other old new refl valid is there

pub rename_changes_tree : RenameChangesTree
rename_changes_tree rows r old new valid is i = rename_cases (row_named new rows) i rows r old new valid is refl

-- ---- data

pub commit_grows_file : CommitGrowsFile
commit_grows_file rows r now valid is i =
    let found : file_of r.entry.id (entries rows) ≡ Some r.entry = sym (row_entry r.entry.id rows) ∙ ap (λ o. option_map (λ q. q.entry) o) is in
    changed_by i _ (Grow r.entry.id (bytes_of i (r.entry.extents ++ r.unrecorded)) (commit_time now r)) rows (on_row r.entry.id (committed now) rows)
    (commit_is_recorded rows r now valid is).replayed
    (grow_is_replayed i (entries rows) r.entry r.unrecorded (commit_time now r) no_active valid.table found
    (file_has (λ f. has_right_size f ≡ true) r.entry.id (entries rows) r.entry valid.sized found))

-- a changed row that shows the same file
shown_choice : (b : Bool) (i : Image) (change : TableRow → TableRow) (q : TableRow) → (b ≡ true → file_in i (change q).entry ≡ file_in i q.entry)
    → file_in i (if b then change q else q).entry ≡ file_in i q.entry
shown_choice true i change q same = same refl
shown_choice false i change q same = refl

-- changed rows that show the same files
same_tree : (i : Image) (id : ℕ) (change : TableRow → TableRow) (rows : List TableRow) → AllByRecursion (λ q. q.entry.id ≡ id → file_in i (change q).entry ≡ file_in i q.entry) rows
    → tree_of i (entries (on_row id change rows)) ≡ tree_of i (entries rows)
same_tree i id change [] same = refl
same_tree i id change (q ∷ qs) same =
    ap (λ f. f ∷ tree_of i (entries (on_row id change qs))) (shown_choice (q.entry.id == id) i change q (λ is. same.0 (eqb-true q.entry.id id is)))
    ∙ ap (λ fs. file_in i q.entry ∷ fs) (same_tree i id change qs same.1)

-- of each row
each_row : (P : TableRow → Type 0) (rows : List TableRow) → ((q : TableRow) → P q) → AllByRecursion P rows
each_row P [] h = tt
each_row P (q ∷ qs) h = (h q, each_row P qs h)

pub recovery_point_keeps_tree : RecoveryPointKeepsTree
recovery_point_keeps_tree rows id start i =
    same_tree i id (with_recovery_point start) rows (each_row (λ q. q.entry.id ≡ id → file_in i (with_recovery_point start q).entry ≡ file_in i q.entry) rows (λ q at. refl))

pub replacement_keeps_tree : ReplacementKeepsTree
replacement_keeps_tree rows r moves valid is i bytes =
    same_tree i r.entry.id (moved moves) rows
    (all_map (λ q. q.entry.id ≡ r.entry.id → q ≡ r) (λ q. q.entry.id ≡ r.entry.id → file_in i (moved moves q).entry ≡ file_in i q.entry) rows
    (λ q only at. ap (λ p. file_in i (moved moves p).entry) (only at) ∙ ap (λ b. record (file_in i r.entry) { bytes = b }) bytes ∙ ap (λ p. file_in i p.entry) (sym (only at)))
    (only_row 0 r.entry.id rows r valid.table.ids is))
