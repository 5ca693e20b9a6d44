-- The records of other names of a file make what the rows after them record.
use Rattle.std.specs.Prelude.{◌≡◌, ◌≢◌, ℕ, Bool, true, false, ◌||◌, cond, List, [], ◌∷◌, ◌++◌, length, Option, Some, None, Ok, ◌==◌, if◌then◌else◌, nat_lt, unwrap_or, refl}
use Rattle.std.proofs.Common.{◌∙◌, ap, sym, subst, arith, length-append}
use Rattle.std.proofs.lemmas.List.{length-map}
use Rattle.std.proofs.lemmas.Bool.{eq-eqb, lt-ltb, ltb-true, eqb-true, eqb-false, or_parts}
use Rattle.std.proofs.lemmas.Slice.Eq.{bytes_eq-Decides}
use Rattle.std.specs.List.{AllByRecursion, list_any}
use Rattle.std.specs.Str.{bytes_eq}
use Rattle.record_model.specs.declared.types.FileEntry.{FileEntry}
use Rattle.record_model.specs.declared.types.Record.TheVariants.{Update}
use Rattle.log_model.specs.FileTable.{Table, file_of, is_among, is_named, names_left, take_names, set_entry, shares_name, has_right_size, grown, after_record}
use Rattle.log_model.specs.FileTree.{renamed}
use Rattle.log_model.specs.TableLaws.{IdsRise, IsTable}
use Rattle.log_model.specs.TableLaws as logs
use Rattle.log_model.proofs.TableLaws.{put_in, only_file, nothing_lost, rise_taken, file_taken}
use Rattle.log_model.proofs.ReplayLaws.{file_has, all_from, placed, update_known, names_update, left_append, unused_kept, unused_table, renamed_left, same_names}
use Rattle.fs_model.specs.FsState.{TableRow, row_named, on_row}
use Rattle.fs_model.specs.TreeSteps.{with_names, entry_update, drop_name, renamed_rows, entry_in}
use Rattle.change_records.specs.Recorded.{entries, AreValid, Makes}
use Rattle.change_records.specs.NameRecords.{LinkIsRecorded, RenameIsRecorded}
use Rattle.change_records.proofs.EntryLaws.{made_by, entries_dropped, named_row, unnamed, entries_set, all_rows, row_entry}

-- the same entry with other names
abbrev renamed_to : FileEntry → List (List ℕ) → FileEntry
renamed_to e names = record e { names = names }

-- an update of a file's names, where the others lose no more than some, and the file none of these
names_replayed : (es : Table) (e : FileEntry) (names taken : List (List ℕ)) → IsTable es → file_of e.id es ≡ Some e
    → has_right_size e ≡ true → names_left taken e.names ≡ e.names
    → AllByRecursion (λ f. f.id ≢ e.id → names_left names f.names ≡ names_left taken f.names) es
    → after_record (Update (logs.with_names e names)) es ≡ Ok (put_in (renamed_to e names) (take_names taken es))
names_replayed es e names taken table is right kept same =
    let named : is_named e ≡ true = file_has (λ f. is_named f ≡ true) e.id es e table.named is in
    let still : file_of e.id (take_names taken es) ≡ Some e = file_taken e.id taken e es kept named is in
    let right_again : has_right_size (grown (Some e) (logs.with_names e names)) ≡ true = ap has_right_size (names_update e names) ∙ right in
    update_known (logs.with_names e names) e es is right_again
    ∙ ap (λ x. Ok x) (ap (λ g. set_entry g es) (names_update e names) ∙ placed taken (renamed_to e names) e es table.ids still same)

-- rows of which one gets other names record it in the place of its entry
entries_renamed : (rows : List TableRow) (r : TableRow) (names : List (List ℕ)) → IdsRise 0 (entries rows) → file_of r.entry.id (entries rows) ≡ Some r.entry
    → entries (on_row r.entry.id (with_names names) rows) ≡ put_in (renamed_to r.entry names) (entries rows)
entries_renamed rows r names rise found =
    entries_set (with_names names) (renamed_to r.entry names) rows
    (all_rows (λ f. f.id ≡ r.entry.id → f ≡ r.entry) (λ q. q.entry.id ≡ r.entry.id → (with_names names q).entry ≡ renamed_to r.entry names) rows
    (λ q only at. ap (λ f. renamed_to f names) (only at)) (only_file 0 r.entry.id r.entry (entries rows) rise found))

-- a file that gets other names, of which one is new to it and taken from the rows before
pub record GetsNames (rows before : List TableRow) (r : TableRow) (names : List (List ℕ)) (new : List ℕ) : Type 0 where
  pub valid : AreValid rows
  pub found : file_of r.entry.id (entries rows) ≡ Some r.entry
  pub taken : entries before ≡ take_names (new ∷ []) (entries rows)
  pub absent : is_among r.entry.names new ≡ false
  pub some : nat_lt 0 (length names) ≡ true
  pub others : AllByRecursion (λ f. f.id ≢ r.entry.id → names_left names f.names ≡ names_left (new ∷ []) f.names) (entries rows)

-- the file is among the rows before still
still_found : (rows before : List TableRow) (r : TableRow) (names : List (List ℕ)) (new : List ℕ) → GetsNames rows before r names new → file_of r.entry.id (entries before) ≡ Some r.entry
still_found rows before r names new gets =
    ap (file_of r.entry.id) gets.taken
    ∙ file_taken r.entry.id (new ∷ []) r.entry (entries rows) (unused_kept r.entry.names new gets.absent)
    (file_has (λ f. is_named f ≡ true) r.entry.id (entries rows) r.entry gets.valid.table.named gets.found) gets.found

-- what the rows after it record
after_names : (rows before : List TableRow) (r : TableRow) (names : List (List ℕ)) (new : List ℕ) → GetsNames rows before r names new
    → entries (on_row r.entry.id (with_names names) before) ≡ put_in (renamed_to r.entry names) (entries before)
after_names rows before r names new gets =
    entries_renamed before r names
    (subst (λ es. IdsRise 0 es) (sym gets.taken) (rise_taken 0 (new ∷ []) (entries rows) gets.valid.table.ids))
    (still_found rows before r names new gets)

-- the update of its names makes that
pub names_recorded : (rows before : List TableRow) (r : TableRow) (names : List (List ℕ)) (new : List ℕ) → GetsNames rows before r names new
    → Makes (entry_update (with_names names r).entry) rows (on_row r.entry.id (with_names names) before)
names_recorded rows before r names new gets =
    let e : FileEntry = r.entry in
    let right : has_right_size e ≡ true = file_has (λ f. has_right_size f ≡ true) e.id (entries rows) e gets.valid.sized gets.found in
    made_by (entry_update (with_names names r).entry) rows (on_row e.id (with_names names) before) gets.valid gets.some
    (names_replayed (entries rows) e names (new ∷ []) gets.valid.table gets.found right (unused_kept e.names new gets.absent) gets.others
    ∙ ap (λ es. Ok es) (ap (put_in (renamed_to e names)) (sym gets.taken) ∙ sym (after_names rows before r names new gets)))

-- a name that no row has isn't the file's
not_its_own : (rows : List TableRow) (r : TableRow) (new : List ℕ) → row_named new rows ≡ None → file_of r.entry.id (entries rows) ≡ Some r.entry → is_among r.entry.names new ≡ false
not_its_own rows r new none found =
    file_has (λ f. is_among f.names new ≡ false) r.entry.id (entries rows) r.entry (unnamed new rows none) found

pub link_is_recorded : LinkIsRecorded
link_is_recorded rows r old new valid is none =
    let row = named_row 0 old rows r valid.table.ids is in
    names_recorded rows rows r (r.entry.names ++ new ∷ []) new (record {
      valid = valid;
      found = row.found;
      taken = sym (unused_table new (entries rows) valid.table (unnamed new rows none));
      absent = not_its_own rows r new none row.found;
      some = lt-ltb 0 (length (r.entry.names ++ new ∷ [])) (omega (arith, length-append r.entry.names (new ∷ [])));
      others =
          all_from (λ f. f.id ≢ r.entry.id → shares_name r.entry f ≡ false) (λ f. f.id ≢ r.entry.id → names_left (r.entry.names ++ new ∷ []) f.names ≡ names_left (new ∷ []) f.names) (entries rows)
          (λ f apart other. left_append r.entry.names (new ∷ []) f.names ∙ ap (names_left (new ∷ [])) (nothing_lost r.entry f (apart other)))
          (valid.table.apart r.entry row.found);
    })

-- ---- renames

-- an entry in the place of one stands under its id
put_head : (b : Bool) (e f old : FileEntry) (fs : Table) → (f.id == e.id) ≡ b → (file_of e.id fs ≡ Some old → file_of e.id (put_in e fs) ≡ Some e)
    → cond b (Some f) (file_of e.id fs) ≡ Some old → file_of e.id (cond b e f ∷ put_in e fs) ≡ Some e
put_head true e f old fs test behind is = ap (λ b. cond b (Some e) (file_of e.id (put_in e fs))) (eq-eqb e.id e.id refl)
put_head false e f old fs test behind is = ap (λ b. cond b (Some f) (file_of e.id (put_in e fs))) test ∙ behind is

-- the same in a whole table
put_found : (e old : FileEntry) (es : Table) → file_of e.id es ≡ Some old → file_of e.id (put_in e es) ≡ Some e
put_found e old [] is = absurd cc
put_found e old (f ∷ fs) is = put_head (f.id == e.id) e f old fs refl (put_found e old fs) is

-- what the rows record under an id
pub entry_found : (id : ℕ) (rows : List TableRow) (e other : FileEntry) → file_of id (entries rows) ≡ Some e → entry_in id rows other ≡ e
entry_found id rows e other is = ap (λ o. unwrap_or o other) (row_entry id rows ∙ is)

-- the file's entry after it
pub entry_after : (rows before : List TableRow) (r : TableRow) (names : List (List ℕ)) (new : List ℕ) → GetsNames rows before r names new
    → entry_in r.entry.id (on_row r.entry.id (with_names names) before) r.entry ≡ (with_names names r).entry
entry_after rows before r names new gets =
    entry_found r.entry.id (on_row r.entry.id (with_names names) before) (renamed_to r.entry names) r.entry
    (ap (file_of r.entry.id) (after_names rows before r names new gets)
    ∙ put_found (renamed_to r.entry names) r.entry (entries before) (still_found rows before r names new gets))

-- the update of the entry that the rows after it record
renamed_recorded : (rows before : List TableRow) (r : TableRow) (names : List (List ℕ)) (new : List ℕ) → GetsNames rows before r names new
    → Makes (entry_update (entry_in r.entry.id (on_row r.entry.id (with_names names) before) r.entry)) rows (on_row r.entry.id (with_names names) before)
renamed_recorded rows before r names new gets =
    subst (λ e. Makes (entry_update e) rows (on_row r.entry.id (with_names names) before)) (sym (entry_after rows before r names new gets)) (names_recorded rows before r names new gets)

-- a renamed list has as many names
renamed_some : (old new : List ℕ) (e : FileEntry) → is_named e ≡ true → nat_lt 0 (length (renamed old new e.names)) ≡ true
renamed_some old new e named =
    lt-ltb 0 (length (renamed old new e.names)) (omega (arith, length-map e.names (λ n. if bytes_eq n old then new else n), ltb-true 0 (length e.names) named))

-- what a rename takes from the others is the new name at most
rename_gets : (rows before : List TableRow) (r : TableRow) (old new : List ℕ) → AreValid rows → row_named old rows ≡ Some r → is_among r.entry.names new ≡ false
    → entries before ≡ take_names (new ∷ []) (entries rows) → GetsNames rows before r (renamed old new r.entry.names) new
rename_gets rows before r old new valid is absent taken =
    let row = named_row 0 old rows r valid.table.ids is in record {
      valid = valid;
      found = row.found;
      taken = taken;
      absent = absent;
      some = renamed_some old new r.entry (file_has (λ f. is_named f ≡ true) r.entry.id (entries rows) r.entry valid.table.named row.found);
      others =
          all_from (λ f. f.id ≢ r.entry.id → shares_name r.entry f ≡ false) (λ f. f.id ≢ r.entry.id → names_left (renamed old new r.entry.names) f.names ≡ names_left (new ∷ []) f.names) (entries rows)
          (λ f apart other. renamed_left r.entry f old new (apart other) row.among) (valid.table.apart r.entry row.found);
    }

-- an entry in its own place
put_choice : (b : Bool) (e f : FileEntry) → (f.id == e.id) ≡ b → (f.id ≡ e.id → f ≡ e) → cond b e f ≡ f
put_choice true e f test only = sym (only (eqb-true f.id e.id test))
put_choice false e f test only = refl

-- the same in a whole table
put_same : (e : FileEntry) (es : Table) → AllByRecursion (λ f. f.id ≡ e.id → f ≡ e) es → put_in e es ≡ es
put_same e [] only = refl
put_same e (f ∷ fs) only =
    ap (λ x. x ∷ put_in e fs) (put_choice (f.id == e.id) e f refl only.0) ∙ ap (λ es. f ∷ es) (put_same e fs only.1)

-- the update of an entry that stays the same
same_recorded : (rows : List TableRow) (e : FileEntry) → AreValid rows → file_of e.id (entries rows) ≡ Some e → Makes (entry_update e) rows rows
same_recorded rows e valid found =
    let es : Table = entries rows in
    let right : has_right_size e ≡ true = file_has (λ f. has_right_size f ≡ true) e.id es e valid.sized found in
    made_by (entry_update e) rows rows valid (file_has (λ f. is_named f ≡ true) e.id es e valid.table.named found)
    (update_known (logs.with_names e e.names) e es found (ap has_right_size (names_update e e.names) ∙ right)
    ∙ ap (λ x. Ok x)
    (ap (λ g. set_entry g es) (names_update e e.names)
    ∙ (same_names es e e valid.table found refl refl ∙ put_same e es (only_file 0 e.id e es valid.table.ids found))))

-- a test that fails of all names fails of one of them
not_among : (q : List ℕ → Bool) (names : List (List ℕ)) (new : List ℕ) → list_any q names ≡ false → is_among names new ≡ true → q new ≡ false
not_among q [] new none is = absurd cc
not_among q (n ∷ ns) new none is =
    let parts = or_parts (q n) (list_any q ns) none in
    choice (bytes_eq n new) refl parts.0 (not_among q ns new parts.1) is
  where
    choice : (b : Bool) → bytes_eq n new ≡ b → q n ≡ false → (is_among ns new ≡ true → q new ≡ false) → (b || is_among ns new) ≡ true → q new ≡ false
    choice true same here behind h = ap q (sym ((bytes_eq-Decides n new).0 same)) ∙ here
    choice false same here behind h = behind h

-- a name of another file isn't this one's
pub not_both : (rows : List TableRow) (r other : TableRow) (old new : List ℕ) → AreValid rows → row_named old rows ≡ Some r → row_named new rows ≡ Some other
    → (other.entry.id ≡ r.entry.id → ⊥) → is_among r.entry.names new ≡ false
not_both rows r other old new valid is there differs =
    let row = named_row 0 old rows r valid.table.ids is in
    let it = named_row 0 new rows other valid.table.ids there in
    not_among (is_among r.entry.names) other.entry.names new
    (file_has (λ f. f.id ≢ r.entry.id → shares_name r.entry f ≡ false) other.entry.id (entries rows) other.entry (valid.table.apart r.entry row.found) it.found differs)
    it.among

-- the update of a file under a name that no file had
pub renamed_free : (rows : List TableRow) (r : TableRow) (old new : List ℕ) → AreValid rows → row_named old rows ≡ Some r → row_named new rows ≡ None
    → GetsNames rows rows r (renamed old new r.entry.names) new
renamed_free rows r old new valid is none =
    let row = named_row 0 old rows r valid.table.ids is in
    rename_gets rows rows r old new valid is (not_its_own rows r new none row.found) (sym (unused_table new (entries rows) valid.table (unnamed new rows none)))

-- the update of a file under a name that another file had
pub renamed_over : (rows : List TableRow) (r other : TableRow) (old new : List ℕ) → AreValid rows → row_named old rows ≡ Some r → row_named new rows ≡ Some other
    → (other.entry.id ≡ r.entry.id → ⊥) → GetsNames rows (drop_name new rows) r (renamed old new r.entry.names) new
renamed_over rows r other old new valid is there differs =
    rename_gets rows (drop_name new rows) r old new valid is (not_both rows r other old new valid is there differs) (entries_dropped new rows)

-- a rename onto a name of another file, or of the file itself
rename_choice : (b : Bool) (rows : List TableRow) (r other : TableRow) (old new : List ℕ) → (other.entry.id == r.entry.id) ≡ b → AreValid rows → row_named old rows ≡ Some r
    → row_named new rows ≡ Some other
    → Makes (entry_update (entry_in r.entry.id (if b then rows else on_row r.entry.id (with_names (renamed old new r.entry.names)) (drop_name new rows)) r.entry)) rows
    (if b then rows else on_row r.entry.id (with_names (renamed old new r.entry.names)) (drop_name new rows))
rename_choice true rows r other old new same valid is there =
    let row = named_row 0 old rows r valid.table.ids is in
    subst (λ e. Makes (entry_update e) rows rows) (sym (entry_found r.entry.id rows r.entry r.entry row.found)) (same_recorded rows r.entry valid row.found)
rename_choice false rows r other old new same valid is there =
    renamed_recorded rows (drop_name new rows) r (renamed old new r.entry.names) new
    (renamed_over rows r other old new valid is there (eqb-false other.entry.id r.entry.id same))

-- a rename, by who has the new name
rename_cases : (there : Option TableRow) (rows : List TableRow) (r : TableRow) (old new : List ℕ) → AreValid rows → row_named old rows ≡ Some r → row_named new rows ≡ there
    → Makes (entry_update (entry_in r.entry.id (renamed_rows r there old new rows) r.entry)) rows (renamed_rows r there old new rows)
rename_cases None rows r old new valid is none =
    renamed_recorded rows rows r (renamed old new r.entry.names) new (renamed_free rows r old new valid is none)
rename_cases (Some other) rows r old new valid is there = rename_choice (other.entry.id == r.entry.id) rows r other old new refl valid is there

pub rename_is_recorded : RenameIsRecorded
rename_is_recorded rows r old new valid is = rename_cases (row_named new rows) rows r old new valid is refl
