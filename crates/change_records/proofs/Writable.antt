-- Each record that is written is one of the grammar.
use Rattle.std.specs.Prelude.{◌≡◌, ℕ, ◌+◌, ◌^◌, ◌<◌, Bool, true, false, List, [], ◌∷◌, ◌++◌, map, Option, Some, None, IsTrue, option_map, ◌==◌, nat_lt, if◌then◌else◌, refl}
use Rattle.std.proofs.Common.{◌∙◌, ap, sym, subst, arith}
use Rattle.std.proofs.lemmas.Bool.{eqb-false}
use Rattle.std.proofs.lemmas.List.{map-append}
use Rattle.std.specs.List.{AllByRecursion}
use Rattle.record_model.specs.Name.{is_name}
use Rattle.record_model.specs.Encoding.{payload_of}
use Rattle.record_model.specs.Grammar.{IsExtent, IsWritable}
use Rattle.record_model.specs.declared.types.Extent.{Extent}
use Rattle.record_model.specs.declared.types.FileEntry.{FileEntry}
use Rattle.record_codec.proofs.RecordLaws.{record_again}
use Rattle.record_codec.proofs.Roundtrip.{written_spells}
use Rattle.log_model.specs.FileTable.{is_among, size_of}
use Rattle.log_model.specs.FileTree.{renamed}
use Rattle.log_model.proofs.ReplayLaws.{file_has}
use Rattle.fs_model.specs.declared.zones.Move.{Move}
use Rattle.fs_model.specs.FsState.{TableRow, row_of, row_named, on_row}
use Rattle.fs_model.specs.TreeSteps.{new_entry, new_row, with_names, entry_update, drop_name, renamed_rows, entry_in}
use Rattle.fs_model.specs.FileSteps.{committed, committed_entry, with_recovery_point, moved, moved_start, moved_extent}
use Rattle.fs_model.proofs.TreeLaws.{at_name, all_map}
use Rattle.change_records.specs.Recorded.{entries, AreValid}
use Rattle.change_records.specs.Writable.{PayloadReadsAgain, AreWritable, StaysWritable, CreateStaysWritable, LinkStaysWritable, RenameStaysWritable, UnlinkStaysWritable, CommitStaysWritable, RecoveryPointStaysWritable, ReplacementStaysWritable}
use Rattle.change_records.proofs.EntryLaws.{entries_dropped, named_row, has_the_name, unnamed, all_rows, set_each, row_entry, only_row}
use Rattle.change_records.proofs.RenameRecords.{GetsNames, entry_after, entry_found, renamed_free, renamed_over}
use Rattle.change_records.proofs.WrittenNames.{AreNames, names_of, under_others, all_push, one_more_name, name_in_place, taken_writable, among_good}

pub payload_reads_again : PayloadReadsAgain
payload_reads_again r good short = record_again (payload_of r) r (written_spells r good short)

-- an entry that can be written can be without its extents
without_extents : (e : FileEntry) → IsWritable e → IsWritable (record e { extents = [] })
without_extents e w = record {
  id = w.id;
  size = w.size;
  hint = w.hint;
  time = w.time;
  active = w.active;
  extents = tt;
  names = w.names;
  named = w.named;
  apart = w.apart;
}

pub create_stays_writable : CreateStaysWritable
create_stays_writable rows id name hint sparse now each low good few early =
    let e : FileEntry = new_entry id name hint sparse now in
    let new : IsWritable e = record {
      id = low;
      size = omega arith;
      hint = few;
      time = early;
      active = omega arith;
      extents = tt;
      names = (good, tt);
      named = omega arith;
      apart = (tt, tt);
    } in record {
      spelled = new;
      again = subst (AllByRecursion IsWritable) (sym (map-append (λ r. r.entry) rows (new_row e ∷ []))) (all_push IsWritable (entries rows) e each new);
    }

-- the row of a name
named_writable : (name : List ℕ) (rows : List TableRow) (r : TableRow) → AreWritable rows → row_named name rows ≡ Some r → IsWritable r.entry
named_writable name rows r each is = at_name (λ q. IsWritable q.entry) name rows r (all_rows IsWritable (λ q. IsWritable q.entry) rows (λ q w. w) each) is

-- rows of which one gets other names
names_writable : (id : ℕ) (names : List (List ℕ)) (rows : List TableRow) → AreNames names → AreWritable rows → AreWritable (on_row id (with_names names) rows)
names_writable id names rows are each =
    set_each IsWritable id (with_names names) rows
    (all_rows IsWritable (λ q. q.entry.id ≡ id → IsWritable (with_names names q).entry) rows (λ q w at. under_others q.entry names w are) each) each

-- a name that no row has isn't the row's
not_its_own : (old new : List ℕ) (rows : List TableRow) (r : TableRow) → row_named old rows ≡ Some r → row_named new rows ≡ None → is_among r.entry.names new ≡ false
not_its_own old new rows r is none =
    at_name (λ q. is_among q.entry.names new ≡ false) old rows r (all_rows (λ e. is_among e.names new ≡ false) (λ q. is_among q.entry.names new ≡ false) rows (λ q h. h) (unnamed new rows none)) is

pub link_stays_writable : LinkStaysWritable
link_stays_writable rows r old new each is none good =
    let w : IsWritable r.entry = named_writable old rows r each is in
    let names : List (List ℕ) = r.entry.names ++ new ∷ [] in
    let are : AreNames names = one_more_name r.entry.names new (names_of r.entry w) (not_its_own old new rows r is none) good in record {
      spelled = without_extents (with_names names r).entry (under_others r.entry names w are);
      again = names_writable r.entry.id names rows are each;
    }

-- rows without a name
dropped_writable : (name : List ℕ) (rows : List TableRow) → AreWritable rows → AreWritable (drop_name name rows)
dropped_writable name rows each = subst (AllByRecursion IsWritable) (sym (entries_dropped name rows)) (taken_writable (name ∷ []) (entries rows) each)

pub unlink_stays_writable : UnlinkStaysWritable
unlink_stays_writable rows r name each is =
    let w : IsWritable r.entry = named_writable name rows r each is in record {
      spelled = (w.id, among_good r.entry.names name w.names (has_the_name name rows r is));
      again = dropped_writable name rows each;
    }

-- ---- renames

-- the update of a file under a new name, which the rows before hadn't
renamed_writable : (rows before : List TableRow) (r : TableRow) (old new : List ℕ) → AreWritable before → IsWritable r.entry → IsTrue (is_name new)
    → GetsNames rows before r (renamed old new r.entry.names) new
    → StaysWritable (entry_update (entry_in r.entry.id (on_row r.entry.id (with_names (renamed old new r.entry.names)) before) r.entry))
    (on_row r.entry.id (with_names (renamed old new r.entry.names)) before)
renamed_writable rows before r old new each w good gets =
    let names : List (List ℕ) = renamed old new r.entry.names in
    let are : AreNames names = name_in_place old new r.entry.names (names_of r.entry w) gets.absent good in
    let after : IsWritable (with_names names r).entry = under_others r.entry names w are in record {
      spelled = without_extents _ (subst IsWritable (sym (entry_after rows before r names new gets)) after);
      again = names_writable r.entry.id names before are each;
    }

-- a rename onto a name of another file, or of the file itself
rename_choice : (b : Bool) (rows : List TableRow) (r other : TableRow) (old new : List ℕ) → (other.entry.id == r.entry.id) ≡ b → AreValid rows → AreWritable rows
    → row_named old rows ≡ Some r → row_named new rows ≡ Some other → IsTrue (is_name new)
    → StaysWritable (entry_update (entry_in r.entry.id (if b then rows else on_row r.entry.id (with_names (renamed old new r.entry.names)) (drop_name new rows)) r.entry))
    (if b then rows else on_row r.entry.id (with_names (renamed old new r.entry.names)) (drop_name new rows))
rename_choice true rows r other old new same valid each is there good =
    let row = named_row 0 old rows r valid.table.ids is in record {
      spelled = without_extents _ (subst IsWritable (sym (entry_found r.entry.id rows r.entry r.entry row.found)) (named_writable old rows r each is));
      again = each;
    }
rename_choice false rows r other old new same valid each is there good =
    renamed_writable rows (drop_name new rows) r old new (dropped_writable new rows each) (named_writable old rows r each is) good
    (renamed_over rows r other old new valid is there (eqb-false other.entry.id r.entry.id same))

-- a rename, by who has the new name
rename_cases : (there : Option TableRow) (rows : List TableRow) (r : TableRow) (old new : List ℕ) → AreValid rows → AreWritable rows → row_named old rows ≡ Some r
    → row_named new rows ≡ there → IsTrue (is_name new)
    → StaysWritable (entry_update (entry_in r.entry.id (renamed_rows r there old new rows) r.entry)) (renamed_rows r there old new rows)
rename_cases None rows r old new valid each is none good =
    renamed_writable rows rows r old new each (named_writable old rows r each is) good (renamed_free rows r old new valid is none)
rename_cases (Some other) rows r old new valid each is there good = rename_choice (other.entry.id == r.entry.id) rows r other old new refl valid each is there good

pub rename_stays_writable : RenameStaysWritable
rename_stays_writable rows r old new valid each is good = rename_cases (row_named new rows) rows r old new valid each is refl good

-- ---- data

-- the row of an id
found_writable : (rows : List TableRow) (r : TableRow) → AreWritable rows → row_of r.entry.id rows ≡ Some r → IsWritable r.entry
found_writable rows r each is =
    file_has IsWritable r.entry.id (entries rows) r.entry each (sym (row_entry r.entry.id rows) ∙ ap (λ o. option_map (λ q. q.entry) o) is)

-- what holds of each of two lists
pub all_more : (P : Extent → Type 0) (xs ys : List Extent) → AllByRecursion P xs → AllByRecursion P ys → AllByRecursion P (xs ++ ys)
all_more P [] ys h k = k
all_more P (x ∷ xs) ys h k = (h.0, all_more P xs ys h.1 k)

-- one time or the other
either_time : (b : Bool) (n m : ℕ) → n < 2 ^ 64 → m < 2 ^ 64 → (if b then n else m) < 2 ^ 64
either_time true n m h k = h
either_time false n m h k = k

-- the committed entry, with extents that have bytes
committed_writable : (now : ℕ) (r : TableRow) (xs : List Extent) → IsWritable r.entry → now < 2 ^ 64 → r.entry.size + size_of r.unrecorded < 2 ^ 64 → AllByRecursion IsExtent xs
    → IsWritable (record (committed_entry now r) { extents = xs })
committed_writable now r xs w early few good = record {
  id = w.id;
  size = few;
  hint = w.hint;
  time = either_time (nat_lt r.shown (r.entry.size + size_of r.unrecorded)) now r.entry.time early w.time;
  active = omega arith;
  extents = good;
  names = w.names;
  named = w.named;
  apart = w.apart;
}

pub commit_stays_writable : CommitStaysWritable
commit_stays_writable rows r now valid each is early good few =
    let w : IsWritable r.entry = found_writable rows r each is in
    let after : IsWritable (committed now r).entry =
    committed_writable now r (r.entry.extents ++ r.unrecorded) w early few (all_more IsExtent r.entry.extents r.unrecorded w.extents good) in record {
      spelled = committed_writable now r r.unrecorded w early few good;
      again =
          set_each IsWritable r.entry.id (committed now) rows
          (all_map (λ q. q.entry.id ≡ r.entry.id → q ≡ r) (λ q. q.entry.id ≡ r.entry.id → IsWritable (committed now q).entry) rows
          (λ q only at. subst (λ p. IsWritable (committed now p).entry) (sym (only at)) after) (only_row 0 r.entry.id rows r valid.table.ids is)) each;
    }

-- an entry with a recovery point
pub pointed : (start : ℕ) (e : FileEntry) → start < 2 ^ 64 → IsWritable e → IsWritable (record e { active = start })
pointed start e low w = record {
  id = w.id;
  size = w.size;
  hint = w.hint;
  time = w.time;
  active = low;
  extents = w.extents;
  names = w.names;
  named = w.named;
  apart = w.apart;
}

pub recovery_point_stays_writable : RecoveryPointStaysWritable
recovery_point_stays_writable rows r start each is low = record {
  spelled = without_extents (with_recovery_point start r).entry (pointed start r.entry low (found_writable rows r each is));
  again =
      set_each IsWritable r.entry.id (with_recovery_point start) rows
      (all_rows IsWritable (λ q. q.entry.id ≡ r.entry.id → IsWritable (with_recovery_point start q).entry) rows (λ q w at. pointed start q.entry low w) each) each;
}

-- a start after moves to addresses
start_low : (moves : List Move) (start : ℕ) → AllByRecursion (λ m. m.to < 2 ^ 64) moves → start < 2 ^ 64 → moved_start moves start < 2 ^ 64
start_low [] start low h = h
start_low (m ∷ ms) start low h = either_time (m.from == start) m.to (moved_start ms start) low.0 (start_low ms start low.1 h)

-- extents after such moves
moved_good : (moves : List Move) (xs : List Extent) → AllByRecursion (λ m. m.to < 2 ^ 64) moves → AllByRecursion IsExtent xs → AllByRecursion IsExtent (map (moved_extent moves) xs)
moved_good moves [] low each = tt
moved_good moves (x ∷ xs) low each = ((start_low moves x.start low each.0.0, each.0.1, each.0.2), moved_good moves xs low each.1)

-- an entry with them
moved_writable : (moves : List Move) (e : FileEntry) → AllByRecursion (λ m. m.to < 2 ^ 64) moves → IsWritable e → IsWritable (record e { extents = map (moved_extent moves) e.extents })
moved_writable moves e low w = record {
  id = w.id;
  size = w.size;
  hint = w.hint;
  time = w.time;
  active = w.active;
  extents = moved_good moves e.extents low w.extents;
  names = w.names;
  named = w.named;
  apart = w.apart;
}

pub replacement_stays_writable : ReplacementStaysWritable
replacement_stays_writable rows r moves each is low = record {
  spelled = moved_writable moves r.entry low (found_writable rows r each is);
  again =
      set_each IsWritable r.entry.id (moved moves) rows
      (all_rows IsWritable (λ q. q.entry.id ≡ r.entry.id → IsWritable (moved moves q).entry) rows (λ q w at. moved_writable moves q.entry low w) each) each;
}
