-- Rows of a table in which everything is recorded.
use Rattle.std.specs.Prelude.{All, ◌≤◌, ◌≡◌, ℕ, zero, suc, ◌+◌, Bool, true, false, not, cond, List, [], ◌∷◌, length, max, nat_lt, ◌==◌, Some, None, option_map, Result, Ok, Err, refl}
use Rattle.std.proofs.lemmas.List.Elements.{All-map}
use Rattle.std.proofs.Common.{subst, get_or, ap, sym, ◌∙◌, arith}
use Rattle.std.proofs.lemmas.Bool.{lt-ltb, ltb-true, ltb-false, eqb-true, and_parts}
use Rattle.std.specs.List.{AllByRecursion, list_all}
use Rattle.record_model.specs.Grammar.{InGrammar, IsWritable}
use Rattle.record_model.specs.declared.types.Record.{Record}
use Rattle.record_model.specs.declared.types.FileEntry.{FileEntry}
use Rattle.record_model.specs.declared.types.Record.TheVariants.{Snapshot, Update, Deletion, End, Replace}
use Rattle.log_model.specs.FileTable.{Table, file_of, has_right_size, grown, sorted, size_of, after_record, unless_broken, set_entry, delete_from, take_names, is_among, repeats_id, repeats_name, is_named}
use Rattle.log_model.specs.TableLaws.{IdsRise, IsNamedRecord}
use Rattle.log_model.specs.declared.selection.DamageWhy.TheVariants as why
use Rattle.log_model.specs.declared.selection.DamageWhy.{DamageWhy}
use Rattle.fs_model.specs.FsState.{TableRow, mounted_row, row_of, greatest_id}
use Rattle.extent_map.specs.Applying.{rows_of, IsMade, snapshot_table}
use Rattle.extent_map.specs.Records.{recorded_of}
use Rattle.extent_map.specs.Sound.{IsSound}
use Rattle.extent_map.proofs.ChangeLaws.{id_at}

-- the recorded entries of a table's rows
pub recorded_rows : (es : Table) → recorded_of (rows_of es) ≡ es
recorded_rows [] = refl
recorded_rows (e ∷ es) = ap (λ (fs : Table). e ∷ fs) (recorded_rows es)

-- the rows of a table are made
pub made_rows : (after : Result Table DamageWhy) (es : Table) (rows : List TableRow) → after ≡ Ok es → rows ≡ rows_of es → IsMade after rows
made_rows after es rows is rows_is =
    let same : recorded_of rows ≡ es = ap recorded_of rows_is ∙ recorded_rows es in
    record { made = is ∙ ap Ok (sym same); settled = rows_is ∙ ap rows_of (sym same) }

-- the recorded entry of an id
pub file_recorded : (id : ℕ) (rows : List TableRow) → file_of id (recorded_of rows) ≡ option_map (λ r. r.entry) (row_of id rows)
file_recorded id [] = refl
file_recorded id (r ∷ rs) = choice (r.entry.id == id) (file_recorded id rs)
  where
    choice : (b : Bool) → file_of id (recorded_of rs) ≡ option_map (λ q. q.entry) (row_of id rs)
        → cond b (Some r.entry) (file_of id (recorded_of rs)) ≡ option_map (λ q. q.entry) (cond b (Some r) (row_of id rs))
    choice true h = refl
    choice false h = h

-- the greatest id is the greater of the first and of the rest
greatest_first : (e : FileEntry) (es : Table) → greatest_id (e ∷ es) ≡ max e.id (greatest_id es)
greatest_first e es = choice (nat_lt e.id (greatest_id es)) refl
  where
    choice : (b : Bool) → nat_lt e.id (greatest_id es) ≡ b → cond b (greatest_id es) e.id ≡ max e.id (greatest_id es)
    choice true is = omega (arith, ltb-true e.id (greatest_id es) is)
    choice false is = omega (arith, ltb-false e.id (greatest_id es) is)

-- no file has an id
pub greatest_none : (rows : List TableRow) → length rows ≡ 0 → greatest_id (recorded_of rows) ≡ 0
greatest_none [] none = refl
greatest_none (r ∷ rs) none = absurd (omega (arith, none))

-- where ids rise the last file has the greatest
pub greatest_last : (from : ℕ) (rows : List TableRow) (k : ℕ) (d : TableRow) → IdsRise from (recorded_of rows) → k + 1 ≡ length rows → greatest_id (recorded_of rows) ≡ (get_or rows k d).entry.id
greatest_last from [] k d rise last = absurd (omega (arith, last))
greatest_last from (r ∷ []) zero d rise last = omega (arith, greatest_first r.entry [])
greatest_last from (r ∷ q ∷ qs) zero d rise last = absurd (omega (arith, last))
greatest_last from (r ∷ []) (suc k) d rise last = absurd (omega (arith, last))
greatest_last from (r ∷ q ∷ qs) (suc k) d rise last =
    let rest = greatest_last (r.entry.id + 1) (q ∷ qs) k d rise.1 (omega (arith, last)) in
    let above = id_at (r.entry.id + 1) (q ∷ qs) k d rise.1 (omega (arith, last)) in
    ap (λ b. cond b (greatest_id (recorded_of (q ∷ qs))) r.entry.id) (lt-ltb r.entry.id (greatest_id (recorded_of (q ∷ qs))) (omega (arith, rest, above))) ∙ rest

-- an entry that a record may have, of the right size, may be a row
pub sound_entry : (e : FileEntry) → IsWritable e → has_right_size e ≡ true → IsSound e
sound_entry e writable right = record { id = writable.id; size = eqb-true e.size (size_of e.extents) right; named = writable.named; apart = writable.apart }

-- so may one that is grown
pub sound_grown : (f e : FileEntry) → IsWritable e → has_right_size (grown (Some f) e) ≡ true → IsSound (grown (Some f) e)
sound_grown f e writable right = record { id = writable.id; size = eqb-true e.size (size_of (grown (Some f) e).extents) right; named = writable.named; apart = writable.apart }

-- so may all entries of a snapshot
pub sound_entries : (files : Table) → AllByRecursion IsWritable files → list_all has_right_size files ≡ true → AllByRecursion IsSound files
sound_entries [] writable right = tt
sound_entries (e ∷ es) writable right =
    let parts = and_parts (has_right_size e) (list_all has_right_size es) right in
    (sound_entry e writable.0 parts.0, sound_entries es writable.1 parts.1)

-- ---- what the records make

-- a rule that holds
pub unbroken : (b : Bool) (rule : ℕ) (es : Table) → b ≡ true → unless_broken (not b) rule es ≡ Ok es
unbroken b rule es h = ap (λ c. unless_broken (not c) rule es) h

-- a rule that doesn't hold
pub broken : (b : Bool) (rule : ℕ) (es : Table) → b ≡ false → unless_broken (not b) rule es ≡ Err (why.Rule rule)
broken b rule es h = ap (λ c. unless_broken (not c) rule es) h

-- a snapshot
pub snapshot_is : (files es : Table) → after_record (Snapshot files) es ≡ snapshot_table files
unfolding after_record
snapshot_is files es = refl

-- a snapshot that breaks no rule
pub snapshot_made : (files : Table) → list_all has_right_size files ≡ true → repeats_id files ≡ false → repeats_name files ≡ false → snapshot_table files ≡ Ok (sorted files)
snapshot_made files sized ids names = rw (sized, ids, names) refl

-- one that has an id twice
pub snapshot_twice : (files : Table) → list_all has_right_size files ≡ true → repeats_id files ≡ true → snapshot_table files ≡ Err (why.Rule 6)
snapshot_twice files sized ids = rw (sized, ids) refl

-- one that has a name in two entries
pub snapshot_shared : (files : Table) → list_all has_right_size files ≡ true → repeats_id files ≡ false → repeats_name files ≡ true → snapshot_table files ≡ Err (why.Rule 7)
snapshot_shared files sized ids names = rw (sized, ids, names) refl

-- a record of the end
pub end_is : (es : Table) → after_record End es ≡ Ok es
unfolding after_record
end_is es = refl

-- an update of a new file
pub update_new : (e : FileEntry) (es : Table) → file_of e.id es ≡ None → after_record (Update e) es ≡ unless_broken (not (has_right_size e)) 5 (set_entry e es)
unfolding after_record
update_new e es none = ap (λ f. unless_broken (not (has_right_size (grown f e))) 5 (set_entry (grown f e) es)) none

-- an update of a file that is there
pub update_known : (e f : FileEntry) (es : Table) → file_of e.id es ≡ Some f
    → after_record (Update e) es ≡ unless_broken (not (has_right_size (grown (Some f) e))) 5 (set_entry (grown (Some f) e) es)
unfolding after_record
update_known e f es some = ap (λ there. unless_broken (not (has_right_size (grown there e))) 5 (set_entry (grown there e) es)) some

-- a replacement of no file
pub replace_unknown : (e : FileEntry) (es : Table) → file_of e.id es ≡ None → after_record (Replace e) es ≡ Err (why.Rule 3)
unfolding after_record
replace_unknown e es none = rw none refl

-- a replacement of a file that is there
pub replace_known : (e f : FileEntry) (es : Table) → file_of e.id es ≡ Some f → after_record (Replace e) es ≡ unless_broken (not (has_right_size e)) 5 (set_entry e es)
unfolding after_record
replace_known e f es some = rw some refl

-- a deletion of no file
pub delete_unknown : (id : ℕ) (name : List ℕ) (es : Table) → file_of id es ≡ None → after_record (Deletion id name) es ≡ Err (why.Rule 3)
unfolding after_record
delete_unknown id name es none = ap (λ there. delete_from there name es) none

-- a deletion from a file that is there
pub delete_known : (id : ℕ) (name : List ℕ) (f : FileEntry) (es : Table) → file_of id es ≡ Some f
    → after_record (Deletion id name) es ≡ unless_broken (not (is_among f.names name)) 4 (take_names (name ∷ []) es)
unfolding after_record
delete_known id name f es some = ap (λ there. delete_from there name es) some

-- ---- what a record keeps

-- no id is above the greatest
pub below_greatest : (rows : List TableRow) (greatest : ℕ) → greatest_id (recorded_of rows) ≤ greatest → AllByRecursion (λ r. r.entry.id ≤ greatest) rows
below_greatest [] greatest h = tt
below_greatest (r ∷ rs) greatest h =
    let first = greatest_first r.entry (recorded_of rs) in (omega arith, below_greatest rs greatest (omega arith))

-- entries that can be written have names
named_entries : (files : Table) → AllByRecursion IsWritable files → AllByRecursion (λ e. is_named e ≡ true) files
named_entries [] h = tt
named_entries (e ∷ es) h = (lt-ltb 0 (length e.names) h.0.named, named_entries es h.1)

-- so does each entry of a record in the grammar
pub named_record : (r : Record) → InGrammar r → IsNamedRecord r
named_record (Snapshot files) h = named_entries files h
named_record (Update e) h = lt-ltb 0 (length e.names) h.named
named_record (Deletion id name) h = tt
named_record End h = tt
named_record (Replace e) h = lt-ltb 0 (length e.names) h.named

-- in rows that are made everything is recorded
pub all_recorded : (after : Result Table DamageWhy) (rows : List TableRow) → IsMade after rows → All (λ r. r.unrecorded ≡ []) rows
all_recorded after rows made =
    subst (All (λ (r : TableRow). r.unrecorded ≡ [])) (sym made.settled)
    (All-map (λ (r : TableRow). r.unrecorded ≡ []) mounted_row (recorded_of rows) (λ k d lt. refl))
