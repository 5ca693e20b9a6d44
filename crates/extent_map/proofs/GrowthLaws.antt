-- How much longer a table's snapshot is after a change of names.
use Rattle.std.specs.Prelude.{◌≡◌, ◌≢◌, ℕ, zero, suc, ◌+◌, ◌*◌, ◌/◌, ◌%◌, ◌≤◌, Bool, true, false, not, cond, List, [], ◌∷◌, ◌++◌, length, map, Some, nat_lt, ◌==◌, refl}
use Rattle.std.specs.List.{AllByRecursion}
use Rattle.std.specs.Str.{bytes_eq}
use Rattle.std.specs.Cmp.Lexicographic.{same_text}
use Rattle.std.proofs.Common.{ap, sym, subst, ◌∙◌, arith, length-append}
use Rattle.std.proofs.lemmas.Grind.{flat_map-append}
use Rattle.record_model.specs.Grammar.{AreApart}
use Rattle.record_model.specs.Numbers.{u32, varint, varint_within}
use Rattle.record_model.specs.Encoding.{field_bytes, entry_bytes, payload_of, slice}
use Rattle.record_model.specs.declared.field.Field.TheVariants.{Linked}
use Rattle.record_model.specs.declared.types.FileEntry.{FileEntry}
use Rattle.record_model.specs.declared.types.Record.TheVariants.{Update}
use Rattle.record_codec.proofs.Entries.{entry_len, name_len, slice_len}
use Rattle.log_model.specs.FileTable.{is_among, is_named, names_left}
use Rattle.log_model.specs.FileTree.{renamed}
use Rattle.log_model.specs.TableLaws.{IdsRise}
use Rattle.log_model.proofs.LengthLaws.{slice_grows}
use Rattle.log_model.proofs.SelectionLaws.{some_is}
use Rattle.fs_model.specs.FsState.{TableRow, working_entry, row_of, row_named, on_row}
use Rattle.fs_model.specs.TreeSteps.{cleared, drop_name, with_names, entry_update}
use Rattle.extent_map.specs.ChangeLengths.{IsLittleLonger}
use Rattle.extent_map.specs.Naming.{without_names, rows_left}
use Rattle.extent_map.specs.TableState.{IsTableState}
use Rattle.extent_map.proofs.LinkLaws.{found_by_id, left_state}
use Rattle.extent_map.specs.Records.{recorded_of, snapshot_len}
use Rattle.extent_map.specs.RowsAfter.{names_bytes, entries_bytes}
use Rattle.std.proofs.lemmas.Bool.{eqb-true}
use Rattle.extent_map.proofs.AfterLaws.{bytes_joined}
use Rattle.extent_map.proofs.ChangeLaws.{past}
use Rattle.extent_map.proofs.LengthLaws.{working_entry_len}
use Rattle.extent_map.proofs.NameLaws.{renamed_others}

-- ---- slices

-- a varint has so many bytes at most
within_most : (k n : ℕ) → length (varint_within k n) ≤ k
within_most zero n = omega arith
within_most (suc k) n = choice (nat_lt n 128) (within_most k (n / 128))
  where
    choice : (b : Bool) → length (varint_within k (n / 128)) ≤ k → length (cond b (n ∷ []) ((n % 128 + 128) ∷ varint_within k (n / 128))) ≤ suc k
    choice true le = omega arith
    choice false le = omega (arith, le)

-- five bytes at most
pub varint_most : (n : ℕ) → length (varint n) ≤ 5
unfolding varint
varint_most n = within_most 5 n

-- bytes that are little longer, in slices
pub slice_more : (xs ys : List ℕ) (more : ℕ) → length xs ≤ length ys + more → length (slice xs) ≤ length (slice ys) + (more + 5)
slice_more xs ys more le = omega (arith, le, slice_len xs, slice_len ys, varint_most (length xs))

-- ---- names

-- the bytes of names
abbrev pub names_len : List (List ℕ) → ℕ
names_len names = length (names_bytes names)

-- a name has at most so many bytes in its field
pub name_most : (name : List ℕ) → length name ≤ 255 → length (field_bytes (Linked name)) ≤ 264
name_most name short = omega (arith, short, name_len name, varint_most (length name))

-- one name more
pub linked_more : (names : List (List ℕ)) (new : List ℕ) → length new ≤ 255 → names_len (names ++ new ∷ []) ≤ names_len names + 264
linked_more names new short =
    let whole : names_len (names ++ new ∷ []) ≡ names_len names + names_len (new ∷ []) =
    ap length (flat_map-append (λ (n : List ℕ). field_bytes (Linked n)) names (new ∷ [])) ∙ length-append (names_bytes names) (names_bytes (new ∷ [])) in
    let one : names_len (new ∷ []) ≡ length (field_bytes (Linked new)) + 0 = length-append (field_bytes (Linked new)) [] in
    omega (arith, whole, one, name_most new short)

-- a name in front of others
names_front : (n : List ℕ) (ns : List (List ℕ)) → names_len (n ∷ ns) ≡ length (field_bytes (Linked n)) + names_len ns
names_front n ns = length-append (field_bytes (Linked n)) (names_bytes ns)

-- a name in the place of another
pub renamed_more : (old new : List ℕ) (names : List (List ℕ)) → AreApart names → length new ≤ 255 → names_len (renamed old new names) ≤ names_len names + 264
renamed_more old new [] apart short = omega arith
renamed_more old new (n ∷ ns) apart short = choice (bytes_eq n old) refl (renamed_more old new ns apart.1 short)
  where
    choice : (b : Bool) → bytes_eq n old ≡ b → names_len (renamed old new ns) ≤ names_len ns + 264 → names_len (cond b new n ∷ renamed old new ns) ≤ names_len (n ∷ ns) + 264
    choice true is rest =
        let others : renamed old new ns ≡ ns = renamed_others old new ns (subst (λ (o : List ℕ). AllByRecursion (λ m. m ≢ o) ns) (same_text n old (sym is)) apart.0) in
        let same : names_len (renamed old new ns) ≡ names_len ns = ap names_len others in
        omega (arith, same, names_front new (renamed old new ns), names_front n ns, name_most new short)
    choice false is rest = omega (arith, rest, names_front n (renamed old new ns), names_front n ns)

-- fewer names
left_less : (taken names : List (List ℕ)) → names_len (names_left taken names) ≤ names_len names
left_less taken [] = omega arith
left_less taken (n ∷ ns) = choice (is_among taken n) (left_less taken ns)
  where
    choice : (b : Bool) → names_len (names_left taken ns) ≤ names_len ns → names_len (cond (not b) (n ∷ names_left taken ns) (names_left taken ns)) ≤ names_len (n ∷ ns)
    choice true rest = omega (arith, rest, names_front n ns)
    choice false rest = omega (arith, rest, names_front n (names_left taken ns), names_front n ns)

-- ---- rows

-- the bytes of the entries of rows
abbrev pub rows_len : List TableRow → ℕ
rows_len rows = length (entries_bytes rows)

-- the bytes of a row in its slice
abbrev pub row_len : TableRow → ℕ
row_len r = length (slice (entry_bytes (working_entry r)))

-- a row in front of others
rows_front : (r : TableRow) (rs : List TableRow) → rows_len (r ∷ rs) ≡ row_len r + rows_len rs
rows_front r rs = length-append (slice (entry_bytes (working_entry r))) (entries_bytes rs)

-- a row with names that are little longer
row_more : (more : List (List ℕ)) (r : TableRow) → names_len more ≤ names_len r.entry.names + 264 → row_len (with_names more r) ≤ row_len r + 269
row_more more r le =
    slice_more (entry_bytes (working_entry (with_names more r))) (entry_bytes (working_entry r)) 264
    (omega (arith, le, working_entry_len (with_names more r), working_entry_len r))

-- rows of which one has names that are little longer
pub named_more : (from id : ℕ) (more : List (List ℕ)) (rows : List TableRow) → IdsRise from (recorded_of rows)
    → ((r : TableRow) → row_of id rows ≡ Some r → names_len more ≤ names_len r.entry.names + 264) → rows_len (on_row id (with_names more) rows) ≤ rows_len rows + 269
named_more from id more [] rise h = omega arith
named_more from id more (q ∷ qs) rise h = choice (q.entry.id == id) refl h (λ k. named_more (q.entry.id + 1) id more qs rise.1 k)
  where
    choice : (b : Bool) → (q.entry.id == id) ≡ b → ((r : TableRow) → cond b (Some q) (row_of id qs) ≡ Some r → names_len more ≤ names_len r.entry.names + 264)
        → (((r : TableRow) → row_of id qs ≡ Some r → names_len more ≤ names_len r.entry.names + 264) → rows_len (on_row id (with_names more) qs) ≤ rows_len qs + 269)
        → rows_len (cond b (with_names more q) q ∷ on_row id (with_names more) qs) ≤ rows_len (q ∷ qs) + 269
    choice true is k rest =
        let here : q.entry.id ≡ id = eqb-true q.entry.id id is in
        let others : on_row id (with_names more) qs ≡ qs = past (q.entry.id + 1) id (with_names more) qs rise.1 (omega (arith, here)) in
        let same : rows_len (on_row id (with_names more) qs) ≡ rows_len qs = ap rows_len others in
        omega (arith, same, row_more more q (k q refl), rows_front (with_names more q) (on_row id (with_names more) qs), rows_front q qs)
    choice false is k rest = omega (arith, rest k, rows_front q (on_row id (with_names more) qs), rows_front q qs)

-- a row with fewer names
row_less : (taken : List (List ℕ)) (r : TableRow) → row_len (without_names taken r) ≤ row_len r
row_less taken r =
    slice_grows (entry_bytes (working_entry (without_names taken r))) (entry_bytes (working_entry r))
    (omega (arith, left_less taken r.entry.names, working_entry_len (without_names taken r), working_entry_len r))

-- rows with fewer names
pub rows_less : (taken : List (List ℕ)) (rows : List TableRow) → rows_len (rows_left taken rows) ≤ rows_len rows
rows_less taken [] = omega arith
rows_less taken (r ∷ rs) = choice (is_named (without_names taken r).entry) (rows_less taken rs)
  where
    choice : (b : Bool) → rows_len (rows_left taken rs) ≤ rows_len rs → rows_len (cond b (without_names taken r ∷ rows_left taken rs) (rows_left taken rs)) ≤ rows_len (r ∷ rs)
    choice true rest = omega (arith, rest, row_less taken r, rows_front (without_names taken r) (rows_left taken rs), rows_front r rs)
    choice false rest = omega (arith, rest, rows_front r rs)

-- one more row, of a file without extents
pub created_more : (rows : List TableRow) (r : TableRow) → length (entry_bytes (working_entry r)) ≤ 324 → rows_len (rows ++ r ∷ []) ≤ rows_len rows + 329
created_more rows r short =
    let whole : rows_len (rows ++ r ∷ []) ≡ rows_len rows + rows_len (r ∷ []) = ap length (bytes_joined rows (r ∷ [])) ∙ length-append (entries_bytes rows) (entries_bytes (r ∷ [])) in
    omega (arith, whole, rows_front r [], slice_len (entry_bytes (working_entry r)), varint_most (length (entry_bytes (working_entry r))), short)

-- ---- records

-- the snapshot of rows, by their bytes
snapshot_parts : (rows : List TableRow) → snapshot_len rows ≡ 4 + length (slice (entries_bytes rows))
unfolding payload_of
snapshot_parts rows = length-append (u32 1) (slice (entries_bytes rows))

-- the snapshot of rows that are little longer
pub snapshot_more : (xs ys : List TableRow) (more : ℕ) → rows_len xs ≤ rows_len ys + more → snapshot_len xs ≤ snapshot_len ys + (more + 5)
snapshot_more xs ys more le = omega (arith, snapshot_parts xs, snapshot_parts ys, slice_more (entries_bytes xs) (entries_bytes ys) more le)

-- the snapshot of rows that are no longer
pub snapshot_less : (xs ys : List TableRow) → rows_len xs ≤ rows_len ys → snapshot_len xs ≤ snapshot_len ys
snapshot_less xs ys le = omega (arith, snapshot_parts xs, snapshot_parts ys, slice_grows (entries_bytes xs) (entries_bytes ys) le)

-- the names of a file are in the table
names_within : (name : List ℕ) (rows : List TableRow) (r : TableRow) → row_named name rows ≡ Some r → names_len r.entry.names ≤ rows_len rows
names_within name [] r is = absurd cc
names_within name (q ∷ qs) r is = choice (is_among q.entry.names name) is (names_within name qs r)
  where
    choice : (b : Bool) → cond b (Some q) (row_named name qs) ≡ Some r → (row_named name qs ≡ Some r → names_len r.entry.names ≤ rows_len qs) → names_len r.entry.names ≤ rows_len (q ∷ qs)
    choice true h rest =
        let same : names_len q.entry.names ≡ names_len r.entry.names = ap (λ (p : TableRow). names_len p.entry.names) (some_is h) in
        omega (arith, same, rows_front q qs, slice_len (entry_bytes (working_entry q)), working_entry_len q)
    choice false h rest = omega (arith, rest h, rows_front q qs)

-- the bytes of an entry without extents
bare_most : (names : List (List ℕ)) (r : TableRow) (e : FileEntry) → e ≡ record (r.entry) { extents = []; names = names } → length (entry_bytes e) ≤ 60 + names_len names
bare_most names r e is = choice r.entry.sparse (ap (λ (f : FileEntry). length (entry_bytes f)) is ∙ entry_len (record (r.entry) { extents = []; names = names }))
  where
    choice : (b : Bool) → length (entry_bytes e) ≡ 56 + 21 * 0 + cond b 4 0 + names_len names → length (entry_bytes e) ≤ 60 + names_len names
    choice true h = omega (arith, h)
    choice false h = omega (arith, h)

-- an update is longer than its entry by little
pub update_most : (e : FileEntry) → length (payload_of (Update e)) ≤ length (entry_bytes e) + 9
unfolding payload_of
update_most e = omega (arith, length-append (u32 2) (slice (entry_bytes e)), slice_len (entry_bytes e), varint_most (length (entry_bytes e)))

-- the record of a file with names that are little longer
pub change_more : (name : List ℕ) (rows : List TableRow) (r : TableRow) (more : List (List ℕ)) → row_named name rows ≡ Some r → names_len more ≤ names_len r.entry.names + 264
    → length (payload_of (entry_update (with_names more r).entry)) ≤ snapshot_len rows + 512
change_more name rows r more is le =
    let e : FileEntry = record (r.entry) { extents = []; names = more } in
    omega (arith, le, update_most e, bare_most more r e refl, names_within name rows r is, snapshot_parts rows, slice_len (entries_bytes rows))

-- rows of which one has names that are little longer, with its record
pub named_little : (name : List ℕ) (rows : List TableRow) (greatest : ℕ) (r : TableRow) (more : List (List ℕ)) → IsTableState rows greatest → row_named name rows ≡ Some r
    → names_len more ≤ names_len r.entry.names + 264
    → IsLittleLonger rows (on_row r.entry.id (with_names more) rows) (entry_update (with_names more r).entry)
named_little name rows greatest r more state is le =
    let there : row_of r.entry.id rows ≡ Some r = found_by_id 0 name rows r state.table.ids is in
    let longer : rows_len (on_row r.entry.id (with_names more) rows) ≤ rows_len rows + 269 = named_more 0 r.entry.id more rows state.table.ids (λ q at. only r q (sym there ∙ at) le) in
    record {
      rows = omega (arith, snapshot_more (on_row r.entry.id (with_names more) rows) rows 269 longer);
      change = change_more name rows r more is le;
    }
  where
    only : (p q : TableRow) → Some p ≡ Some q → names_len more ≤ names_len p.entry.names + 264 → names_len more ≤ names_len q.entry.names + 264
    only p q same h = subst (λ (x : TableRow). names_len more ≤ names_len x.entry.names + 264) (some_is same) h

-- the same where a name was taken from another file before
pub taken_little : (name new : List ℕ) (rows : List TableRow) (greatest : ℕ) (r : TableRow) (more : List (List ℕ)) → IsTableState rows greatest → row_named name rows ≡ Some r
    → row_of r.entry.id (rows_left (new ∷ []) rows) ≡ Some r → names_len more ≤ names_len r.entry.names + 264
    → IsLittleLonger rows (on_row r.entry.id (with_names more) (rows_left (new ∷ []) rows)) (entry_update (with_names more r).entry)
taken_little name new rows greatest r more state is there le =
    let left : List TableRow = rows_left (new ∷ []) rows in
    let longer : rows_len (on_row r.entry.id (with_names more) left) ≤ rows_len left + 269 =
    named_more 0 r.entry.id more left (left_state (new ∷ []) rows greatest state).table.ids (λ q at. only r q (sym there ∙ at) le) in
    record {
      rows = omega (arith, snapshot_more (on_row r.entry.id (with_names more) left) rows 269 (omega (arith, longer, rows_less (new ∷ []) rows)));
      change = change_more name rows r more is le;
    }
  where
    only : (p q : TableRow) → Some p ≡ Some q → names_len more ≤ names_len p.entry.names + 264 → names_len more ≤ names_len q.entry.names + 264
    only p q same h = subst (λ (x : TableRow). names_len more ≤ names_len x.entry.names + 264) (some_is same) h

-- the same rows with the record of a file as it is
pub same_little : (name : List ℕ) (rows : List TableRow) (r : TableRow) → row_named name rows ≡ Some r → IsLittleLonger rows rows (entry_update r.entry)
same_little name rows r is = record { rows = omega arith; change = change_more name rows r r.entry.names is (omega arith) }

-- rows without recovery points are as long
cleared_less : (rows : List TableRow) → rows_len (map cleared rows) ≤ rows_len rows
cleared_less [] = omega arith
cleared_less (r ∷ rs) =
    let one : row_len (cleared r) ≤ row_len r =
    slice_grows (entry_bytes (working_entry (cleared r))) (entry_bytes (working_entry r)) (omega (arith, working_entry_len (cleared r), working_entry_len r)) in
    omega (arith, one, cleared_less rs, rows_front (cleared r) (map cleared rs), rows_front r rs)

-- and their snapshot
pub snapshot_cleared : (rows : List TableRow) → snapshot_len (map cleared rows) ≤ snapshot_len rows
snapshot_cleared rows = snapshot_less (map cleared rows) rows (cleared_less rows)

-- the snapshot of rows without a name is no longer
pub snapshot_dropped : (name : List ℕ) (rows : List TableRow) → snapshot_len (drop_name name rows) ≤ snapshot_len rows
snapshot_dropped name rows = snapshot_less (drop_name name rows) rows (rows_less (name ∷ []) rows)
