-- The lengths of records after a change of names.
use Rattle.std.specs.Prelude.{◌≡◌, ℕ, zero, suc, ◌+◌, ◌<◌, ◌≤◌, Bool, true, false, not, cond, List, [], ◌∷◌, ◌++◌, length, map, filter, max, min, Option, Some, unwrap_or, option_map, ◌==◌, ◌^◌, ◌-◌, refl}
use Rattle.std.specs.List.{AllByRecursion, flat_map}
use Rattle.std.specs.Str.{bytes_eq}
use Rattle.std.proofs.Common.{get_or, set, take, ap, sym, subst, ◌∙◌, arith, length-append}
use Rattle.std.proofs.lemmas.List.{append-nil, map-append, take_more}
use Rattle.std.proofs.lemmas.List.Elements.{filter-append}
use Rattle.std.proofs.lemmas.Grind.{flat_map-append}
use Rattle.record_model.specs.Encoding.{field_bytes, entry_bytes, slice}
use Rattle.record_model.specs.declared.field.Field.TheVariants.{Linked}
use Rattle.record_model.specs.declared.types.FileEntry.{FileEntry}
use Rattle.record_codec.specs.Length.{told}
use Rattle.record_codec.proofs.Entries.{entry_len}
use Rattle.log_model.specs.FileTable.{Table, is_among, is_named, names_left}
use Rattle.log_model.specs.FileTree.{renamed}
use Rattle.fs_model.specs.FsState.{TableRow, working_entry, working_of, row_of, row_named, on_row}
use Rattle.fs_model.specs.TreeSteps.{with_names, drop_name, entry_in, entry_update, renamed_rows}
use Rattle.record_model.specs.declared.types.Record.{Record}
use Rattle.extent_map.specs.Naming.{without_names, rows_left}
use Rattle.extent_map.specs.Records.{recorded_of, greatest_len}
use Rattle.extent_map.specs.RowsAfter.{rows_after, row_after, names_bytes, entries_bytes}

-- ---- rows, one after another

-- what holds of so many rows, and of one more
pub all_more : (P : TableRow → Type 0) (i : ℕ) (rows : List TableRow) (r : TableRow) → i < length rows → r ≡ get_or rows i r → AllByRecursion P (take i rows) → P r
    → AllByRecursion P (take (suc i) rows)
all_more P i [] r lt is h p = absurd (omega arith)
all_more P zero (q ∷ qs) r lt is h p = (subst P is p, tt)
all_more P (suc i) (q ∷ qs) r lt is h p = (h.0, all_more P i qs r (omega arith) is h.1 p)

-- rows of which so many are changed
abbrev pub changed_to : (TableRow → TableRow) → ℕ → List TableRow → List TableRow
changed_to f zero rows = rows
changed_to f (suc k) [] = []
changed_to f (suc k) (r ∷ rs) = f r ∷ changed_to f k rs

-- as many as before
pub changed_length : (f : TableRow → TableRow) (k : ℕ) (rows : List TableRow) → length (changed_to f k rows) ≡ length rows
changed_length f zero rows = refl
changed_length f (suc k) [] = refl
changed_length f (suc k) (r ∷ rs) = ap suc (changed_length f k rs)

-- one more that is changed
pub changed_next : (f : TableRow → TableRow) (k : ℕ) (rows : List TableRow) (r : TableRow) → k < length rows → r ≡ get_or (changed_to f k rows) k r
    → set (changed_to f k rows) k (f r) ≡ changed_to f (suc k) rows
changed_next f k [] r lt is = absurd (omega arith)
changed_next f zero (q ∷ qs) r lt is = ap (λ (p : TableRow). f p ∷ qs) is
changed_next f (suc k) (q ∷ qs) r lt is = ap (λ (rs : List TableRow). f q ∷ rs) (changed_next f k qs r (omega arith) is)

-- all of them
pub changed_all : (f : TableRow → TableRow) (k : ℕ) (rows : List TableRow) → length rows ≤ k → changed_to f k rows ≡ map f rows
changed_all f zero [] le = refl
changed_all f zero (r ∷ rs) le = absurd (omega arith)
changed_all f (suc k) [] le = refl
changed_all f (suc k) (r ∷ rs) le = ap (λ (qs : List TableRow). f r ∷ qs) (changed_all f k rs (omega arith))

-- ---- names

-- names with one in the place of another, name by name
pub renamed_pieces : (old new : List ℕ) (names : List (List ℕ)) → flat_map (λ n. names_bytes (renamed old new (n ∷ []))) names ≡ names_bytes (renamed old new names)
renamed_pieces old new [] = refl
renamed_pieces old new (n ∷ ns) =
    let first : List ℕ = field_bytes (Linked (cond (bytes_eq n old) new n)) in
    ap (λ (bytes : List ℕ). bytes ++ flat_map (λ m. names_bytes (renamed old new (m ∷ []))) ns) (append-nil first)
    ∙ ap (λ (bytes : List ℕ). first ++ bytes) (renamed_pieces old new ns)

-- names that are left, name by name
pub left_pieces : (taken names : List (List ℕ)) → flat_map (λ n. names_bytes (names_left taken (n ∷ []))) names ≡ names_bytes (names_left taken names)
left_pieces taken [] = refl
left_pieces taken (n ∷ ns) = choice (is_among taken n) (left_pieces taken ns)
  where
    choice : (b : Bool) → flat_map (λ m. names_bytes (names_left taken (m ∷ []))) ns ≡ names_bytes (names_left taken ns)
        → names_bytes (cond (not b) (n ∷ []) []) ++ flat_map (λ m. names_bytes (names_left taken (m ∷ []))) ns ≡ names_bytes (cond (not b) (n ∷ names_left taken ns) (names_left taken ns))
    choice true rest = rest
    choice false rest =
        ap (λ (bytes : List ℕ). bytes ++ flat_map (λ m. names_bytes (names_left taken (m ∷ []))) ns) (append-nil (field_bytes (Linked n)))
        ∙ ap (λ (bytes : List ℕ). field_bytes (Linked n) ++ bytes) rest

-- ---- rows after a change

-- the rows of two lists
pub rows_joined : (id : ℕ) (names taken : List (List ℕ)) (xs ys : List TableRow) → rows_after id names taken (xs ++ ys) ≡ rows_after id names taken xs ++ rows_after id names taken ys
rows_joined id names taken xs ys =
    let f : TableRow → TableRow = λ r. cond (r.entry.id == id) (with_names names r) r in
    let p : TableRow → Bool = λ r. is_named r.entry in
    let us : List TableRow = map (without_names taken) xs in
    let vs : List TableRow = map (without_names taken) ys in
    ap (λ (rs : List TableRow). map f (filter p rs)) (map-append (without_names taken) xs ys)
    ∙ ap (map f) (filter-append p us vs) ∙ map-append f (filter p us) (filter p vs)

-- their bytes
pub bytes_joined : (xs ys : List TableRow) → entries_bytes (xs ++ ys) ≡ entries_bytes xs ++ entries_bytes ys
bytes_joined xs ys =
    ap (flat_map (λ e. slice (entry_bytes e))) (map-append working_entry xs ys) ∙ flat_map-append (λ (e : FileEntry). slice (entry_bytes e)) (working_of xs) (working_of ys)

-- the longest update of two tables
pub longest_joined : (es fs : Table) → greatest_len (es ++ fs) ≡ max (greatest_len es) (greatest_len fs)
longest_joined [] fs = omega arith
longest_joined (e ∷ es) fs = omega (arith, longest_joined es fs)

-- so many rows and one more
rows_more : (id : ℕ) (names taken : List (List ℕ)) (rows : List TableRow) (i : ℕ) (r : TableRow) → i < length rows → r ≡ get_or rows i r
    → rows_after id names taken (take (i + 1) rows) ≡ rows_after id names taken (take i rows) ++ rows_after id names taken (r ∷ [])
rows_more id names taken rows i r lt is =
    ap (rows_after id names taken) (take_more rows i r lt) ∙ rows_joined id names taken (take i rows) (get_or rows i r ∷ [])
    ∙ ap (λ (q : TableRow). rows_after id names taken (take i rows) ++ rows_after id names taken (q ∷ [])) (sym is)

-- the bytes of one row more
pub bytes_more : (id : ℕ) (names taken : List (List ℕ)) (rows : List TableRow) (i : ℕ) (r : TableRow) (so_far next : ℕ) → i < length rows → r ≡ get_or rows i r
    → so_far ≡ told (length (entries_bytes (rows_after id names taken (take i rows)))) → next ≡ told (length (entries_bytes (rows_after id names taken (r ∷ []))))
    → min (so_far + next) (2 ^ 64 - 1) ≡ told (length (entries_bytes (rows_after id names taken (take (i + 1) rows))))
bytes_more id names taken rows i r so_far next lt is first second =
    let front : List TableRow = rows_after id names taken (take i rows) in
    let last : List TableRow = rows_after id names taken (r ∷ []) in
    let whole : length (entries_bytes (rows_after id names taken (take (i + 1) rows))) ≡ length (entries_bytes front) + length (entries_bytes last) =
    ap (λ (rs : List TableRow). length (entries_bytes rs)) (rows_more id names taken rows i r lt is) ∙ ap length (bytes_joined front last) ∙ length-append (entries_bytes front) (entries_bytes last) in
    omega (arith, whole, first, second)

-- the longest update of one row more
pub longest_next : (id : ℕ) (names taken : List (List ℕ)) (rows : List TableRow) (i : ℕ) (r : TableRow) (so_far next : ℕ) → i < length rows → r ≡ get_or rows i r
    → so_far ≡ told (greatest_len (working_of (rows_after id names taken (take i rows)))) → next ≡ told (greatest_len (working_of (rows_after id names taken (r ∷ []))))
    → max so_far next ≡ told (greatest_len (working_of (rows_after id names taken (take (i + 1) rows))))
longest_next id names taken rows i r so_far next lt is first second =
    let front : List TableRow = rows_after id names taken (take i rows) in
    let last : List TableRow = rows_after id names taken (r ∷ []) in
    let whole : greatest_len (working_of (rows_after id names taken (take (i + 1) rows))) ≡ max (greatest_len (working_of front)) (greatest_len (working_of last)) =
    ap (λ (rs : List TableRow). greatest_len (working_of rs)) (rows_more id names taken rows i r lt is)
    ∙ ap greatest_len (map-append working_entry front last) ∙ longest_joined (working_of front) (working_of last) in
    omega (arith, whole, first, second)

-- ---- one row

-- a row that is gone
pub row_gone : (id : ℕ) (names taken : List (List ℕ)) (r : TableRow) → is_named (without_names taken r).entry ≡ false → rows_after id names taken (r ∷ []) ≡ []
row_gone id names taken r gone = ap (λ b. on_row id (with_names names) (cond b (without_names taken r ∷ []) [])) gone

-- a row that is left
pub row_left : (id : ℕ) (names taken : List (List ℕ)) (r : TableRow) → is_named (without_names taken r).entry ≡ true
    → rows_after id names taken (r ∷ []) ≡ row_after id names (without_names taken r) ∷ []
row_left id names taken r there = ap (λ b. on_row id (with_names names) (cond b (without_names taken r ∷ []) [])) there

-- ---- where nothing is taken

-- all names are left
all_names : (ns : List (List ℕ)) → names_left [] ns ≡ ns
all_names [] = refl
all_names (n ∷ ns) = ap (λ (ms : List (List ℕ)). n ∷ ms) (all_names ns)

-- all files are left that have a name
pub all_rows : (rows : List TableRow) → AllByRecursion (λ e. is_named e ≡ true) (recorded_of rows) → rows_left [] rows ≡ rows
all_rows [] named = refl
all_rows (r ∷ rs) named =
    let same : without_names [] r ≡ r = ap (λ (ns : List (List ℕ)). with_names ns r) (all_names r.entry.names) in
    ap (λ (q : TableRow). cond (is_named q.entry) (q ∷ rows_left [] rs) (rows_left [] rs)) same
    ∙ ap (λ b. cond b (r ∷ rows_left [] rs) (rows_left [] rs)) named.0
    ∙ ap (λ (qs : List TableRow). r ∷ qs) (all_rows rs named.1)

-- ---- the record of a change

-- the file of an id gets names
pub found_named : (id : ℕ) (names : List (List ℕ)) (rows : List TableRow) (r : TableRow) → row_of id rows ≡ Some r → row_of id (on_row id (with_names names) rows) ≡ Some (with_names names r)
found_named id names [] r there = absurd cc
found_named id names (q ∷ qs) r there = choice (q.entry.id == id) refl there (λ h. found_named id names qs r h)
  where
    choice : (b : Bool) → (q.entry.id == id) ≡ b → cond b (Some q) (row_of id qs) ≡ Some r
        → (row_of id qs ≡ Some r → row_of id (on_row id (with_names names) qs) ≡ Some (with_names names r))
        → cond ((cond b (with_names names q) q).entry.id == id) (Some (cond b (with_names names q) q)) (row_of id (on_row id (with_names names) qs)) ≡ Some (with_names names r)
    choice true is h rest =
        let same : q ≡ r = cc in
        ap (λ c. cond c (Some (with_names names q)) (row_of id (on_row id (with_names names) qs))) is ∙ ap (λ (p : TableRow). Some (with_names names p)) same
    choice false is h rest = ap (λ c. cond c (Some q) (row_of id (on_row id (with_names names) qs))) is ∙ rest h

-- the bytes of an entry without extents
pub bare_entry : (names_len : ℕ) (e : FileEntry) → names_len ≡ told (length (names_bytes e.names)) → length e.extents ≡ 0
    → told (56 + cond e.sparse 4 0 + names_len) ≡ told (length (entry_bytes e))
bare_entry names_len e names none = omega (arith, entry_len e, names, none)

-- ---- renames

-- what holds of the rows and of the record of a rename of this file, where this file has the new name
abbrev pub HoldsOf : (List TableRow → List TableRow → Record → Type 0) → TableRow → Option TableRow → List ℕ → List ℕ → List TableRow → Type 0
HoldsOf P r other old new rows = P rows (renamed_rows r other old new rows) (entry_update (entry_in r.entry.id (renamed_rows r other old new rows) r.entry))

-- the file gets names
pub named_holds : (P : List TableRow → Record → Type 0) (r : TableRow) (more : List (List ℕ)) (rows : List TableRow) → row_of r.entry.id rows ≡ Some r
    → P (on_row r.entry.id (with_names more) rows) (entry_update (with_names more r).entry)
    → P (on_row r.entry.id (with_names more) rows) (entry_update (entry_in r.entry.id (on_row r.entry.id (with_names more) rows) r.entry))
named_holds P r more rows there h =
    subst (λ (o : Option TableRow). P (on_row r.entry.id (with_names more) rows) (entry_update (unwrap_or (option_map (λ (q : TableRow). q.entry) o) r.entry)))
    (sym (found_named r.entry.id more rows r there)) h

-- the new name is the file's own
pub same_holds : (P : List TableRow → List TableRow → Record → Type 0) (r other : TableRow) (old new : List ℕ) (rows : List TableRow) → row_of r.entry.id rows ≡ Some r
    → (other.entry.id == r.entry.id) ≡ true → P rows rows (entry_update r.entry) → HoldsOf P r (Some other) old new rows
same_holds P r other old new rows there same h =
    let after : Bool → List TableRow = λ b. cond b rows (on_row r.entry.id (with_names (renamed old new r.entry.names)) (drop_name new rows)) in
    subst (λ b. P rows (after b) (entry_update (entry_in r.entry.id (after b) r.entry))) (sym same)
    (subst (λ (o : Option TableRow). P rows rows (entry_update (unwrap_or (option_map (λ (q : TableRow). q.entry) o) r.entry))) (sym there) h)

-- the new name is another file's
pub other_holds : (P : List TableRow → List TableRow → Record → Type 0) (r other : TableRow) (old new : List ℕ) (rows : List TableRow) → row_of r.entry.id (drop_name new rows) ≡ Some r
    → (other.entry.id == r.entry.id) ≡ false
    → P rows (on_row r.entry.id (with_names (renamed old new r.entry.names)) (drop_name new rows)) (entry_update (with_names (renamed old new r.entry.names) r).entry)
    → HoldsOf P r (Some other) old new rows
other_holds P r other old new rows there differs h =
    let after : Bool → List TableRow = λ b. cond b rows (on_row r.entry.id (with_names (renamed old new r.entry.names)) (drop_name new rows)) in
    subst (λ b. P rows (after b) (entry_update (entry_in r.entry.id (after b) r.entry))) (sym differs)
    (named_holds (P rows) r (renamed old new r.entry.names) (drop_name new rows) there h)

-- the same rows by other names
pub holds_shown : (P : List TableRow → List TableRow → Record → Type 0) (r x : TableRow) (other : Option TableRow) (old new : List ℕ) (rows shown : List TableRow) → other ≡ row_named new rows
    → rows ≡ shown → r ≡ x → HoldsOf P r other old new rows → HoldsOf P x (row_named new shown) old new shown
holds_shown P r x other old new rows shown found view same h =
    subst (λ (q : TableRow). HoldsOf P q (row_named new shown) old new shown) same
    (subst (λ (rs : List TableRow). HoldsOf P r (row_named new rs) old new rs) view
    (subst (λ (o : Option TableRow). HoldsOf P r o old new rows) found h))
