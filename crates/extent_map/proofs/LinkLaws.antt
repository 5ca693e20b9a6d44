-- Tables whose files get other names.
use Rattle.std.specs.Prelude.{◌≡◌, ◌≢◌, ℕ, zero, suc, ◌+◌, ◌<◌, ◌≤◌, Bool, true, false, not, ◌||◌, ◌&&◌, cond, List, [], ◌∷◌, ◌++◌, length, Option, Some, None, is_some, option_map, nat_lt, ◌==◌, refl}
use Rattle.std.specs.List.{AllByRecursion, list_any}
use Rattle.std.specs.Str.{bytes_eq}
use Rattle.std.specs.Cmp.Lexicographic.{same_text}
use Rattle.std.proofs.Common.{get_or, ap, sym, subst, ◌∙◌, arith}
use Rattle.std.proofs.lemmas.Bool.{false≢true, eqb-true, eq-eqb, ne_eqb, or_parts, or_from, lt-ltb, ltb-true}
use Rattle.std.proofs.lemmas.List.Folds.{list_any-append}
use Rattle.record_model.specs.declared.types.FileEntry.{FileEntry}
use Rattle.log_model.specs.FileTable.{Table, file_of, is_among, is_named, names_left, take_names, shares_name}
use Rattle.log_model.specs.FileTree.{renamed}
use Rattle.log_model.specs.TableLaws.{IdsRise, IsTable}
use Rattle.log_model.proofs.TableLaws.{put_in, placed_in, only_file, others_of}
use Rattle.log_model.proofs.TableKept.{taken_table, placed_table, others_table, others_other, all_others}
use Rattle.log_model.proofs.ReplayLaws.{bytes_eq_sym, file_has, renamed_among}
use Rattle.log_model.proofs.SelectionLaws.{some_is}
use Rattle.fs_model.specs.FsState.{TableRow, row_of, row_named, on_row}
use Rattle.fs_model.specs.TreeSteps.{with_names}
use Rattle.fs_model.proofs.TreeLaws.{at_name, not_true, without_absent}
use Rattle.extent_map.specs.Naming.{without_names, rows_left, names_within, reserved_row}
use Rattle.extent_map.specs.Records.{recorded_of}
use Rattle.extent_map.specs.TableState.{IsTableState}
use Rattle.extent_map.proofs.ApplyLaws.{file_recorded}
use Rattle.extent_map.proofs.CreateLaws.{unused_everywhere}
use Rattle.extent_map.proofs.NameLaws.{renamed_length}

-- ---- names that are taken

-- what is recorded of the files that are left
pub recorded_left : (taken : List (List ℕ)) (rows : List TableRow) → recorded_of (rows_left taken rows) ≡ take_names taken (recorded_of rows)
recorded_left taken [] = refl
recorded_left taken (r ∷ rs) = choice (is_named (without_names taken r).entry) (recorded_left taken rs)
  where
    choice : (b : Bool) → recorded_of (rows_left taken rs) ≡ take_names taken (recorded_of rs)
        → recorded_of (cond b (without_names taken r ∷ rows_left taken rs) (rows_left taken rs))
        ≡ cond b ((without_names taken r).entry ∷ take_names taken (recorded_of rs)) (take_names taken (recorded_of rs))
    choice true h = ap (λ (es : Table). (without_names taken r).entry ∷ es) h
    choice false h = h

-- no id is above the greatest of those that are left
above_left : (taken : List (List ℕ)) (greatest : ℕ) (rows : List TableRow) → AllByRecursion (λ r. r.entry.id ≤ greatest) rows
    → AllByRecursion (λ r. r.entry.id ≤ greatest) (rows_left taken rows)
above_left taken greatest [] h = tt
above_left taken greatest (r ∷ rs) h = choice (is_named (without_names taken r).entry) (above_left taken greatest rs h.1)
  where
    choice : (b : Bool) → AllByRecursion (λ q. q.entry.id ≤ greatest) (rows_left taken rs)
        → AllByRecursion (λ q. q.entry.id ≤ greatest) (cond b (without_names taken r ∷ rows_left taken rs) (rows_left taken rs))
    choice true rest = (h.0, rest)
    choice false rest = rest

-- a table stays one where names are taken
pub left_state : (taken : List (List ℕ)) (rows : List TableRow) (greatest : ℕ) → IsTableState rows greatest → IsTableState (rows_left taken rows) greatest
left_state taken rows greatest state = record {
  table = subst IsTable (sym (recorded_left taken rows)) (taken_table taken (recorded_of rows) state.table);
  above = above_left taken greatest rows state.above;
  limit = state.limit;
}

-- a name that was taken from some isn't among them
left_absent : (name : List ℕ) (ns : List (List ℕ)) → is_among (names_left (name ∷ []) ns) name ≡ false
left_absent name [] = refl
left_absent name (n ∷ ns) = choice (bytes_eq name n) refl (left_absent name ns)
  where
    choice : (b : Bool) → bytes_eq name n ≡ b → is_among (names_left (name ∷ []) ns) name ≡ false
        → is_among (cond (not (b || false)) (n ∷ names_left (name ∷ []) ns) (names_left (name ∷ []) ns)) name ≡ false
    choice true is rest = rest
    choice false is rest = or_from (bytes_eq n name) (is_among (names_left (name ∷ []) ns) name) (bytes_eq_sym n name ∙ is) rest

-- no file that is left has it
pub left_unnamed : (name : List ℕ) (rows : List TableRow) → row_named name (rows_left (name ∷ []) rows) ≡ None
left_unnamed name [] = refl
left_unnamed name (r ∷ rs) = choice (is_named (without_names (name ∷ []) r).entry) (left_unnamed name rs)
  where
    choice : (b : Bool) → row_named name (rows_left (name ∷ []) rs) ≡ None
        → row_named name (cond b (without_names (name ∷ []) r ∷ rows_left (name ∷ []) rs) (rows_left (name ∷ []) rs)) ≡ None
    choice true rest = ap (λ c. cond c (Some (without_names (name ∷ []) r)) (row_named name (rows_left (name ∷ []) rs))) (left_absent name r.entry.names) ∙ rest
    choice false rest = rest

-- a file that loses no name is left as it is
pub left_same : (taken : List (List ℕ)) (id : ℕ) (rows : List TableRow) (r : TableRow) → row_of id rows ≡ Some r → names_left taken r.entry.names ≡ r.entry.names
    → is_named r.entry ≡ true → row_of id (rows_left taken rows) ≡ Some r
left_same taken id [] r there kept named = absurd cc
left_same taken id (q ∷ qs) r there kept named = choice (q.entry.id == id) (is_named (without_names taken q).entry) refl refl there (λ h. left_same taken id qs r h kept named)
  where
    choice : (b c : Bool) → (q.entry.id == id) ≡ b → is_named (without_names taken q).entry ≡ c → cond b (Some q) (row_of id qs) ≡ Some r
        → (row_of id qs ≡ Some r → row_of id (rows_left taken qs) ≡ Some r)
        → row_of id (cond c (without_names taken q ∷ rows_left taken qs) (rows_left taken qs)) ≡ Some r
    choice true true is names h rest =
        let same : q ≡ r = some_is h in
        ap (λ d. cond d (Some (without_names taken q)) (row_of id (rows_left taken qs))) is
        ∙ ap Some (ap (without_names taken) same ∙ ap (λ (ns : List (List ℕ)). with_names ns r) kept)
    choice true false is names h rest =
        let same : q ≡ r = some_is h in
        absurd (false≢true (sym names ∙ ap (λ (p : TableRow). is_named (without_names taken p).entry) same ∙ ap (λ (ns : List (List ℕ)). nat_lt 0 (length ns)) kept ∙ named))
    choice false true is names h rest = ap (λ d. cond d (Some (without_names taken q)) (row_of id (rows_left taken qs))) is ∙ rest h
    choice false false is names h rest = rest h

-- ---- the file of a name by its id

-- ids of rows are not below where they rise from
from_on : (from : ℕ) (rows : List TableRow) → IdsRise from (recorded_of rows) → AllByRecursion (λ r. from ≤ r.entry.id) rows
from_on from [] rise = tt
from_on from (r ∷ rs) rise = (rise.0, lower rs (from_on (r.entry.id + 1) rs rise.1))
  where
    lower : (qs : List TableRow) → AllByRecursion (λ q. r.entry.id + 1 ≤ q.entry.id) qs → AllByRecursion (λ q. from ≤ q.entry.id) qs
    lower [] h = tt
    lower (q ∷ qs) h = (omega (arith, h.0, rise.0), lower qs h.1)

-- the file that is found by a name is found by its id
pub found_by_id : (from : ℕ) (name : List ℕ) (rows : List TableRow) (r : TableRow) → IdsRise from (recorded_of rows) → row_named name rows ≡ Some r → row_of r.entry.id rows ≡ Some r
found_by_id from name [] r rise is = absurd cc
found_by_id from name (q ∷ qs) r rise is = choice (is_among q.entry.names name) is (found_by_id (q.entry.id + 1) name qs r rise.1)
  where
    choice : (b : Bool) → cond b (Some q) (row_named name qs) ≡ Some r → (row_named name qs ≡ Some r → row_of r.entry.id qs ≡ Some r)
        → cond (q.entry.id == r.entry.id) (Some q) (row_of r.entry.id qs) ≡ Some r
    choice true h rest =
        let same : q ≡ r = some_is h in
        ap (λ b. cond b (Some q) (row_of r.entry.id qs)) (eq-eqb q.entry.id r.entry.id (ap (λ (p : TableRow). p.entry.id) same)) ∙ ap Some same
    choice false h rest =
        let above = at_name (λ p. q.entry.id + 1 ≤ p.entry.id) name qs r (from_on (q.entry.id + 1) qs rise.1) h in
        ap (λ b. cond b (Some q) (row_of r.entry.id qs)) (ne_eqb q.entry.id r.entry.id (λ same. omega (arith, above))) ∙ rest h

-- a name that no file has, at a place
pub unnamed_at : (name : List ℕ) (rows : List TableRow) (k : ℕ) (d : TableRow) → row_named name rows ≡ None → k < length rows → is_among (get_or rows k d).entry.names name ≡ false
unnamed_at name [] k d none lt = absurd (omega arith)
unnamed_at name (r ∷ rs) zero d none lt = first (is_among r.entry.names name) refl none
  where
    first : (b : Bool) → is_among r.entry.names name ≡ b → cond b (Some r) (row_named name rs) ≡ None → is_among r.entry.names name ≡ false
    first true is h = absurd cc
    first false is h = is
unnamed_at name (r ∷ rs) (suc k) d none lt = unnamed_at name rs k d (later (is_among r.entry.names name) none) (omega arith)
  where
    later : (b : Bool) → cond b (Some r) (row_named name rs) ≡ None → row_named name rs ≡ None
    later true h = absurd cc
    later false h = h

-- a file that is found by a name has it
pub named_has : (name : List ℕ) (rows : List TableRow) (r : TableRow) → row_named name rows ≡ Some r → is_among r.entry.names name ≡ true
named_has name [] r is = absurd cc
named_has name (q ∷ qs) r is = choice (is_among q.entry.names name) refl is (named_has name qs r)
  where
    choice : (b : Bool) → is_among q.entry.names name ≡ b → cond b (Some q) (row_named name qs) ≡ Some r → (row_named name qs ≡ Some r → is_among r.entry.names name ≡ true)
        → is_among r.entry.names name ≡ true
    choice true has h rest = let same : q ≡ r = some_is h in ap (λ (p : TableRow). is_among p.entry.names name) (sym same) ∙ has
    choice false has h rest = rest h

-- a name of one file isn't among the names of another that shares none
pub not_shared : (names ns : List (List ℕ)) (name : List ℕ) → list_any (is_among names) ns ≡ false → is_among names name ≡ true → is_among ns name ≡ false
not_shared names [] name apart has = refl
not_shared names (n ∷ ns) name apart has =
    let parts = or_parts (is_among names n) (list_any (is_among names) ns) apart in
    or_from (bytes_eq n name) (is_among ns name)
    (not_true (bytes_eq n name) (λ same. false≢true (sym parts.0 ∙ ap (is_among names) (same_text n name (sym same)) ∙ has)))
    (not_shared names ns name parts.1 has)

-- the recorded entry of a file that is found
pub found_entry : (rows : List TableRow) (r : TableRow) → row_of r.entry.id rows ≡ Some r → file_of r.entry.id (recorded_of rows) ≡ Some r.entry
found_entry rows r there = file_recorded r.entry.id rows ∙ ap (option_map (λ (q : TableRow). q.entry)) there

-- a file of a table has a name
pub has_name : (rows : List TableRow) (greatest : ℕ) (r : TableRow) → IsTableState rows greatest → row_of r.entry.id rows ≡ Some r → is_named r.entry ≡ true
has_name rows greatest r state there = file_has (λ e. is_named e ≡ true) r.entry.id (recorded_of rows) r.entry state.table.named (found_entry rows r there)

-- a file has no name of another one
not_others : (rows : List TableRow) (greatest : ℕ) (r other : TableRow) (new : List ℕ) → IsTableState rows greatest → row_of r.entry.id rows ≡ Some r
    → row_named new rows ≡ Some other → r.entry.id ≢ other.entry.id → is_among r.entry.names new ≡ false
not_others rows greatest r other new state there is differs =
    let found = found_by_id 0 new rows other state.table.ids is in
    let apart = file_has (λ e. e.id ≢ other.entry.id → shares_name other.entry e ≡ false) r.entry.id (recorded_of rows) r.entry
    (state.table.apart other.entry (found_entry rows other found)) (found_entry rows r there) in
    not_shared other.entry.names r.entry.names new (apart differs) (named_has new rows other is)

-- a file stays as it is where another file's name is taken
pub left_other : (rows : List TableRow) (greatest : ℕ) (r other : TableRow) (new : List ℕ) → IsTableState rows greatest → row_of r.entry.id rows ≡ Some r
    → row_named new rows ≡ Some other → r.entry.id ≢ other.entry.id → row_of r.entry.id (rows_left (new ∷ []) rows) ≡ Some r
left_other rows greatest r other new state there is differs =
    left_same (new ∷ []) r.entry.id rows r there (without_absent r.entry.names new (not_others rows greatest r other new state there is differs)) (has_name rows greatest r state there)

-- nothing is found
pub none_is : (o : Option TableRow) → is_some o ≡ false → o ≡ None
none_is None h = refl
none_is (Some r) h = absurd (false≢true (sym h))

-- the room that is spared is for one more name of the file
pub spared_room : (room most : ℕ) (reserved : Option ℕ) (rows : List TableRow) (r : TableRow) → 1 ≤ names_within room (reserved_row reserved rows) most
    → reserved ≡ Some r.entry.id → row_of r.entry.id rows ≡ Some r → length r.entry.names < room
spared_room room most reserved rows r spare is there =
    let file : reserved_row reserved rows ≡ Some r = ap (λ (o : Option ℕ). reserved_row o rows) is ∙ there in
    let enough : 1 ≤ names_within room (Some r) most = subst (λ (o : Option TableRow). 1 ≤ names_within room o most) file spare in
    omega (arith, enough)

-- no more is spared than this
pub spared_most : (room most : ℕ) (o : Option TableRow) → names_within room o most ≤ most
spared_most room most None = omega arith
spared_most room most (Some r) = omega arith

-- ---- other names of one file

-- each of these names was one before, or is the new one
abbrev pub AreOrNew : List (List ℕ) → List ℕ → List (List ℕ) → Type 0
AreOrNew names new more = (n : List ℕ) → is_among names n ≡ false → bytes_eq n new ≡ false → is_among more n ≡ false

-- names with a new one behind them
pub linked_or_new : (names : List (List ℕ)) (new : List ℕ) → AreOrNew names new (names ++ new ∷ [])
linked_or_new names new n absent other =
    list_any-append (λ m. bytes_eq m n) names (new ∷ [])
    ∙ or_from (is_among names n) (bytes_eq new n || false) absent (or_from (bytes_eq new n) false (bytes_eq_sym new n ∙ other) refl)

-- names with a new one in the place of another
pub renamed_or_new : (old new : List ℕ) (names : List (List ℕ)) → AreOrNew names new (renamed old new names)
renamed_or_new old new names n absent other =
    renamed_among old new n names absent ∙ ap (λ b. is_among names old && b) (bytes_eq_sym new n ∙ other) ∙ nothing (is_among names old)
  where
    nothing : (b : Bool) → (b && false) ≡ false
    nothing true = refl
    nothing false = refl

-- a file that is renamed has a name
pub renamed_some : (old new : List ℕ) (names : List (List ℕ)) → nat_lt 0 (length names) ≡ true → 0 < length (renamed old new names)
renamed_some old new names some = let count = renamed_length old new names in omega (arith, count, ltb-true 0 (length names) some)

-- a file that shares none of the names, and hasn't the new one, shares none
shares_none : (names more : List (List ℕ)) (new : List ℕ) (ns : List (List ℕ)) → AreOrNew names new more → list_any (is_among names) ns ≡ false → is_among ns new ≡ false
    → list_any (is_among more) ns ≡ false
shares_none names more new [] or_new apart unused = refl
shares_none names more new (n ∷ ns) or_new apart unused =
    let first = or_parts (is_among names n) (list_any (is_among names) ns) apart in
    let second = or_parts (bytes_eq n new) (is_among ns new) unused in
    or_from (is_among more n) (list_any (is_among more) ns) (or_new n first.0 second.0) (shares_none names more new ns or_new first.1 second.1)

-- so does each file
others_apart : (e : FileEntry) (more : List (List ℕ)) (new : List ℕ) (es : Table) → AreOrNew e.names new more → AllByRecursion (λ f. f.id ≢ e.id → shares_name e f ≡ false) es
    → AllByRecursion (λ f. is_among f.names new ≡ false) es → AllByRecursion (λ f. f.id ≢ e.id → shares_name (record e { names = more }) f ≡ false) es
others_apart e more new [] or_new apart unused = tt
others_apart e more new (f ∷ fs) or_new apart unused =
    ((λ other. shares_none e.names more new f.names or_new (apart.0 other) unused.0), others_apart e more new fs or_new apart.1 unused.1)

-- what holds of each other file, of files that are others
all_of_others : (P : FileEntry → Type 0) (id : ℕ) (es : Table) → AllByRecursion (λ f. f.id ≢ id → P f) es → AllByRecursion (λ f. f.id ≢ id) es → AllByRecursion P es
all_of_others P id [] h k = tt
all_of_others P id (f ∷ fs) h k = (h.0 k.0, all_of_others P id fs h.1 k.1)

-- a table stays one where a file gets names that no other one has
put_table : (e : FileEntry) (more : List (List ℕ)) (es : Table) → IsTable es → file_of e.id es ≡ Some e → 0 < length more
    → AllByRecursion (λ f. f.id ≢ e.id → shares_name (record e { names = more }) f ≡ false) es → IsTable (put_in (record e { names = more }) es)
put_table e more es table found some apart =
    let new : FileEntry = record e { names = more } in
    subst IsTable (placed_in 0 new e es table.ids found)
    (placed_table new (others_of e.id es) (lt-ltb 0 (length more) some) (others_table e.id es table) (others_other e.id es)
    (all_of_others (λ f. shares_name new f ≡ false) e.id (others_of e.id es) (all_others (λ f. f.id ≢ e.id → shares_name new f ≡ false) e.id es apart) (others_other e.id es)))

-- what is recorded where a file gets other names
recorded_named : (more : List (List ℕ)) (r : TableRow) (rows : List TableRow) → AllByRecursion (λ f. f.id ≡ r.entry.id → f ≡ r.entry) (recorded_of rows)
    → recorded_of (on_row r.entry.id (with_names more) rows) ≡ put_in (record (r.entry) { names = more }) (recorded_of rows)
recorded_named more r [] only = refl
recorded_named more r (q ∷ qs) only =
    ap (λ (e : FileEntry). e ∷ recorded_of (on_row r.entry.id (with_names more) qs)) (choice (q.entry.id == r.entry.id) refl)
    ∙ ap (λ (es : Table). cond (q.entry.id == r.entry.id) (record (r.entry) { names = more }) q.entry ∷ es) (recorded_named more r qs only.1)
  where
    choice : (b : Bool) → (q.entry.id == r.entry.id) ≡ b → (cond b (with_names more q) q).entry ≡ cond b (record (r.entry) { names = more }) q.entry
    choice true is = ap (λ (e : FileEntry). record e { names = more }) (only.0 (eqb-true q.entry.id r.entry.id is))
    choice false is = refl

-- no id is above the greatest, as before
above_named : (id : ℕ) (more : List (List ℕ)) (greatest : ℕ) (rows : List TableRow) → AllByRecursion (λ r. r.entry.id ≤ greatest) rows
    → AllByRecursion (λ r. r.entry.id ≤ greatest) (on_row id (with_names more) rows)
above_named id more greatest [] h = tt
above_named id more greatest (r ∷ rs) h = (choice (r.entry.id == id), above_named id more greatest rs h.1)
  where
    choice : (b : Bool) → (cond b (with_names more r) r).entry.id ≤ greatest
    choice true = h.0
    choice false = h.0

-- a table stays one where a file gets other names, of which the new one is no file's
pub named_state : (rows : List TableRow) (greatest : ℕ) (r : TableRow) (new : List ℕ) (more : List (List ℕ)) → IsTableState rows greatest → row_of r.entry.id rows ≡ Some r
    → row_named new rows ≡ None → 0 < length more → AreOrNew r.entry.names new more → IsTableState (on_row r.entry.id (with_names more) rows) greatest
named_state rows greatest r new more state there unused some or_new =
    let es : Table = recorded_of rows in
    let e : FileEntry = r.entry in
    let found : file_of e.id es ≡ Some e = found_entry rows r there in
    let none = unused_everywhere new rows (ap (λ (o : Option TableRow). is_some o) unused) in
    record {
      table = subst IsTable (sym (recorded_named more r rows (only_file 0 e.id e es state.table.ids found)))
          (put_table e more es state.table found some (others_apart e more new es or_new (state.table.apart e found) none));
      above = above_named r.entry.id more greatest rows state.above;
      limit = state.limit;
    }
