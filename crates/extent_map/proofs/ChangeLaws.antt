-- Changes of one row.
use Rattle.std.specs.Prelude.{◌≡◌, ◌≢◌, ℕ, zero, suc, ◌+◌, ◌<◌, ◌≤◌, Bool, true, false, cond, List, [], ◌∷◌, length, map, Some, ◌==◌, nat_lt, refl}
use Rattle.std.specs.List.{AllByRecursion, list_any}
use Rattle.std.proofs.Common.{set, get_or, ap, sym, subst, ◌∙◌, arith}
use Rattle.std.proofs.lemmas.Bool.{eq-eqb, ne_eqb}
use Rattle.record_model.specs.declared.types.FileEntry.{FileEntry}
use Rattle.log_model.specs.FileTable.{file_of, is_among, is_named, shares_name}
use Rattle.log_model.specs.TableLaws.{IdsRise}
use Rattle.fs_model.specs.FsState.{TableRow, on_row}
use Rattle.extent_map.specs.Records.{recorded_of}
use Rattle.extent_map.specs.TableState.{IsTableState}

-- rows past an id stay
pub past : (from id : ℕ) (f : TableRow → TableRow) (rows : List TableRow) → IdsRise from (recorded_of rows) → id < from → on_row id f rows ≡ rows
past from id f [] rise lt = refl
past from id f (r ∷ rs) rise lt =
    ap (λ b. cond b (f r) r ∷ on_row id f rs) (ne_eqb r.entry.id id (λ same. omega (arith, rise.0)))
    ∙ ap (λ (qs : List TableRow). r ∷ qs) (past (r.entry.id + 1) id f rs rise.1 (omega (arith, rise.0)))

-- an id behind others is not below where they rise from
pub id_at : (from : ℕ) (rows : List TableRow) (k : ℕ) (d : TableRow) → IdsRise from (recorded_of rows) → k < length rows → from ≤ (get_or rows k d).entry.id
id_at from [] k d rise lt = absurd (omega arith)
id_at from (r ∷ rs) zero d rise lt = rise.0
id_at from (r ∷ rs) (suc k) d rise lt = let next = id_at (r.entry.id + 1) rs k d rise.1 (omega arith) in omega (arith, next, rise.0)

-- the row at the place of its id is the one that changes
pub set_is_change : (from : ℕ) (id : ℕ) (f : TableRow → TableRow) (rows : List TableRow) (k : ℕ) (d : TableRow) → IdsRise from (recorded_of rows) → k < length rows
    → (get_or rows k d).entry.id ≡ id → set rows k (f (get_or rows k d)) ≡ on_row id f rows
set_is_change from id f [] k d rise lt same = absurd (omega arith)
set_is_change from id f (r ∷ rs) zero d rise lt same =
    sym (ap (λ b. cond b (f r) r ∷ on_row id f rs) (eq-eqb r.entry.id id same)
    ∙ ap (λ (qs : List TableRow). f r ∷ qs) (past (r.entry.id + 1) id f rs rise.1 (omega arith)))
set_is_change from id f (r ∷ rs) (suc k) d rise lt same =
    let above = id_at (r.entry.id + 1) rs k d rise.1 (omega arith) in
    ap (λ (qs : List TableRow). r ∷ qs) (set_is_change (r.entry.id + 1) id f rs k d rise.1 (omega arith) same)
    ∙ sym (ap (λ b. cond b (f r) r ∷ on_row id f rs) (ne_eqb r.entry.id id (λ at. omega (arith, above))))

-- ---- what a change keeps

-- a change that keeps id and names, of one row or another
abbrev pub KeepsNames : (TableRow → TableRow) → Type 0
KeepsNames g = (r : TableRow) → ((g r).entry.id ≡ r.entry.id) × ((g r).entry.names ≡ r.entry.names)

-- a change of the row of an id keeps what it keeps of that row
pub kept_by : (id : ℕ) (f : TableRow → TableRow) → KeepsNames f → KeepsNames (λ r. cond (r.entry.id == id) (f r) r)
kept_by id f keeps r = choice (r.entry.id == id)
  where
    choice : (b : Bool) → ((cond b (f r) r).entry.id ≡ r.entry.id) × ((cond b (f r) r).entry.names ≡ r.entry.names)
    choice true = keeps r
    choice false = (refl, refl)

-- the ids rise as before
rise_kept : (g : TableRow → TableRow) (from : ℕ) (rows : List TableRow) → KeepsNames g → IdsRise from (recorded_of rows) → IdsRise from (recorded_of (map g rows))
rise_kept g from [] keeps h = tt
rise_kept g from (r ∷ rs) keeps h =
    let same = (keeps r).0 in
    (omega (arith, h.0, same), subst (λ i. IdsRise (i + 1) (recorded_of (map g rs))) (sym same) (rise_kept g (r.entry.id + 1) rs keeps h.1))

-- each file has a name as before
named_kept : (g : TableRow → TableRow) (rows : List TableRow) → KeepsNames g → AllByRecursion (λ e. is_named e ≡ true) (recorded_of rows)
    → AllByRecursion (λ e. is_named e ≡ true) (recorded_of (map g rows))
named_kept g [] keeps h = tt
named_kept g (r ∷ rs) keeps h = (ap (λ (names : List (List ℕ)). nat_lt 0 (length names)) (keeps r).1 ∙ h.0, named_kept g rs keeps h.1)

-- the row that a changed one was
was : (g : TableRow → TableRow) (id : ℕ) (rows : List TableRow) (e : FileEntry) → KeepsNames g → file_of id (recorded_of (map g rows)) ≡ Some e
    → (r : TableRow) × (file_of id (recorded_of rows) ≡ Some r.entry) × ((g r).entry ≡ e)
was g id [] e keeps h = absurd cc
was g id (r ∷ rs) e keeps h = choice (r.entry.id == id) (subst (λ i. cond (i == id) (Some (g r).entry) (file_of id (recorded_of (map g rs))) ≡ Some e) (keeps r).0 h) (was g id rs e keeps)
  where
    choice : (b : Bool) → cond b (Some (g r).entry) (file_of id (recorded_of (map g rs))) ≡ Some e
        → (file_of id (recorded_of (map g rs)) ≡ Some e → (q : TableRow) × (file_of id (recorded_of rs) ≡ Some q.entry) × ((g q).entry ≡ e))
        → (q : TableRow) × (cond b (Some r.entry) (file_of id (recorded_of rs)) ≡ Some q.entry) × ((g q).entry ≡ e)
    choice true h rest = (r, refl, cc)
    choice false h rest = rest h

-- no name is shared as before
apart_kept : (g : TableRow → TableRow) (e f : FileEntry) (rows : List TableRow) → KeepsNames g → e.id ≡ f.id → e.names ≡ f.names
    → AllByRecursion (λ x. x.id ≢ e.id → shares_name e x ≡ false) (recorded_of rows) → AllByRecursion (λ x. x.id ≢ f.id → shares_name f x ≡ false) (recorded_of (map g rows))
apart_kept g e f [] keeps ids names h = tt
apart_kept g e f (r ∷ rs) keeps ids names h = (
  λ other. ap (λ (ns : List (List ℕ)). list_any (is_among f.names) ns) (keeps r).1 ∙ ap (λ (ns : List (List ℕ)). list_any (is_among ns) r.entry.names) (sym names) ∙ h.0 (λ same. other ((keeps r).0 ∙ same ∙ ids)),
  apart_kept g e f rs keeps ids names h.1,
)

-- no id is above the greatest as before
above_kept : (g : TableRow → TableRow) (greatest : ℕ) (rows : List TableRow) → KeepsNames g → AllByRecursion (λ r. r.entry.id ≤ greatest) rows
    → AllByRecursion (λ r. r.entry.id ≤ greatest) (map g rows)
above_kept g greatest [] keeps h = tt
above_kept g greatest (r ∷ rs) keeps h = let same = (keeps r).0 in (omega (arith, h.0, same), above_kept g greatest rs keeps h.1)

-- a change of rows that keeps ids and names keeps the table one
pub mapped_state : (g : TableRow → TableRow) (rows : List TableRow) (greatest : ℕ) → KeepsNames g → IsTableState rows greatest → IsTableState (map g rows) greatest
mapped_state g rows greatest all state =
    record {
      table = record {
        ids = rise_kept g 0 rows all state.table.ids;
        named = named_kept g rows all state.table.named;
        apart = λ e found.
            let old = was g e.id rows e all found in
            let same : old.0.entry.id ≡ e.id = sym (all old.0).0 ∙ ap (λ (x : FileEntry). x.id) old.2 in
            let names : old.0.entry.names ≡ e.names = sym (all old.0).1 ∙ ap (λ (x : FileEntry). x.names) old.2 in
            apart_kept g old.0.entry e rows all same names (state.table.apart old.0.entry (ap (λ i. file_of i (recorded_of rows)) same ∙ old.1));
      };
      above = above_kept g greatest rows all state.above;
      limit = state.limit;
    }

-- so does one of one row
pub kept_state : (id : ℕ) (f : TableRow → TableRow) (rows : List TableRow) (greatest : ℕ) → KeepsNames f → IsTableState rows greatest → IsTableState (on_row id f rows) greatest
kept_state id f rows greatest keeps state = mapped_state (λ r. cond (r.entry.id == id) (f r) r) rows greatest (kept_by id f keeps) state

-- the row at the place of an id, changed by this, where the ids rise
pub changed_in : (id : ℕ) (f : TableRow → TableRow) (rows : List TableRow) (k : ℕ) (row new : TableRow) → IdsRise 0 (recorded_of rows) → k < length rows
    → row ≡ get_or rows k row → (get_or rows k row).entry.id ≡ id → new ≡ f row → set rows k new ≡ on_row id f rows
changed_in id f rows k row new rise lt is same new_is = ap (set rows k) (new_is ∙ ap f is) ∙ set_is_change 0 id f rows k row rise lt same

-- the same in a table
pub changed_at : (id : ℕ) (f : TableRow → TableRow) (rows : List TableRow) (greatest k : ℕ) (row new : TableRow) → IsTableState rows greatest → k < length rows
    → row ≡ get_or rows k row → (get_or rows k row).entry.id ≡ id → new ≡ f row → set rows k new ≡ on_row id f rows
changed_at id f rows greatest k row new state lt is same new_is = changed_in id f rows k row new state.table.ids lt is same new_is
