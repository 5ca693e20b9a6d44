-- Rows that take their place among others in which everything is recorded.
use Rattle.std.specs.Prelude.{◌≡◌, ⊤, ℕ, zero, suc, ◌+◌, ◌<◌, ◌≤◌, Bool, true, false, not, cond, List, [], ◌∷◌, length, Option, Some, None, nat_lt, ◌==◌, Result, Ok, Err, IsOk, OnOk, IfErr, refl}
use Rattle.std.specs.List.{remove}
use Rattle.std.proofs.Common.{set, get_or, ap, sym, subst, ◌∙◌, arith}
use Rattle.std.proofs.lemmas.Bool.{eq-eqb, ne_eqb, le-ltb}
use Rattle.std.specs.List.{AllByRecursion}
use Rattle.log_model.specs.FileTable.{Table, is_named, set_entry, take_names, with_entry}
use Rattle.log_model.specs.TableLaws.{IdsRise, IsTable}
use Rattle.log_model.specs.declared.selection.DamageWhy.{DamageWhy}
use Rattle.log_model.proofs.TableLaws.{others_past, placed_first}
use Rattle.fs_model.specs.FsState.{TableRow, row_of, mounted_row}
use Rattle.extent_map.specs.Applying.{ArePlain, AreSettled, IsPlain, IsFreeAt, IsMade, others_of, rows_of, with_row}
use Rattle.extent_map.specs.Naming.{without_names, rows_left}
use Rattle.extent_map.specs.Records.{recorded_of}
use Rattle.extent_map.specs.Holding.{AreKnown, are_known_free}
use Rattle.extent_map.specs.declared.holders.Holders.{Holders}
use Rattle.extent_map.proofs.HolderLaws.{free_taken}
use Rattle.extent_map.proofs.ChangeLaws.{id_at}

-- ---- a row in its place

-- what is recorded with a row in its place
pub recorded_with : (r : TableRow) (rows : List TableRow) → recorded_of (with_row r rows) ≡ with_entry r.entry (recorded_of rows)
recorded_with r [] = refl
recorded_with r (q ∷ qs) = choice (nat_lt r.entry.id q.entry.id) (r.entry.id == q.entry.id) (recorded_with r qs)
  where
    choice : (b c : Bool) → recorded_of (with_row r qs) ≡ with_entry r.entry (recorded_of qs)
        → recorded_of (cond b (r ∷ q ∷ qs) (cond c (r ∷ qs) (q ∷ with_row r qs)))
        ≡ cond b (r.entry ∷ q.entry ∷ recorded_of qs) (cond c (r.entry ∷ recorded_of qs) (q.entry ∷ with_entry r.entry (recorded_of qs)))
    choice true c h = refl
    choice false true h = refl
    choice false false h = ap (λ (es : Table). q.entry ∷ es) h

-- rows are plain with a plain one more
pub all_with : (r : TableRow) (rows : List TableRow) → IsPlain r → ArePlain rows → ArePlain (with_row r rows)
all_with r [] none h = (none, tt)
all_with r (q ∷ qs) none h = choice (nat_lt r.entry.id q.entry.id) (r.entry.id == q.entry.id) (all_with r qs none h.1)
  where
    choice : (b c : Bool) → ArePlain (with_row r qs) → ArePlain (cond b (r ∷ q ∷ qs) (cond c (r ∷ qs) (q ∷ with_row r qs)))
    choice true c rest = (none, h)
    choice false true rest = (none, h.1)
    choice false false rest = (h.0, rest)

-- ---- fewer names, and fewer rows

-- so they are where names are taken
pub all_fewer : (taken : List (List ℕ)) (rows : List TableRow) → ArePlain rows → ArePlain (rows_left taken rows)
all_fewer taken [] h = tt
all_fewer taken (r ∷ rs) h = choice (is_named (without_names taken r).entry) (all_fewer taken rs h.1)
  where
    choice : (b : Bool) → ArePlain (rows_left taken rs) → ArePlain (cond b (without_names taken r ∷ rows_left taken rs) (rows_left taken rs))
    choice true rest = (h.0, rest)
    choice false rest = rest

-- and without one row
pub all_removed : (rows : List TableRow) (k : ℕ) → ArePlain rows → ArePlain (remove rows k)
all_removed [] zero h = tt
all_removed [] (suc k) h = tt
all_removed (r ∷ rs) zero h = h.1
all_removed (r ∷ rs) (suc k) h = (h.0, all_removed rs k h.1)

-- what is recorded without one row
pub recorded_removed : (from id : ℕ) (rows : List TableRow) (k : ℕ) (d : TableRow) → IdsRise from (recorded_of rows) → k < length rows → (get_or rows k d).entry.id ≡ id
    → recorded_of (remove rows k) ≡ others_of id (recorded_of rows)
recorded_removed from id [] k d rise lt same = absurd (omega arith)
recorded_removed from id (r ∷ rs) zero d rise lt same =
    sym (ap (λ b. cond (not b) (r.entry ∷ others_of id (recorded_of rs)) (others_of id (recorded_of rs))) (eq-eqb r.entry.id id same)
    ∙ others_past (r.entry.id + 1) id (recorded_of rs) rise.1 (omega (arith, same)))
recorded_removed from id (r ∷ rs) (suc k) d rise lt same =
    let above = id_at (r.entry.id + 1) rs k d rise.1 (omega arith) in
    ap (λ (es : Table). r.entry ∷ es) (recorded_removed (r.entry.id + 1) id rs k d rise.1 (omega arith) same)
    ∙ sym (ap (λ b. cond (not b) (r.entry ∷ others_of id (recorded_of rs)) (others_of id (recorded_of rs))) (ne_eqb r.entry.id id (λ at. omega (arith, above))))

-- where no file has an id all are others
pub all_others : (id : ℕ) (rows : List TableRow) → row_of id rows ≡ None → others_of id (recorded_of rows) ≡ recorded_of rows
all_others id [] none = refl
all_others id (r ∷ rs) none = choice (r.entry.id == id) none (all_others id rs)
  where
    choice : (b : Bool) → cond b (Some r) (row_of id rs) ≡ None → (row_of id rs ≡ None → others_of id (recorded_of rs) ≡ recorded_of rs)
        → cond (not b) (r.entry ∷ others_of id (recorded_of rs)) (others_of id (recorded_of rs)) ≡ r.entry ∷ recorded_of rs
    choice true h rest = absurd cc
    choice false h rest = ap (λ (es : Table). r.entry ∷ es) (rest h)

-- ---- one row

-- a row that is put where it stood
pub set_same : (rows : List TableRow) (k : ℕ) (row : TableRow) → row ≡ get_or rows k row → set rows k row ≡ rows
set_same [] k row is = refl
set_same (r ∷ rs) zero row is = ap (λ (q : TableRow). q ∷ rs) is
set_same (r ∷ rs) (suc k) row is = ap (λ (qs : List TableRow). r ∷ qs) (set_same rs k row is)

-- a row is removed, whatever stands in its place
pub remove_set : (rows : List TableRow) (k : ℕ) (new : TableRow) → remove (set rows k new) k ≡ remove rows k
remove_set [] zero new = refl
remove_set [] (suc k) new = refl
remove_set (r ∷ rs) zero new = refl
remove_set (r ∷ rs) (suc k) new = ap (λ (qs : List TableRow). r ∷ qs) (remove_set rs k new)

-- each row is plain
pub plain_at : (rows : List TableRow) (k : ℕ) (d : TableRow) → ArePlain rows → k < length rows → IsPlain (get_or rows k d)
plain_at [] k d h lt = absurd (omega arith)
plain_at (r ∷ rs) zero d h lt = h.0
plain_at (r ∷ rs) (suc k) d h lt = plain_at rs k d h.1 (omega arith)

-- rows are plain with a plain one in the place of another
pub all_set : (rows : List TableRow) (k : ℕ) (new : TableRow) → ArePlain rows → IsPlain new → ArePlain (set rows k new)
all_set [] k new h plain = tt
all_set (r ∷ rs) zero new h plain = (plain, h.1)
all_set (r ∷ rs) (suc k) new h plain = (h.0, all_set rs k new h.1 plain)

-- plain rows are those of what is recorded
pub settled_rows : (rows : List TableRow) → ArePlain rows → rows ≡ rows_of (recorded_of rows)
settled_rows [] h = refl
settled_rows (r ∷ rs) h =
    ap (λ (q : TableRow). q ∷ rs) (ap (λ u. record r { unrecorded = u }) h.0.0 ∙ ap (λ n. record { entry = r.entry; unrecorded = []; shown = n }) h.0.1)
    ∙ ap (λ (qs : List TableRow). mounted_row r.entry ∷ qs) (settled_rows rs h.1)

-- rows in which everything is recorded are plain where all of it is shown
pub plain_rows : (rows : List TableRow) → AllByRecursion (λ r. r.unrecorded ≡ []) rows → AreSettled rows → ArePlain rows
plain_rows [] h k = tt
plain_rows (r ∷ rs) h k = ((h.0, k.0 h.0), plain_rows rs h.1 k.1)

-- everything is recorded in plain rows
pub plain_recorded : (rows : List TableRow) → ArePlain rows → AllByRecursion (λ r. r.unrecorded ≡ []) rows
plain_recorded [] h = tt
plain_recorded (r ∷ rs) h = (h.0.0, plain_recorded rs h.1)

-- and all of it is shown
pub plain_settled : (rows : List TableRow) → ArePlain rows → AreSettled rows
plain_settled [] h = tt
plain_settled (r ∷ rs) h = ((λ none. h.0.1), plain_settled rs h.1)

-- the rows of a table are plain
rows_plain : (es : Table) → ArePlain (rows_of es)
rows_plain [] = tt
rows_plain (e ∷ es) = ((refl, refl), rows_plain es)

-- a row that was put stands there
pub set_at : (rows : List TableRow) (k : ℕ) (new d : TableRow) → k < length rows → get_or (set rows k new) k d ≡ new
set_at [] k new d lt = absurd (omega arith)
set_at (r ∷ rs) zero new d lt = refl
set_at (r ∷ rs) (suc k) new d lt = set_at rs k new d (omega arith)

-- the row at a place, whatever else would stand for it
pub same_at : (rows : List TableRow) (k : ℕ) (d e : TableRow) → k < length rows → get_or rows k d ≡ get_or rows k e
same_at [] k d e lt = absurd (omega arith)
same_at (r ∷ rs) zero d e lt = refl
same_at (r ∷ rs) (suc k) d e lt = same_at rs k d e (omega arith)

-- no more rows than before
pub fewer_rows : (taken : List (List ℕ)) (rows : List TableRow) → length (rows_left taken rows) ≤ length rows
fewer_rows taken [] = omega arith
fewer_rows taken (r ∷ rs) = choice (is_named (without_names taken r).entry) (fewer_rows taken rs)
  where
    choice : (b : Bool) → length (rows_left taken rs) ≤ length rs → length (cond b (without_names taken r ∷ rows_left taken rs) (rows_left taken rs)) ≤ length (r ∷ rs)
    choice true le = omega (arith, le)
    choice false le = omega (arith, le)

-- what holds of an answer that succeeds
pub succeeded : {A E : Type 0} (r : Result A E) (P : Type 0) → IsOk r → OnOk r P → P
succeeded (Ok x) P ok h = h
succeeded (Err e) P ok h = absurd cc

-- rows that a snapshot makes are plain
pub made_plain : (after : Result Table DamageWhy) (rows : List TableRow) → IsMade after rows → ArePlain rows
made_plain after rows made = subst ArePlain (sym made.settled) (rows_plain (recorded_of rows))

-- ---- a row in the place of another of its id

-- ids rise as before
pub rise_set : (from : ℕ) (rows : List TableRow) (k : ℕ) (new d : TableRow) → IdsRise from (recorded_of rows) → (get_or rows k d).entry.id ≡ new.entry.id
    → IdsRise from (recorded_of (set rows k new))
rise_set from [] k new d rise same = tt
rise_set from (r ∷ rs) zero new d rise same =
    (omega (arith, rise.0, same), subst (λ n. IdsRise (n + 1) (recorded_of rs)) same rise.1)
rise_set from (r ∷ rs) (suc k) new d rise same = (rise.0, rise_set (r.entry.id + 1) rs k new d rise.1 same)

-- what is recorded with it
pub recorded_set : (from : ℕ) (rows : List TableRow) (k : ℕ) (new d : TableRow) → IdsRise from (recorded_of rows) → k < length rows → (get_or rows k d).entry.id ≡ new.entry.id
    → recorded_of (set rows k new) ≡ with_entry new.entry (others_of new.entry.id (recorded_of rows))
recorded_set from [] k new d rise lt same = absurd (omega arith)
recorded_set from (r ∷ rs) zero new d rise lt same =
    sym (ap (λ b. with_entry new.entry (cond (not b) (r.entry ∷ others_of new.entry.id (recorded_of rs)) (others_of new.entry.id (recorded_of rs)))) (eq-eqb r.entry.id new.entry.id same)
    ∙ ap (with_entry new.entry) (others_past (r.entry.id + 1) new.entry.id (recorded_of rs) rise.1 (omega (arith, same)))
    ∙ placed_first (r.entry.id + 1) new.entry (recorded_of rs) rise.1 (omega (arith, same)))
recorded_set from (r ∷ rs) (suc k) new d rise lt same =
    let above = id_at (r.entry.id + 1) rs k d rise.1 (omega arith) in
    let rest = recorded_set (r.entry.id + 1) rs k new d rise.1 (omega arith) same in
    let others = others_of new.entry.id (recorded_of rs) in
    ap (λ (es : Table). r.entry ∷ es) rest
    ∙ sym (ap (λ b. with_entry new.entry (cond (not b) (r.entry ∷ others) others)) (ne_eqb r.entry.id new.entry.id (λ at. omega (arith, above, same)))
    ∙ ap (λ b. cond b (new.entry ∷ r.entry ∷ others) (cond (new.entry.id == r.entry.id) (new.entry ∷ others) (r.entry ∷ with_entry new.entry others)))
    (le-ltb new.entry.id r.entry.id (omega (arith, above, same)))
    ∙ ap (λ b. cond b (new.entry ∷ others) (r.entry ∷ with_entry new.entry others)) (ne_eqb new.entry.id r.entry.id (λ at. omega (arith, above, same, at))))

-- the others are the same
pub others_set : (rows : List TableRow) (k : ℕ) (new d : TableRow) → k < length rows → (get_or rows k d).entry.id ≡ new.entry.id
    → others_of new.entry.id (recorded_of (set rows k new)) ≡ others_of new.entry.id (recorded_of rows)
others_set [] k new d lt same = absurd (omega arith)
others_set (r ∷ rs) zero new d lt same =
    let others = others_of new.entry.id (recorded_of rs) in
    ap (λ b. cond (not b) (new.entry ∷ others) others) (eq-eqb new.entry.id new.entry.id refl)
    ∙ sym (ap (λ b. cond (not b) (r.entry ∷ others) others) (eq-eqb r.entry.id new.entry.id same))
others_set (r ∷ rs) (suc k) new d lt same =
    ap (λ (es : Table). cond (not (r.entry.id == new.entry.id)) (r.entry ∷ es) es) (others_set rs k new d (omega arith) same)

-- what is made where its names are taken from the others
pub settled_made : (rows : List TableRow) (k : ℕ) (new d : TableRow) (es : Table) → k < length rows → (get_or rows k d).entry.id ≡ new.entry.id
    → es ≡ set_entry (get_or (set rows k new) k d).entry (recorded_of (set rows k new)) → es ≡ set_entry new.entry (recorded_of rows)
settled_made rows k new d es lt same made =
    made ∙ ap (λ (r : TableRow). set_entry r.entry (recorded_of (set rows k new))) (set_at rows k new d lt)
    ∙ ap (λ (fs : Table). with_entry new.entry (take_names new.entry.names fs)) (others_set rows k new d lt same)

-- nothing is taken where the names are free
pub free_set : (holders : Option Holders) (rows : List TableRow) (k : ℕ) (new d : TableRow) → IsTable (recorded_of rows) → AreKnown holders (recorded_of rows)
    → are_known_free holders new.entry.id new.entry.names ≡ true → k < length rows → (get_or rows k d).entry.id ≡ new.entry.id → IsFreeAt k (set rows k new)
free_set holders rows k new d table known free lt same = λ e.
    let taken = free_taken holders new.entry.id new.entry.names (recorded_of rows) table known free in
    let others = others_set rows k new d lt same in
    subst (λ (r : TableRow). take_names r.entry.names (others_of r.entry.id (recorded_of (set rows k new))) ≡ others_of r.entry.id (recorded_of (set rows k new)))
    (sym (set_at rows k new e lt)) (subst (λ (fs : Table). take_names new.entry.names fs ≡ fs) (sym others) taken)

-- ---- a place that is known

-- a row that stands for one that isn't there
abbrev pub no_row : TableRow
no_row = record { entry = record { id = 0; size = 0; hint = 0; time = 0; active = 0; sparse = false; extents = []; names = [] }; unrecorded = []; shown = 0 }

-- what holds whatever stands for a missing row
pub made_at : {A E : Type 0} (r : Result A E) (X : TableRow → Type 0) → OnOk r ((d : TableRow) → X d) → OnOk r (X no_row)
made_at (Ok x) X h = h no_row
made_at (Err e) X h = tt

-- the same of a refusal
pub refused_at : {A E : Type 0} (r : Result A E) (X : TableRow → E → Type 0) → IfErr r (λ e. (d : TableRow) → X d e) → IfErr r (X no_row)
refused_at (Ok x) X h = tt
refused_at (Err e) X h = h no_row

-- ---- row after row

-- so many of the first rows show everything, where everything is recorded
abbrev pub settled_to : ℕ → List TableRow → Type 0
settled_to zero rows = ⊤
settled_to (suc k) [] = ⊤
settled_to (suc k) (r ∷ rs) = (r.unrecorded ≡ [] → r.shown ≡ r.entry.size) × settled_to k rs

-- one row more
pub settled_next : (k : ℕ) (rows : List TableRow) (r : TableRow) → k < length rows → r ≡ get_or rows k r → (r.unrecorded ≡ [] → r.shown ≡ r.entry.size)
    → settled_to k rows → settled_to (suc k) rows
settled_next k [] r lt is holds h = absurd (omega arith)
settled_next zero (q ∷ qs) r lt is holds h = (subst (λ (p : TableRow). p.unrecorded ≡ [] → p.shown ≡ p.entry.size) is holds, tt)
settled_next (suc k) (q ∷ qs) r lt is holds h = (h.0, settled_next k qs r (omega arith) is holds h.1)

-- all rows
pub settled_all : (k : ℕ) (rows : List TableRow) → length rows ≤ k → settled_to k rows → AreSettled rows
settled_all k [] le h = tt
settled_all zero (r ∷ rs) le h = absurd (omega arith)
settled_all (suc k) (r ∷ rs) le h = (h.0, settled_all k rs (omega arith) h.1)
