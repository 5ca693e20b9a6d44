-- An id among rows by rising id, found at its place.
use Rattle.std.specs.Prelude.{◌≡◌, ◌≢◌, ℕ, zero, suc, ◌+◌, ◌<◌, ◌≤◌, Bool, true, false, cond, List, [], ◌∷◌, length, Some, None, nat_lt, refl}
use Rattle.std.proofs.Common.{get_or, ap, sym, ◌∙◌, arith}
use Rattle.std.proofs.lemmas.Bool.{ltb-true, ltb-false, lt-ltb, le-ltb, eq-eqb, ne_eqb}
use Rattle.log_model.specs.TableLaws.{IdsRise}
use Rattle.fs_model.specs.FsState.{TableRow, row_of}
use Rattle.extent_map.specs.Applying.{place_of}
use Rattle.extent_map.specs.Lookups.{at_least, id_at, least_id_from, lower}
use Rattle.extent_map.specs.Records.{recorded_of}
use Rattle.extent_map.proofs.ChangeLaws.{id_at as id_from}
use Rattle.extent_map.proofs.LookupLaws.{lower_assoc}

-- ---- by halves

-- the place is among the rows, or behind them
pub place_within : (id : ℕ) (rows : List TableRow) → place_of id rows ≤ length rows
place_within id [] = omega arith
place_within id (q ∷ qs) = choice (nat_lt q.entry.id id) (place_within id qs)
  where
    choice : (b : Bool) → place_of id qs ≤ length qs → cond b (suc (place_of id qs)) 0 ≤ length (q ∷ qs)
    choice true le = omega arith
    choice false le = omega arith

-- a row of a lower id stands before the place
pub before_place : (from id : ℕ) (rows : List TableRow) (i : ℕ) (d : TableRow) → IdsRise from (recorded_of rows) → i < length rows → (get_or rows i d).entry.id < id
    → i < place_of id rows
before_place from id [] i d rise lt low = absurd (omega arith)
before_place from id (q ∷ qs) zero d rise lt low =
    let place : place_of id (q ∷ qs) ≡ suc (place_of id qs) = ap (λ b. cond b (suc (place_of id qs)) 0) (lt-ltb q.entry.id id low) in omega (arith, place)
before_place from id (q ∷ qs) (suc i) d rise lt low =
    let above = id_from (q.entry.id + 1) qs i d rise.1 (omega arith) in
    let place : place_of id (q ∷ qs) ≡ suc (place_of id qs) = ap (λ b. cond b (suc (place_of id qs)) 0) (lt-ltb q.entry.id id (omega (arith, above, low))) in
    let behind = before_place (q.entry.id + 1) id qs i d rise.1 (omega arith) low in
    omega (arith, place, behind)

-- another stands at it or behind it
pub from_place : (id : ℕ) (rows : List TableRow) (i : ℕ) (d : TableRow) → i < length rows → id ≤ (get_or rows i d).entry.id → place_of id rows ≤ i
from_place id [] i d lt high = absurd (omega arith)
from_place id (q ∷ qs) zero d lt high =
    let place : place_of id (q ∷ qs) ≡ 0 = ap (λ b. cond b (suc (place_of id qs)) 0) (le-ltb q.entry.id id high) in omega (arith, place)
from_place id (q ∷ qs) (suc i) d lt high = choice (nat_lt q.entry.id id) (from_place id qs i d (omega arith) high)
  where
    choice : (b : Bool) → place_of id qs ≤ i → cond b (suc (place_of id qs)) 0 ≤ suc i
    choice true le = omega arith
    choice false le = omega arith

-- ---- the row of an id

-- it stands at its place
pub row_at : (id : ℕ) (rows : List TableRow) (d : TableRow) → place_of id rows < length rows → (get_or rows (place_of id rows) d).entry.id ≡ id
    → row_of id rows ≡ Some (get_or rows (place_of id rows) d)
row_at id [] d lt same = absurd (omega arith)
row_at id (q ∷ qs) d lt same = choice (nat_lt q.entry.id id) (place_of id qs) refl lt same (row_at id qs d)
  where
    choice : (b : Bool) (k : ℕ) → nat_lt q.entry.id id ≡ b → cond b (suc k) 0 < length (q ∷ qs) → (get_or (q ∷ qs) (cond b (suc k) 0) d).entry.id ≡ id
        → (k < length qs → (get_or qs k d).entry.id ≡ id → row_of id qs ≡ Some (get_or qs k d)) → row_of id (q ∷ qs) ≡ Some (get_or (q ∷ qs) (cond b (suc k) 0) d)
    choice true k is lt same rest =
        ap (λ b. cond b (Some q) (row_of id qs)) (ne_eqb q.entry.id id (λ here. omega (arith, ltb-true q.entry.id id is))) ∙ rest (omega arith) same
    choice false k is lt same rest = ap (λ b. cond b (Some q) (row_of id qs)) (eq-eqb q.entry.id id same)

-- rows past an id don't have it
past_all : (from id : ℕ) (rows : List TableRow) → IdsRise from (recorded_of rows) → id < from → row_of id rows ≡ None
past_all from id [] rise lt = refl
past_all from id (r ∷ rs) rise lt =
    ap (λ b. cond b (Some r) (row_of id rs)) (ne_eqb r.entry.id id (λ same. omega (arith, rise.0)))
    ∙ past_all (r.entry.id + 1) id rs rise.1 (omega (arith, rise.0))

-- or there is none
pub no_row_at : (from id : ℕ) (rows : List TableRow) (d : TableRow) → IdsRise from (recorded_of rows)
    → (place_of id rows < length rows → (get_or rows (place_of id rows) d).entry.id ≢ id) → row_of id rows ≡ None
no_row_at from id [] d rise other = refl
no_row_at from id (q ∷ qs) d rise other = choice (nat_lt q.entry.id id) (place_of id qs) refl other (no_row_at (q.entry.id + 1) id qs d rise.1)
  where
    choice : (b : Bool) (k : ℕ) → nat_lt q.entry.id id ≡ b → (cond b (suc k) 0 < length (q ∷ qs) → (get_or (q ∷ qs) (cond b (suc k) 0) d).entry.id ≢ id)
        → ((k < length qs → (get_or qs k d).entry.id ≢ id) → row_of id qs ≡ None) → row_of id (q ∷ qs) ≡ None
    choice true k is other rest =
        ap (λ b. cond b (Some q) (row_of id qs)) (ne_eqb q.entry.id id (λ here. omega (arith, ltb-true q.entry.id id is))) ∙ rest (λ lt. other (omega arith))
    choice false k is other rest =
        let differs : q.entry.id ≢ id = other (omega arith) in
        ap (λ b. cond b (Some q) (row_of id qs)) (ne_eqb q.entry.id id differs)
        ∙ past_all (q.entry.id + 1) id qs rise.1 (omega (arith, ltb-false q.entry.id id is, differs))

-- ---- the least id from a number on

-- a number below all ids is the lowest
least_past : (a from low : ℕ) (rows : List TableRow) → IdsRise from (recorded_of rows) → a < from → lower (Some a) (least_id_from low rows) ≡ Some a
least_past a from low [] rise lt = refl
least_past a from low (r ∷ rs) rise lt =
    sym (lower_assoc (Some a) (at_least low r.entry.id) (least_id_from low rs))
    ∙ ap (λ o. lower o (least_id_from low rs)) (choice (nat_lt r.entry.id low))
    ∙ least_past a (r.entry.id + 1) low rs rise.1 (omega (arith, rise.0))
  where
    choice : (b : Bool) → lower (Some a) (cond b None (Some r.entry.id)) ≡ Some a
    choice true = refl
    choice false = ap Some (omega (arith, rise.0))

-- it stands at the number's place
pub least_at : (from low : ℕ) (rows : List TableRow) → IdsRise from (recorded_of rows) → least_id_from low rows ≡ id_at (place_of low rows) rows
least_at from low [] rise = refl
least_at from low (q ∷ qs) rise = choice (nat_lt q.entry.id low) (least_at (q.entry.id + 1) low qs rise.1)
  where
    choice : (b : Bool) → least_id_from low qs ≡ id_at (place_of low qs) qs
        → lower (cond b None (Some q.entry.id)) (least_id_from low qs) ≡ id_at (cond b (suc (place_of low qs)) 0) (q ∷ qs)
    choice true rest = rest
    choice false rest = least_past q.entry.id (q.entry.id + 1) low qs rise.1 (omega arith)
