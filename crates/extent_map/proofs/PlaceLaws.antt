-- A row in its place.
use Rattle.std.specs.Prelude.{◌≡◌, ◌≢◌, ℕ, suc, ◌<◌, Bool, true, false, cond, List, [], ◌∷◌, length, insert, nat_lt, ◌==◌, refl}
use Rattle.std.proofs.Common.{set, get_or, ap, sym, ◌∙◌, arith}
use Rattle.std.proofs.lemmas.Bool.{ltb-true, ltb-false, lt-ltb, le-ltb, eq-eqb, ne_eqb}
use Rattle.fs_model.specs.FsState.{TableRow}
use Rattle.extent_map.specs.Applying.{with_row, place_of}

-- a row before the place stays
before : (r q : TableRow) (qs : List TableRow) → q.entry.id < r.entry.id → with_row r (q ∷ qs) ≡ q ∷ with_row r qs
before r q qs lt =
    ap (λ b. cond b (r ∷ q ∷ qs) (cond (r.entry.id == q.entry.id) (r ∷ qs) (q ∷ with_row r qs))) (le-ltb r.entry.id q.entry.id (omega arith))
    ∙ ap (λ b. cond b (r ∷ qs) (q ∷ with_row r qs)) (ne_eqb r.entry.id q.entry.id (λ same. omega arith))

-- a row of the id is replaced
replaced : (r q : TableRow) (qs : List TableRow) → q.entry.id ≡ r.entry.id → with_row r (q ∷ qs) ≡ r ∷ qs
replaced r q qs same =
    ap (λ b. cond b (r ∷ q ∷ qs) (cond (r.entry.id == q.entry.id) (r ∷ qs) (q ∷ with_row r qs))) (le-ltb r.entry.id q.entry.id (omega arith))
    ∙ ap (λ b. cond b (r ∷ qs) (q ∷ with_row r qs)) (eq-eqb r.entry.id q.entry.id (sym same))

-- a row of a greater id comes next
pushed : (r q : TableRow) (qs : List TableRow) → r.entry.id < q.entry.id → with_row r (q ∷ qs) ≡ r ∷ q ∷ qs
pushed r q qs lt =
    ap (λ b. cond b (r ∷ q ∷ qs) (cond (r.entry.id == q.entry.id) (r ∷ qs) (q ∷ with_row r qs))) (lt-ltb r.entry.id q.entry.id lt)

-- the row of the id stands at its place, of a row before it or not
there_choice : (b : Bool) (r q d : TableRow) (qs : List TableRow) (k : ℕ) → nat_lt q.entry.id r.entry.id ≡ b → cond b (suc k) 0 < length (q ∷ qs)
    → (get_or (q ∷ qs) (cond b (suc k) 0) d).entry.id ≡ r.entry.id
    → (k < length qs → (get_or qs k d).entry.id ≡ r.entry.id → set qs k r ≡ with_row r qs) → set (q ∷ qs) (cond b (suc k) 0) r ≡ with_row r (q ∷ qs)
there_choice true r q d qs k is lt same rest = ap (λ rs. q ∷ rs) (rest (omega arith) same) ∙ sym (before r q qs (ltb-true q.entry.id r.entry.id is))
there_choice false r q d qs k is lt same rest = sym (replaced r q qs same)

-- the row of the id is replaced at its place
pub put_there : (r d : TableRow) (rows : List TableRow) → place_of r.entry.id rows < length rows → (get_or rows (place_of r.entry.id rows) d).entry.id ≡ r.entry.id
    → set rows (place_of r.entry.id rows) r ≡ with_row r rows
put_there r d [] lt same = absurd (omega arith)
put_there r d (q ∷ qs) lt same = there_choice (nat_lt q.entry.id r.entry.id) r q d qs (place_of r.entry.id qs) refl lt same (put_there r d qs)

-- no row of the id stands at its place, of a row before it or not
new_choice : (b : Bool) (r q d : TableRow) (qs : List TableRow) (k : ℕ) → nat_lt q.entry.id r.entry.id ≡ b
    → (cond b (suc k) 0 < length (q ∷ qs) → (get_or (q ∷ qs) (cond b (suc k) 0) d).entry.id ≢ r.entry.id)
    → ((k < length qs → (get_or qs k d).entry.id ≢ r.entry.id) → insert qs k r ≡ with_row r qs) → insert (q ∷ qs) (cond b (suc k) 0) r ≡ with_row r (q ∷ qs)
new_choice true r q d qs k is other rest = ap (λ rs. q ∷ rs) (rest (λ lt. other (omega arith))) ∙ sym (before r q qs (ltb-true q.entry.id r.entry.id is))
new_choice false r q d qs k is other rest =
    let differs : q.entry.id ≢ r.entry.id = other (omega arith) in sym (pushed r q qs (omega (arith, ltb-false q.entry.id r.entry.id is, differs)))

-- a new row is put in at its place
pub put_new : (r d : TableRow) (rows : List TableRow) → (place_of r.entry.id rows < length rows → (get_or rows (place_of r.entry.id rows) d).entry.id ≢ r.entry.id)
    → insert rows (place_of r.entry.id rows) r ≡ with_row r rows
put_new r d [] other = refl
put_new r d (q ∷ qs) other = new_choice (nat_lt q.entry.id r.entry.id) r q d qs (place_of r.entry.id qs) refl other (put_new r d qs)
