-- A walk over files by rising id finds each of them.
use Rattle.std.specs.Prelude.{◌≡◌, ℕ, ◌+◌, ◌-◌, ◌^◌, ◌<◌, ◌≤◌, Bool, true, false, cond, List, [], ◌∷◌, ◌++◌, Option, Some, None, min, nat_lt, ◌==◌, if◌then◌else◌, option_map, flat_map, IfSome, refl}
use Rattle.std.proofs.Common.{◌∙◌, ap, sym, subst, append_assoc, append-nil, arith}
use Rattle.std.proofs.lemmas.Bool.{eq-eqb, eqb-true, ltb-false, ltb-true}
use Rattle.std.specs.List.{AllByRecursion}
use Rattle.record_model.specs.Grammar.{IsWritable}
use Rattle.record_model.specs.declared.types.FileEntry.{FileEntry}
use Rattle.log_model.specs.FileTable.{Table}
use Rattle.log_model.specs.TableLaws.{IdsRise}
use Rattle.fs_model.specs.FsState.{TableRow, row_of}
use Rattle.extent_map.specs.Lookups.{least_id_from, lower}
use Rattle.extent_map.specs.Records.{recorded_of}
use Rattle.zenfs_cmd.specs.Walks.{HaveIds, first_from, head_of, rest_from}

-- the file of an id has it
row_has_id : (id : ℕ) (rows : List TableRow) (b : Bool) (q r : TableRow) → (q.entry.id == id) ≡ b → ((s : TableRow) → row_of id rows ≡ Some s → s.entry.id ≡ id)
    → cond b (Some q) (row_of id rows) ≡ Some r → r.entry.id ≡ id
row_has_id id rows true q r is rest h = let same : q ≡ r = cc in ap (λ (s : TableRow). s.entry.id) (sym same) ∙ eqb-true q.entry.id id is
row_has_id id rows false q r is rest h = rest r h

pub row_id : (id : ℕ) (rows : List TableRow) (r : TableRow) → row_of id rows ≡ Some r → r.entry.id ≡ id
row_id id [] r h = absurd cc
row_id id (q ∷ rows) r h = row_has_id id rows (q.entry.id == id) q r refl (row_id id rows) h

-- the lower of two numbers is one of them
lower_choice : (P : ℕ → Type 0) (a b : ℕ) (t : Bool) → nat_lt a b ≡ t → P a → P b → P (min a b)
lower_choice P a b true is here there = let same : a ≡ min a b = omega (arith, ltb-true a b is) in subst P same here
lower_choice P a b false is here there = let same : b ≡ min a b = omega (arith, ltb-false a b is) in subst P same there

-- the least of some numbers is one of them
least_choice : (P : ℕ → Type 0) (from id : ℕ) (b : Bool) (o : Option ℕ) (k : ℕ) → nat_lt id from ≡ b → (b ≡ false → P id) → ((n : ℕ) → o ≡ Some n → P n)
    → lower (cond b None (Some id)) o ≡ Some k → P k
least_choice P from id true None k is here rest h = rest k h
least_choice P from id true (Some n) k is here rest h = rest k h
least_choice P from id false None k is here rest h = let same : id ≡ k = cc in subst P same (here refl)
least_choice P from id false (Some n) k is here rest h = let same : min id n ≡ k = cc in subst P same (lower_choice P id n (nat_lt id n) refl (here refl) (rest n refl))

-- it isn't below the number from which it is sought
pub least_is_above : (from : ℕ) (rows : List TableRow) (k : ℕ) → least_id_from from rows ≡ Some k → from ≤ k
least_is_above from [] k h = absurd cc
least_is_above from (r ∷ rows) k h =
    least_choice (λ n. from ≤ n) from r.entry.id (nat_lt r.entry.id from) (least_id_from from rows) k refl
    (λ is. ltb-false r.entry.id from is) (least_is_above from rows) h

-- nor below the first of rising ids
least_in_order : (from low : ℕ) (rows : List TableRow) (k : ℕ) → IdsRise low (recorded_of rows) → least_id_from from rows ≡ Some k → low ≤ k
least_in_order from low [] k rise h = absurd cc
least_in_order from low (r ∷ rows) k rise h =
    least_choice (λ n. low ≤ n) from r.entry.id (nat_lt r.entry.id from) (least_id_from from rows) k refl (λ is. rise.0)
    (λ n is. let above : r.entry.id + 1 ≤ n = least_in_order from (r.entry.id + 1) rows n rise.1 is in omega (arith, above, rise.0)) h

-- the id of the first file
abbrev first_id : ℕ → Table → Option ℕ
first_id from es = option_map (λ e. e.id) (first_from from es)

-- the lower of a number and of greater ones
lower_is_first : (id : ℕ) (o : Option ℕ) → ((n : ℕ) → o ≡ Some n → id + 1 ≤ n) → lower (Some id) o ≡ Some id
lower_is_first id None above = refl
lower_is_first id (Some n) above = let le : id + 1 ≤ n = above n refl in let same : min id n ≡ id = omega (arith, le) in ap (λ k. Some k) same

-- by rising ids the least one is that of the first file
least_step : (from : ℕ) (r : TableRow) (rows : List TableRow) (b : Bool) → nat_lt r.entry.id from ≡ b → IdsRise (r.entry.id + 1) (recorded_of rows)
    → least_id_from from rows ≡ first_id from (recorded_of rows)
    → lower (cond b None (Some r.entry.id)) (least_id_from from rows)
    ≡ option_map (λ e. e.id) (head_of (cond b (rest_from from (recorded_of rows)) (r.entry ∷ recorded_of rows)))
least_step from r rows true is rise rest = rest
least_step from r rows false is rise rest = lower_is_first r.entry.id (least_id_from from rows) (λ n h. least_in_order from (r.entry.id + 1) rows n rise h)

pub least_is_first : (from low : ℕ) (rows : List TableRow) → IdsRise low (recorded_of rows) → least_id_from from rows ≡ first_id from (recorded_of rows)
least_is_first from low [] rise = refl
least_is_first from low (r ∷ rows) rise =
    least_step from r rows (nat_lt r.entry.id from) refl rise.1 (least_is_first from (r.entry.id + 1) rows rise.1)

-- the first file isn't below the number
first_choice : (from : ℕ) (P : FileEntry → Type 0) (e f : FileEntry) (es : Table) (b : Bool) → nat_lt e.id from ≡ b → (b ≡ false → P e)
    → (first_from from es ≡ Some f → P f) → head_of (cond b (rest_from from es) (e ∷ es)) ≡ Some f → P f
first_choice from P e f es true is here rest h = rest h
first_choice from P e f es false is here rest h = let same : e ≡ f = cc in subst P same (here refl)

first_in_order : (from low : ℕ) (es : Table) (f : FileEntry) → IdsRise low es → first_from from es ≡ Some f → low ≤ f.id
first_in_order from low [] f rise h = absurd cc
first_in_order from low (e ∷ es) f rise h =
    first_choice from (λ g. low ≤ g.id) e f es (nat_lt e.id from) refl (λ is. rise.0)
    (λ is. let above : e.id + 1 ≤ f.id = first_in_order from (e.id + 1) es f rise.1 is in omega (arith, above, rise.0)) h

-- the first file is found under its id
found_choice : (id : ℕ) (r : TableRow) (rows : List TableRow) (o : Option FileEntry) (b : Bool) → (r.entry.id == id) ≡ b → (b ≡ true → Some r.entry ≡ o)
    → (b ≡ false → option_map (λ q. q.entry) (row_of id rows) ≡ o) → option_map (λ q. q.entry) (cond b (Some r) (row_of id rows)) ≡ o
found_choice id r rows o true is here rest = here refl
found_choice id r rows o false is here rest = rest refl

-- where it has the id of the file in front, it is that file
first_of_equal : (from : ℕ) (r : TableRow) (rows : List TableRow) (f : FileEntry) (b : Bool) → nat_lt r.entry.id from ≡ b → IdsRise (r.entry.id + 1) (recorded_of rows)
    → r.entry.id ≡ f.id → head_of (cond b (rest_from from (recorded_of rows)) (r.entry ∷ recorded_of rows)) ≡ Some f → Some r.entry ≡ Some f
first_of_equal from r rows f true is rise same h =
    let above : r.entry.id + 1 ≤ f.id = first_in_order from (r.entry.id + 1) (recorded_of rows) f rise h in absurd (omega (arith, above, same))
first_of_equal from r rows f false is rise same h = h

-- else it is one behind
first_behind : (from : ℕ) (r : TableRow) (rows : List TableRow) (f : FileEntry) (b : Bool) → nat_lt r.entry.id from ≡ b → (r.entry.id == f.id) ≡ false
    → IdsRise (r.entry.id + 1) (recorded_of rows) → head_of (cond b (rest_from from (recorded_of rows)) (r.entry ∷ recorded_of rows)) ≡ Some f
    → (first_from from (recorded_of rows) ≡ Some f → option_map (λ q. q.entry) (row_of f.id rows) ≡ Some f) → option_map (λ q. q.entry) (row_of f.id rows) ≡ Some f
first_behind from r rows f true is other rise h rest = rest h
first_behind from r rows f false is other rise h rest =
    let same : r.entry ≡ f = cc in
    let holds : (r.entry.id == f.id) ≡ true = eq-eqb r.entry.id f.id (ap (λ (e : FileEntry). e.id) same) in
    absurd cc

first_is_found : (from low : ℕ) (rows : List TableRow) (f : FileEntry) → IdsRise low (recorded_of rows) → first_from from (recorded_of rows) ≡ Some f
    → option_map (λ q. q.entry) (row_of f.id rows) ≡ Some f
first_is_found from low [] f rise h = absurd cc
first_is_found from low (r ∷ rows) f rise h =
    found_choice f.id r rows (Some f) (r.entry.id == f.id) refl
    (λ same. first_of_equal from r rows f (nat_lt r.entry.id from) refl rise.1 (eqb-true r.entry.id f.id same) h)
    (λ other. first_behind from r rows f (nat_lt r.entry.id from) refl other rise.1 h (first_is_found from (r.entry.id + 1) rows f rise.1))

-- what is found under the least id is the first file
found_first : (from : ℕ) (rows : List TableRow) (id : ℕ) (o : Option FileEntry) → IdsRise 0 (recorded_of rows) → first_from from (recorded_of rows) ≡ o
    → option_map (λ e. e.id) o ≡ Some id → option_map (λ q. q.entry) (row_of id rows) ≡ o
found_first from rows id None rise is h = absurd cc
found_first from rows id (Some f) rise is h =
    let same : f.id ≡ id = cc in subst (λ n. option_map (λ q. q.entry) (row_of n rows) ≡ Some f) same (first_is_found from 0 rows f rise is)

pub least_finds_first : (from : ℕ) (rows : List TableRow) (id : ℕ) → IdsRise 0 (recorded_of rows) → least_id_from from rows ≡ Some id
    → option_map (λ q. q.entry) (row_of id rows) ≡ first_from from (recorded_of rows)
least_finds_first from rows id rise h =
    found_first from rows id (first_from from (recorded_of rows)) rise refl (sym (least_is_first from 0 rows rise) ∙ h)

-- no least id, no file
none_first : (o : Option FileEntry) → option_map (λ e. e.id) o ≡ None → None ≡ o
none_first None h = refl
none_first (Some f) h = absurd cc

pub least_finds_none : (from : ℕ) (rows : List TableRow) → IdsRise 0 (recorded_of rows) → least_id_from from rows ≡ None → None ≡ first_from from (recorded_of rows)
least_finds_none from rows rise h = none_first (first_from from (recorded_of rows)) (sym (least_is_first from 0 rows rise) ∙ h)

-- an entry that is found isn't below the number
pub found_above : (from id : ℕ) (rows : List TableRow) (o : Option TableRow) → row_of id rows ≡ o → least_id_from from rows ≡ Some id
    → IfSome (option_map (λ r. r.entry) o) (λ e. from ≤ e.id)
found_above from id rows None is h = tt
found_above from id rows (Some r) is h = let same = row_id id rows r is in let le = least_is_above from rows id h in omega (arith, same, le)

-- ---- the files that are left

-- all are left at the beginning
begin_choice : (e : FileEntry) (es : Table) (b : Bool) → nat_lt e.id 0 ≡ b → cond b (rest_from 0 es) (e ∷ es) ≡ e ∷ es
begin_choice e es true is = let less : e.id < 0 = ltb-true e.id 0 is in absurd (omega (arith, less))
begin_choice e es false is = refl

pub all_left : (es : Table) → rest_from 0 es ≡ es
all_left [] = refl
all_left (e ∷ es) = begin_choice e es (nat_lt e.id 0) refl

-- those behind a lower number are all left
kept_choice : (from : ℕ) (e : FileEntry) (es : Table) (b : Bool) → nat_lt e.id from ≡ b → from ≤ e.id → cond b (rest_from from es) (e ∷ es) ≡ e ∷ es
kept_choice from e es true is le = let less : e.id < from = ltb-true e.id from is in absurd (omega (arith, less, le))
kept_choice from e es false is le = refl

nothing_below : (from low : ℕ) (es : Table) → from ≤ low → IdsRise low es → rest_from from es ≡ es
nothing_below from low [] le rise = refl
nothing_below from low (e ∷ es) le rise = kept_choice from e es (nat_lt e.id from) refl (omega (arith, le, rise.0))

-- the first file, and then those behind it
next_choice : (from : ℕ) (e f : FileEntry) (es : Table) (b t : Bool) → nat_lt e.id from ≡ b → nat_lt e.id (f.id + 1) ≡ t → IdsRise (e.id + 1) es
    → head_of (cond b (rest_from from es) (e ∷ es)) ≡ Some f
    → (first_from from es ≡ Some f → rest_from from es ≡ f ∷ rest_from (f.id + 1) es)
    → cond b (rest_from from es) (e ∷ es) ≡ f ∷ cond t (rest_from (f.id + 1) es) (e ∷ es)
next_choice from e f es true true is less rise h rest = rest h
next_choice from e f es true false is less rise h rest =
    let above : e.id + 1 ≤ f.id = first_in_order from (e.id + 1) es f rise h in
    let le : f.id + 1 ≤ e.id = ltb-false e.id (f.id + 1) less in absurd (omega (arith, above, le))
next_choice from e f es false true is less rise h rest =
    let same : e ≡ f = cc in
    let id : f.id ≡ e.id = ap (λ (g : FileEntry). g.id) (sym same) in
    let all : rest_from (f.id + 1) es ≡ es = nothing_below (f.id + 1) (e.id + 1) es (omega (arith, id)) rise in
    cc
next_choice from e f es false false is less rise h rest =
    let same : e ≡ f = cc in
    let id : f.id ≡ e.id = ap (λ (g : FileEntry). g.id) (sym same) in
    let le : f.id + 1 ≤ e.id = ltb-false e.id (f.id + 1) less in absurd (omega (arith, id, le))

pub next_left : (from low : ℕ) (es : Table) (f : FileEntry) → IdsRise low es → first_from from es ≡ Some f → rest_from from es ≡ f ∷ rest_from (f.id + 1) es
next_left from low [] f rise h = absurd cc
next_left from low (e ∷ es) f rise h =
    next_choice from e f es (nat_lt e.id from) (nat_lt e.id (f.id + 1)) refl refl rise.1 h (next_left from (e.id + 1) es f rise.1)

-- none is left where none is first
pub none_left : (es : Table) → head_of es ≡ None → es ≡ []
none_left [] h = refl
none_left (e ∷ es) h = absurd cc

-- a file that is first has an id that a file can have
pub first_has_id : (from : ℕ) (es : Table) (f : FileEntry) → HaveIds es → first_from from es ≡ Some f → f.id < 2 ^ 64 - 1
first_has_id from [] f ids h = absurd cc
first_has_id from (e ∷ es) f ids h =
    first_choice from (λ g. g.id < 2 ^ 64 - 1) e f es (nat_lt e.id from) refl (λ is. ids.0) (first_has_id from es f ids.1) h

-- ---- what is made of all files, file by file

-- what is made of a file more
pub walk_goes_on : {X : Type 0} → (part : FileEntry → List X) (done next whole : List X) (from : ℕ) (es : Table) (f : FileEntry) → IdsRise 0 es → first_from from es ≡ Some f → next ≡ done ++ part f
    → done ++ flat_map part (rest_from from es) ≡ whole → next ++ flat_map part (rest_from (f.id + 1) es) ≡ whole
walk_goes_on part done next whole from es f rise first more so_far =
    ap (λ made. made ++ flat_map part (rest_from (f.id + 1) es)) more
    ∙ append_assoc done (part f) (flat_map part (rest_from (f.id + 1) es))
    ∙ ap (λ rest. done ++ flat_map part rest) (sym (next_left from 0 es f rise first)) ∙ so_far

-- no file more
pub walk_ends : {X : Type 0} → (part : FileEntry → List X) (done whole : List X) (from : ℕ) (es : Table) → first_from from es ≡ None → done ++ flat_map part (rest_from from es) ≡ whole → done ≡ whole
walk_ends part done whole from es none so_far =
    sym (append-nil done) ∙ ap (λ rest. done ++ flat_map part rest) (sym (none_left (rest_from from es) none)) ∙ so_far

-- entries that can be written have such ids
writable_ids : (es : Table) → AllByRecursion IsWritable es → HaveIds es
writable_ids [] h = tt
writable_ids (e ∷ es) h = (h.0.id, writable_ids es h.1)

-- what is made of a table's files is made of the state's
pub walk_of_files : {X : Type 0} → (made : Table → List X) (done : List X) (rows files : List TableRow) → files ≡ rows → IdsRise 0 (recorded_of rows) → AllByRecursion IsWritable (recorded_of rows)
    → (IdsRise 0 (recorded_of files) → HaveIds (recorded_of files) → done ≡ made (recorded_of files)) → done ≡ made (recorded_of rows)
walk_of_files {X = X} made done rows files same rise writable all =
    let P : List TableRow → Type 0 = λ rs. IdsRise 0 (recorded_of rs) → HaveIds (recorded_of rs) → done ≡ made (recorded_of rs) in
    subst P same all rise (writable_ids (recorded_of rows) writable)
