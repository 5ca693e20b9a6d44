-- Files stay apart: no id comes to stand twice, and no name in two files.
use Rattle.std.specs.Prelude.{◌≡◌, ◌⊎◌, ℕ, ◌<◌, Bool, true, false, not, ◌||◌, ◌==◌, List, [], ◌∷◌, ◌++◌, Some, is_some, refl, if◌then◌else◌}
use Rattle.std.specs.List.{AllByRecursion}
use Rattle.std.specs.Str.{bytes_eq}
use Rattle.std.specs.Cmp.Lexicographic.{same_text}
use Rattle.std.proofs.Common.{sym, ◌∙◌, ap, ⊎_elim, arith}
use Rattle.std.proofs.lemmas.Bool.{false≢true, eqb-true, eq-eqb}
use Rattle.log_model.specs.FileTable.{is_among, is_named, names_left}
use Rattle.fs_model.specs.FsState.{TableRow, row_named, on_row}
use Rattle.fs_model.specs.TreeSteps.{with_names, drop_name}
use Rattle.fs_model.specs.ValidRows.{IsApart, AreApart}
use Rattle.fs_model.proofs.TreeLaws.{not_true}

-- ---- one file more

-- a name that the first file hasn't, nor a later one
absent_choice : (b : Bool) (name : List ℕ) (r : TableRow) (rs : List TableRow) → is_among r.entry.names name ≡ b → is_some (if b then Some r else row_named name rs) ≡ false
    → (is_some (row_named name rs) ≡ false → AllByRecursion (λ q. is_among q.entry.names name ≡ false) rs) → AllByRecursion (λ q. is_among q.entry.names name ≡ false) (r ∷ rs)
absent_choice true name r rs is h rest = absurd (false≢true (sym h))
absent_choice false name r rs is h rest = (is, rest h)

-- a name that no file has
pub absent_everywhere : (name : List ℕ) (rows : List TableRow) → is_some (row_named name rows) ≡ false → AllByRecursion (λ r. is_among r.entry.names name ≡ false) rows
absent_everywhere name [] h = tt
absent_everywhere name (r ∷ rs) h = absent_choice (is_among r.entry.names name) name r rs refl h (absent_everywhere name rs)

-- a file with a name of its own, and an id above all
apart_new : (r new : TableRow) (name : List ℕ) → new.entry.names ≡ name ∷ [] → r.entry.id < new.entry.id → is_among r.entry.names name ≡ false → IsApart r new
apart_new r new name names above absent = record {
  id = not_true (new.entry.id == r.entry.id) (λ is. let e = eqb-true new.entry.id r.entry.id is in absurd (omega arith));
  names = λ other has. ap (λ ns. is_among ns other) names ∙ not_true (bytes_eq name other || false) (λ is. false≢true (sym absent ∙ ap (λ n. is_among r.entry.names n) (same_text name other (sym (both (bytes_eq name other) is))) ∙ has));
}
  where
    both : (b : Bool) → (b || false) ≡ true → b ≡ true
    both true h = refl
    both false h = h

-- what holds of each and of one more
all_push : (P : TableRow → Type 0) (xs : List TableRow) (x : TableRow) → AllByRecursion P xs → P x → AllByRecursion P (xs ++ x ∷ [])
all_push P [] x h k = (k, tt)
all_push P (y ∷ ys) x h k = (h.0, all_push P ys x h.1 k)

-- it stands at the end
pub apart_added : (new : TableRow) (name : List ℕ) (rows : List TableRow) → new.entry.names ≡ name ∷ [] → AllByRecursion (λ r. r.entry.id < new.entry.id) rows
    → AllByRecursion (λ r. is_among r.entry.names name ≡ false) rows → AreApart rows → AreApart (rows ++ new ∷ [])
apart_added new name [] names above absent apart = (tt, tt)
apart_added new name (r ∷ rs) names above absent apart =
    (all_push (IsApart r) rs new apart.0 (apart_new r new name names above.0 absent.0), apart_added new name rs names above.1 absent.1 apart.1)

-- ---- other names of one file

-- each of these names was one of the file's, or is new
abbrev pub AreNamesOr : List (List ℕ) → List ℕ → TableRow → Type 0
AreNamesOr names new q = (name : List ℕ) → is_among names name ≡ true → (is_among q.entry.names name ≡ true) ⊎ (name ≡ new)

-- the file with these names, if it is the one
abbrev as_named : Bool → List (List ℕ) → TableRow → TableRow
as_named b names q = if b then with_names names q else q

-- a name that isn't another
absent_name : (new name : List ℕ) (q : TableRow) → is_among q.entry.names new ≡ false → name ≡ new → is_among q.entry.names name ≡ false
absent_name new name q absent is = ap (λ n. is_among q.entry.names n) is ∙ absent

-- two files stay apart where one of them gets other names
apart_choice : (b c : Bool) (id : ℕ) (names : List (List ℕ)) (new : List ℕ) (r q : TableRow) → (r.entry.id == id) ≡ b → (q.entry.id == id) ≡ c → IsApart r q
    → is_among r.entry.names new ≡ false → is_among q.entry.names new ≡ false
    → (b ≡ true → AreNamesOr names new r) → (c ≡ true → AreNamesOr names new q) → IsApart (as_named b names r) (as_named c names q)
apart_choice false false id names new r q is is2 apart no_new no_new2 own own2 = apart
apart_choice true false id names new r q is is2 apart no_new no_new2 own own2 = record {
  id = apart.id;
  names = λ name has. ⊎_elim (λ old. apart.names name old) (λ same. absent_name new name q no_new2 same) (own refl name has);
}
apart_choice false true id names new r q is is2 apart no_new no_new2 own own2 = record {
  id = apart.id;
  names = λ name has. not_true (is_among names name) (λ other.
      ⊎_elim (λ old. false≢true (sym (apart.names name has) ∙ old)) (λ same. false≢true (sym (absent_name new name r no_new same) ∙ has)) (own2 refl name other));
}
apart_choice true true id names new r q is is2 apart no_new no_new2 own own2 =
    absurd (false≢true (sym apart.id ∙ eq-eqb q.entry.id r.entry.id (eqb-true q.entry.id id is2 ∙ sym (eqb-true r.entry.id id is))))

-- a file stays apart from those after it
apart_first : (id : ℕ) (names : List (List ℕ)) (new : List ℕ) (r : TableRow) (qs : List TableRow) → AllByRecursion (IsApart r) qs
    → is_among r.entry.names new ≡ false → AllByRecursion (λ q. is_among q.entry.names new ≡ false) qs
    → ((r.entry.id == id) ≡ true → AreNamesOr names new r) → AllByRecursion (λ q. (q.entry.id == id) ≡ true → AreNamesOr names new q) qs
    → AllByRecursion (IsApart (as_named (r.entry.id == id) names r)) (on_row id (with_names names) qs)
apart_first id names new r [] apart no_new no_new2 own own2 = tt
apart_first id names new r (q ∷ qs) apart no_new no_new2 own own2 = (
  apart_choice (r.entry.id == id) (q.entry.id == id) id names new r q refl refl apart.0 no_new no_new2.0 own own2.0,
  apart_first id names new r qs apart.1 no_new no_new2.1 own own2.1,
)

-- files stay apart where one of them gets other names
pub apart_named : (id : ℕ) (names : List (List ℕ)) (new : List ℕ) (rows : List TableRow) → AreApart rows → AllByRecursion (λ q. is_among q.entry.names new ≡ false) rows
    → AllByRecursion (λ q. (q.entry.id == id) ≡ true → AreNamesOr names new q) rows → AreApart (on_row id (with_names names) rows)
apart_named id names new [] apart no_new own = tt
apart_named id names new (r ∷ rs) apart no_new own =
    (apart_first id names new r rs apart.0 no_new.0 no_new.1 own.0 own.1, apart_named id names new rs apart.1 no_new.1 own.1)

-- ---- fewer names, and fewer files

-- a name that is left was there
left_was_there : (taken names : List (List ℕ)) (name : List ℕ) → is_among (names_left taken names) name ≡ true → is_among names name ≡ true
left_was_there taken [] name h = h
left_was_there taken (n ∷ ns) name h = choice (not (is_among taken n)) (left_was_there taken ns name) h
  where
    second : (a b : Bool) → b ≡ true → (a || b) ≡ true
    second true b h = refl
    second false b h = h

    first : (a b c : Bool) → (c ≡ true → b ≡ true) → (a || c) ≡ true → (a || b) ≡ true
    first true b c f h = refl
    first false b c f h = f h

    choice : (k : Bool) → (is_among (names_left taken ns) name ≡ true → is_among ns name ≡ true)
        → is_among (if k then n ∷ names_left taken ns else names_left taken ns) name ≡ true → is_among (n ∷ ns) name ≡ true
    choice true rest h = first (bytes_eq n name) (is_among ns name) (is_among (names_left taken ns) name) rest h
    choice false rest h = second (bytes_eq n name) (is_among ns name) (rest h)

-- two files stay apart with fewer names
apart_fewer : (taken : List (List ℕ)) (r q : TableRow) → IsApart r q → IsApart (with_names (names_left taken r.entry.names) r) (with_names (names_left taken q.entry.names) q)
apart_fewer taken r q apart = record {
  id = apart.id;
  names = λ name has. not_true (is_among (names_left taken q.entry.names) name) (λ other.
      false≢true (sym (apart.names name (left_was_there taken r.entry.names name has)) ∙ left_was_there taken q.entry.names name other));
}

-- those that are left
left_choice : (P : TableRow → Type 0) (b : Bool) (r : TableRow) (rs : List TableRow) → P r → AllByRecursion P rs → AllByRecursion P (if b then r ∷ rs else rs)
left_choice P true r rs h k = (h, k)
left_choice P false r rs h k = k

-- a file that is left is apart from the others that are
apart_left : (name : List ℕ) (r : TableRow) (qs : List TableRow) → AllByRecursion (IsApart r) qs
    → AllByRecursion (IsApart (with_names (names_left (name ∷ []) r.entry.names) r)) (drop_name name qs)
apart_left name r [] h = tt
apart_left name r (q ∷ qs) h =
    let left : TableRow → TableRow = λ k. with_names (names_left (name ∷ []) k.entry.names) k in
    left_choice (IsApart (left r)) (is_named (left q).entry) (left q) (drop_name name qs) (apart_fewer (name ∷ []) r q h.0) (apart_left name r qs h.1)

-- one of two lists of files that are apart
apart_if : (b : Bool) (r : TableRow) (rs : List TableRow) → AllByRecursion (IsApart r) rs → AreApart rs → AreApart (if b then r ∷ rs else rs)
apart_if true r rs h k = (h, k)
apart_if false r rs h k = k

-- files stay apart where a name is dropped
pub apart_dropped : (name : List ℕ) (rows : List TableRow) → AreApart rows → AreApart (drop_name name rows)
apart_dropped name [] apart = tt
apart_dropped name (r ∷ rs) apart =
    let left : TableRow = with_names (names_left (name ∷ []) r.entry.names) r in
    apart_if (is_named left.entry) left (drop_name name rs) (apart_left name r rs apart.0) (apart_dropped name rs apart.1)
