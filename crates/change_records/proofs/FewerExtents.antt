-- Tables with fewer entries, or with other names and times, have no more extents.
use Rattle.std.specs.Prelude.{◌≡◌, ℕ, Bool, true, false, List, [], ◌∷◌, ◌++◌, map, flat_map, refl}
use Rattle.std.proofs.Common.{◌∙◌, ap, sym, subst, ⊎_elim, inl, inr}
use Rattle.std.proofs.lemmas.Bool.{or_parts, or_from, and_parts, and_from}
use mathlib.Core.Logic.{◌⊎◌}
use Rattle.std.specs.List.{AllByRecursion, list_any, list_all}
use Rattle.record_model.specs.declared.types.Extent.{Extent}
use Rattle.record_model.specs.declared.types.FileEntry.{FileEntry}
use Rattle.log_model.specs.FileTable.{Table}
use Rattle.log_model.specs.Mounted.{all_extents, share_a_byte, overlap}
use Rattle.change_records.specs.PinnedRows.{AreSomeOf}

-- all of them
pub same_extents : (xs : List Extent) → AreSomeOf xs xs
same_extents [] = refl
same_extents (x ∷ xs) = inr (xs, refl, same_extents xs)

-- behind some that both have
some_behind : (front xs ys : List Extent) → AreSomeOf ys xs → AreSomeOf (front ++ ys) (front ++ xs)
some_behind [] xs ys h = h
some_behind (x ∷ front) xs ys h = inr (front ++ ys, refl, some_behind front xs ys h)

-- behind some that only the others have
some_without : (front xs ys : List Extent) → AreSomeOf ys xs → AreSomeOf ys (front ++ xs)
some_without [] xs ys h = h
some_without (x ∷ front) xs ys h = inl (some_without front xs ys h)

-- what no extent passes none of some passes
pub some_fail : (q : Extent → Bool) (xs ys : List Extent) → AreSomeOf ys xs → list_any q xs ≡ false → list_any q ys ≡ false
some_fail q [] ys h none = ap (list_any q) h
some_fail q (x ∷ xs) ys h none =
    let parts = or_parts (q x) (list_any q xs) none in
    ⊎_elim (λ gone. some_fail q xs ys gone parts.1)
    (λ kept. ap (list_any q) kept.1 ∙ or_from (q x) (list_any q kept.0) parts.0 (some_fail q xs kept.0 kept.2 parts.1)) h

-- what each extent passes each of some passes
pub some_pass : (p : Extent → Bool) (xs ys : List Extent) → AreSomeOf ys xs → list_all p xs ≡ true → list_all p ys ≡ true
some_pass p [] ys h each = ap (list_all p) h
some_pass p (x ∷ xs) ys h each =
    let parts = and_parts (p x) (list_all p xs) each in
    ⊎_elim (λ gone. some_pass p xs ys gone parts.1)
    (λ kept. ap (list_all p) kept.1 ∙ and_from (p x) (list_all p kept.0) parts.0 (some_pass p xs kept.0 kept.2 parts.1)) h

-- some of extents that share no byte share none
pub some_apart : (xs ys : List Extent) → AreSomeOf ys xs → overlap xs ≡ false → overlap ys ≡ false
some_apart [] ys h none = ap overlap h
some_apart (x ∷ xs) ys h none =
    let parts = or_parts (list_any (share_a_byte x) xs) (overlap xs) none in
    ⊎_elim (λ gone. some_apart xs ys gone parts.1)
    (λ kept.
    ap overlap kept.1
    ∙ or_from (list_any (share_a_byte x) kept.0) (overlap kept.0) (some_fail (share_a_byte x) xs kept.0 kept.2 parts.0) (some_apart xs kept.0 kept.2 parts.1)) h

-- names and a time
abbrev pub Label : Type 0
Label = List (List ℕ) × ℕ

-- the same entry with other names and another time
abbrev pub labelled : FileEntry → Label → FileEntry
labelled e l = record e { names = l.0; time = l.1 }

-- a table without some entries of another one, and with other names and times
abbrev pub IsLess : Table → Table → Type 0
IsLess next [] = next ≡ []
IsLess next (e ∷ es) = IsLess next es ⊎ ((l : Label) × (rest : Table) × (next ≡ labelled e l ∷ rest) × IsLess rest es)

-- it has some of what each entry has whatever its names and its time
pub some_of : (part : FileEntry → List Extent) → ((e : FileEntry) (l : Label) → part (labelled e l) ≡ part e) → (next es : Table) → IsLess next es
    → AreSomeOf (flat_map part next) (flat_map part es)
some_of part same next [] less = ap (flat_map part) less
some_of part same next (e ∷ es) less =
    ⊎_elim (λ gone. some_without (part e) (flat_map part es) (flat_map part next) (some_of part same next es gone))
    (λ kept.
    subst (λ t. AreSomeOf (flat_map part t) (part e ++ flat_map part es)) (sym kept.2)
    (subst (λ xs. AreSomeOf (xs ++ flat_map part kept.1) (part e ++ flat_map part es)) (sym (same e kept.0))
    (some_behind (part e) (flat_map part es) (flat_map part kept.1) (some_of part same kept.1 es kept.3)))) less

-- a test that each entry passes whatever its names and its time
pub tests_less : (t : FileEntry → Bool) → ((e : FileEntry) (l : Label) → t (labelled e l) ≡ t e) → (next es : Table) → IsLess next es
    → list_all t es ≡ true → list_all t next ≡ true
tests_less t same next [] less h = ap (list_all t) less
tests_less t same next (e ∷ es) less h =
    let parts = and_parts (t e) (list_all t es) h in
    ⊎_elim (λ gone. tests_less t same next es gone parts.1)
    (λ kept. ap (list_all t) kept.2 ∙ and_from (t (labelled e kept.0)) (list_all t kept.1) (same e kept.0 ∙ parts.0) (tests_less t same kept.1 es kept.3 parts.1)) less

-- a fact of each entry whatever its names and its time
pub facts_less : (P : FileEntry → Type 0) → ((e : FileEntry) (l : Label) → P e → P (labelled e l)) → (next es : Table) → IsLess next es
    → AllByRecursion P es → AllByRecursion P next
facts_less P same next [] less h = subst (AllByRecursion P) (sym less) tt
facts_less P same next (e ∷ es) less h =
    ⊎_elim (λ gone. facts_less P same next es gone h.1) (λ kept. subst (AllByRecursion P) (sym kept.2) (same e kept.0 h.0, facts_less P same kept.1 es kept.3 h.1)) less

-- the extents of entries that were changed one by one
pub extents_of : (g : FileEntry → FileEntry) (es : Table) → all_extents (map g es) ≡ flat_map (λ e. (g e).extents) es
extents_of g [] = refl
extents_of g (e ∷ es) = ap (λ xs. (g e).extents ++ xs) (extents_of g es)
