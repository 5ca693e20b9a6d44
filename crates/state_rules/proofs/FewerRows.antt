-- Files with other names, and some of them gone, keep what is true of their data.
use Rattle.std.specs.Prelude.{◌≡◌, ℕ, Bool, true, false, List, [], ◌∷◌, ◌++◌, ◌==◌, if◌then◌else◌, refl}
use Rattle.std.proofs.Common.{ap, sym, subst, ⊎_elim, inl, inr}
use mathlib.Core.Logic.{◌⊎◌}
use Rattle.std.specs.List.{AllByRecursion}
use Rattle.record_model.specs.declared.types.Extent.{Extent}
use Rattle.log_model.specs.FileTable.{is_named, names_left}
use Rattle.log_model.specs.Mounted.{all_extents}
use Rattle.fs_model.specs.FsState.{TableRow, working_of, on_row}
use Rattle.fs_model.specs.TreeSteps.{with_names, drop_name}
use Rattle.change_records.specs.Recorded.{entries}
use Rattle.change_records.specs.PinnedRows.{AreSomeOf}

-- rows without some, and with other names
abbrev pub AreFewer : List TableRow → List TableRow → Type 0
AreFewer next [] = next ≡ []
AreFewer next (r ∷ rs) = AreFewer next rs ⊎ ((names : List (List ℕ)) × (rest : List TableRow) × (next ≡ with_names names r ∷ rest) × AreFewer rest rs)

-- all of them
pub same_rows : (rows : List TableRow) → AreFewer rows rows
same_rows [] = refl
same_rows (r ∷ rs) = inr (r.entry.names, rs, refl, same_rows rs)

-- what is true of a row whatever its names
pub facts_fewer : (P : TableRow → Type 0) → ((names : List (List ℕ)) (r : TableRow) → P r → P (with_names names r)) → (next rows : List TableRow) → AreFewer next rows
    → AllByRecursion P rows → AllByRecursion P next
facts_fewer P same next [] fewer h = subst (AllByRecursion P) (sym fewer) tt
facts_fewer P same next (r ∷ rs) fewer h =
    ⊎_elim (λ gone. facts_fewer P same next rs gone h.1)
    (λ kept. subst (AllByRecursion P) (sym kept.2) (same kept.0 r h.0, facts_fewer P same kept.1 rs kept.3 h.1)) fewer

-- behind some that both have
some_behind : (front xs ys : List Extent) → AreSomeOf ys xs → AreSomeOf (front ++ ys) (front ++ xs)
some_behind [] xs ys h = h
some_behind (x ∷ front) xs ys h = inr (front ++ ys, refl, some_behind front xs ys h)

-- behind some that only the others have
some_without : (front xs ys : List Extent) → AreSomeOf ys xs → AreSomeOf ys (front ++ xs)
some_without [] xs ys h = h
some_without (x ∷ front) xs ys h = inl (some_without front xs ys h)

-- some of the extents, in memory and recorded
pub working_fewer : (next rows : List TableRow) → AreFewer next rows → AreSomeOf (all_extents (working_of next)) (all_extents (working_of rows))
working_fewer next [] fewer = ap (λ rs. all_extents (working_of rs)) fewer
working_fewer next (r ∷ rs) fewer =
    ⊎_elim (λ gone. some_without (r.entry.extents ++ r.unrecorded) (all_extents (working_of rs)) (all_extents (working_of next)) (working_fewer next rs gone))
    (λ kept.
    subst (λ ns. AreSomeOf (all_extents (working_of ns)) ((r.entry.extents ++ r.unrecorded) ++ all_extents (working_of rs))) (sym kept.2)
    (some_behind (r.entry.extents ++ r.unrecorded) (all_extents (working_of rs)) (all_extents (working_of kept.1)) (working_fewer kept.1 rs kept.3))) fewer

pub recorded_fewer : (next rows : List TableRow) → AreFewer next rows → AreSomeOf (all_extents (entries next)) (all_extents (entries rows))
recorded_fewer next [] fewer = ap (λ rs. all_extents (entries rs)) fewer
recorded_fewer next (r ∷ rs) fewer =
    ⊎_elim (λ gone. some_without r.entry.extents (all_extents (entries rs)) (all_extents (entries next)) (recorded_fewer next rs gone))
    (λ kept.
    subst (λ ns. AreSomeOf (all_extents (entries ns)) (r.entry.extents ++ all_extents (entries rs))) (sym kept.2)
    (some_behind r.entry.extents (all_extents (entries rs)) (all_extents (entries kept.1)) (recorded_fewer kept.1 rs kept.3))) fewer

-- what is true of extents is true of some of them
pub some_have : (P : Extent → Type 0) (xs ys : List Extent) → AreSomeOf ys xs → AllByRecursion P xs → AllByRecursion P ys
some_have P [] ys h all = subst (AllByRecursion P) (sym h) tt
some_have P (x ∷ xs) ys h all =
    ⊎_elim (λ gone. some_have P xs ys gone all.1) (λ kept. subst (AllByRecursion P) (sym kept.1) (all.0, some_have P xs kept.0 kept.2 all.1)) h

-- ---- the rows after changes of names

-- one row with other names, or as it was
named_or_not : (b : Bool) (names : List (List ℕ)) (r : TableRow) → (given : List (List ℕ)) × ((if b then with_names names r else r) ≡ with_names given r)
named_or_not true names r = (names, refl)
named_or_not false names r = (r.entry.names, refl)

-- a file with other names
pub named_fewer : (id : ℕ) (names : List (List ℕ)) (rows : List TableRow) → AreFewer (on_row id (with_names names) rows) rows
named_fewer id names [] = refl
named_fewer id names (r ∷ rs) =
    let it = named_or_not (r.entry.id == id) names r in
    inr (it.0, on_row id (with_names names) rs, ap (λ q. q ∷ on_row id (with_names names) rs) it.1, named_fewer id names rs)

-- a name that is dropped
pub dropped_fewer : (name : List ℕ) (rows : List TableRow) → AreFewer (drop_name name rows) rows
dropped_fewer name [] = refl
dropped_fewer name (r ∷ rs) =
    by (is_named (with_names (names_left (name ∷ []) r.entry.names) r).entry) (drop_name name rs) (dropped_fewer name rs)
  where
    by : (b : Bool) (rest : List TableRow) → AreFewer rest rs
        → AreFewer (if b then with_names (names_left (name ∷ []) r.entry.names) r ∷ rest else rest) (r ∷ rs)
    by true rest h = inr (names_left (name ∷ []) r.entry.names, rest, refl, h)
    by false rest h = inl h
