-- A stable sort has one result: what an insertion sort gives.
use Rattle.std.proofs.Common.{◌≡◌, ℕ, suc, ◌+◌, ◌<◌, Bool, true, false, not, ◌&&◌, cond, List, [], ◌∷◌, length, get_or, refl, ap, sym, ◌∙◌, subst, arith}
use Rattle.std.specs.Prelude.{⊤}
use Rattle.std.specs.List.{filter, AllByRecursion}
use Rattle.std.specs.List.Sorted.{IsSortedBy, IsStableBy, ties}
use Rattle.std.specs.Cmp.{IsStrictWeakOrder}
use Rattle.std.proofs.lemmas.List.Sorted.{sorted_far}
use Rattle.std.proofs.lemmas.Bool.{false≢true}

-- the rest of a list is the rest of an equal one, under a test
tail_same : {X : Type 0} (p : X → Bool) (x : X) (xs ys : List X) → filter p (x ∷ xs) ≡ filter p (x ∷ ys) → filter p xs ≡ filter p ys
tail_same p x xs ys is =
    elim (p x) as (λ b. cond b (x ∷ filter p xs) (filter p xs) ≡ cond b (x ∷ filter p ys) (filter p ys) → filter p xs ≡ filter p ys) [
      | true ↦ λ h. cc
      | false ↦ λ h. h
    ] is

-- two tests that both fail
both_fail : (p q : Bool) → not p && not q ≡ true → (p ≡ false) × (q ≡ false)
both_fail true q h = absurd (false≢true h)
both_fail false true h = absurd (false≢true h)
both_fail false false h = (refl, refl)

-- two elements that don't both pass, put before a list in either order
swapped : {X : Type 0} (p q : Bool) (x y : X) (rest : List X) → (p ≡ true → q ≡ true → ⊥) → cond q (y ∷ cond p (x ∷ rest) rest) (cond p (x ∷ rest) rest) ≡ cond p (x ∷ cond q (y ∷ rest) rest) (cond q (y ∷ rest) rest)
swapped true true x y rest apart = absurd (apart refl refl)
swapped true false x y rest apart = refl
swapped false true x y rest apart = refl
swapped false false x y rest apart = refl

module _ {X : Type 0} (lt : X → X → Bool) (o : IsStrictWeakOrder lt) where
  -- no element is below x
  abbrev pub NoneBelow : X → List X → Type 0
  NoneBelow x ys = AllByRecursion (λ y. lt y x ≡ false) ys

  -- no element is below one before it
  abbrev pub Rises : List X → Type 0
  Rises [] = ⊤
  Rises (x ∷ xs) = NoneBelow x xs × Rises xs

  -- none is below itself
  irreflexive : (x : X) → lt x x ≡ false
  irreflexive x = elim (lt x x) as (λ b. lt x x ≡ b → lt x x ≡ false) [ true ↦ λ is. o.one_way x x is | false ↦ λ is. is ] refl

  -- what isn't below another either way ties with it
  tie_of : (x y : X) → lt x y ≡ false → lt y x ≡ false → ties lt x y ≡ true
  tie_of x y a b = ap (λ r. not r && not (lt y x)) a ∙ ap (λ r. not r) b

  -- what a filter gives first has nothing below it that nothing is below in the whole list
  first_not_below : (z y : X) (rest ws : List X) → NoneBelow z ws → filter (ties lt y) ws ≡ y ∷ rest → lt y z ≡ false
  first_not_below z y rest [] none is = cc
  first_not_below z y rest (w ∷ ws) none is =
      elim (ties lt y w) as (λ b. cond b (w ∷ filter (ties lt y) ws) (filter (ties lt y) ws) ≡ y ∷ rest → lt y z ≡ false) [
        | true ↦ λ h. let same : w ≡ y = cc in subst (λ v. lt v z ≡ false) same none.0
        | false ↦ λ h. first_not_below z y rest ws none.1 h
      ] is

  -- the first of a list is among those that tie with it
  own_tie : (x : X) (xs : List X) → filter (ties lt x) (x ∷ xs) ≡ x ∷ filter (ties lt x) xs
  own_tie x xs = ap (λ b. cond b (x ∷ filter (ties lt x) xs) (filter (ties lt x) xs)) (tie_of x x (irreflexive x) (irreflexive x))

  -- rising lists that have the same elements at each tie begin alike
  same_first : (x y : X) (xs ys : List X) → NoneBelow x xs → NoneBelow y ys → ((v : X) → filter (ties lt v) (x ∷ xs) ≡ filter (ties lt v) (y ∷ ys)) → x ≡ y
  same_first x y xs ys a b same =
      let up = first_not_below y x (filter (ties lt x) xs) (y ∷ ys) (irreflexive y, b) (sym (same x) ∙ own_tie x xs) in
      let down = first_not_below x y (filter (ties lt y) ys) (x ∷ xs) (irreflexive x, a) (same y ∙ own_tie y ys) in
      let firsts : x ∷ filter (ties lt x) xs ≡ y ∷ filter (ties lt x) ys =
      sym (own_tie x xs) ∙ same x ∙ ap (λ r. cond r (y ∷ filter (ties lt x) ys) (filter (ties lt x) ys)) (tie_of x y up down) in
      cc

  -- rising lists that have the same elements at each tie are one
  pub unique : (xs ys : List X) → Rises xs → Rises ys → ((v : X) → filter (ties lt v) xs ≡ filter (ties lt v) ys) → xs ≡ ys
  unique [] [] a b same = refl
  unique [] (y ∷ ys) a b same = let none : [] ≡ y ∷ filter (ties lt y) ys = same y ∙ own_tie y ys in cc
  unique (x ∷ xs) [] a b same = let none : x ∷ filter (ties lt x) xs ≡ [] = sym (own_tie x xs) ∙ same x in cc
  unique (x ∷ xs) (y ∷ ys) a b same =
      let first = same_first x y xs ys a.0 b.0 same in
      let rest : xs ≡ ys = unique xs ys a.1 b.1 (λ v. tail_same (ties lt v) x xs ys (same v ∙ ap (λ z. filter (ties lt v) (z ∷ ys)) (sym first))) in
      ap (λ z. z ∷ xs) first ∙ ap (λ zs. y ∷ zs) rest

  -- puts an element behind those below it
  abbrev pub insert_by : X → List X → List X
  insert_by x [] = x ∷ []
  insert_by x (y ∷ ys) = cond (lt y x) (y ∷ insert_by x ys) (x ∷ y ∷ ys)

  -- an insertion sort
  abbrev pub sorted_by : List X → List X
  sorted_by [] = []
  sorted_by (x ∷ xs) = insert_by x (sorted_by xs)

  -- what holds of an element and of a list holds where the one is put into the other
  all_inserted : (P : X → Type 0) (x : X) (ys : List X) → P x → AllByRecursion P ys → AllByRecursion P (insert_by x ys)
  all_inserted P x [] p all = (p, tt)
  all_inserted P x (y ∷ ys) p all =
      elim (lt y x) as (λ b. AllByRecursion P (cond b (y ∷ insert_by x ys) (x ∷ y ∷ ys))) [
        | true ↦ (all.0, all_inserted P x ys p all.1)
        | false ↦ (p, all)
      ]

  -- what isn't below something that isn't below another isn't below that
  none_below_more : (x y : X) (ys : List X) → lt y x ≡ false → NoneBelow y ys → NoneBelow x ys
  none_below_more x y [] up none = tt
  none_below_more x y (z ∷ zs) up none = (o.chain z y x none.0 up, none_below_more x y zs up none.1)

  -- a rising list rises with an element put into it
  rises_inserted : (x : X) (ys : List X) → Rises ys → Rises (insert_by x ys)
  rises_inserted x [] up = (tt, tt)
  rises_inserted x (y ∷ ys) up =
      elim (lt y x) as (λ b. lt y x ≡ b → Rises (cond b (y ∷ insert_by x ys) (x ∷ y ∷ ys))) [
        | true ↦ λ below. (all_inserted (λ w. lt w y ≡ false) x ys (o.one_way y x below) up.0, rises_inserted x ys up.1)
        | false ↦ λ above. ((above, none_below_more x y ys above up.0), up)
      ] refl

  -- an insertion sort rises
  pub rises_sorted : (xs : List X) → Rises (sorted_by xs)
  rises_sorted [] = tt
  rises_sorted (x ∷ xs) = rises_inserted x (sorted_by xs) (rises_sorted xs)

  -- two elements that tie with a third aren't below each other
  tie_both : (v x y : X) → ties lt v x ≡ true → ties lt v y ≡ true → lt y x ≡ false
  tie_both v x y a b = o.chain y v x (both_fail (lt v y) (lt y v) b).1 (both_fail (lt v x) (lt x v) a).0

  -- the elements at a tie stay in order where one is put in
  ties_inserted : (v x : X) (ys : List X) → filter (ties lt v) (insert_by x ys) ≡ filter (ties lt v) (x ∷ ys)
  ties_inserted v x [] = refl
  ties_inserted v x (y ∷ ys) =
      let tests = ties lt v in
      elim (lt y x) as (λ b. lt y x ≡ b → filter tests (cond b (y ∷ insert_by x ys) (x ∷ y ∷ ys)) ≡ filter tests (x ∷ y ∷ ys)) [
        | true ↦ λ below.
            ap (λ f. cond (tests y) (y ∷ f) f) (ties_inserted v x ys)
            ∙ swapped (tests x) (tests y) x y (filter tests ys) (λ p q. false≢true (sym (tie_both v x y p q) ∙ below))
        | false ↦ λ above. refl
      ] refl

  -- an insertion sort keeps the order of elements that tie
  pub ties_sorted : (v : X) (xs : List X) → filter (ties lt v) (sorted_by xs) ≡ filter (ties lt v) xs
  ties_sorted v [] = refl
  ties_sorted v (x ∷ xs) =
      ties_inserted v x (sorted_by xs) ∙ ap (λ f. cond (ties lt v x) (x ∷ f) f) (ties_sorted v xs)

  -- none is below x, by places
  none_below_at : (x : X) (ys : List X) → ((k : ℕ) (d : X) → k < length ys → lt (get_or ys k d) x ≡ false) → NoneBelow x ys
  none_below_at x [] at = tt
  none_below_at x (y ∷ ys) at = (at 0 y (omega arith), none_below_at x ys (λ k d within. at (suc k) d (omega arith)))

  -- the rest of a sorted list is sorted
  sorted_rest : (x : X) (xs : List X) → IsSortedBy lt (x ∷ xs) → IsSortedBy lt xs
  sorted_rest x xs up k d low high =
      let next : suc k + 1 ≡ suc (k + 1) = omega arith in
      let within : suc k + 1 < length (x ∷ xs) = omega arith in
      subst (λ n. lt (get_or (x ∷ xs) n d) (get_or xs k d) ≡ false) next (up (suc k) d (omega arith) within)

  -- a sorted list rises
  rises_from_sorted : (xs : List X) → IsSortedBy lt xs → Rises xs
  rises_from_sorted [] up = tt
  rises_from_sorted (x ∷ xs) up =
      (none_below_at x xs (λ k d within. sorted_far lt o (x ∷ xs) up 0 (suc k) d (omega arith) (omega arith)), rises_from_sorted xs (sorted_rest x xs up))

  -- what a stable sort gives is what an insertion sort gives
  pub stable_sort_is : (xs ys : List X) → IsSortedBy lt ys → IsStableBy lt xs ys → ys ≡ sorted_by xs
  stable_sort_is xs ys up stable =
      unique ys (sorted_by xs) (rises_from_sorted ys up) (rises_sorted xs) (λ v. stable v ∙ sym (ties_sorted v xs))
