-- Sets of borrowed names, and the names that stand in them.
use Rattle.std.specs.Prelude.{◌≡◌, ℕ, ◌<◌, ◌≤◌, Bool, true, false, cond, ◌||◌, List, [], ◌∷◌, ◌++◌, length, take, drop, refl}
use Rattle.std.proofs.Common.{sym, ◌∙◌, ap, arith, Bor, length-append}
use Rattle.std.specs.BTreeSet.{BTreeSet, Updates}
use Rattle.std.specs.Cmp.Lexicographic.{slice_cmp}
use Rattle.std.specs.Ordering.{nat_cmp, is_eq}
use Rattle.std.specs.List.{list_any}
use Rattle.std.specs.Str.{bytes_eq}
use Rattle.std.specs.Bool.{Decides}
use Rattle.std.proofs.lemmas.Bool.Decides.{same_from_decides}
use Rattle.std.proofs.lemmas.Slice.Eq.{bytes_eq-Decides}
use Rattle.std.proofs.lemmas.List.{take-append-drop, drop-append-le, drop_all}
use Rattle.std.proofs.lemmas.List.Folds.{list_any-append}
use Rattle.std.proofs.Math.Bool.{or_comm, or-false}
use Rattle.std.proofs.lemmas.Map.Text.{is_eq-slice_cmp}
use Rattle.record_codec.specs.NameSets.{has_name, HasLater}

-- the one, or those that were there
one_or : (b c : Bool) → cond b true c ≡ (b || c)
one_or true c = refl
one_or false c = refl

-- a set with a name more
pub has_more : (seen more : BTreeSet (Bor (List ℕ))) (new : Bor (List ℕ)) (name : List ℕ) → Updates (λ x y. slice_cmp nat_cmp x.now y.now) seen more new true
    → has_name more name ≡ (bytes_eq new.now name || has_name seen name)
has_more seen more new name updates =
    let asked : Bor (List ℕ) = record { ref_ptr = (0, 0); now = name } in
    updates.0 asked ∙ one_or (is_eq (slice_cmp nat_cmp new.now name)) (has_name seen name) ∙ ap (λ b. b || has_name seen name) (is_eq-slice_cmp new.now name)

-- ---- the names from the ninth on

-- a name is one of the first few, or in the set
among_all : (names : List (List ℕ)) (later : BTreeSet (Bor (List ℕ))) (name : List ℕ) → HasLater names later
    → list_any (bytes_eq name) names ≡ (list_any (bytes_eq name) (take 8 names) || has_name later name)
among_all names later name h =
    ap (list_any (bytes_eq name)) (sym (take-append-drop 8 names)) ∙ list_any-append (bytes_eq name) (take 8 names) (drop 8 names)
    ∙ ap (λ b. list_any (bytes_eq name) (take 8 names) || b) (sym (h.has name))

-- a name that is one of the first few
pub among_first : (names : List (List ℕ)) (later : BTreeSet (Bor (List ℕ))) (name : List ℕ) → HasLater names later
    → list_any (bytes_eq name) (take 8 names) ≡ true → list_any (bytes_eq name) names ≡ true
among_first names later name h first = among_all names later name h ∙ ap (λ b. b || has_name later name) first

-- a name that is none of them
pub among_later : (names : List (List ℕ)) (later : BTreeSet (Bor (List ℕ))) (name : List ℕ) → HasLater names later
    → list_any (bytes_eq name) (take 8 names) ≡ false → list_any (bytes_eq name) names ≡ has_name later name
among_later names later name h first = among_all names later name h ∙ ap (λ b. b || has_name later name) first

-- behind fewer than eight, a name is one of the first few
pub few_more : (names : List (List ℕ)) (later : BTreeSet (Bor (List ℕ))) (new : List ℕ) → length names < 8 → HasLater names later → HasLater (names ++ new ∷ []) later
few_more names later new few h = record {
  has = λ name. h.has name ∙ ap (list_any (bytes_eq name)) (drop_all 8 names (omega arith) ∙ sym (drop_all 8 (names ++ new ∷ []) (omega (arith, length-append names (new ∷ [])))));
}

-- whether two texts are equal doesn't depend on their order
turned : (b : Bool) (x y : List ℕ) → Decides b (y ≡ x) → Decides b (x ≡ y)
turned b x y h = (λ is. sym (h.0 is), λ same. h.1 (sym same))

same_either : (x y : List ℕ) → bytes_eq x y ≡ bytes_eq y x
same_either x y = same_from_decides (bytes_eq x y) (bytes_eq y x) (bytes_eq-Decides x y) (turned (bytes_eq y x) x y (bytes_eq-Decides y x))

-- behind eight or more, it is put into the set
pub later_more : (names : List (List ℕ)) (later more : BTreeSet (Bor (List ℕ))) (new : Bor (List ℕ)) → 8 ≤ length names
    → Updates (λ x y. slice_cmp nat_cmp x.now y.now) later more new true → HasLater names later → HasLater (names ++ new.now ∷ []) more
later_more names later more new many updates h = record {
  has = λ name.
      let rest : Bool = list_any (bytes_eq name) (drop 8 names) in
      has_more later more new name updates
      ∙ ap (λ b. bytes_eq new.now name || b) (h.has name)
      ∙ or_comm (bytes_eq new.now name) rest
      ∙ ap (λ b. rest || b) (same_either new.now name ∙ sym (or-false (bytes_eq name new.now)))
      ∙ sym (list_any-append (bytes_eq name) (drop 8 names) (new.now ∷ []))
      ∙ ap (list_any (bytes_eq name)) (sym (drop-append-le 8 names (new.now ∷ []) many));
}
