-- Byte order is a strict order, and any two different names are in order.
use Rattle.std.specs.Prelude.{◌≡◌, ◌≢◌, ℕ, true, false, List, [], ◌∷◌, ◌++◌, refl}
use Rattle.std.specs.declared.cmp.Ordering.{Ordering}
use Rattle.std.specs.declared.cmp.Ordering.TheVariants.{Less, Equal, Greater}
use Rattle.std.specs.Ordering.{is_lt, is_eq, nat_cmp, ordering_then, ordering_reverse}
use Rattle.std.specs.Cmp.{nat_cmp_is}
use Rattle.std.specs.Cmp.Lexicographic.{slice_cmp, same_text}
use Rattle.std.proofs.Common.{sym, ◌∙◌, ap}
use Rattle.std.proofs.lemmas.Cmp.{nat_list_cmp_total}
use Rattle.std.proofs.lemmas.Map.Text.{is_eq-slice_cmp}
use Rattle.std.proofs.lemmas.Bool.{false≢true}
use Rattle.command_model.specs.Backup.{is_before}

-- less is what the test says
less_from : (o : Ordering) → is_lt o ≡ true → o ≡ Less
less_from Less h = refl
less_from Equal h = absurd (false≢true h)
less_from Greater h = absurd (false≢true h)

-- a before b before c
pub before_then : (x y z : List ℕ) → is_before x y ≡ true → is_before y z ≡ true → is_before x z ≡ true
before_then x y z h k =
    ap is_lt (nat_list_cmp_total.trans x y z (less_from (slice_cmp nat_cmp x y) h) (less_from (slice_cmp nat_cmp y z) k))

-- of two that aren't the same, where the first isn't before the second, the second is before the first
after_from : (x y : List ℕ) (o : Ordering) → slice_cmp nat_cmp x y ≡ o → x ≢ y → is_lt o ≡ false → is_before y x ≡ true
after_from x y Less is away h = absurd (false≢true (sym h))
after_from x y Equal is away h = absurd (away (same_text x y (sym (ap is_eq is) ∙ is_eq-slice_cmp x y)))
after_from x y Greater is away h =
    ap is_lt (nat_list_cmp_total.antisymm y x ∙ ap ordering_reverse is)

-- of two different names one comes before
pub before_or_after : (x y : List ℕ) → x ≢ y → is_before x y ≡ false → is_before y x ≡ true
before_or_after x y away h = after_from x y (slice_cmp nat_cmp x y) refl away h

-- nothing is before itself
pub not_before_itself : (x y : List ℕ) → is_before x y ≡ true → x ≢ y
not_before_itself x y h same =
    let less : slice_cmp nat_cmp x x ≡ Less = ap (λ z. slice_cmp nat_cmp x z) same ∙ less_from (slice_cmp nat_cmp x y) h in
    let both : Less ≡ Greater = sym less ∙ nat_list_cmp_total.antisymm x x ∙ ap ordering_reverse less in
    cc

-- what stands in front of both doesn't matter
pub same_front : (p x y : List ℕ) → slice_cmp nat_cmp (p ++ x) (p ++ y) ≡ slice_cmp nat_cmp x y
same_front [] x y = refl
same_front (b ∷ bs) x y = ap (λ o. ordering_then o (slice_cmp nat_cmp (bs ++ x) (bs ++ y))) (sym (nat_cmp_is b b Equal refl)) ∙ same_front bs x y
