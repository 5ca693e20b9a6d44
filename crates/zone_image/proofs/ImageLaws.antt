-- Changes of one zone, and zones by number.
use Rattle.std.proofs.Common.{◌≡◌, ℕ, zero, suc, ◌+◌, ◌<◌, Bool, cond, List, [], ◌∷◌, length, map, get_or, set, refl, ◌∙◌, ap, arith}
use Rattle.std.specs.List.{All, count_by}
use Rattle.std.proofs.lemmas.List.Elements.{All-set, All-get_or, All-same}
use Rattle.std.proofs.lemmas.List.Sums.{sum_by-set}
use Rattle.zone_image.specs.Image.{Zone, no_zone, zone_in}
use Rattle.zone_image.specs.Changes.{change_at}

pub zone_in_is : (zs : List Zone) (n : ℕ) → zone_in zs n ≡ get_or zs n no_zone
zone_in_is [] n = refl
zone_in_is (z ∷ zs) zero = refl
zone_in_is (z ∷ zs) (suc n) = zone_in_is zs n

-- a change is a write
pub change_at_is : {A : Type 0} (n : ℕ) (f : A → A) (xs : List A) (d : A) → n < length xs → change_at n f xs ≡ set xs n (f (get_or xs n d))
change_at_is n f [] d in_range = absurd (omega arith)
change_at_is zero f (x ∷ xs) d in_range = refl
change_at_is (suc n) f (x ∷ xs) d in_range = ap (λ l. x ∷ l) (change_at_is n f xs d (omega arith))

pub length-change_at : {A : Type 0} (n : ℕ) (f : A → A) (xs : List A) → length (change_at n f xs) ≡ length xs
length-change_at n f [] = refl
length-change_at zero f (x ∷ xs) = refl
length-change_at (suc n) f (x ∷ xs) = ap suc (length-change_at n f xs)

pub map-change_at : {A B : Type 0} (g : A → B) (n : ℕ) (f : A → A) (h : B → B) (xs : List A) → ((x : A) → g (f x) ≡ h (g x)) → map g (change_at n f xs) ≡ change_at n h (map g xs)
map-change_at g n f h [] same = refl
map-change_at g zero f h (x ∷ xs) same = ap (λ y. y ∷ map g xs) (same x)
map-change_at g (suc n) f h (x ∷ xs) same = ap (λ l. g x ∷ l) (map-change_at g n f h xs same)

pub All-change_at : {A : Type 0} (P : A → Type 0) (n : ℕ) (f : A → A) (xs : List A) (d : A) → n < length xs → (P (get_or xs n d) → P (f (get_or xs n d))) → All P xs → All P (change_at n f xs)
All-change_at P n f xs d in_range keeps all =
    All-same P (change_at n f xs) (set xs n (f (get_or xs n d))) (change_at_is n f xs d in_range) (All-set P xs n (f (get_or xs n d)) (keeps (All-get_or P xs n d in_range all)) all)

-- a count changes by the changed item alone
pub count_by-change_at : {A : Type 0} (p : A → Bool) (n : ℕ) (f : A → A) (xs : List A) (d : A) → n < length xs → count_by p (change_at n f xs) + cond (p (get_or xs n d)) 1 0 ≡ count_by p xs + cond (p (f (get_or xs n d))) 1 0
count_by-change_at p n f xs d in_range =
    ap (λ l. count_by p l + cond (p (get_or xs n d)) 1 0) (change_at_is n f xs d in_range)
    ∙ sum_by-set (λ x. cond (p x) 1 0) xs n (f (get_or xs n d)) d in_range
