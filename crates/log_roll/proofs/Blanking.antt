-- A device whose zones were all emptied is blank.
use Rattle.std.proofs.Common.{◌≡◌, ℕ, zero, suc, ◌+◌, ◌-◌, ◌<◌, ◌≤◌, ⊎_elim, List, [], ◌∷◌, length, replicate, get_or, Result, Ok, Err, refl, ◌∙◌, ap, arith}
use Rattle.std.specs.Prelude.{OnOk}
use Rattle.std.proofs.lemmas.Bool.{cases_eq, cases_lt}
use Rattle.zone_image.specs.declared.Geometry.{Geometry}
use Rattle.zone_image.specs.declared.ZoneInfo.{ZoneInfo}
use Rattle.zone_image.specs.Image.{Image, no_zone}
use Rattle.zone_image.specs.Changes.{change_at, zone_synced, synced, blank}
use Rattle.zone_image.specs.Infos.{no_info, infos_blank, IsPossible, IsImage}
use Rattle.zone_image.proofs.ImageLaws.{length-change_at}
use Rattle.std.proofs.lemmas.List.{length-map}
use Rattle.log_roll.specs.Resets.{filled_from, cleared, emptied_three, infos_cleared, infos_emptied_three}
use Rattle.log_roll.specs.FormatOrder.{AreMetadata}
use Rattle.log_roll.proofs.ZoneChanges.{other_item, zones_of_image}

-- what an Ok says, and what follows from it
pub ok_then : {T E : Type 0} (A B : Type 0) (r : Result T E) → OnOk r A → (A → B) → OnOk r B
ok_then A B (Ok x) h step = step h
ok_then A B (Err e) h step = tt

-- the item that was put
pub put_here : {A : Type 0} (n : ℕ) (x : A) (xs : List A) → get_or (change_at n (λ _. x) xs) n x ≡ x
put_here n x [] = refl
put_here zero x (y ∷ ys) = refl
put_here (suc n) x (y ∷ ys) = put_here n x ys

-- an item that is there already stays
pub stays_put : {A : Type 0} (n m : ℕ) (x : A) (xs : List A) → get_or xs m x ≡ x → get_or (change_at n (λ _. x) xs) m x ≡ x
stays_put n m x xs there = ⊎_elim
    (λ same. ap (λ k. get_or (change_at n (λ _. x) xs) k x) same ∙ put_here n x xs)
    (λ other. other_item n m (λ _. x) xs x other ∙ there)
    (cases_eq m n)

-- it stays where others are put
stays_filled : {A : Type 0} (first count m : ℕ) (x : A) (xs : List A) → get_or xs m x ≡ x → get_or (filled_from first count x xs) m x ≡ x
stays_filled first zero m x xs there = there
stays_filled first (suc n) m x xs there = stays_put (first + n) m x (filled_from first n x xs) (stays_filled first n m x xs there)

-- the items that were put from one on
filled_here : {A : Type 0} (first count m : ℕ) (x : A) (xs : List A) → first ≤ m → m < first + count → get_or (filled_from first count x xs) m x ≡ x
filled_here first zero m x xs past before = absurd (omega arith)
filled_here first (suc n) m x xs past before = ⊎_elim
    (λ same. ap (λ k. get_or (change_at (first + n) (λ _. x) (filled_from first n x xs)) k x) same ∙ put_here (first + n) x (filled_from first n x xs))
    (λ other. stays_put (first + n) m x (filled_from first n x xs) (filled_here first n m x xs past (omega arith)))
    (cases_eq m (first + n))

-- a list of one item everywhere
all_same : {A : Type 0} (n : ℕ) (x : A) (xs : List A) → length xs ≡ n → ((m : ℕ) → m < n → get_or xs m x ≡ x) → xs ≡ replicate n x
all_same zero x [] size each = refl
all_same zero x (y ∷ ys) size each = absurd (omega arith)
all_same (suc n) x [] size each = absurd (omega arith)
all_same (suc n) x (y ∷ ys) size each =
    λ k. each 0 (omega arith) k ∷ all_same n x ys (omega arith) (λ m less. each (suc m) (omega arith)) k

length-filled : {A : Type 0} (first count : ℕ) (x : A) (xs : List A) → length (filled_from first count x xs) ≡ length xs
length-filled first zero x xs = refl
length-filled first (suc n) x xs = length-change_at (first + n) (λ _. x) (filled_from first n x xs) ∙ length-filled first n x xs

-- three items and all others
pub all_filled : {A : Type 0} (n a b c : ℕ) (x : A) (xs : List A) → length xs ≡ n → 3 ≤ n → AreMetadata a b c
    → filled_from 3 (n - 3) x (change_at c (λ _. x) (change_at b (λ _. x) (change_at a (λ _. x) xs))) ≡ replicate n x
all_filled n a b c x xs size some all =
    let one : List _ = change_at a (λ _. x) xs in
    let two : List _ = change_at b (λ _. x) one in
    let three : List _ = change_at c (λ _. x) two in
    let long : length three ≡ n =
    length-change_at c (λ _. x) two ∙ (length-change_at b (λ _. x) one ∙ (length-change_at a (λ _. x) xs ∙ size)) in
    all_same n x (filled_from 3 (n - 3) x three) (length-filled 3 (n - 3) x three ∙ long)
    (λ m less. ⊎_elim
    (λ metadata. stays_filled 3 (n - 3) m x three (⊎_elim
    (λ first. stays_put c m x two (stays_put b m x one (ap (λ k. get_or one k x) first ∙ put_here a x xs)))
    (λ others. ⊎_elim
    (λ second. stays_put c m x two (ap (λ k. get_or two k x) second ∙ put_here b x one))
    (λ third. ap (λ k. get_or three k x) third ∙ put_here c x two)
    others)
    (all.all m metadata)))
    (λ past. filled_here 3 (n - 3) m x three past (omega arith))
    (cases_lt m 3))

-- what is told of the zones after all were emptied
pub infos_blanked : (g : Geometry) (infos : List ZoneInfo) (a b c : ℕ) → IsPossible g infos → 2 < g.zones → AreMetadata a b c
    → infos_cleared 3 (g.zones - 3) (infos_emptied_three infos a b c) ≡ infos_blank g
infos_blanked g infos a b c possible some all = all_filled g.zones a b c no_info infos possible.count (omega arith) all

-- the image after that
pub image_blanked : (g : Geometry) (infos : List ZoneInfo) (i : Image) (a b c : ℕ) → IsPossible g infos → IsImage g infos i → 2 < g.zones → AreMetadata a b c
    → cleared 3 (g.zones - 3) (emptied_three (synced i) a b c) ≡ blank g
image_blanked g infos i a b c possible image some all =
    let count : length (synced i).zones ≡ g.zones = length-map i.zones zone_synced ∙ zones_of_image g infos i possible image in
    let zones = all_filled g.zones a b c no_zone (synced i).zones count (omega arith) all in
    λ k. record { geometry = image.shape k; zones = zones k }
