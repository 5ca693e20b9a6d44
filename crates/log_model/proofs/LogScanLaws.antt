-- How the scan of a log depends on the blocks behind it.
use Rattle.std.specs.Prelude.{◌≡◌, ℕ, zero, suc, ◌+◌, ◌*◌, ◌<◌, ◌≤◌, ◌≢◌, Bool, true, false, cond, List, [], ◌∷◌, ◌++◌, length, take, drop, nat_lt, refl}
use Rattle.std.proofs.Common.{◌∙◌, ap, sym, subst, ⊎_elim, inl, inr, arith}
use Rattle.std.proofs.lemmas.Bool.{le-ltb, ltb-false}
use Rattle.std.proofs.lemmas.List.{take-append-le, drop-append-le, length-append, length-drop}
use Rattle.std.proofs.lemmas.Grind.{div_ceil_times}
use Rattle.std.specs.List.{concat}
use Rattle.log_model.specs.LogScan.{Item, Scan, first_item, sized_item, whole_item, blocks_of, scan_after, scan_within, scan_from, scan, with_payload}
use Rattle.log_model.specs.LogScan.Item.{NoMore, Unfinished, Wrong, Whole}
use Rattle.log_model.specs.LogScan.ScanEnd.{Clean}
use Rattle.log_model.specs.ScanLaws.{IsScanFront, followed_by, BoundIsFree, FrontScansToFront, CleanScanGoesOn}
use Rattle.superblock_core.specs.Superblock.{u32_at}

-- some bytes are more than none
positive_from : (n block len : ℕ) → 8 + len ≤ n * block → 0 < n
positive_from zero block len h = omega arith
positive_from (suc n) block len h = omega arith

-- a record takes a block at least
blocks_positive : (block len : ℕ) → 0 < block → 0 < blocks_of block len
blocks_positive block len h = positive_from (blocks_of block len) block len (div_ceil_times (8 + len) block h).0

-- a whole record takes the blocks of its stated length
counted : (count n len stored computed : ℕ) (p q : List ℕ) (empty right : Bool)
    → cond empty (Wrong 0 stored computed) (cond right (Whole count q) (Wrong len stored computed)) ≡ Whole n p → count ≡ n
counted count n len stored computed p q true right h = cc
counted count n len stored computed p q false true h = cc
counted count n len stored computed p q false false h = cc

-- where a chosen item is whole, the record was all there
there : (short : Bool) (rest : Item) (n : ℕ) (p : List ℕ) → cond short Unfinished rest ≡ Whole n p → (short ≡ false) × (rest ≡ Whole n p)
there true rest n p h = cc
there false rest n p h = (refl, h)

-- a whole record of a stated length is among the blocks
sized_count : (count len n : ℕ) (p : List ℕ) (xs : List (List ℕ)) → sized_item count len xs ≡ Whole n p → (count ≡ n) × (count ≤ length xs)
sized_count count len n p xs h =
    let here = there (nat_lt (length xs) count) (whole_item count len (concat (take count xs))) n p h in
    (counted count n len _ _ p _ _ _ here.1, ltb-false (length xs) count here.0)

-- a whole record takes one to all of the blocks
pub whole_count : (block n : ℕ) (p : List ℕ) (xs : List (List ℕ)) → 0 < block → first_item block xs ≡ Whole n p → (0 < n) × (n ≤ length xs)
unfolding first_item
whole_count block n p [] pos h = cc
whole_count block n p (b ∷ bs) pos h =
    let it = sized_count (blocks_of block (u32_at 4 b)) (u32_at 4 b) n p (b ∷ bs) h in
    let some : 0 < blocks_of block (u32_at 4 b) = blocks_positive block (u32_at 4 b) pos in
    (omega arith, omega arith)

-- scans that go on alike behind a whole record are alike
after_same : (at : ℕ) (i : Item) (f g : ℕ → Scan) → ((n : ℕ) (p : List ℕ) → i ≡ Whole n p → f n ≡ g n) → scan_after at i f ≡ scan_after at i g
after_same at NoMore f g h = refl
after_same at Unfinished f g h = refl
after_same at (Wrong len stored computed) f g h = refl
after_same at (Whole n p) f g h = ap (with_payload at p) (h n p refl)

-- no blocks
scan_none : (k block at : ℕ) → scan_within k block at [] ≡ record { payloads = []; end = Clean }
unfolding scan_within first_item
scan_none zero block at = refl
scan_none (suc k) block at = refl

-- a bound that is no less than the blocks may be any
pub same_bound : (k m block at : ℕ) (xs : List (List ℕ)) → 0 < block → length xs ≤ k → length xs ≤ m → scan_within k block at xs ≡ scan_within m block at xs
unfolding scan_within
same_bound k m block at [] pos h g = scan_none k block at ∙ sym (scan_none m block at)
same_bound zero m block at (b ∷ bs) pos h g = absurd (omega arith)
same_bound (suc k) zero block at (b ∷ bs) pos h g = absurd (omega arith)
same_bound (suc k) (suc m) block at (b ∷ bs) pos h g =
    after_same at (first_item block (b ∷ bs)) _ _
    (λ n p is.
    let it = whole_count block n p (b ∷ bs) pos is in
    let left : length (drop n (b ∷ bs)) ≤ k = omega (arith, length-drop n (b ∷ bs)) in
    let left_too : length (drop n (b ∷ bs)) ≤ m = omega (arith, length-drop n (b ∷ bs)) in
    same_bound k m block (at + n) (drop n (b ∷ bs)) pos left left_too)

-- an item that more blocks behind it leave as it is
is_final : Item → Bool
is_final NoMore = false
is_final Unfinished = false
is_final (Wrong len stored computed) = true
is_final (Whole n p) = true

-- a chosen item that is final isn't the unfinished one
enough_there : (short : Bool) (rest : Item) → is_final (cond short Unfinished rest) ≡ true → short ≡ false
unfolding is_final
enough_there true rest h = sym h
enough_there false rest h = refl

-- a record of a stated length that is all there stays as it is
sized_stays : (count len : ℕ) (xs ys : List (List ℕ)) → is_final (sized_item count len xs) ≡ true → sized_item count len (xs ++ ys) ≡ sized_item count len xs
sized_stays count len xs ys h =
    let here : nat_lt (length xs) count ≡ false = enough_there (nat_lt (length xs) count) (whole_item count len (concat (take count xs))) h in
    let enough : count ≤ length xs = ltb-false (length xs) count here in
    let long : nat_lt (length (xs ++ ys)) count ≡ false = le-ltb (length (xs ++ ys)) count (omega (arith, enough, length-append xs ys)) in
    ap (λ short. cond short Unfinished (whole_item count len (concat (take count (xs ++ ys))))) long
    ∙ (ap (λ bs. whole_item count len (concat bs)) (take-append-le count xs ys enough)
    ∙ ap (λ short. cond short Unfinished (whole_item count len (concat (take count xs)))) (sym here))

-- a record that is all there stays as it is, whatever follows
final_stays : (block : ℕ) (xs ys : List (List ℕ)) → is_final (first_item block xs) ≡ true → first_item block (xs ++ ys) ≡ first_item block xs
unfolding first_item is_final
final_stays block [] ys h = cc
final_stays block (b ∷ bs) ys h = sized_stays (blocks_of block (u32_at 4 b)) (u32_at 4 b) (b ∷ bs) ys h

-- some blocks begin with something
no_item : (short empty right : Bool) (count len stored computed : ℕ) (q : List ℕ)
    → cond short Unfinished (cond empty (Wrong 0 stored computed) (cond right (Whole count q) (Wrong len stored computed))) ≡ NoMore → ⊥
no_item true empty right count len stored computed q h = cc
no_item false true right count len stored computed q h = cc
no_item false false true count len stored computed q h = cc
no_item false false false count len stored computed q h = cc

-- there is no first item only where there are no blocks
none_when_empty : (block : ℕ) (xs : List (List ℕ)) → first_item block xs ≡ NoMore → xs ≡ []
unfolding first_item
none_when_empty block [] h = refl
none_when_empty block (b ∷ bs) h = absurd (no_item _ _ _ _ _ _ _ _ h)

-- a list that has an item isn't empty
none_of_some : {A : Type 0} {x : A} {xs : List A} → x ∷ xs ≡ [] → ⊥
none_of_some h = cc

-- one more payload in front keeps a front
front_behind : (at : ℕ) (p : List ℕ) (a b : Scan) → IsScanFront a b → IsScanFront (with_payload at p a) (with_payload at p b)
front_behind at p a b h = record {
  payloads = (h.payloads.0, ap (λ ps. (at, p) ∷ ps) h.payloads.1);
  end = ⊎_elim (λ e. inl (ap (with_payload at p) e)) (λ e. inr e) h.end;
}

-- the scan behind a first item, beside the one behind the same item where more blocks follow
front_after : (at : ℕ) (i j : Item) (f g : ℕ → Scan) → (is_final i ≡ true → j ≡ i)
    → ((n : ℕ) (p : List ℕ) → i ≡ Whole n p → IsScanFront (f n) (g n)) → IsScanFront (scan_after at i f) (scan_after at j g)
unfolding is_final
front_after at NoMore j f g same h = record { payloads = (_, refl); end = inr refl }
front_after at Unfinished j f g same h = record { payloads = (_, refl); end = inr refl }
front_after at (Wrong len stored computed) j f g same h =
    subst (λ i. IsScanFront (scan_after at (Wrong len stored computed) f) (scan_after at i g)) (sym (same refl))
    (record { payloads = ([], refl); end = inl refl })
front_after at (Whole n p) j f g same h =
    subst (λ i. IsScanFront (scan_after at (Whole n p) f) (scan_after at i g)) (sym (same refl)) (front_behind at p (f n) (g n) (h n p refl))

-- the first blocks scan to the first payloads
front_within : (k m block at : ℕ) (xs ys : List (List ℕ)) → 0 < block → length xs ≤ k → length (xs ++ ys) ≤ m
    → IsScanFront (scan_within k block at xs) (scan_within m block at (xs ++ ys))
unfolding scan_within
front_within k m block at [] ys pos h g =
    subst (λ s. IsScanFront s (scan_within m block at ys)) (sym (scan_none k block at)) (record { payloads = (_, refl); end = inr refl })
front_within zero m block at (b ∷ bs) ys pos h g = absurd (omega arith)
front_within (suc k) zero block at (b ∷ bs) ys pos h g = absurd (omega arith)
front_within (suc k) (suc m) block at (b ∷ bs) ys pos h g =
    front_after at (first_item block (b ∷ bs)) (first_item block ((b ∷ bs) ++ ys)) _ _ (final_stays block (b ∷ bs) ys)
    (λ n p is.
    let it = whole_count block n p (b ∷ bs) pos is in
    let left : length (drop n (b ∷ bs)) ≤ k = omega (arith, length-drop n (b ∷ bs)) in
    let split : drop n ((b ∷ bs) ++ ys) ≡ drop n (b ∷ bs) ++ ys = drop-append-le n (b ∷ bs) ys it.1 in
    let left_too : length (drop n (b ∷ bs) ++ ys) ≤ m = omega (arith, length-drop n (b ∷ bs), length-append (drop n (b ∷ bs)) ys, length-append (b ∷ bs) ys) in
    subst (λ zs. IsScanFront (scan_within k block (at + n) (drop n (b ∷ bs))) (scan_within m block (at + n) zs)) (sym split)
    (front_within k m block (at + n) (drop n (b ∷ bs)) ys pos left left_too))

pub bound_is_free : BoundIsFree
bound_is_free bound block at blocks pos h = same_bound bound (length blocks) block at blocks pos h (omega arith)

pub front_scans_to_front : FrontScansToFront
unfolding scan
front_scans_to_front block front rest pos = front_within (length front) (length (front ++ rest)) block 0 front rest pos (omega arith) (omega arith)

-- behind a first item that isn't an end, the scan goes on as the rest does
goes_on_after : (at : ℕ) (i j : Item) (f g : ℕ → Scan) (rest : Scan) → (scan_after at i f).end ≡ Clean → i ≢ NoMore → (is_final i ≡ true → j ≡ i)
    → ((n : ℕ) (p : List ℕ) → i ≡ Whole n p → (f n).end ≡ Clean → g n ≡ followed_by (f n) rest)
    → scan_after at j g ≡ followed_by (scan_after at i f) rest
unfolding is_final
goes_on_after at NoMore j f g rest clean some same h = absurd (some refl)
goes_on_after at Unfinished j f g rest clean some same h = cc
goes_on_after at (Wrong len stored computed) j f g rest clean some same h = cc
goes_on_after at (Whole n p) j f g rest clean some same h =
    ap (λ i. scan_after at i g) (same refl) ∙ ap (with_payload at p) (h n p refl clean)

-- behind blocks that scan clean the scan goes on
goes_on_within : (k m block at : ℕ) (xs ys : List (List ℕ)) → 0 < block → length xs ≤ k → length (xs ++ ys) ≤ m → (scan_within k block at xs).end ≡ Clean
    → scan_within m block at (xs ++ ys) ≡ followed_by (scan_within k block at xs) (scan_from block (at + length xs) ys)
unfolding scan_within
goes_on_within k m block at [] ys pos h g clean =
    same_bound m (length ys) block at ys pos g (omega arith)
    ∙ (ap (λ a. scan_from block a ys) (omega arith) ∙ ap (λ s. followed_by s (scan_from block (at + 0) ys)) (sym (scan_none k block at)))
goes_on_within zero m block at (b ∷ bs) ys pos h g clean = absurd (omega arith)
goes_on_within (suc k) zero block at (b ∷ bs) ys pos h g clean = absurd (omega arith)
goes_on_within (suc k) (suc m) block at (b ∷ bs) ys pos h g clean =
    goes_on_after at (first_item block (b ∷ bs)) (first_item block ((b ∷ bs) ++ ys)) _ _ _ clean
    (λ is. none_of_some (none_when_empty block (b ∷ bs) is)) (final_stays block (b ∷ bs) ys)
    (λ n p is ends.
    let it = whole_count block n p (b ∷ bs) pos is in
    let left : length (drop n (b ∷ bs)) ≤ k = omega (arith, length-drop n (b ∷ bs)) in
    let split : drop n ((b ∷ bs) ++ ys) ≡ drop n (b ∷ bs) ++ ys = drop-append-le n (b ∷ bs) ys it.1 in
    let left_too : length (drop n (b ∷ bs) ++ ys) ≤ m = omega (arith, length-drop n (b ∷ bs), length-append (drop n (b ∷ bs)) ys, length-append (b ∷ bs) ys) in
    let next : (at + n) + length (drop n (b ∷ bs)) ≡ at + length (b ∷ bs) = omega (arith, length-drop n (b ∷ bs)) in
    ap (λ zs. scan_within m block (at + n) zs) split
    ∙ (goes_on_within k m block (at + n) (drop n (b ∷ bs)) ys pos left left_too ends
    ∙ ap (λ a. followed_by (scan_within k block (at + n) (drop n (b ∷ bs))) (scan_from block a ys)) next))

pub clean_scan_goes_on : CleanScanGoesOn
unfolding scan
clean_scan_goes_on block front rest pos clean =
    goes_on_within (length front) (length (front ++ rest)) block 0 front rest pos (omega arith) (omega arith) clean
    ∙ ap (λ a. followed_by (scan_from block 0 front) (scan_from block a rest)) (omega arith)
