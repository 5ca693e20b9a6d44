-- Other bytes in the open places, one place after the other.
use Rattle.std.proofs.Common.{◌≡◌, ℕ, zero, suc, ◌+◌, ◌<◌, ◌≤◌, Bool, true, false, List, [], ◌∷◌, ◌++◌, length, get_or, set, take, drop, refl, sym, ◌∙◌, ap, arith, append_assoc}
use Rattle.std.proofs.lemmas.List.{drop_more, take_more_set, drop-set-lt, length-set}
use Rattle.std.proofs.Math.Seq.{take-suc}
use Rattle.power_image.specs.OpenBytes.{open_count, filled, taken, MayLeave}

-- one place more
pub counted_more : (flags : List Bool) (n count : ℕ) (f : Bool) → n < length flags → get_or flags n false ≡ f → count + open_count (drop n flags) ≡ open_count flags
    → count + open_count (f ∷ drop (n + 1) flags) ≡ open_count flags
counted_more flags n count f in_range is was = ap (λ (fs : List Bool). count + open_count fs) (sym (drop_more flags n false in_range ∙ ap (λ b. b ∷ drop (n + 1) flags) is)) ∙ was

pub few_open : (flags : List Bool) → open_count flags ≤ length flags
few_open [] = omega arith
few_open (true ∷ flags) = omega (arith, few_open flags)
few_open (false ∷ flags) = omega (arith, few_open flags)

head_is : (x y : ℕ) (xs ys : List ℕ) → (x ∷ xs) ≡ (y ∷ ys) → x ≡ y
head_is x y xs ys same = ap (λ (l : List ℕ). get_or l 0 0) same

tail_is : (x y : ℕ) (xs ys : List ℕ) → (x ∷ xs) ≡ (y ∷ ys) → xs ≡ ys
tail_is x y xs ys same = ap (drop 1) same

module _ (flags : List Bool) (bytes fill : List ℕ) where
  -- what the loop has done before a place
  pub record IsFilled (current : List ℕ) (at n : ℕ) : Type 0 where
    pub done : filled flags bytes fill ≡ take n current ++ filled (drop n flags) (drop n bytes) (drop at fill)
    pub rest : drop n current ≡ drop n bytes
    pub enough : at + open_count (drop n flags) ≡ length fill
    pub long : length current ≡ length bytes

  pub begun : open_count flags ≡ length fill → IsFilled bytes 0 0
  begun count = record { done = refl; rest = refl; enough = omega (arith, count); long = refl }

  module _ (current : List ℕ) (at n : ℕ) (long : length flags ≡ length bytes) (in_range : n < length current) (was : IsFilled current at n) where
    in_bytes : n < length bytes
    in_bytes = omega (arith, in_range, was.long)

    in_flags : n < length flags
    in_flags = omega (arith, in_bytes, long)

    parts_here : (f : Bool) → get_or flags n false ≡ f → drop n flags ≡ f ∷ drop (n + 1) flags
    parts_here f is = drop_more flags n false in_flags ∙ ap (λ b. b ∷ drop (n + 1) flags) is

    both_rests : (get_or current n 0 ∷ drop (n + 1) current) ≡ (get_or bytes n 0 ∷ drop (n + 1) bytes)
    both_rests = sym (drop_more current n 0 in_range) ∙ was.rest ∙ drop_more bytes n 0 in_bytes

    one_more : take (n + 1) current ≡ take n current ++ get_or bytes n 0 ∷ []
    one_more =
        let next : n + 1 ≡ suc n = omega arith in
        ap (λ k. take k current) next ∙ take-suc current n 0 in_range ∙ ap (λ x. take n current ++ x ∷ []) (head_is (get_or current n 0) (get_or bytes n 0) (drop (n + 1) current) (drop (n + 1) bytes) both_rests)

    -- a place that isn't open
    pub kept : get_or flags n false ≡ false → IsFilled current at (n + 1)
    kept is = record {
      done =
          was.done
          ∙ ap (λ (fs : List Bool). take n current ++ filled fs (drop n bytes) (drop at fill)) (parts_here false is)
          ∙ ap (λ (xs : List ℕ). take n current ++ filled (false ∷ drop (n + 1) flags) xs (drop at fill)) (drop_more bytes n 0 in_bytes)
          ∙ sym (append_assoc (take n current) (get_or bytes n 0 ∷ []) (filled (drop (n + 1) flags) (drop (n + 1) bytes) (drop at fill)))
          ∙ ap (λ (front : List ℕ). front ++ filled (drop (n + 1) flags) (drop (n + 1) bytes) (drop at fill)) (sym one_more);
      rest = tail_is (get_or current n 0) (get_or bytes n 0) (drop (n + 1) current) (drop (n + 1) bytes) both_rests;
      enough = ap (λ (fs : List Bool). at + open_count fs) (sym (parts_here false is)) ∙ was.enough;
      long = was.long;
    }

    counted : get_or flags n false ≡ true → at + suc (open_count (drop (n + 1) flags)) ≡ length fill
    counted is = ap (λ (fs : List Bool). at + open_count fs) (sym (parts_here true is)) ∙ was.enough

    -- there is a byte for an open place
    pub enough_left : get_or flags n false ≡ true → at < length fill
    enough_left is = omega (arith, counted is)

    -- an open place
    pub put : get_or flags n false ≡ true → IsFilled (set current n (get_or fill at 0)) (at + 1) (n + 1)
    put is = record {
      done =
          was.done
          ∙ ap (λ (fs : List Bool). take n current ++ filled fs (drop n bytes) (drop at fill)) (parts_here true is)
          ∙ ap (λ (xs : List ℕ). take n current ++ filled (true ∷ drop (n + 1) flags) xs (drop at fill)) (drop_more bytes n 0 in_bytes)
          ∙ ap (λ (ys : List ℕ). take n current ++ filled (true ∷ drop (n + 1) flags) (get_or bytes n 0 ∷ drop (n + 1) bytes) ys) (drop_more fill at 0 (enough_left is))
          ∙ sym (append_assoc (take n current) (get_or fill at 0 ∷ []) (filled (drop (n + 1) flags) (drop (n + 1) bytes) (drop (at + 1) fill)))
          ∙ ap (λ (front : List ℕ). front ++ filled (drop (n + 1) flags) (drop (n + 1) bytes) (drop (at + 1) fill)) (sym (take_more_set current n (get_or fill at 0) in_range));
      rest =
          drop-set-lt (n + 1) current n (get_or fill at 0) (omega arith) ∙ tail_is (get_or current n 0) (get_or bytes n 0) (drop (n + 1) current) (drop (n + 1) bytes) both_rests;
      enough = omega (arith, counted is);
      long = length-set current n (get_or fill at 0) ∙ was.long;
    }

long_filled : (flags : List Bool) (bytes fill : List ℕ) → length (filled flags bytes fill) ≡ length bytes
long_filled [] bytes fill = refl
long_filled (f ∷ flags) [] fill = refl
long_filled (false ∷ flags) (x ∷ bytes) fill = ap suc (long_filled flags bytes fill)
long_filled (true ∷ flags) (x ∷ bytes) [] = ap suc (long_filled flags bytes [])
long_filled (true ∷ flags) (x ∷ bytes) (y ∷ fill) = ap suc (long_filled flags bytes fill)

same_filled : (flags : List Bool) (bytes fill : List ℕ) (n : ℕ) → get_or flags n false ≡ false → get_or (filled flags bytes fill) n 0 ≡ get_or bytes n 0
same_filled [] bytes fill n closed = refl
same_filled (f ∷ flags) [] fill n closed = refl
same_filled (false ∷ flags) (x ∷ bytes) fill zero closed = refl
same_filled (false ∷ flags) (x ∷ bytes) fill (suc n) closed = same_filled flags bytes fill n closed
same_filled (true ∷ flags) (x ∷ bytes) [] zero closed = cc
same_filled (true ∷ flags) (x ∷ bytes) [] (suc n) closed = same_filled flags bytes [] n closed
same_filled (true ∷ flags) (x ∷ bytes) (y ∷ fill) zero closed = cc
same_filled (true ∷ flags) (x ∷ bytes) (y ∷ fill) (suc n) closed = same_filled flags bytes fill n closed

-- a loss of power may leave that
pub filled_may : (flags : List Bool) (bytes fill : List ℕ) → MayLeave flags bytes (filled flags bytes fill)
filled_may flags bytes fill = record { long = long_filled flags bytes fill; same = same_filled flags bytes fill }

-- and whatever it leaves is such a filling
pub left_filled : (flags : List Bool) (bytes left : List ℕ) → length flags ≡ length bytes → length left ≡ length bytes → ((n : ℕ) → get_or flags n false ≡ false → get_or left n 0 ≡ get_or bytes n 0)
    → filled flags bytes (taken flags left) ≡ left
left_filled [] [] [] flags long same = refl
left_filled [] [] (y ∷ left) flags long same = absurd (omega (arith, long))
left_filled [] (x ∷ bytes) left flags long same = absurd (omega (arith, flags))
left_filled (f ∷ fs) [] left flags long same = absurd (omega (arith, flags))
left_filled (f ∷ fs) (x ∷ bytes) [] flags long same = absurd (omega (arith, long))
left_filled (false ∷ fs) (x ∷ bytes) (y ∷ left) flags long same =
    ap (λ z. z ∷ filled fs bytes (taken fs left)) (sym (same 0 refl)) ∙ ap (λ (l : List ℕ). y ∷ l) (left_filled fs bytes left (omega (arith, flags)) (omega (arith, long)) (λ n closed. same (suc n) closed))
left_filled (true ∷ fs) (x ∷ bytes) (y ∷ left) flags long same =
    ap (λ (l : List ℕ). y ∷ l) (left_filled fs bytes left (omega (arith, flags)) (omega (arith, long)) (λ n closed. same (suc n) closed))
