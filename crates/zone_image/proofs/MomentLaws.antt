-- How what a crash may leave goes on from call to call. D is the device's type, with its members.
use Rattle.std.proofs.Common.{ℕ, ◌≤◌, ◌⊎◌, inl, inr, ⊎_elim, arith}
use Rattle.zone_image.specs.Image.{Image, IsCrash}
use Rattle.zone_image.specs.Moments.{LeavesOnly, KeepsMoments}

module _ {D : Type 0} {tells : Type 0} {image : D → Image} {tick : D → ℕ} {since : D → ℕ → Image → Type 0} (laws : KeepsMoments tells image tick since) where
  -- where no call is made, a crash leaves a crash of the image
  pub stays : (d : D) → LeavesOnly tick since d d (IsCrash (image d))
  stays d = record {
    later = omega arith;
    each = λ j left. laws.since_now d j left;
    splits = λ t j le left. inl left;
    keeps = λ t j le left. ⊎_elim (λ before. before) (λ now. laws.earlier d t (tick d) j le now) left;
  }

  -- one part after another: what each leaves is weakened to what the whole leaves
  pub goes_on : {a b c : D} {P Q : Image → Type 0} (R : Image → Type 0) → LeavesOnly tick since a b P → LeavesOnly tick since b c Q
      → ((j : Image) → tells → P j → R j) → ((j : Image) → tells → Q j → R j) → LeavesOnly tick since a c R
  goes_on {a} {b} {c} R first second from_first from_second = record {
    later = omega (arith, first.later, second.later);
    each = λ j left. ⊎_elim
        (λ before. from_first j (laws.since_told c (tick a) j left) (first.each j before))
        (λ after. from_second j (laws.since_told c (tick a) j left) (second.each j after))
        (second.splits (tick a) j first.later left);
    splits = λ t j le left. ⊎_elim
        (λ before. ⊎_elim
        (λ older. inl older)
        (λ since_a. inr (second.keeps (tick a) j first.later (inl since_a)))
        (first.splits t j le before))
        (λ after. inr (second.keeps (tick a) j first.later (inr after)))
        (second.splits t j (omega (arith, le, first.later)) left);
    keeps = λ t j le left. ⊎_elim
        (λ older. second.keeps t j (omega (arith, le, first.later)) (inl (first.keeps t j le (inl older))))
        (λ since_a. laws.earlier c t (tick a) j le since_a)
        left;
  }

  -- what is left, weakened
  pub weaker : {a b : D} {P : Image → Type 0} (R : Image → Type 0) → LeavesOnly tick since a b P → ((j : Image) → tells → P j → R j) → LeavesOnly tick since a b R
  weaker {a} {b} R part from = record {
    later = part.later;
    each = λ j left. from j (laws.since_told b (tick a) j left) (part.each j left);
    splits = part.splits;
    keeps = part.keeps;
  }

  -- what a crash since an earlier tick might have left, it might have left then already, or it has P
  pub second_law : {a b : D} {P : Image → Type 0} → LeavesOnly tick since a b P → (t : ℕ) (j : Image) → t ≤ tick a → since b t j → since a t j ⊎ P j
  second_law part t j le left = ⊎_elim (λ older. inl older) (λ since_a. inr (part.each j since_a)) (part.splits t j le left)

-- a device that tells no moments leaves none
pub untold : {D : Type 0} (tick : D → ℕ) (old new : D) (P : Image → Type 0) → tick old ≤ tick new → LeavesOnly tick (λ _ _ _. ⊥) old new P
untold tick old new P later = record {
  later = later;
  each = λ j none. absurd none;
  splits = λ t j le none. absurd none;
  keeps = λ t j le none. ⊎_elim (λ n. n) (λ n. n) none;
}
