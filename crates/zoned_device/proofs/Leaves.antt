-- What crashes within the calls of a device in memory may leave.
use Rattle.std.proofs.Common.{◌⊎◌, inl, inr, ⊎_elim, ℕ, ◌<◌, ◌≤◌, List, [], ◌∷◌, ◌++◌, Option, None, Some, arith}
use Rattle.zone_image.specs.Counts.{next_tick, last_tick}
use Rattle.zone_image.specs.Image.{Image, IsCrash}
use Rattle.zone_image.specs.Infos.{IsValidImage}
use Rattle.zone_image.specs.Moments.{LeavesOnly}
use Rattle.zoned_device.specs.CallState.{CallState}
use Rattle.zoned_device.specs.Content.{Change, Event, Content, Passes, LeftBy, AllBefore, AreValidMoments, with_change}
use Rattle.zoned_device.specs.MemState.{tick_of, since_of, LeftOf, HoldsMoments, standing_in}
use Rattle.zoned_device.specs.MemLaws.{earlier_of}
use Rattle.zoned_device.proofs.Changes.{CanDo, passes_before, passes_after}

-- later on the same changes may have left it
longer : (es : List Event) (t now later : ℕ) (j : Image) → now ≤ later → LeftBy es t now j → LeftBy es t later j
longer [] t now later j le none = none
longer (e ∷ es) t now later j le (inl here) = inl (here.0, omega (arith, here.1), here.2)
longer (e ∷ es) t now later j le (inr there) = inr (longer es t now later j le there)

-- all changes began before, so that none began since
sooner : (es : List Event) (t now later : ℕ) (j : Image) → AllBefore now es → LeftBy es t later j → LeftBy es t now j
sooner [] t now later j all none = none
sooner (e ∷ es) t now later j all (inl here) = inl (here.0, all.0, here.2)
sooner (e ∷ es) t now later j all (inr there) = inr (sooner es t now later j all.1 there)

none_since : (es : List Event) (now later : ℕ) (j : Image) → AllBefore now es → LeftBy es now later j → ⊥
none_since [] now later j all none = none
none_since (e ∷ es) now later j all (inl here) = absurd (omega (arith, here.0, all.0))
none_since (e ∷ es) now later j all (inr there) = none_since es now later j all.1 there

-- one change more
left_push : (es : List Event) (e : Event) (t now : ℕ) (j : Image) → LeftBy (es ++ e ∷ []) t now j → LeftBy es t now j ⊎ ((t ≤ e.tick) × (e.tick < now) × Passes e.change e.image j)
left_push [] e t now j (inl here) = inr here
left_push [] e t now j (inr none) = absurd none
left_push (x ∷ es) e t now j (inl here) = inl (inl here)
left_push (x ∷ es) e t now j (inr there) = ⊎_elim (λ before. inl (inr before)) (λ last. inr last) (left_push es e t now j there)

push_before : (es : List Event) (e : Event) (t now : ℕ) (j : Image) → LeftBy es t now j → LeftBy (es ++ e ∷ []) t now j
push_before [] e t now j none = absurd none
push_before (x ∷ es) e t now j (inl here) = inl here
push_before (x ∷ es) e t now j (inr there) = inr (push_before es e t now j there)

pub push_last : (es : List Event) (e : Event) (t now : ℕ) (j : Image) → (t ≤ e.tick) × (e.tick < now) × Passes e.change e.image j → LeftBy (es ++ e ∷ []) t now j
push_last [] e t now j here = inl here
push_last (x ∷ es) e t now j here = inr (push_last es e t now j here)

pub before_later : (now later : ℕ) (es : List Event) → now ≤ later → AllBefore now es → AllBefore later es
before_later now later [] le all = tt
before_later now later (e ∷ es) le all = (omega (arith, all.0), before_later now later es le all.1)

pub before_push : (now : ℕ) (es : List Event) (e : Event) → AllBefore now es → e.tick < now → AllBefore now (es ++ e ∷ [])
before_push now [] e all here = (here, tt)
before_push now (x ∷ es) e all here = (all.0, before_push now es e all.1 here)

pub valid_push : (es : List Event) (e : Event) → AreValidMoments es → ((j : Image) → Passes e.change e.image j → IsValidImage j) → AreValidMoments (es ++ e ∷ [])
valid_push [] e all here = (here, tt)
valid_push (x ∷ es) e all here = (all.0, valid_push es e all.1 here)

pub began_later : (now later : ℕ) (o : Option Content) → now ≤ later → HoldsMoments now o → HoldsMoments later o
began_later now later None le all = tt
began_later now later (Some c) le all = (before_later now later c.events le all.0, all.1)

pub tick_rises : (t : ℕ) → t ≤ last_tick → t ≤ next_tick t
tick_rises t le = omega arith

-- a call that changes no content
unchanged_left : (c : Option Content) (t now later : ℕ) (j : Image) → now ≤ later → LeftOf c now t j → LeftOf c later t j
unchanged_left None t now later j le none = none
unchanged_left (Some c) t now later j le (inl crash) = inl crash
unchanged_left (Some c) t now later j le (inr left) = inr (longer c.events t now later j le left)

unchanged_before : (c : Option Content) (t now later : ℕ) (j : Image) → HoldsMoments now c → LeftOf c later t j → LeftOf c now t j
unchanged_before None t now later j all none = none
unchanged_before (Some c) t now later j all (inl crash) = inl crash
unchanged_before (Some c) t now later j all (inr left) = inr (sooner c.events t now later j all.0 left)

unchanged_each : (c : Option Content) (now later : ℕ) (j : Image) → HoldsMoments now c → LeftOf c later now j → IsCrash (standing_in c) j
unchanged_each None now later j all none = absurd none
unchanged_each (Some c) now later j all (inl crash) = crash
unchanged_each (Some c) now later j all (inr left) = absurd (none_since c.events now later j all.0 left)

pub leaves_same : (c : Option Content) (old new : CallState) → old.tick ≤ new.tick → HoldsMoments old.tick c
    → LeavesOnly tick_of since_of (record { content = c; calls = old }) (record { content = c; calls = new }) (IsCrash (standing_in c))
leaves_same c old new later all = record {
  later = later;
  each = λ j left. unchanged_each c old.tick new.tick j all left;
  splits = λ t j le left. inl (unchanged_before c t old.tick new.tick j all left);
  keeps = λ t j le left. ⊎_elim (λ was. unchanged_left c t old.tick new.tick j later was) (λ since. earlier_of c new.tick t old.tick j le since) left;
}

-- a call that makes a change
pub leaves_change : (c : Content) (ch : Change) (old new : CallState) → old.tick < new.tick → AllBefore old.tick c.events → IsValidImage c.standing → CanDo ch c.standing
    → LeavesOnly tick_of since_of (record { content = Some c; calls = old }) (record { content = Some (with_change old.tick ch c); calls = new }) (Passes ch c.standing)
leaves_change c ch old new later all is can = record {
  later = omega (arith, later);
  each = λ j left. ⊎_elim
      (λ crash. passes_after ch c.standing j is crash)
      (λ left. ⊎_elim
      (λ before. absurd (none_since c.events old.tick new.tick j all before))
      (λ last. last.2)
      (left_push c.events event old.tick new.tick j left))
      left;
  splits = λ t j le left. ⊎_elim
      (λ crash. inr (inl crash))
      (λ left. ⊎_elim
      (λ before. inl (inr (sooner c.events t old.tick new.tick j all before)))
      (λ last. inr (inr (push_last c.events event old.tick new.tick j (omega arith, later, last.2))))
      (left_push c.events event t new.tick j left))
      left;
  keeps = λ t j le left. ⊎_elim
      (λ was. ⊎_elim
      (λ crash. inr (push_last c.events event t new.tick j (le, later, passes_before ch c.standing j can is crash)))
      (λ before. inr (push_before c.events event t new.tick j (longer c.events t old.tick new.tick j (omega (arith, later)) before)))
      was)
      (λ since. earlier_of (Some (with_change old.tick ch c)) new.tick t old.tick j le since)
      left;
}
  where
    event : Event
    event = record { tick = old.tick; image = c.standing; change = ch }
