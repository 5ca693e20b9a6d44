-- The laws of a device that keeps its moments in memory.
use Rattle.std.specs.Prelude.{◌≡◌, ◌&&◌, ℕ, ◌≤◌, List, [], ◌∷◌, Option, None, Some, is_none, if◌then◌else◌, refl}
use Rattle.std.proofs.Common.{inl, inr, ap, arith}
use Rattle.std.proofs.lemmas.Bool.{le-leb}
use Rattle.std.proofs.Math.Nat.{le_trans, lt_irrefl, lt_of_le_of_lt}
use Rattle.zone_image.specs.Counts.{last_tick, next_count}
use Rattle.zone_image.specs.Image.{Image, IsCrash}
use Rattle.zone_image.specs.Infos.{infos_of, IsPossible, IsImage, IsValidImage}
use Rattle.zone_image.specs.Moments.{KeepsMoments}
use Rattle.zone_image.proofs.CrashLaws.{valid_crash}
use Rattle.zoned_device.specs.CallState.{CallState, fault_of, is_used_up, listed_part}
use Rattle.zoned_device.specs.Content.{Event, Content, LeftBy, AreValidMoments}
use Rattle.zoned_device.specs.MemState.{MemState, standing_in, image_of, geometry_of, infos_in, tick_of, IsThere, IsNone, IsKnown, IsAbsent, LeftOf, since_of, room_in, Fails}

left_earlier : (es : List Event) (now t u : ℕ) (j : Image) → t ≤ u → LeftBy es u now j → LeftBy es t now j
left_earlier [] now t u j le none = none
left_earlier (e ∷ es) now t u j le (inl here) = inl (le_trans le here.0, here.1, here.2)
left_earlier (e ∷ es) now t u j le (inr there) = inr (left_earlier es now t u j le there)

pub earlier_of : (c : Option Content) (now t u : ℕ) (j : Image) → t ≤ u → LeftOf c now u j → LeftOf c now t j
earlier_of None now t u j le none = none
earlier_of (Some c) now t u j le (inl crash) = inl crash
earlier_of (Some c) now t u j le (inr left) = inr (left_earlier c.events now t u j le left)

none_now : (es : List Event) (now : ℕ) (j : Image) → LeftBy es now now j → ⊥
none_now [] now j none = none
none_now (e ∷ es) now j (inl here) = lt_irrefl now (lt_of_le_of_lt here.0 here.1)
none_now (e ∷ es) now j (inr there) = none_now es now j there

now_of : (c : Option Content) (now : ℕ) (j : Image) → LeftOf c now now j → IsCrash (standing_in c) j
now_of None now j none = absurd none
now_of (Some c) now j (inl crash) = crash
now_of (Some c) now j (inr left) = absurd (none_now c.events now j left)

pub mem_moments : KeepsMoments (Unit {0}) image_of tick_of since_of
mem_moments = record {
  earlier = λ s t u j le left. earlier_of s.content (tick_of s) t u j le left;
  since_now = λ s j left. now_of s.content (tick_of s) j left;
  since_told = λ s t j left. tt;
}

possible_in : (c : Option Content) → IsThere c → IsPossible (standing_in c).geometry (infos_of (standing_in c))
possible_in None none = absurd none
possible_in (Some c) is = is.standing.possible

pub mem_possible : (s : MemState) → IsKnown s → IsPossible (geometry_of s) (infos_in s)
mem_possible s is = possible_in s.content is

told_in : (c : Option Content) → IsThere c → IsImage (standing_in c).geometry (infos_of (standing_in c)) (standing_in c)
told_in None none = absurd none
told_in (Some c) is = record { shape = refl; told = refl; zones = is.standing.zones }

pub mem_told : (s : MemState) → IsKnown s → IsImage (geometry_of s) (infos_in s) (image_of s)
mem_told s is = told_in s.content is

there_in : (c : Option Content) → IsThere c → IsNone c → ⊥
there_in None none absent = none
there_in (Some c) is none = none

pub mem_there : (s : MemState) → IsKnown s → IsAbsent s → ⊥
mem_there s is absent = there_in s.content is absent

all_in : (c : Option Content) (now : ℕ) (j : Image) → IsThere c → IsCrash (standing_in c) j → LeftOf c now now j
all_in None now j none crash = absurd none
all_in (Some c) now j is crash = inl crash

pub mem_since_all : (s : MemState) (j : Image) → IsKnown s → IsCrash (image_of s) j → since_of s (tick_of s) j
mem_since_all s j is crash = all_in s.content (tick_of s) j is crash

valid_left : (es : List Event) (now t : ℕ) (j : Image) → AreValidMoments es → LeftBy es t now j → IsValidImage j
valid_left [] now t j all none = absurd none
valid_left (e ∷ es) now t j all (inl here) = all.0 j here.2
valid_left (e ∷ es) now t j all (inr there) = valid_left es now t j all.1 there

valid_in : (c : Option Content) (now t : ℕ) (j : Image) → IsThere c → LeftOf c now t j → IsValidImage j
valid_in None now t j none left = absurd none
valid_in (Some c) now t j is (inl crash) = valid_crash c.standing j is.standing crash
valid_in (Some c) now t j is (inr left) = valid_left c.events now t j is.moments left

pub mem_valid_since : (s : MemState) (t : ℕ) (j : Image) → IsKnown s → since_of s t j → IsValidImage j
mem_valid_since s t j is left = valid_in s.content (tick_of s) t j is left

-- at the last tick every call fails at once
pub at_the_end : (s : CallState) → last_tick ≤ s.tick → fault_of s ≡ Some 0
at_the_end s end = ap (λ b. if b then Some 0 else (if is_used_up s.passes then Some 0 else listed_part s.fails (next_count s.number))) (le-leb last_tick s.tick end)

pub mem_ends : (s : MemState) (call : Option ℕ) → tick_of s ≡ last_tick → Fails s call
mem_ends s None end = ap is_none (at_the_end s.calls (omega (arith, end)))
mem_ends s (Some bytes) end = ap (λ f. is_none f && room_in s.content bytes) (at_the_end s.calls (omega (arith, end)))
