-- A file in memory that tells what a loss of power may leave of it.
use Rattle.std.specs.Prelude.{◌≡◌, ◌⊎◌, ℕ, ◌^◌, ◌-◌, ◌+◌, ◌<◌, ◌≤◌, List, [], ◌∷◌, ◌++◌, Bool, false, ◌||◌, not, ◌==◌, nat_lt, cond, refl, length, replicate, slice_index_or}
use Rattle.std.proofs.Common.{inl, inr, ap, ◌∙◌, zero, suc}
use Rattle.std.proofs.lemmas.List.{ext_get_or}
use Rattle.std.proofs.Math.Nat.{le_trans, lt_irrefl, lt_of_le_of_lt}
use Rattle.std.specs.List.{list_any}
use Rattle.zone_image.specs.Counts.{next_count}
use Rattle.power_image.specs.OpenBytes.{MayLeave, all_closed}
use Rattle.power_image.specs.declared.power_mem.Moment.{Moment}

-- what stood until the call with this tick: the bytes, and which of them were open
pub record Stood : Type 0 where
  pub tick : ℕ
  pub bytes : List ℕ
  pub flags : List Bool

-- a moment as it is kept
abbrev pub stood_of : Moment → Stood
stood_of m = record { tick = m.tick; bytes = m.bytes.items; flags = m.flags.items }

-- whether the file is there, its bytes and which of them are open, what stood before each change of the length and each
-- good sync, the number of changing calls and the room for them, the number of the last call, the calls that are to fail, and
-- the faults
pub record PowerMemState : Type 0 where
  pub there : Bool
  pub bytes : List ℕ
  pub flags : List Bool
  pub moments : List Stood
  pub changes : ℕ
  pub room : ℕ
  pub calls : ℕ
  pub fails : List ℕ
  pub faults : ℕ

-- the last number of a call
abbrev pub last_call : ℕ
last_call = 2 ^ 64 - 1

-- whether the next call fails: it is listed, or the number of the calls is at its end
abbrev pub is_refused : PowerMemState → Bool
is_refused s = (s.calls == last_call) || list_any (λ n. n == next_count s.calls) s.fails

-- there is room for a changing call more
abbrev pub has_room : PowerMemState → Bool
has_room s = nat_lt s.changes s.room

-- whether the next call fails if it is a changing one
abbrev pub is_change_refused : PowerMemState → Bool
is_change_refused s = is_refused s || not (has_room s)

-- after a call that passed
abbrev pub passed : PowerMemState → PowerMemState
passed s = record s { calls = next_count s.calls }

-- after a call that failed
abbrev pub failed : PowerMemState → PowerMemState
failed s = record s { calls = next_count s.calls; faults = next_count s.faults }

-- after a call that changes nothing
abbrev pub called : PowerMemState → PowerMemState
called s = cond (is_refused s) (failed s) (passed s)

-- what stands, as a moment that ends now
abbrev pub standing : PowerMemState → Stood
standing s = record { tick = s.calls; bytes = s.bytes; flags = s.flags }

-- after a changing call that passed
abbrev pub changed : PowerMemState → PowerMemState
changed s = record (passed s) { changes = s.changes + 1 }

-- the bytes, none where no file is there
abbrev pub mem_contents : PowerMemState → List ℕ
mem_contents s = cond s.there s.bytes []

-- with what stands kept as a moment
abbrev pub kept : PowerMemState → PowerMemState
kept s = record (changed s) { moments = s.moments ++ standing s ∷ [] }

-- after a good sync
abbrev pub made_durable : PowerMemState → PowerMemState
made_durable s = record (kept s) { flags = all_closed s.flags }

-- what a loss of power left at a moment since this tick and before now
abbrev pub LeftBefore : List Stood → ℕ → ℕ → List ℕ → Type 0
LeftBefore [] since now left = ⊥
LeftBefore (m ∷ ms) since now left = ((since ≤ m.tick) × (m.tick < now) × MayLeave m.flags m.bytes left) ⊎ LeftBefore ms since now left

-- what a loss of power may leave of what stands
abbrev pub May : PowerMemState → List ℕ → Type 0
May s left = MayLeave s.flags (mem_contents s) left

-- that, or what it left at a moment since this tick
abbrev pub Might : PowerMemState → ℕ → List ℕ → Type 0
Might s since left = May s left ⊎ LeftBefore s.moments since s.calls left

before_earlier : (ms : List Stood) (now t u : ℕ) (left : List ℕ) → t ≤ u → LeftBefore ms u now left → LeftBefore ms t now left
before_earlier [] now t u left le none = none
before_earlier (m ∷ ms) now t u left le (inl here) = inl (le_trans le here.0, here.1, here.2)
before_earlier (m ∷ ms) now t u left le (inr there) = inr (before_earlier ms now t u left le there)

pub might_earlier : (s : PowerMemState) (t u : ℕ) (left : List ℕ) → t ≤ u → Might s u left → Might s t left
might_earlier s t u left le (inl now) = inl now
might_earlier s t u left le (inr before) = inr (before_earlier s.moments s.calls t u left le before)

none_now : (ms : List Stood) (now : ℕ) (left : List ℕ) → LeftBefore ms now now left → ⊥
none_now [] now left none = none
none_now (m ∷ ms) now left (inl here) = lt_irrefl now (lt_of_le_of_lt here.0 here.1)
none_now (m ∷ ms) now left (inr there) = none_now ms now left there

pub might_now : (s : PowerMemState) (left : List ℕ) → Might s s.calls left → May s left
might_now s left (inl now) = now
might_now s left (inr before) = absurd (none_now s.moments s.calls left before)

pub no_contents : (s : PowerMemState) → s.there ≡ false → mem_contents s ≡ []
no_contents s missing = ap (λ b. cond b s.bytes []) missing

pub may_stand : (s : PowerMemState) → May s (mem_contents s)
may_stand s = record { long = refl; same = λ n closed. refl }

none_open : (n k : ℕ) → slice_index_or (replicate n false) k false ≡ false
none_open zero k = refl
none_open (suc n) zero = refl
none_open (suc n) (suc k) = none_open n k

pub may_durable : (s : PowerMemState) (left : List ℕ) → s.flags ≡ all_closed s.flags → May s left → left ≡ mem_contents s
may_durable s left durable may =
    ext_get_or 0 left (mem_contents s) may.long
    (λ n _. may.same n (ap (λ (flags : List Bool). slice_index_or flags n false) durable ∙ none_open (length s.flags) n))
