-- What operations leave alone: held zones and files that they don't name.
use Rattle.std.specs.Prelude.{◌≡◌, ◌⊎◌, ⊤, ℕ, ◌≤◌, ◌<◌, Bool, false, List, [], ◌∷◌, map, ◌==◌, Contains}
use Rattle.std.specs.List.{list_any}
use Rattle.fs_model.specs.declared.policy.Before.{Before}
use Rattle.fs_model.specs.declared.policy.Before.TheVariants as befores
use Rattle.fs_model.specs.declared.policy.Plan.{Plan}
use Rattle.fs_model.specs.ZonePolicy.{is_idle_owner}
use Rattle.fs_model.specs.FsState.{FsState, TableRow, descriptor_at}
use Rattle.fs_model.specs.Trace.{intermediate_states}
use Rattle.fs_model.specs.LogSteps.{FsAction}

-- a number of a list
abbrev pub is_one_of : List ℕ → ℕ → Bool
is_one_of ns n = list_any (λ m. m == n) ns

-- a file as it was: its extents, its shown bytes and its recovery point
pub record SameFile (r q : TableRow) : Type 0 where
  pub id : r.entry.id ≡ q.entry.id
  pub recorded : r.entry.extents ≡ q.entry.extents
  pub unrecorded : r.unrecorded ≡ q.unrecorded
  pub shown : r.shown ≡ q.shown
  pub recovery_point : r.entry.active ≡ q.entry.active

-- it was one of these files
abbrev pub WasThere : List TableRow → TableRow → Type 0
WasThere [] r = ⊥
WasThere (q ∷ qs) r = SameFile r q ⊎ WasThere qs r

-- each file afterwards, but for these, was there before and is as it was
abbrev pub KeepsFiles : List ℕ → List TableRow → List TableRow → Type 0
KeepsFiles ids before [] = ⊤
KeepsFiles ids before (r ∷ rs) = (is_one_of ids r.entry.id ≡ false → WasThere before r) × KeepsFiles ids before rs

-- the ids of the files, in order
abbrev pub ids_of : FsState → List ℕ
ids_of s = map (λ r. r.entry.id) s.rows

-- in every state that an operation passes the same files are there
abbrev pub LosesNoFile : {A : Type 0} → FsAction A → Type 0
LosesNoFile m = (s t : FsState) → Contains (intermediate_states (m s)) t → ids_of t ≡ ids_of s

-- each data zone that somebody holds, but for these, is as it was
abbrev pub KeepsHeldZones : List ℕ → FsState → FsState → Type 0
KeepsHeldZones zones s t =
    (n : ℕ) → 3 ≤ n → is_one_of zones n ≡ false → is_idle_owner (descriptor_at s n).owner ≡ false → descriptor_at t n ≡ descriptor_at s n

-- the zone that a plan finishes or gives back
abbrev pub zones_before : Before → List ℕ
zones_before befores.Nothing = []
zones_before (befores.Finish zone) = zone ∷ []
zones_before (befores.Release zone) = zone ∷ []

-- the zones that a plan names
abbrev pub zones_of_plan : Plan → List ℕ
zones_of_plan p = p.victim ∷ p.dest ∷ zones_before p.before

-- all but these zones and files is left alone
pub record LeavesAlone (named_zones named_ids : List ℕ) (s t : FsState) : Type 0 where
  pub log : t.log.zone < 3
  pub zones : KeepsHeldZones named_zones s t
  pub files : KeepsFiles named_ids s.rows t.rows

-- every state that an operation passes leaves alone all but these zones and files
abbrev pub OnlyTouches : {A : Type 0} → List ℕ → List ℕ → FsAction A → FsState → Type 0
OnlyTouches zones ids m s = s.log.zone < 3 → (t : FsState) → Contains (intermediate_states (m s)) t → LeavesAlone zones ids s t
