-- Active data zones, and the one that is finished where they are as many as the device allows.
use Rattle.std.proofs.Common.{◌≡◌, ◌≢◌, ℕ, zero, suc, ◌+◌, ◌-◌, ◌<◌, ◌≤◌, Bool, true, false, not, ◌&&◌, ◌==◌, cond, List, [], ◌∷◌, length, map, drop, get_or, count_by, Option, Some, None, nat_lt, refl, sym, ◌∙◌, ap, arith}
use Rattle.std.specs.Prelude.{option_map}
use Rattle.std.specs.List.{All, enumerate_from}
use Rattle.std.proofs.lemmas.Bool.{and_parts, and_from, ne_eqb}
use Rattle.std.proofs.lemmas.List.{length-map, length-drop, get_or-drop}
use Rattle.std.proofs.lemmas.List.Elements.{All-head, All-tail}
use Rattle.std.proofs.lemmas.List.Sums.{sum_by-cons}
use Rattle.zone_image.specs.declared.Geometry.{Geometry}
use Rattle.zone_image.specs.declared.ZoneInfo.{ZoneInfo}
use Rattle.zone_image.specs.Changes.{change_at}
use Rattle.zone_image.specs.Infos.{no_info, info_at, is_active_info, active_zones, info_finished, infos_finished}
use Rattle.zone_image.proofs.ImageLaws.{count_by-change_at}
use Rattle.fs_model.specs.declared.zones.Owner.TheVariants.{Idle}
use Rattle.fs_model.specs.declared.zones.ZoneState.{ZoneState}
use Rattle.fs_model.specs.ZonePolicy.{Numbered, data_zones, is_idle, is_idle_owner, is_idle_active, is_open, has_blocks}
use Rattle.fs_model.specs.FsState.{FsState, ZoneDescriptor, state_of, zone_states}
use Rattle.fs_model.specs.Trace.{when}
use Rattle.fs_model.specs.LogSteps.{finish_zone}
use Rattle.fs_model.specs.TreeSteps.{finish_one}
use Rattle.zone_alloc.specs.Finishing.{idle_actives, fullest_active, zone_to_finish}
use Rattle.zone_alloc.specs.NamedZones.{IsNamed}
use Rattle.zone_alloc.specs.ZoneTableState.{ZoneTableState, state_at}
use Rattle.fs_tables.specs.MountedTables.{AreSound}
use Rattle.fs_tables.specs.Steps.{infos_in}
use Rattle.fs_tables.specs.Tokens.{FinishesNone, FinishesZone}
use Rattle.fs_tables.proofs.RollLaws.{some_zones}
use Rattle.fs_tables.proofs.StepLaws.{infos_after_finish}
use Rattle.fs_tables.proofs.ZoneReads.{state_at_is, info_at_is}

-- ---- active zones are counted

-- idle zones that are active by the policy are those that a device counts, numbered from their first one
actives_from : (s : FsState) (i : ℕ) (zs : List ZoneDescriptor) → All (λ z. z.owner ≡ Idle) zs
    → count_by is_idle_active (enumerate_from i (map (state_of s) (enumerate_from i zs))) ≡ active_zones (map (λ z. z.info) zs)
actives_from s i [] idle = refl
actives_from s i (z ∷ zs) idle =
    let one : Bool → ℕ = λ b. cond b 1 0 in
    let later = enumerate_from (i + 1) (map (state_of s) (enumerate_from (i + 1) zs)) in
    let infos = map (λ (y : ZoneDescriptor). y.info) zs in
    let same : is_idle_active (i, state_of s (i, z)) ≡ is_active_info z.info =
    ap (λ o. is_idle_owner o && not z.info.sealed && nat_lt 0 z.info.written) (All-head (λ (y : ZoneDescriptor). y.owner ≡ Idle) z zs idle) in
    sum_by-cons (λ x. one (is_idle_active x)) (i, state_of s (i, z)) later
    ∙ ap (λ b. one b + count_by is_idle_active later) same
    ∙ ap (λ n. one (is_active_info z.info) + n) (actives_from s (i + 1) zs (All-tail (λ (y : ZoneDescriptor). y.owner ≡ Idle) z zs idle))
    ∙ sym (sum_by-cons (λ x. one (is_active_info x)) z.info infos)

-- the same of data zones
actives_of_data : (s : FsState) (zs : List ZoneDescriptor) → 3 ≤ length zs → All (λ z. z.owner ≡ Idle) zs
    → count_by is_idle_active (data_zones (map (state_of s) (enumerate_from 0 zs))) ≡ active_zones (drop 3 (map (λ z. z.info) zs))
actives_of_data s [] long idle = absurd (omega arith)
actives_of_data s (a ∷ []) long idle = absurd (omega arith)
actives_of_data s (a ∷ b ∷ []) long idle = absurd (omega arith)
actives_of_data s (a ∷ b ∷ c ∷ zs) long idle =
    let P : ZoneDescriptor → Type 0 = λ z. z.owner ≡ Idle in
    actives_from s 3 zs (All-tail P c zs (All-tail P b (c ∷ zs) (All-tail P a (b ∷ c ∷ zs) idle)))

pub actives_are : (s : FsState) → AreSound s → idle_actives (zone_states s) ≡ active_zones (drop 3 (infos_in s))
actives_are s sound = actives_of_data s s.zones (some_zones s sound) sound.idle

-- fewer zones have fewer active ones
drop_fewer : (n : ℕ) (infos : List ZoneInfo) → active_zones (drop n infos) ≤ active_zones infos
drop_fewer zero infos = omega arith
drop_fewer (suc n) [] = omega arith
drop_fewer (suc n) (i ∷ infos) =
    let rest = drop_fewer n infos in
    omega (arith, sum_by-cons (λ (x : ZoneInfo). cond (is_active_info x) 1 0) i infos)

-- ---- a zone is finished

drop_changed : {A : Type 0} (n : ℕ) (f : A → A) (xs : List A) → drop 3 (change_at (suc (suc (suc n))) f xs) ≡ change_at n f (drop 3 xs)
drop_changed n f [] = refl
drop_changed n f (a ∷ []) = refl
drop_changed n f (a ∷ b ∷ []) = refl
drop_changed n f (a ∷ b ∷ c ∷ xs) = refl

-- one less is active
one_less : (infos : List ZoneInfo) (zone : ℕ) → 3 ≤ zone → zone < length infos → is_active_info (info_at infos zone) ≡ true
    → active_zones (drop 3 (infos_finished infos zone)) + 1 ≡ active_zones (drop 3 infos)
one_less infos zone behind there active =
    let n = zone - 3 in
    let place : zone ≡ suc (suc (suc n)) = omega arith in
    let back : 3 + n ≡ zone = omega arith in
    let short : n < length (drop 3 infos) = omega (arith, length-drop 3 infos) in
    let one : Bool → ℕ = λ b. cond b 1 0 in
    let here : is_active_info (get_or (drop 3 infos) n no_info) ≡ true =
    ap is_active_info (get_or-drop 3 infos n no_info ∙ ap (λ k. get_or infos k no_info) back) ∙ active in
    let counted = count_by-change_at is_active_info n info_finished (drop 3 infos) no_info short in
    let changed = ap (λ k. active_zones (drop 3 (change_at k info_finished infos))) place ∙ ap active_zones (drop_changed n info_finished infos) in
    omega (arith, counted, changed, ap one here)

-- ---- the zone that is named

-- none is finished where not as many are active as the device allows
pub finishes_none : (s : FsState) → AreSound s → active_zones (infos_in s) ≤ s.geometry.active_limit → idle_actives (zone_states s) ≢ s.geometry.active_limit → FinishesNone s
finishes_none s sound allowed other = record {
  nothing = ap (λ b. when b (finish_one (fullest_active s.geometry.capacity (zone_states s))) s) (ne_eqb _ _ other);
  free =
      let counted = actives_are s sound in
      let differ : active_zones (drop 3 (infos_in s)) ≢ s.geometry.active_limit = λ same. other (counted ∙ same) in
      omega (arith, drop_fewer 3 (infos_in s), allowed);
}

-- the zone with least room, where one is named
record Fullest (s : FsState) (zone : ℕ) : Type 0 where
  all : (idle_actives (zone_states s) == s.geometry.active_limit) ≡ true
  found : Numbered
  number : found.0 ≡ zone
  fullest : fullest_active s.geometry.capacity (zone_states s) ≡ Some found

fullest_is : (s : FsState) (zone : ℕ) → zone_to_finish s.geometry (zone_states s) ≡ Some zone → Fullest s zone
fullest_is s zone named = go (idle_actives (zone_states s) == s.geometry.active_limit) refl named
  where
    pick : (idle_actives (zone_states s) == s.geometry.active_limit) ≡ true → (o : Option Numbered) → fullest_active s.geometry.capacity (zone_states s) ≡ o → option_map (λ z. z.0) o ≡ Some zone → Fullest s zone
    pick all None fullest named = absurd cc
    pick all (Some z) fullest named = record { all = all; found = z; number = cc; fullest = fullest }

    go : (b : Bool) → (idle_actives (zone_states s) == s.geometry.active_limit) ≡ b → cond b (option_map (λ z. z.0) (fullest_active s.geometry.capacity (zone_states s))) None ≡ Some zone → Fullest s zone
    go true all named = pick all (fullest_active s.geometry.capacity (zone_states s)) refl named
    go false fewer named = absurd cc

-- an idle active zone is active
active_is : (z : Numbered) → is_idle_active z ≡ true → is_active_info z.1.info ≡ true
active_is z idle =
    let parts = and_parts (is_idle z.1 && is_open z.1) (has_blocks z.1) idle in
    let opened = and_parts (is_idle z.1) (is_open z.1) parts.0 in
    and_from (is_open z.1) (has_blocks z.1) opened.1 parts.1

pub finishes_zone : (s : FsState) → AreSound s → active_zones (infos_in s) ≤ s.geometry.active_limit → (t : ZoneTableState) → t.zones ≡ zone_states s → t.geometry ≡ s.geometry → (zone : ℕ)
    → zone_to_finish t.geometry t.zones ≡ Some zone → IsNamed is_idle_active t zone → FinishesZone s zone
finishes_zone s sound allowed t are same zone named is =
    let is_zone : zone < s.geometry.zones = omega (arith, is.is_zone, ap (λ (g : Geometry). g.zones) same) in
    let there : zone < length s.zones = omega (arith, sound.count) in
    let o = fullest_is s zone (sym (ap (λ g. zone_to_finish g t.zones) same ∙ ap (zone_to_finish s.geometry) are) ∙ named) in
    let active = sym (ap (λ (z : ZoneState). is_active_info z.info) (state_at_is s t zone are there)) ∙ active_is (zone, state_at t zone) is.passes in
    let short : zone < length (infos_in s) = omega (arith, length-map s.zones (λ (z : ZoneDescriptor). z.info)) in
    let less = one_less (infos_in s) zone is.behind_metadata short (ap is_active_info (info_at_is s zone there) ∙ active) in
    record {
      behind_metadata = is.behind_metadata;
      is_zone = is_zone;
      active = active;
      finish =
          ap (λ b. when b (finish_one (fullest_active s.geometry.capacity (zone_states s))) s) o.all
          ∙ ap (λ z. finish_one z s) o.fullest
          ∙ ap (λ n. finish_zone n s) o.number;
      free = omega (arith, less, ap (λ infos. active_zones (drop 3 infos)) (infos_after_finish s zone), drop_fewer 3 (infos_in s), allowed);
    }
