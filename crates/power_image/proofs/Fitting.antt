-- Changes of descriptors that fit however the zones are told.
use Rattle.std.proofs.Common.{◌≡◌, ◌≢◌, ℕ, suc, ◌+◌, ◌<◌, ◌≤◌, inl, inr, ⊎_elim, Bool, true, false, ◌==◌, cond, List, [], ◌∷◌, length, get_or, set, map, refl, sym, ◌∙◌, ap, subst, arith}
use Rattle.std.proofs.lemmas.Bool.{cases_eq, ne_eqb}
use Rattle.std.proofs.lemmas.List.{ext_get_or, get_or-map, get_or-set_other, get_or-set_same, length-map, length-set}
use Rattle.std.proofs.lemmas.List.Recursion.{is_count_by}
use Rattle.zone_image.specs.declared.Geometry.{Geometry}
use Rattle.zone_image.specs.declared.ZoneInfo.{ZoneInfo}
use Rattle.zone_image.specs.Infos.{no_info, info_at, is_active_info, active_zones}
use Rattle.power_image.specs.declared.descriptor.Descriptor.{Descriptor}
use Rattle.power_image.specs.Descriptors.{info_of, told}
use Rattle.power_image.specs.Table.{no_descriptor}
use Rattle.power_image.specs.Cuts.{OldOrNew, TellsOldOrNew, FitsHowever, Grows}

abbrev count : List ZoneInfo → ℕ
count [] = 0
count (x ∷ xs) = cond (is_active_info x) (1 + count xs) (count xs)

counted : (xs : List ZoneInfo) → count xs ≡ active_zones xs
counted = is_count_by count is_active_info refl (λ x xs. refl)

-- what is active in the first list is so in the second
no_more : (xs ys : List ZoneInfo) → length xs ≡ length ys → ((n : ℕ) → n < length xs → is_active_info (get_or xs n no_info) ≡ true → is_active_info (get_or ys n no_info) ≡ true) → count xs ≤ count ys
no_more [] ys same each = omega arith
no_more (x ∷ xs) [] same each = absurd (omega (arith, same))
no_more (x ∷ xs) (y ∷ ys) same each = first (is_active_info x) (is_active_info y) (each 0 (omega arith)) (no_more xs ys (omega (arith, same)) (λ n below. each (suc n) (omega (arith, below))))
  where
    first : (a b : Bool) → (a ≡ true → b ≡ true) → count xs ≤ count ys → cond a (1 + count xs) (count xs) ≤ cond b (1 + count ys) (count ys)
    first true true implies le = omega (arith, le)
    first true false implies le = absurd (no_false (implies refl))
      where
        no_false : false ≡ true → ⊥
        no_false is = cc
    first false true implies le = omega (arith, le)
    first false false implies le = le

-- zones of which more become active, and none fewer
pub grown_fit : (g : Geometry) (opening : ℕ → Bool) (ds : List Descriptor) (after : List ZoneInfo) → length after ≡ g.zones → active_zones after ≤ g.active_limit
    → ((n : ℕ) → n < g.zones → Grows (opening n) (get_or ds n no_descriptor) (info_at after n)) → FitsHowever g opening ds
grown_fit g opening ds after long limit grows infos tells =
    let le : count infos ≤ count after = no_more infos after (tells.count ∙ sym long) (λ n below active. each n (omega (arith, below, tells.count)) active) in
    omega (arith, le, counted infos, counted after, limit)
  where
    one : (n : ℕ) → n < g.zones → is_active_info (info_at infos n) ≡ true → OldOrNew (opening n) (get_or ds n no_descriptor) (info_at infos n) → is_active_info (info_at after n) ≡ true
    one n in_range active (inl old) = (grows n in_range).stays (ap is_active_info (sym old) ∙ active)
    one n in_range active (inr new) = ap is_active_info (sym ((grows n in_range).new new.0)) ∙ ap is_active_info (sym new.1) ∙ active

    each : (n : ℕ) → n < g.zones → is_active_info (info_at infos n) ≡ true → is_active_info (info_at after n) ≡ true
    each n in_range active = one n in_range active (tells.each n in_range)

-- one zone
module _ (g : Geometry) (zone : ℕ) (ds : List Descriptor) (count_is : length ds ≡ g.zones) (in_range : zone < g.zones) where
  abbrev before : List ZoneInfo
  before = map told ds

  abbrev after : List ZoneInfo
  after = set (map told ds) zone (info_of (get_or ds zone no_descriptor).other)

  before_at : (n : ℕ) → n < g.zones → info_at before n ≡ told (get_or ds n no_descriptor)
  before_at n below = get_or-map told ds n no_descriptor no_info (omega (arith, below, count_is))

  elsewhere : (infos : List ZoneInfo) (n : ℕ) → n ≢ zone → OldOrNew (n == zone) (get_or ds n no_descriptor) (info_at infos n) → info_at infos n ≡ told (get_or ds n no_descriptor)
  elsewhere infos n differs (inl old) = old
  elsewhere infos n differs (inr new) = absurd (apart (n == zone) new.0 (ne_eqb n zone differs))
    where
      apart : (b : Bool) → b ≡ true → b ≡ false → ⊥
      apart true one other = cc
      apart false one other = cc

  is_before : (infos : List ZoneInfo) → TellsOldOrNew g (λ n. n == zone) ds infos → info_at infos zone ≡ told (get_or ds zone no_descriptor) → infos ≡ before
  is_before infos tells old =
      ext_get_or no_info infos before (omega (arith, tells.count, length-map ds told, count_is)) (λ n below.
      let n_in : n < g.zones = omega (arith, below, tells.count) in
      ⊎_elim
      (λ is. ap (info_at infos) is ∙ old ∙ sym (before_at zone in_range) ∙ ap (info_at before) (sym is))
      (λ differs. elsewhere infos n differs (tells.each n n_in) ∙ sym (before_at n n_in))
      (cases_eq n zone))

  is_after : (infos : List ZoneInfo) → TellsOldOrNew g (λ n. n == zone) ds infos → info_at infos zone ≡ info_of (get_or ds zone no_descriptor).other → infos ≡ after
  is_after infos tells new =
      let there : zone < length before = omega (arith, in_range, length-map ds told, count_is) in
      ext_get_or no_info infos after (omega (arith, tells.count, length-map ds told, count_is, length-set before zone (info_of (get_or ds zone no_descriptor).other))) (λ n below.
      let n_in : n < g.zones = omega (arith, below, tells.count) in
      ⊎_elim
      (λ is. ap (info_at infos) is ∙ new ∙ sym (get_or-set_same before zone (info_of (get_or ds zone no_descriptor).other) no_info there) ∙ ap (info_at after) (sym is))
      (λ differs. elsewhere infos n differs (tells.each n n_in) ∙ sym (before_at n n_in) ∙ sym (get_or-set_other before zone n (info_of (get_or ds zone no_descriptor).other) no_info differs))
      (cases_eq n zone))

  either : (infos : List ZoneInfo) → active_zones before ≤ g.active_limit → active_zones after ≤ g.active_limit → TellsOldOrNew g (λ n. n == zone) ds infos
      → OldOrNew (zone == zone) (get_or ds zone no_descriptor) (info_at infos zone) → active_zones infos ≤ g.active_limit
  either infos old new tells (inl same) = subst (λ (l : List ZoneInfo). active_zones l ≤ g.active_limit) (sym (is_before infos tells same)) old
  either infos old new tells (inr changed) = subst (λ (l : List ZoneInfo). active_zones l ≤ g.active_limit) (sym (is_after infos tells changed.1)) new

  -- a change of one zone fits where the numbers before it and after it do
  pub one_fits : active_zones before ≤ g.active_limit → active_zones after ≤ g.active_limit → FitsHowever g (λ n. n == zone) ds
  one_fits old new infos tells = either infos old new tells (tells.each zone in_range)
