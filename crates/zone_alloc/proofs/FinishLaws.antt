-- The zone that is finished so that one more may be active is an active one.
use Rattle.std.proofs.Common.{◌≡◌, ℕ, Bool, true, false, ◌==◌, cond, List, [], ◌∷◌, length, filter, Option, Some, None, refl, arith}
use Rattle.std.specs.Prelude.{◌≤◌, IfSome, IsTrue, nat_lt, option_map}
use Rattle.std.proofs.lemmas.Bool.{eqb-true, eqb-false}
use Rattle.std.proofs.lemmas.List.Sums.{length-filter}
use Rattle.zone_image.specs.declared.Geometry.{Geometry}
use Rattle.zone_image.specs.Image.{is_valid}
use Rattle.fs_model.specs.ZonePolicy.{Numbered, data_zones, is_idle_active, least, lesser, room_of}
use Rattle.zone_alloc.specs.ZoneTableState.{ZoneTableState}
use Rattle.zone_alloc.specs.Finishing.{idle_actives, fullest_active, zone_to_finish, NamesActiveZone}
use Rattle.zone_alloc.proofs.NamedLaws.{IsFound, all_found, least_is, named_is}

-- a device may have three active zones
some_active : (g : Geometry) → IsTrue (is_valid g) → 3 ≤ g.active_limit
some_active g valid = grind (arith, valid)

-- of some there is a least
lesser_some : (key : Numbered → ℕ) (x : Numbered) (o : Option Numbered) → lesser key x o ≡ None → ⊥
lesser_some key x None h = cc
lesser_some key x (Some y) h = go (nat_lt (key y) (key x)) h
  where
    go : (b : Bool) → cond b (Some y) (Some x) ≡ None → ⊥
    go true h = cc
    go false h = cc

least_none : (key : Numbered → ℕ) (xs : List Numbered) → least key xs ≡ None → length xs ≡ 0
least_none key [] h = refl
least_none key (x ∷ xs) h = absurd (lesser_some key x (least key xs) h)

-- the zone that is named
pub finish_is : (t : ZoneTableState) → IsTrue (is_valid t.geometry) → length t.zones ≡ t.geometry.zones → NamesActiveZone t (zone_to_finish t.geometry t.zones)
finish_is t valid count = go (idle_actives t.zones == t.geometry.active_limit) refl
  where
    named : (o : Option Numbered) → fullest_active t.geometry.capacity t.zones ≡ o → IfSome o (IsFound is_idle_active t.zones) → idle_actives t.zones ≡ t.geometry.active_limit
        → NamesActiveZone t (option_map (λ z. z.0) o)
    named None none found all =
        let empty = least_none (λ z. room_of t.geometry.capacity z.1) (filter is_idle_active (data_zones t.zones)) none in
        absurd (omega (arith, empty, length-filter is_idle_active (data_zones t.zones), some_active t.geometry valid))
    named (Some z) some found all = named_is is_idle_active is_idle_active t count (λ y h. h) z found

    go : (b : Bool) → (idle_actives t.zones == t.geometry.active_limit) ≡ b → NamesActiveZone t (cond b (option_map (λ z. z.0) (fullest_active t.geometry.capacity t.zones)) None)
    go true all =
        named (fullest_active t.geometry.capacity t.zones) refl
        (least_is (IsFound is_idle_active t.zones) (λ z. room_of t.geometry.capacity z.1) (filter is_idle_active (data_zones t.zones)) (all_found is_idle_active t.zones))
        (eqb-true _ _ all)
    go false fewer = eqb-false _ _ fewer
