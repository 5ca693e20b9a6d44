-- What a device tells of its zones after a change is what the changed image has, and stays possible.
use Rattle.std.proofs.Common.{◌≡◌, ℕ, zero, suc, ◌+◌, ◌/◌, ◌%◌, ◌<◌, ◌≤◌, ⊎_elim, Bool, ◌||◌, ◌==◌, true, false, not, ◌&&◌, cond, List, [], ◌∷◌, length, map, replicate, get_or, ltb, refl, sym, ◌∙◌, ap, subst, arith, length-append, IsTrue}
use Rattle.std.specs.List.{All}
use Rattle.std.proofs.lemmas.Bool.{cases_eq, eq-eqb, or_right, lt-ltb}
use Rattle.std.proofs.lemmas.List.{length-map, length-replicate, get_or-map}
use Rattle.std.proofs.lemmas.List.Elements.{All-nil, All-append, All-map, All-weaker, All-replicate}
use Rattle.std.proofs.lemmas.List.Folds.{sum_by-replicate}
use Rattle.zone_image.specs.declared.Geometry.{Geometry}
use Rattle.zone_image.specs.declared.ZoneInfo.{ZoneInfo}
use Rattle.zone_image.specs.Image.{Zone, Image, no_zone, zone_at, is_valid}
use Rattle.zone_image.specs.Changes.{change_at, blocks_in, zone_appended, zone_finished, zone_synced, appended, finished, emptied, synced, blank, with_content}
use Rattle.zone_image.specs.Infos.{no_info, info_of, infos_of, info_at, is_active_info, active_zones, info_appended, info_finished, infos_appended, infos_finished, infos_emptied, infos_blank, IsPossibleInfo, IsPossible, IsZone, IsValidImage, IsImage}
use Rattle.zone_image.proofs.BlockLaws.{length-blocks_in, All-blocks_in}
use Rattle.zone_image.proofs.ImageLaws.{zone_in_is, length-change_at, map-change_at, All-change_at, count_by-change_at}

-- the told numbers are those of the zone
pub info_at_is : (i : Image) (zone : ℕ) → zone < length i.zones → info_at (infos_of i) zone ≡ info_of (zone_at i zone)
info_at_is i zone in_range = get_or-map info_of i.zones zone no_zone no_info in_range ∙ ap info_of (sym (zone_in_is i.zones zone))

-- a zone with so many blocks, sealed where it was or is full
abbrev info_with : ℕ → Zone → ℕ → ZoneInfo
info_with capacity z count = record { written = count; sealed = z.sealed || (count == capacity) }

pub infos-appended : (i : Image) (zone : ℕ) (added : List (List ℕ)) → infos_of (appended i zone added) ≡ infos_appended i.geometry (infos_of i) zone (length added)
infos-appended i zone added =
    map-change_at info_of zone (zone_appended i.geometry.capacity added) (info_appended i.geometry.capacity (length added)) i.zones
    (λ z. ap (info_with i.geometry.capacity z) (length-append z.blocks added))

pub infos-finished : (i : Image) (zone : ℕ) → infos_of (finished i zone) ≡ infos_finished (infos_of i) zone
infos-finished i zone = map-change_at info_of zone zone_finished info_finished i.zones (λ z. refl)

pub infos-emptied : (i : Image) (zone : ℕ) → infos_of (emptied i zone) ≡ infos_emptied (infos_of i) zone
infos-emptied i zone = map-change_at info_of zone (λ _. no_zone) (λ _. no_info) i.zones (λ z. refl)

infos_synced_zones : (zs : List Zone) → map info_of (map zone_synced zs) ≡ map info_of zs
infos_synced_zones [] = refl
infos_synced_zones (z ∷ zs) = ap (λ l. info_of z ∷ l) (infos_synced_zones zs)

pub infos-synced : (i : Image) → infos_of (synced i) ≡ infos_of i
infos-synced i = infos_synced_zones i.zones

infos_empty_zones : (n : ℕ) → map info_of (replicate n no_zone) ≡ replicate n no_info
infos_empty_zones zero = refl
infos_empty_zones (suc n) = ap (λ l. no_info ∷ l) (infos_empty_zones n)

pub infos-blank : (g : Geometry) → infos_of (blank g) ≡ infos_blank g
infos-blank g = infos_empty_zones g.zones

-- how much a zone adds to a count
abbrev one_if : Bool → ℕ
one_if b = cond b 1 0

-- what is told of a zone stays possible
module _ (g : Geometry) (infos : List ZoneInfo) (zone : ℕ) (was : IsPossible g infos) (in_range : zone < g.zones) where
  here : zone < length infos
  here = omega (arith, was.count)

  pub possible_finished : IsPossible g (infos_finished infos zone)
  possible_finished = record {
    valid = was.valid;
    count = length-change_at zone info_finished infos ∙ was.count;
    each = All-change_at (IsPossibleInfo g) zone info_finished infos no_info here (λ p. record { room = p.room; full = λ _. refl }) was.each;
    active =
        let counted : active_zones (infos_finished infos zone) + cond (is_active_info (info_at infos zone)) 1 0 ≡ active_zones infos + 0 = count_by-change_at is_active_info zone info_finished infos no_info here in
        omega (arith, counted, was.active);
  }

  pub possible_emptied : IsPossible g (infos_emptied infos zone)
  possible_emptied = record {
    valid = was.valid;
    count = length-change_at zone (λ _. no_info) infos ∙ was.count;
    each = All-change_at (IsPossibleInfo g) zone (λ _. no_info) infos no_info here (λ p. record { room = omega arith; full = λ none. absurd (omega (arith, least)) }) was.each;
    active =
        let counted : active_zones (infos_emptied infos zone) + cond (is_active_info (info_at infos zone)) 1 0 ≡ active_zones infos + 0 = count_by-change_at is_active_info zone (λ _. no_info) infos no_info here in
        omega (arith, counted, was.active);
  }
    where
      least : 8 ≤ g.capacity
      least = grind (arith, was.valid)

  -- an unsealed zone with a block is active
  active_here : (info : ZoneInfo) → info.sealed ≡ false → 0 < info.written → is_active_info info ≡ true
  active_here info unsealed some = ap (λ b. not b && ltb 0 info.written) unsealed ∙ lt-ltb 0 info.written some

  pub possible_appended : (count : ℕ) → (info_at infos zone).sealed ≡ false → (info_at infos zone).written + count ≤ g.capacity
      → ((info_at infos zone).written ≡ 0 → active_zones infos < g.active_limit) → IsPossible g (infos_appended g infos zone count)
  possible_appended count unsealed room spare = record {
    valid = was.valid;
    count = length-change_at zone (info_appended g.capacity count) infos ∙ was.count;
    each = All-change_at (IsPossibleInfo g) zone (info_appended g.capacity count) infos no_info here (λ p. record { room = room; full = λ full. or_right (info_at infos zone).sealed _ (eq-eqb _ _ full) }) was.each;
    active = ⊎_elim if_empty if_active (cases_eq (info_at infos zone).written 0);
  }
    where
      one : (b : Bool) → cond b 1 0 ≤ 1
      one true = omega arith
      one false = omega arith

      counted : active_zones (infos_appended g infos zone count) + cond (is_active_info (info_at infos zone)) 1 0 ≤ active_zones infos + 1
      counted = omega (arith, count_by-change_at is_active_info zone (info_appended g.capacity count) infos no_info here, one (is_active_info (info_appended g.capacity count (info_at infos zone))))

      if_empty : (info_at infos zone).written ≡ 0 → active_zones (infos_appended g infos zone count) ≤ g.active_limit
      if_empty empty = omega (arith, counted, spare empty)

      if_active : ((info_at infos zone).written ≡ 0 → ⊥) → active_zones (infos_appended g infos zone count) ≤ g.active_limit
      if_active some =
          let active : one_if (is_active_info (info_at infos zone)) ≡ 1 = ap one_if (active_here (info_at infos zone) unsealed (omega arith)) in
          omega (arith, counted, active, was.active)

empty_zone : (g : Geometry) → IsZone g no_zone
empty_zone g = record { kept = omega arith; blocks = All-nil (λ (b : List ℕ). length b ≡ g.block) }

-- a changed image is one that a device may have
module _ (i : Image) (zone : ℕ) (was : IsValidImage i) (in_range : zone < i.geometry.zones) where
  is_zone : zone < length i.zones
  is_zone = omega (arith, was.possible.count, length-map i.zones info_of)

  pub valid_finished : IsValidImage (finished i zone)
  valid_finished = record {
    possible = subst (IsPossible i.geometry) (sym (infos-finished i zone)) (possible_finished i.geometry (infos_of i) zone was.possible in_range);
    zones = All-change_at (IsZone i.geometry) zone zone_finished i.zones no_zone is_zone (λ z. record { kept = z.kept; blocks = z.blocks }) was.zones;
  }

  pub valid_emptied : IsValidImage (emptied i zone)
  valid_emptied = record {
    possible = subst (IsPossible i.geometry) (sym (infos-emptied i zone)) (possible_emptied i.geometry (infos_of i) zone was.possible in_range);
    zones = All-change_at (IsZone i.geometry) zone (λ _. no_zone) i.zones no_zone is_zone (λ z. empty_zone i.geometry) was.zones;
  }

  pub valid_appended : (added : List (List ℕ)) → All (λ b. length b ≡ i.geometry.block) added → (info_at (infos_of i) zone).sealed ≡ false
      → (info_at (infos_of i) zone).written + length added ≤ i.geometry.capacity
      → ((info_at (infos_of i) zone).written ≡ 0 → active_zones (infos_of i) < i.geometry.active_limit) → IsValidImage (appended i zone added)
  valid_appended added whole unsealed room spare = record {
    possible = subst (IsPossible i.geometry) (sym (infos-appended i zone added)) (possible_appended i.geometry (infos_of i) zone was.possible in_range (length added) unsealed room spare);
    zones = All-change_at (IsZone i.geometry) zone (zone_appended i.geometry.capacity added) i.zones no_zone is_zone
        (λ z. record {
          kept = omega (arith, z.kept, length-append (get_or i.zones zone no_zone).blocks added);
          blocks = All-append (λ b. length b ≡ i.geometry.block) (get_or i.zones zone no_zone).blocks added z.blocks whole;
        }) was.zones;
  }

-- an append whose conditions hold
module _ (i : Image) (zone : ℕ) (bytes : List ℕ) where
  pub infos_written : infos_of (appended i zone (blocks_in i.geometry bytes)) ≡ infos_appended i.geometry (infos_of i) zone (length bytes / i.geometry.block)
  infos_written = infos-appended i zone (blocks_in i.geometry bytes) ∙ ap (infos_appended i.geometry (infos_of i) zone) (length-blocks_in i.geometry bytes)

  pub valid_written : IsValidImage i → zone < i.geometry.zones → length bytes % i.geometry.block ≡ 0 → (info_at (infos_of i) zone).sealed ≡ false
      → (info_at (infos_of i) zone).written + length bytes / i.geometry.block ≤ i.geometry.capacity
      → ((info_at (infos_of i) zone).written ≡ 0 → active_zones (infos_of i) < i.geometry.active_limit) → IsValidImage (appended i zone (blocks_in i.geometry bytes))
  valid_written was in_range whole unsealed room spare =
      valid_appended i zone was in_range (blocks_in i.geometry bytes) (All-blocks_in i.geometry bytes whole) unsealed (omega (arith, length-blocks_in i.geometry bytes, room)) spare

-- other content in a zone
pub valid_content : (i : Image) (zone : ℕ) (blocks : List (List ℕ)) (kept : ℕ) (sealed : Bool) → IsValidImage i → zone < i.geometry.zones → All (λ b. length b ≡ i.geometry.block) blocks
    → length blocks ≤ i.geometry.capacity → kept ≤ length blocks → (length blocks ≡ i.geometry.capacity → IsTrue sealed)
    → active_zones (infos_of (with_content i zone blocks kept sealed)) ≤ i.geometry.active_limit → IsValidImage (with_content i zone blocks kept sealed)
valid_content i zone blocks kept sealed is in_range whole room durable full active =
    let there : zone < length i.zones = omega (arith, is.possible.count, length-map i.zones info_of, in_range) in
    let told : zone < length (infos_of i) = omega (arith, is.possible.count, in_range) in
    let info : ZoneInfo = record { written = length blocks; sealed = sealed } in
    let infos : infos_of (with_content i zone blocks kept sealed) ≡ change_at zone (λ _. info) (infos_of i) =
    map-change_at info_of zone (λ _. record { blocks = blocks; kept = kept; sealed = sealed }) (λ _. info) i.zones (λ z. refl) in
    record {
      possible = record {
        valid = is.possible.valid;
        count = ap length infos ∙ length-change_at zone (λ _. info) (infos_of i) ∙ is.possible.count;
        each = subst (All (IsPossibleInfo i.geometry)) (sym infos) (All-change_at (IsPossibleInfo i.geometry) zone (λ _. info) (infos_of i) no_info told (λ p. record { room = room; full = full }) is.possible.each);
        active = active;
      };
      zones = All-change_at (IsZone i.geometry) zone (λ _. record { blocks = blocks; kept = kept; sealed = sealed }) i.zones no_zone there (λ z. record { kept = durable; blocks = whole }) is.zones;
    }

pub valid_synced : (i : Image) → IsValidImage i → IsValidImage (synced i)
valid_synced i was = record {
  possible = subst (IsPossible i.geometry) (sym (infos-synced i)) was.possible;
  zones = All-map (IsZone i.geometry) zone_synced i.zones
      (All-weaker (IsZone i.geometry) (λ z. IsZone i.geometry (zone_synced z)) (λ z is. record { kept = omega arith; blocks = is.blocks }) i.zones was.zones);
}

none_active : (n : ℕ) → active_zones (replicate n no_info) ≡ 0
none_active n = sum_by-replicate (λ x. cond (is_active_info x) 1 0) n no_info ∙ omega arith

pub valid_blank : (g : Geometry) → IsTrue (is_valid g) → IsValidImage (blank g)
valid_blank g valid = record {
  possible = subst (IsPossible g) (sym (infos-blank g)) (record {
    valid = valid;
    count = length-replicate g.zones no_info;
    each = All-replicate (IsPossibleInfo g) g.zones no_info (record { room = omega arith; full = λ none. absurd (omega (arith, least)) });
    active = omega (arith, none_active g.zones);
  });
  zones = All-replicate (IsZone g) g.zones no_zone (empty_zone g);
}
  where
    least : 8 ≤ g.capacity
    least = grind (arith, valid)

-- a device's image has what it tells
pub image_of_valid : (i : Image) → IsValidImage i → IsImage i.geometry (infos_of i) i
image_of_valid i is = record { shape = refl; told = refl; zones = is.zones }

-- a block has a byte
pub some_block : (g : Geometry) → IsTrue (is_valid g) → 0 < g.block
some_block g valid = grind (arith, valid)
