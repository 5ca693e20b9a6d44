-- What a crash leaves of an image that is synced, of one that a crash left, and of one that a call changed.
use Rattle.std.proofs.Common.{◌≡◌, ℕ, ◌<◌, ◌≤◌, ◌⊎◌, inl, inr, Bool, true, false, not, ◌&&◌, cond, List, [], ◌∷◌, length, map, take, refl, sym, ◌∙◌, ap, subst, arith, length-take}
use Rattle.std.specs.List.{All, AllZip}
use Rattle.std.proofs.lemmas.List.{take_all, length-map, length-take-le}
use Rattle.std.proofs.lemmas.List.Elements.{All-cons, All-head, All-tail, All-take, All-same, length_all_zip}
use Rattle.std.proofs.lemmas.List.Sums.{sum_by-cons}
use Rattle.std.proofs.lemmas.Bool.{cases_lt, lt-ltb, le-ltb}
use Rattle.zone_image.specs.declared.Geometry.{Geometry}
use Rattle.std.proofs.Math.Nat.{le_trans}
use Rattle.std.specs.Prelude.{IsTrue}
use Rattle.zone_image.specs.declared.ZoneInfo.{ZoneInfo}
use Rattle.zone_image.specs.Image.{is_valid, Zone, Image, ZoneCrash, IsCrash}
use Rattle.zone_image.specs.Changes.{zone_synced, synced, blocks_left, zone_crashed, zones_crashed, crashed}
use Rattle.zone_image.specs.Infos.{info_of, infos_of, is_active_info, active_zones, IsPossibleInfo, IsZone, IsValidImage}

abbrev one_if : Bool → ℕ
one_if b = cond b 1 0

-- two zones are one where their parts are
same_zone : (y z : Zone) → y.blocks ≡ z.blocks → y.kept ≡ z.kept → y.sealed ≡ z.sealed → y ≡ z
same_zone y z blocks kept sealed = λ i. record { blocks = blocks i; kept = kept i; sealed = sealed i }

same_image : (i j : Image) → i.geometry ≡ j.geometry → i.zones ≡ j.zones → i ≡ j
same_image i j geometry zones = λ k. record { geometry = geometry k; zones = zones k }

-- a zone whose blocks are all durable is left as it is
whole_zone : (y z : Zone) → y.kept ≡ length y.blocks → ZoneCrash y z → z ≡ y
whole_zone y z durable crash =
    let blocks : z.blocks ≡ y.blocks = crash.front ∙ take_all (length z.blocks) y.blocks (omega (arith, durable, crash.enough)) in
    same_zone z y blocks (crash.durable ∙ ap length blocks ∙ sym durable) crash.seal

-- the crashes of zones whose blocks are all durable
whole_zones : (ys zs : List Zone) → AllZip (λ y z. z ≡ y) ys zs → zs ≡ ys
whole_zones [] [] all = refl
whole_zones [] (z ∷ zs) all = absurd all
whole_zones (y ∷ ys) [] all = absurd all
whole_zones (y ∷ ys) (z ∷ zs) all = λ i. all.0 i ∷ whole_zones ys zs all.1 i

synced_zones : (xs ys : List Zone) → AllZip ZoneCrash (map zone_synced xs) ys → ys ≡ map zone_synced xs
synced_zones [] [] all = refl
synced_zones [] (y ∷ ys) all = absurd all
synced_zones (x ∷ xs) [] all = absurd all
synced_zones (x ∷ xs) (y ∷ ys) all = λ i. whole_zone (zone_synced x) y refl all.0 i ∷ synced_zones xs ys all.1 i

-- a crash of a synced image leaves it as it is
pub crash-synced : (i j : Image) → IsCrash (synced i) j → j ≡ synced i
crash-synced i j crash = same_image j (synced i) crash.geometry (synced_zones i.zones j.zones crash.zones)

crash_zones : (xs ys zs : List Zone) → AllZip ZoneCrash xs ys → AllZip ZoneCrash ys zs → zs ≡ ys
crash_zones [] [] [] first second = refl
crash_zones [] [] (z ∷ zs) first second = absurd second
crash_zones [] (y ∷ ys) zs first second = absurd first
crash_zones (x ∷ xs) [] zs first second = absurd first
crash_zones (x ∷ xs) (y ∷ ys) [] first second = absurd second
crash_zones (x ∷ xs) (y ∷ ys) (z ∷ zs) first second = λ i. whole_zone y z first.0.durable second.0 i ∷ crash_zones xs ys zs first.1 second.1 i

-- a crash of what a crash left leaves it as it is
pub crash-crash : (i j k : Image) → IsCrash i j → IsCrash j k → k ≡ j
crash-crash i j k first second = same_image k j second.geometry (crash_zones i.zones j.zones k.zones first.zones second.zones)

synced_is_crash_zones : (g : Geometry) (zs : List Zone) → All (IsZone g) zs → AllZip ZoneCrash zs (map zone_synced zs)
synced_is_crash_zones g [] all = tt
synced_is_crash_zones g (z ∷ zs) all = (
  record { front = sym (take_all (length z.blocks) z.blocks (omega arith)); enough = (All-head (IsZone g) z zs all).kept; durable = refl; seal = refl },
  synced_is_crash_zones g zs (All-tail (IsZone g) z zs all),
)

-- a crash may leave all that was written
pub synced_is_crash : (i : Image) → IsValidImage i → IsCrash i (synced i)
synced_is_crash i is = record { geometry = refl; zones = synced_is_crash_zones i.geometry i.zones is.zones }

-- a crash after a sync is one before it
pub crash_before_sync : (i j : Image) → IsValidImage i → IsCrash (synced i) j → IsCrash i j
crash_before_sync i j is crash = subst (IsCrash i) (sym (crash-synced i j crash)) (synced_is_crash i is)

never : (b : Bool) → (b && false) ≡ false
never true = refl
never false = refl

-- a crash makes no zone active
fewer_active : (y z : Zone) → ZoneCrash y z → one_if (is_active_info (info_of z)) ≤ one_if (is_active_info (info_of y))
fewer_active y z crash = by_blocks (cases_lt 0 (length z.blocks))
  where
    shorter : length z.blocks ≤ length y.blocks
    shorter = omega (arith, ap length crash.front, length-take (length z.blocks) y.blocks)

    at_most_one : (b : Bool) → one_if b ≤ 1
    at_most_one true = omega arith
    at_most_one false = omega arith

    by_blocks : (0 < length z.blocks) ⊎ (length z.blocks ≤ 0) → one_if (is_active_info (info_of z)) ≤ one_if (is_active_info (info_of y))
    by_blocks (inl some) =
        let new : is_active_info (info_of z) ≡ (not z.sealed && true) = ap (λ b. not z.sealed && b) (lt-ltb 0 (length z.blocks) some) in
        let old : is_active_info (info_of y) ≡ (not y.sealed && true) = ap (λ b. not y.sealed && b) (lt-ltb 0 (length y.blocks) (omega (arith, some, shorter))) in
        let same = ap one_if (new ∙ ap (λ b. not b && true) crash.seal ∙ sym old) in
        omega (arith, same)
    by_blocks (inr none) =
        let off : is_active_info (info_of z) ≡ (not z.sealed && false) = ap (λ b. not z.sealed && b) (le-ltb 0 (length z.blocks) none) in
        let zero = ap one_if (off ∙ never (not z.sealed)) in
        omega (arith, zero)

active_crash : (ys zs : List Zone) → AllZip ZoneCrash ys zs → active_zones (map info_of zs) ≤ active_zones (map info_of ys)
active_crash [] [] all = omega arith
active_crash [] (z ∷ zs) all = absurd all
active_crash (y ∷ ys) [] all = absurd all
active_crash (y ∷ ys) (z ∷ zs) all =
    let f : ZoneInfo → ℕ = λ x. one_if (is_active_info x) in
    omega (arith, sum_by-cons f (info_of z) (map info_of zs), sum_by-cons f (info_of y) (map info_of ys), fewer_active y z all.0, active_crash ys zs all.1)

possible_crash : (g : Geometry) (ys zs : List Zone) → AllZip ZoneCrash ys zs → All (IsPossibleInfo g) (map info_of ys) → All (IsPossibleInfo g) (map info_of zs)
possible_crash g [] [] crash all = all
possible_crash g [] (z ∷ zs) crash all = absurd crash
possible_crash g (y ∷ ys) [] crash all = absurd crash
possible_crash g (y ∷ ys) (z ∷ zs) crash all =
    let was = All-head (IsPossibleInfo g) (info_of y) (map info_of ys) all in
    let shorter : length z.blocks ≤ length y.blocks = omega (arith, ap length crash.0.front, length-take (length z.blocks) y.blocks) in
    All-cons (IsPossibleInfo g) (info_of z) (map info_of zs)
    (record { room = omega (arith, shorter, was.room); full = λ full. crash.0.seal ∙ was.full (omega (arith, full, shorter, was.room)) })
    (possible_crash g ys zs crash.1 (All-tail (IsPossibleInfo g) (info_of y) (map info_of ys) all))

zone_crash : (g : Geometry) (ys zs : List Zone) → AllZip ZoneCrash ys zs → All (IsZone g) ys → All (IsZone g) zs
zone_crash g [] [] crash all = all
zone_crash g [] (z ∷ zs) crash all = absurd crash
zone_crash g (y ∷ ys) [] crash all = absurd crash
zone_crash g (y ∷ ys) (z ∷ zs) crash all =
    All-cons (IsZone g) z zs
    (record {
      kept = omega (arith, crash.0.durable);
      blocks = All-same (λ b. length b ≡ g.block) z.blocks (take (length z.blocks) y.blocks) crash.0.front (All-take (λ b. length b ≡ g.block) (length z.blocks) y.blocks (All-head (IsZone g) y ys all).blocks);
    })
    (zone_crash g ys zs crash.1 (All-tail (IsZone g) y ys all))

-- what a crash leaves is an image that a device may have, with no more active zones
pub valid_crash : (i j : Image) → IsValidImage i → IsCrash i j → IsValidImage j
valid_crash i j is crash = record {
  possible = record {
    valid = subst (λ g. IsTrue (is_valid g)) (sym crash.geometry) is.possible.valid;
    count = length-map j.zones info_of ∙ sym (length_all_zip ZoneCrash i.zones j.zones crash.zones) ∙ sym (length-map i.zones info_of) ∙ is.possible.count ∙ ap (λ (g : Geometry). g.zones) (sym crash.geometry);
    each = subst (λ g. All (IsPossibleInfo g) (infos_of j)) (sym crash.geometry) (possible_crash i.geometry i.zones j.zones crash.zones is.possible.each);
    active = subst (λ (g : Geometry). active_zones (infos_of j) ≤ g.active_limit) (sym crash.geometry) (le_trans (active_crash i.zones j.zones crash.zones) is.possible.active);
  };
  zones = subst (λ g. All (IsZone g) j.zones) (sym crash.geometry) (zone_crash i.geometry i.zones j.zones crash.zones is.zones);
}

crashed_zone_is : (g : Geometry) (z : Zone) (keep : ℕ) → IsZone g z → ZoneCrash z (zone_crashed z keep)
crashed_zone_is g z keep is =
    let long : length (take (blocks_left z keep) z.blocks) ≡ blocks_left z keep = length-take-le (blocks_left z keep) z.blocks (omega arith) in
    record {
      front = ap (λ n. take n z.blocks) (sym long);
      enough = omega (arith, long, is.kept);
      durable = sym long;
      seal = refl;
    }

crashed_zones_are : (g : Geometry) (zs : List Zone) (keep : List ℕ) → All (IsZone g) zs → AllZip ZoneCrash zs (zones_crashed zs keep)
crashed_zones_are g [] keep all = tt
crashed_zones_are g (z ∷ zs) [] all = (crashed_zone_is g z 0 (All-head (IsZone g) z zs all), crashed_zones_are g zs [] (All-tail (IsZone g) z zs all))
crashed_zones_are g (z ∷ zs) (k ∷ keep) all = (crashed_zone_is g z k (All-head (IsZone g) z zs all), crashed_zones_are g zs keep (All-tail (IsZone g) z zs all))

-- a crash that keeps so many blocks of each zone is a crash
pub crashed_is_crash : (i : Image) (keep : List ℕ) → IsValidImage i → IsCrash i (crashed i keep)
crashed_is_crash i keep is = record { geometry = refl; zones = crashed_zones_are i.geometry i.zones keep is.zones }
