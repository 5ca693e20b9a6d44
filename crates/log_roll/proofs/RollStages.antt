-- The images of a roll, by the blocks of their metadata zones, and what a crash leaves of each.
use Rattle.std.proofs.Common.{◌≡◌, ◌≢◌, ℕ, zero, suc, ◌-◌, ◌<◌, ◌≤◌, List, [], ◌∷◌, ◌++◌, length, map, take, drop, refl, sym, ◌∙◌, ap, subst, arith, length-append}
use Rattle.std.specs.List.{AllZip}
use Rattle.std.proofs.lemmas.List.{take_all, append-nil}
use Rattle.zone_image.specs.declared.Geometry.{Geometry}
use Rattle.zone_image.specs.Image.{Zone, Image, ZoneCrash, IsCrash, no_zone, zone_in, zone_at}
use Rattle.zone_image.specs.Changes.{change_at, zone_appended, zone_finished, zone_synced, appended, emptied, finished, synced}
use Rattle.zone_image.proofs.CrashLaws.{crash-crash}
use Rattle.zone_image.proofs.ImageLaws.{zone_in_is, length-change_at}
use Rattle.log_model.proofs.CrashLaws.{crashed_zone, take_past}
use Rattle.std.proofs.lemmas.List.{length-map}
use Rattle.log_roll.specs.Resets.{emptied_two}
use Rattle.log_roll.specs.Rolling.{next_zone, third_zone}
use Rattle.log_roll.proofs.Blanking.{put_here}
use Rattle.log_roll.proofs.ZoneChanges.{changed_zone, other_zone}
use Rattle.log_roll.proofs.Rolled.{drop_changed, next_is_other}

-- a zone that is emptied
pub emptied_zone : (n : ℕ) (i : Image) → zone_at (emptied i n) n ≡ no_zone
emptied_zone n i = zone_in_is (change_at n (λ _. no_zone) i.zones) n ∙ put_here n no_zone i.zones

-- a synced zone
zone_in_synced : (zs : List Zone) (n : ℕ) → zone_in (map zone_synced zs) n ≡ zone_synced (zone_in zs n)
zone_in_synced [] n = refl
zone_in_synced (z ∷ zs) zero = refl
zone_in_synced (z ∷ zs) (suc n) = zone_in_synced zs n

pub synced_zone : (i : Image) (n : ℕ) → zone_at (synced i) n ≡ zone_synced (zone_at i n)
synced_zone i n = zone_in_synced i.zones n

-- a synced zone loses nothing
rest_zone : (z : Zone) → ZoneCrash (zone_synced z) (zone_synced z)
rest_zone z = record { front = sym (take_all (length z.blocks) z.blocks (omega arith)); enough = omega arith; durable = refl; seal = refl }

rest_zones : (zs : List Zone) → AllZip ZoneCrash (map zone_synced zs) (map zone_synced zs)
rest_zones [] = tt
rest_zones (z ∷ zs) = (rest_zone z, rest_zones zs)

pub rest_synced : (i : Image) → IsCrash (synced i) (synced i)
rest_synced i = record { geometry = refl; zones = rest_zones i.zones }

-- nor does an emptied one
rest_changed : (n : ℕ) (zs : List Zone) → AllZip ZoneCrash zs zs → AllZip ZoneCrash (change_at n (λ _. no_zone) zs) (change_at n (λ _. no_zone) zs)
rest_changed n [] rest = rest
rest_changed zero (z ∷ zs) rest = (record { front = refl; enough = omega arith; durable = refl; seal = refl }, rest.1)
rest_changed (suc n) (z ∷ zs) rest = (rest.0, rest_changed n zs rest.1)

pub rest_emptied : (i : Image) (n : ℕ) → IsCrash i i → IsCrash (emptied i n) (emptied i n)
rest_emptied i n rest = record { geometry = refl; zones = rest_changed n i.zones rest.zones }

-- zones behind the first ones
pub zip_drop : (n : ℕ) (xs ys : List Zone) → AllZip ZoneCrash xs ys → AllZip ZoneCrash (drop n xs) (drop n ys)
zip_drop zero xs ys all = all
zip_drop (suc n) [] [] all = all
zip_drop (suc n) [] (y ∷ ys) all = absurd all
zip_drop (suc n) (x ∷ xs) [] all = absurd all
zip_drop (suc n) (x ∷ xs) (y ∷ ys) all = zip_drop n xs ys all.1

-- zones that lose nothing are left as they are
pub rest_same : (g : Geometry) (xs ys : List Zone) → AllZip ZoneCrash xs xs → AllZip ZoneCrash xs ys → ys ≡ xs
rest_same g xs ys rest crash =
    let i : Image = record { geometry = g; zones = xs } in
    let j : Image = record { geometry = g; zones = ys } in
    ap (λ (x : Image). x.zones) (crash-crash i i j (record { geometry = refl; zones = rest }) (record { geometry = refl; zones = crash }))

-- the old log's zone has these blocks more than it had, the next zone has those, the third none, and the data zones are as they were
pub record Stage (d : Image) (zone : ℕ) (more new : List (List ℕ)) (x : Image) : Type 0 where
  pub geometry : x.geometry ≡ d.geometry
  pub long : 2 < length x.zones
  pub own : (zone_at x zone).blocks ≡ (zone_at d zone).blocks ++ more
  pub own_kept : length (zone_at d zone).blocks ≤ (zone_at x zone).kept
  pub next : (zone_at x (next_zone zone)).blocks ≡ new
  pub third : (zone_at x (third_zone zone)).blocks ≡ []
  pub data_zones : drop 3 x.zones ≡ drop 3 d.zones

-- the same of what a crash leaves
pub record Left (d : Image) (zone : ℕ) (more new : List (List ℕ)) (j : Image) : Type 0 where
  pub geometry : j.geometry ≡ d.geometry
  pub own : (zone_at j zone).blocks ≡ (zone_at d zone).blocks ++ more
  pub next : (zone_at j (next_zone zone)).blocks ≡ new
  pub third : (zone_at j (third_zone zone)).blocks ≡ []
  pub data_zones : drop 3 j.zones ≡ drop 3 d.zones

pub take_none : (n : ℕ) (xs : List (List ℕ)) → xs ≡ [] → take n xs ≡ []
take_none zero xs is = refl
take_none (suc n) xs is = ap (take (suc n)) is

module _ (d : Image) (zone : ℕ) (below : zone < 3) (rest : AllZip ZoneCrash (drop 3 d.zones) (drop 3 d.zones)) where
  -- what a crash leaves of a stage
  pub stage_crash : (more new : List (List ℕ)) (x j : Image) → Stage d zone more new x → IsCrash x j → (e : ℕ) × (n : ℕ) × Left d zone (take e more) (take n new) j
  stage_crash more new x j s crash =
      let own : ZoneCrash (zone_at x zone) (zone_at j zone) = crashed_zone x j zone crash in
      let next : ZoneCrash (zone_at x (next_zone zone)) (zone_at j (next_zone zone)) = crashed_zone x j (next_zone zone) crash in
      let third : ZoneCrash (zone_at x (third_zone zone)) (zone_at j (third_zone zone)) = crashed_zone x j (third_zone zone) crash in
      let size : ℕ = length (zone_at j zone).blocks in
      let enough : length (zone_at d zone).blocks ≤ size = omega (arith, s.own_kept, own.enough) in
      let zips : AllZip ZoneCrash (drop 3 d.zones) (drop 3 j.zones) = subst (λ zs. AllZip ZoneCrash zs (drop 3 j.zones)) s.data_zones (zip_drop 3 x.zones j.zones crash.zones) in (
        size - length (zone_at d zone).blocks,
        length (zone_at j (next_zone zone)).blocks,
        record {
          geometry = crash.geometry ∙ s.geometry;
          own = own.front ∙ (ap (take size) s.own ∙ take_past (zone_at d zone).blocks more size enough);
          next = next.front ∙ ap (take (length (zone_at j (next_zone zone)).blocks)) s.next;
          third = third.front ∙ take_none (length (zone_at j (third_zone zone)).blocks) (zone_at x (third_zone zone)).blocks s.third;
          data_zones = rest_same d.geometry (drop 3 d.zones) (drop 3 j.zones) rest zips;
        },
      )

  -- the old zone gets blocks
  pub stage_end : (more : List (List ℕ)) (x : Image) → Stage d zone [] [] x → Stage d zone more [] (appended x zone more)
  stage_end more x s =
      let other = next_is_other zone below in
      let f : Zone → Zone = zone_appended x.geometry.capacity more in
      let here : zone_at (appended x zone more) zone ≡ f (zone_at x zone) = changed_zone zone f x (omega (arith, s.long, below)) in
      record {
        geometry = s.geometry;
        long = omega (arith, s.long, length-change_at zone f x.zones);
        own = ap (λ (z : Zone). z.blocks) here ∙ (ap (λ bs. bs ++ more) s.own ∙ ap (λ bs. bs ++ more) (append-nil (zone_at d zone).blocks));
        own_kept = omega (arith, ap (λ (z : Zone). z.kept) here, s.own_kept);
        next = ap (λ (z : Zone). z.blocks) (other_zone zone (next_zone zone) f x other.0) ∙ s.next;
        third = ap (λ (z : Zone). z.blocks) (other_zone zone (third_zone zone) f x other.1) ∙ s.third;
        data_zones = drop_changed 3 zone f x.zones below ∙ s.data_zones;
      }

  -- the old zone is sealed
  pub stage_finish : (more new : List (List ℕ)) (x : Image) → Stage d zone more new x → Stage d zone more new (finished x zone)
  stage_finish more new x s =
      let other = next_is_other zone below in
      let here : zone_at (finished x zone) zone ≡ zone_finished (zone_at x zone) = changed_zone zone zone_finished x (omega (arith, s.long, below)) in
      record {
        geometry = s.geometry;
        long = omega (arith, s.long, length-change_at zone zone_finished x.zones);
        own = ap (λ (z : Zone). z.blocks) here ∙ s.own;
        own_kept = omega (arith, ap (λ (z : Zone). z.kept) here, s.own_kept);
        next = ap (λ (z : Zone). z.blocks) (other_zone zone (next_zone zone) zone_finished x other.0) ∙ s.next;
        third = ap (λ (z : Zone). z.blocks) (other_zone zone (third_zone zone) zone_finished x other.1) ∙ s.third;
        data_zones = drop_changed 3 zone zone_finished x.zones below ∙ s.data_zones;
      }

  -- the next zone gets blocks
  pub stage_next : (more new added : List (List ℕ)) (x : Image) → Stage d zone more new x → third_zone zone ≢ next_zone zone → Stage d zone more (new ++ added) (appended x (next_zone zone) added)
  stage_next more new added x s apart =
      let other = next_is_other zone below in
      let f : Zone → Zone = zone_appended x.geometry.capacity added in
      let next_here : zone_at (appended x (next_zone zone) added) (next_zone zone) ≡ f (zone_at x (next_zone zone)) = changed_zone (next_zone zone) f x (omega (arith, s.long, other.2)) in
      let own_same : zone_at (appended x (next_zone zone) added) zone ≡ zone_at x zone = other_zone (next_zone zone) zone f x (λ e. other.0 (sym e)) in
      record {
        geometry = s.geometry;
        long = omega (arith, s.long, length-change_at (next_zone zone) f x.zones);
        own = ap (λ (z : Zone). z.blocks) own_same ∙ s.own;
        own_kept = omega (arith, ap (λ (z : Zone). z.kept) own_same, s.own_kept);
        next = ap (λ (z : Zone). z.blocks) next_here ∙ ap (λ bs. bs ++ added) s.next;
        third = ap (λ (z : Zone). z.blocks) (other_zone (next_zone zone) (third_zone zone) f x apart) ∙ s.third;
        data_zones = drop_changed 3 (next_zone zone) f x.zones other.2 ∙ s.data_zones;
      }

  -- all blocks are made durable
  pub stage_synced : (more new : List (List ℕ)) (x : Image) → Stage d zone more new x → map zone_synced (drop 3 d.zones) ≡ drop 3 d.zones → Stage d zone more new (synced x)
  stage_synced more new x s durable =
      record {
        geometry = s.geometry;
        long = omega (arith, s.long, length-map x.zones zone_synced);
        own = ap (λ (z : Zone). z.blocks) (synced_zone x zone) ∙ s.own;
        own_kept = omega (arith, ap (λ (z : Zone). z.kept) (synced_zone x zone), ap (λ (bs : List (List ℕ)). length bs) s.own, length-append (zone_at d zone).blocks more);
        next = ap (λ (z : Zone). z.blocks) (synced_zone x (next_zone zone)) ∙ s.next;
        third = ap (λ (z : Zone). z.blocks) (synced_zone x (third_zone zone)) ∙ s.third;
        data_zones = drop_map 3 x.zones ∙ (ap (map zone_synced) s.data_zones ∙ durable);
      }
    where
      drop_map : (n : ℕ) (zs : List Zone) → drop n (map zone_synced zs) ≡ map zone_synced (drop n zs)
      drop_map zero zs = refl
      drop_map (suc n) [] = refl
      drop_map (suc n) (z ∷ zs) = drop_map n zs

-- the two other metadata zones are emptied
pub stage_started : (i : Image) (zone : ℕ) → zone < 3 → 2 < length i.zones → third_zone zone ≢ next_zone zone
    → Stage (synced i) zone [] [] (emptied_two (synced i) (next_zone zone) (third_zone zone))
stage_started i zone below long apart =
    let other = next_is_other zone below in
    let d : Image = synced i in
    let one : Image = emptied d (next_zone zone) in
    let own_same : zone_at (emptied one (third_zone zone)) zone ≡ zone_at d zone =
    other_zone (third_zone zone) zone (λ _. no_zone) one (λ e. other.1 (sym e)) ∙ other_zone (next_zone zone) zone (λ _. no_zone) d (λ e. other.0 (sym e)) in
    record {
      geometry = refl;
      long = omega (arith, long, length-map i.zones zone_synced, length-change_at (next_zone zone) (λ _. no_zone) d.zones, length-change_at (third_zone zone) (λ _. no_zone) one.zones);
      own = ap (λ (z : Zone). z.blocks) own_same ∙ sym (append-nil (zone_at d zone).blocks);
      own_kept = omega (arith, ap (λ (z : Zone). z.kept) own_same, ap (λ (z : Zone). z.kept) (synced_zone i zone), ap (λ (z : Zone). length z.blocks) (synced_zone i zone));
      next = ap (λ (z : Zone). z.blocks) (other_zone (third_zone zone) (next_zone zone) (λ _. no_zone) one (λ e. apart (sym e)) ∙ emptied_zone (next_zone zone) d);
      third = ap (λ (z : Zone). z.blocks) (emptied_zone (third_zone zone) one);
      data_zones = drop_changed 3 (third_zone zone) (λ _. no_zone) one.zones other.3 ∙ drop_changed 3 (next_zone zone) (λ _. no_zone) d.zones other.2;
    }
