-- The zones of an image after a crash.
use Rattle.std.specs.Prelude.{◌≡◌, ◌≢◌, ℕ, zero, suc, ◌-◌, ◌<◌, ◌≤◌, List, [], ◌∷◌, ◌++◌, length, take, drop, refl}
use Rattle.std.proofs.Common.{◌∙◌, ap, sym, subst, arith}
use Rattle.std.proofs.lemmas.List.{take_all, take-append-drop, length-append, length-take}
use Rattle.std.specs.List.{AllZip}
use Rattle.zone_image.specs.Image.{Zone, Image, ZoneCrash, IsCrash, no_zone, zone_in, zone_at}
use Rattle.zone_image.specs.Changes.{change_at, zone_appended, appended}
use Rattle.log_model.specs.CrashLaws.{CrashKeepsFronts, DurableZoneStays, AppendCrashLeavesPart}

-- what holds of zones place by place holds of those of a number
pub zone_of_both : (R : Zone → Zone → Type 0) (zs ys : List Zone) (n : ℕ) → R no_zone no_zone → AllZip R zs ys → R (zone_in zs n) (zone_in ys n)
zone_of_both R [] [] n none h = none
zone_of_both R [] (y ∷ ys) n none h = absurd h
zone_of_both R (z ∷ zs) [] n none h = absurd h
zone_of_both R (z ∷ zs) (y ∷ ys) zero none h = h.0
zone_of_both R (z ∷ zs) (y ∷ ys) (suc n) none h = zone_of_both R zs ys n none h.1

-- an empty zone after a crash is one
empty_stays : ZoneCrash no_zone no_zone
empty_stays = record { front = refl; enough = omega arith; durable = refl; seal = refl }

-- a zone after a crash
pub crashed_zone : (i j : Image) (n : ℕ) → IsCrash i j → ZoneCrash (zone_at i n) (zone_at j n)
crashed_zone i j n h = zone_of_both ZoneCrash i.zones j.zones n empty_stays h.zones

pub crash_keeps_fronts : CrashKeepsFronts
crash_keeps_fronts i j h = record {
  geometry = h.geometry;
  fronts =
      λ n.
      let it : ZoneCrash (zone_at i n) (zone_at j n) = crashed_zone i j n h in (
        drop (length (zone_at j n).blocks) (zone_at i n).blocks,
        ap (λ bs. bs ++ drop (length (zone_at j n).blocks) (zone_at i n).blocks) it.front ∙ take-append-drop (length (zone_at j n).blocks) (zone_at i n).blocks,
      );
}

pub durable_zone_stays : DurableZoneStays
durable_zone_stays i j zone h durable =
    let it : ZoneCrash (zone_at i zone) (zone_at j zone) = crashed_zone i j zone h in
    it.front ∙ take_all (length (zone_at j zone).blocks) (zone_at i zone).blocks (omega (arith, it.enough))

-- the zone that was changed
pub changed_here : (n : ℕ) (f : Zone → Zone) (zs : List Zone) → n < length zs → zone_in (change_at n f zs) n ≡ f (zone_in zs n)
changed_here n f [] h = absurd (omega arith)
changed_here zero f (z ∷ zs) h = refl
changed_here (suc n) f (z ∷ zs) h = changed_here n f zs (omega arith)

-- another zone
pub changed_elsewhere : (n m : ℕ) (f : Zone → Zone) (zs : List Zone) → m ≢ n → zone_in (change_at n f zs) m ≡ zone_in zs m
changed_elsewhere n m f [] h = refl
changed_elsewhere zero zero f (z ∷ zs) h = absurd (h refl)
changed_elsewhere zero (suc m) f (z ∷ zs) h = refl
changed_elsewhere (suc n) zero f (z ∷ zs) h = refl
changed_elsewhere (suc n) (suc m) f (z ∷ zs) h = changed_elsewhere n m f zs (λ same. h (ap suc same))

-- the first items of joined lists, past the first list
pub take_past : {A : Type 0} (xs ys : List A) (n : ℕ) → length xs ≤ n → take n (xs ++ ys) ≡ xs ++ take (n - length xs) ys
take_past [] ys n h = ap (λ m. take m ys) (omega arith)
take_past (x ∷ xs) ys zero h = absurd (omega arith)
take_past (x ∷ xs) ys (suc n) h =
    ap (λ zs. x ∷ zs) (take_past xs ys n (omega arith)) ∙ ap (λ m. x ∷ (xs ++ take m ys)) (omega arith)

-- what a crash after an append leaves of its zone
part_left : (old new : Zone) (more : List (List ℕ)) → length old.blocks ≤ old.kept → new.blocks ≡ take (length new.blocks) (old.blocks ++ more) → old.kept ≤ length new.blocks
    → (k : ℕ) × (k ≤ length more) × (new.blocks ≡ old.blocks ++ take k more)
part_left old new more durable front enough =
    let size : length new.blocks ≡ length (take (length new.blocks) (old.blocks ++ more)) = ap (λ bs. length bs) front in (
      length new.blocks - length old.blocks,
      omega (arith, length-take (length new.blocks) (old.blocks ++ more), length-append old.blocks more),
      front ∙ take_past old.blocks more (length new.blocks) (omega arith),
    )

pub append_crash_leaves_part : AppendCrashLeavesPart
append_crash_leaves_part i j zone more there durable metadata h =
    let f : Zone → Zone = zone_appended i.geometry.capacity more in
    let here : zone_at (appended i zone more) zone ≡ f (zone_at i zone) = changed_here zone f i.zones there in
    let it : ZoneCrash (f (zone_at i zone)) (zone_at j zone) =
    subst (λ z. ZoneCrash z (zone_at j zone)) here (crashed_zone (appended i zone more) j zone h) in
    let part = part_left (zone_at i zone) (zone_at j zone) more (durable zone metadata) it.front it.enough in (
      part.0,
      part.1,
      record {
        differs = record {
          geometry = h.geometry;
          others =
              λ m less other.
              let same : zone_at (appended i zone more) m ≡ zone_at i m = changed_elsewhere zone m f i.zones other in
              durable_zone_stays (appended i zone more) j m h (subst (λ z. length z.blocks ≤ z.kept) (sym same) (durable m less))
              ∙ ap (λ z. z.blocks) same;
        };
        behind = part.2;
      },
    )
