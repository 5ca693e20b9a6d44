-- A crash within an append leaves the blocks of a crash after all of it. The seals may differ.
use Rattle.std.proofs.Common.{◌≡◌, ℕ, zero, suc, ◌≤◌, List, [], ◌∷◌, ◌++◌, length, take, drop, refl, sym, ◌∙◌, ap, arith, append_assoc, take-append-drop, length-take}
use Rattle.std.specs.List.{AllZip}
use Rattle.std.proofs.lemmas.List.{take-append-le}
use Rattle.zone_image.specs.Image.{Zone, Image, ZoneCrash, IsCrash, SameBlocks}
use Rattle.zone_image.specs.Changes.{change_at, zone_appended, appended}

abbrev SameIn : Zone → Zone → Type 0
SameIn y z = z.blocks ≡ y.blocks

same_all : (zs : List Zone) → AllZip SameIn zs zs
same_all [] = tt
same_all (z ∷ zs) = (refl, same_all zs)

-- the zone as a crash after the whole append leaves it
abbrev whole_seal : ℕ → List (List ℕ) → Zone → Zone → Zone
whole_seal capacity added z y = record y { sealed = (zone_appended capacity added z).sealed }

part_zone : (capacity k : ℕ) (added : List (List ℕ)) (z y : Zone) → ZoneCrash (zone_appended capacity (take k added) z) y → ZoneCrash (zone_appended capacity added z) (whole_seal capacity added z y)
part_zone capacity k added z y crash =
    let whole : z.blocks ++ added ≡ (z.blocks ++ take k added) ++ drop k added =
    ap (λ (l : List (List ℕ)). z.blocks ++ l) (sym (take-append-drop k added)) ∙ sym (append_assoc z.blocks (take k added) (drop k added)) in
    let short : length y.blocks ≤ length (z.blocks ++ take k added) = omega (arith, ap length crash.front, length-take (length y.blocks) (z.blocks ++ take k added)) in
    record {
      front = crash.front ∙ sym (take-append-le (length y.blocks) (z.blocks ++ take k added) (drop k added) short) ∙ ap (take (length y.blocks)) (sym whole);
      enough = crash.enough;
      durable = crash.durable;
      seal = refl;
    }

part_zones : (n capacity k : ℕ) (added : List (List ℕ)) (zs ys : List Zone) → AllZip ZoneCrash (change_at n (zone_appended capacity (take k added)) zs) ys
    → (xs : List Zone) × AllZip ZoneCrash (change_at n (zone_appended capacity added) zs) xs × AllZip SameIn xs ys
part_zones n capacity k added [] [] crash = ([], tt, tt)
part_zones n capacity k added [] (y ∷ ys) crash = absurd crash
part_zones zero capacity k added (z ∷ zs) [] crash = absurd crash
part_zones (suc n) capacity k added (z ∷ zs) [] crash = absurd crash
part_zones zero capacity k added (z ∷ zs) (y ∷ ys) crash =
    (whole_seal capacity added z y ∷ ys, (part_zone capacity k added z y crash.0, crash.1), (refl, same_all ys))
part_zones (suc n) capacity k added (z ∷ zs) (y ∷ ys) crash =
    let rest = part_zones n capacity k added zs ys crash.1 in
    (y ∷ rest.0, (crash.0, rest.1), (refl, rest.2))

-- a crash of the first blocks of an append, as one of the whole append with other seals
pub record WithinAppend (i : Image) (zone : ℕ) (added : List (List ℕ)) (j : Image) : Type 0 where
  pub whole : Image
  pub crash : IsCrash (appended i zone added) whole
  pub same : SameBlocks whole j

pub crash-part : (i j : Image) (zone k : ℕ) (added : List (List ℕ)) → IsCrash (appended i zone (take k added)) j → WithinAppend i zone added j
crash-part i j zone k added crash =
    let found = part_zones zone i.geometry.capacity k added i.zones j.zones crash.zones in
    record {
      whole = record { geometry = i.geometry; zones = found.0 };
      crash = record { geometry = refl; zones = found.1 };
      same = record { geometry = crash.geometry; zones = found.2 };
    }
