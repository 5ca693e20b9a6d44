-- The image that stands once a mount writes.
use Rattle.std.specs.Prelude.{◌≡◌, ℕ, ◌≤◌, ◌<◌, List, [], ◌∷◌, length, map, Result, Ok, Err, OnOk, refl}
use Rattle.std.proofs.Common.{◌∙◌, ap, sym, subst, arith}
use Rattle.std.specs.List.{AllByRecursion, AllZip}
use Rattle.std.proofs.Math.Seq.{take-length}
use Rattle.std.proofs.lemmas.List.Elements.{recursion_from_All}
use Rattle.zone_image.specs.declared.Geometry.{Geometry}
use Rattle.zone_image.specs.Changes.{zone_synced}
use Rattle.zone_image.specs.Image.{Image, IsCrash, Zone, ZoneCrash}
use Rattle.zone_image.specs.Infos.{IsValidImage, IsZone}
use Rattle.log_model.specs.FileTree.{Tree}
use Rattle.log_model.specs.Mounted.{MountsTo}
use Rattle.fs_model.specs.CrashClauses.{shown_tree}
use Rattle.fs_model.specs.FsState.{FsState}
use Rattle.change_cover.specs.Rests.{Stands}
use Rattle.change_cover.specs.SameTrees.{MountsTheSame}
use Rattle.change_cover.proofs.LeftTrees.{one_tree}
use Rattle.change_cover.proofs.ShownTrees.{crash_mounts_shown, rest_mounts_shown}

-- a crash may leave all blocks of each zone
zones_left : (g : Geometry) (zs : List Zone) → AllByRecursion (IsZone g) zs → AllZip ZoneCrash zs (map zone_synced zs)
zones_left g [] each = tt
zones_left g (z ∷ zs) each = (record { front = sym (take-length z.blocks); enough = each.0.kept; durable = refl; seal = refl }, zones_left g zs each.1)

-- so it may of a valid image
left_whole : (i : Image) → IsValidImage i → IsCrash i (record i { zones = map zone_synced i.zones })
left_whole i valid = record { geometry = refl; zones = zones_left i.geometry i.zones (recursion_from_All (IsZone i.geometry) i.zones valid.zones) }

-- an image on which a state stands mounts to each tree to which all of its crashes mount
pub standing_mounts : (i k : Image) (s : FsState) → Stands k s → ((j : Image) → IsCrash k j → MountsTheSame i j) → MountsTheSame i k
standing_mounts i k s stands crashes t mounts =
    let j : Image = record k { zones = map zone_synced k.zones } in
    let crash : IsCrash k j = left_whole k stands.rests.rest.valid in
    let is : shown_tree k s ≡ t = one_tree j (shown_tree k s) t (crash_mounts_shown k j s stands crash) (crashes j crash t mounts) in
    subst (MountsTo k) is (rest_mounts_shown k s stands)
