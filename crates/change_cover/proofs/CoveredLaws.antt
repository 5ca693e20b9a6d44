-- What a mounted file system promises between two calls.
use Rattle.std.specs.Prelude.{◌≡◌, List, [], ◌∷◌, map, refl}
use Rattle.std.proofs.Common.{ap, inr}
use Rattle.std.specs.List.{AllZip}
use Rattle.zone_image.specs.Image.{Image, Zone}
use Rattle.zone_image.specs.Infos.{info_of}
use Rattle.zone_image.specs.declared.ZoneInfo.{ZoneInfo}
use Rattle.fs_model.specs.FsState.{TableRow, ZoneDescriptor}
use Rattle.fs_model.specs.CrashClauses.{IsStanding, SameZone, shown_file, shown_tree}
use Rattle.change_cover.specs.Covered.{RestIsCovered}
use Rattle.change_cover.proofs.LeftTrees.{crash_is_left}
use Rattle.change_cover.proofs.ShownTrees.{rest_mounts_shown}

-- zones of the same numbers and seals
same_zones : (ms : List ZoneDescriptor) (zs : List Zone) → map (λ m. m.info) ms ≡ map info_of zs → AllZip SameZone ms zs
same_zones [] [] h = tt
same_zones [] (z ∷ zs) h = absurd cc
same_zones (m ∷ ms) [] h = absurd cc
same_zones (m ∷ ms) (z ∷ zs) h =
    let first : m.info ≡ info_of z = cc in
    let rest : map (λ n. n.info) ms ≡ map info_of zs = cc in
    ((ap (λ (i : ZoneInfo). i.written) first, ap (λ (i : ZoneInfo). i.sealed) first), same_zones ms zs rest)

-- each file is as it is shown
all_standing : (i : Image) (rows : List TableRow) → AllZip (IsStanding i) (map (shown_file i) rows) rows
all_standing i [] = tt
all_standing i (r ∷ rs) = (record { same = refl; time = inr refl }, all_standing i rs)

pub rest_is_covered : RestIsCovered
rest_is_covered i s stands geometry zones = record {
  agrees = record { geometry = geometry; zones = same_zones s.zones i.zones zones; log = stands.rests.selected };
  standing = (shown_tree i s, rest_mounts_shown i s stands, all_standing i s.rows);
  crashes = λ t mounts j crash. crash_is_left i j s stands.rests stands.shown crash t mounts;
}
