-- What a mounted file system promises between two calls, where the image is at rest.
use Rattle.std.specs.Prelude.{◌≡◌, map}
use Rattle.zone_image.specs.Image.{Image, IsCrash}
use Rattle.zone_image.specs.Infos.{infos_of}
use Rattle.fs_model.specs.FsState.{FsState}
use Rattle.fs_model.specs.CrashClauses.{IsCovered}
use Rattle.change_cover.specs.Rests.{Stands}

-- an image covers the state that stands, where the zones are as the image has them
abbrev pub RestIsCovered : Type 0
RestIsCovered = (i : Image) (s : FsState) → Stands i s → s.geometry ≡ i.geometry → map (λ z. z.info) s.zones ≡ infos_of i
    → IsCovered (IsCrash i) s i
