-- The image after whole blocks were appended to a zone that has room for them.
use Rattle.std.specs.Prelude.{◌≡◌, ℕ, ◌+◌, ◌*◌, ◌<◌, ◌≤◌, false, List, length}
use Rattle.std.proofs.Common.{◌∙◌, sym, subst, arith}
use Rattle.zone_image.specs.declared.Geometry.{Geometry}
use Rattle.zone_image.specs.declared.ZoneInfo.{ZoneInfo}
use Rattle.zone_image.specs.Image.{Image}
use Rattle.zone_image.specs.Changes.{appended, chunks}
use Rattle.zone_image.specs.Infos.{IsImage, IsPossible, IsValidImage, active_zones, info_at, infos_of}
use Rattle.zone_image.proofs.InfoLaws.{some_block, valid_written}
use Rattle.zoned_device.proofs.DeviceLaws.{valid_image}
use Rattle.meta_log.proofs.Adding.{blocks_known, count_of, no_rest}

-- where all is known of the image
valid_blocks : (i : Image) (zone n : ℕ) (bytes : List ℕ) (blocks : List (List ℕ)) → IsValidImage i → zone < i.geometry.zones → length bytes ≡ n * i.geometry.block
    → chunks i.geometry.block n bytes ≡ blocks → (info_at (infos_of i) zone).sealed ≡ false → (info_at (infos_of i) zone).written + n ≤ i.geometry.capacity
    → ((info_at (infos_of i) zone).written ≡ 0 → active_zones (infos_of i) < i.geometry.active_limit) → IsValidImage (appended i zone blocks)
valid_blocks i zone n bytes blocks valid within whole known unsealed room active =
    let some : 0 < i.geometry.block = some_block i.geometry valid.possible.valid in
    let count = count_of bytes n i.geometry.block some whole in
    subst (λ bs. IsValidImage (appended i zone bs)) (blocks_known i.geometry bytes n blocks some whole known)
    (valid_written i zone bytes valid within (no_rest bytes n i.geometry.block some whole) unsealed (omega (arith, room, count)) active)

-- where it is known of the device
pub appended_valid : (shape g : Geometry) (infos : List ZoneInfo) (i : Image) (zone n : ℕ) (bytes : List ℕ) (blocks : List (List ℕ)) → shape ≡ g → IsPossible g infos → IsImage g infos i
    → zone < g.zones → length bytes ≡ n * shape.block → chunks shape.block n bytes ≡ blocks → (info_at infos zone).sealed ≡ false → (info_at infos zone).written + n ≤ shape.capacity
    → ((info_at infos zone).written ≡ 0 → active_zones infos < shape.active_limit) → IsValidImage (appended i zone blocks)
appended_valid shape g infos i zone n bytes blocks same possible image within whole known unsealed room active =
    let shapes : shape ≡ i.geometry = same ∙ sym image.shape in
    valid_blocks i zone n bytes blocks (valid_image g infos i possible image) (subst (λ (s : Geometry). zone < s.zones) (sym image.shape) within)
    (subst (λ (s : Geometry). length bytes ≡ n * s.block) shapes whole)
    (subst (λ (s : Geometry). chunks s.block n bytes ≡ blocks) shapes known)
    (subst (λ is. (info_at is zone).sealed ≡ false) (sym image.told) unsealed)
    (subst (λ is. (info_at is zone).written + n ≤ i.geometry.capacity) (sym image.told) (subst (λ (s : Geometry). (info_at infos zone).written + n ≤ s.capacity) shapes room))
    (subst (λ is. (info_at is zone).written ≡ 0 → active_zones is < i.geometry.active_limit) (sym image.told)
    (subst (λ (s : Geometry). (info_at infos zone).written ≡ 0 → active_zones infos < s.active_limit) shapes active))
