-- The moments of formatting, by what is known where it begins.
use Rattle.std.specs.Prelude.{◌≡◌, ℕ, ◌<◌, List, [], ◌∷◌, length, Ok, IsTrue}
use Rattle.std.proofs.Common.{◌∙◌, ap, sym, subst, inl, inr, arith}
use Rattle.zone_image.specs.declared.Geometry.{Geometry}
use Rattle.zone_image.specs.declared.ZoneInfo.{ZoneInfo}
use Rattle.zone_image.specs.Image.{Image, IsCrash, is_valid}
use Rattle.zone_image.specs.Infos.{IsPossible, IsImage}
use Rattle.record_model.specs.Encoding.{payload_of}
use Rattle.record_model.specs.declared.types.Record.TheVariants.{Snapshot}
use Rattle.superblock_core.specs.Superblock.{superblock_bytes, superblock_of, fits}
use Rattle.superblock_core.specs.declared.superblock.Superblock.{Superblock}
use Rattle.log_model.specs.LogScan.{record_blocks}
use Rattle.log_model.specs.Format.{reset_order}
use Rattle.log_roll.specs.FormatOrder.{AreMetadata}
use Rattle.log_roll.specs.Formatting.{LeftByFormat, PassedByFormat}
use Rattle.zoned_device.proofs.DeviceLaws.{valid_image}
use Rattle.log_roll.proofs.FormatCrash.{crash_is_old, while_formatted}
use Rattle.log_roll.proofs.FormatSelects.{EmptySnapshot, empty_snapshot_is, first_superblock_is}
use Rattle.log_roll.proofs.LoneLogs.{IsSuperblock}
use Rattle.log_roll.proofs.RollMoments.{three_zones}

-- before anything is changed
pub unformatted : (g : Geometry) (s : Superblock) (i j : Image) → IsCrash i j → LeftByFormat g s i j
unformatted g s i j crash = record { moment = inl crash; cases = λ logs. crash_is_old s i j crash logs }

-- what makes the superblock that of a new file system
pub record IsFirst (g : Geometry) (s : Superblock) (payload : List ℕ) : Type 0 where
  pub bytes : payload ≡ superblock_bytes s
  pub reads : superblock_of payload ≡ Ok s
  pub size : length payload ≡ 512
  pub device : IsTrue (fits s g)

-- what the steps of formatting pass
pub format_passed : (shape g : Geometry) (infos : List ZoneInfo) (i : Image) (s : Superblock) (payload snapshot : List ℕ) (first second third : ℕ) → shape ≡ g → IsPossible g infos
    → IsImage g infos i → AreMetadata first second third → (first ∷ second ∷ third ∷ []) ≡ reset_order i → IsFirst shape s payload → snapshot ≡ payload_of (Snapshot [])
    → (j : Image) → PassedByFormat shape first second third (record_blocks shape.block payload) (record_blocks shape.block snapshot) i j → LeftByFormat shape s i j
format_passed shape g infos i s payload snapshot first second third same possible image all order is empty j passed =
    let shapes : shape ≡ i.geometry = same ∙ sym image.shape in
    let valid : IsTrue (is_valid shape) = subst (λ x. IsTrue (is_valid x)) (sym same) possible.valid in
    let it : PassedByFormat shape first second third (record_blocks shape.block (superblock_bytes s)) (record_blocks shape.block (payload_of (Snapshot []))) i j =
    subst (λ bs. PassedByFormat shape first second third (record_blocks shape.block bs) (record_blocks shape.block (payload_of (Snapshot []))) i j) is.bytes
    (subst (λ bs. PassedByFormat shape first second third (record_blocks shape.block payload) (record_blocks shape.block bs) i j) empty passed) in
    let superblock_is : IsSuperblock shape (superblock_bytes s) s =
    first_superblock_is shape s valid (ap superblock_of (sym is.bytes) ∙ is.reads) (ap (λ (bs : List ℕ). length bs) (sym is.bytes) ∙ is.size) is.device in
    let some : 0 < shape.zones = omega (arith, three_zones shape valid) in
    record {
      moment = inr (record { first = first; second = second; third = third; order = order; passed = it });
      cases =
          λ logs. while_formatted i s first second third all order (valid_image g infos i possible image) logs
          (subst (λ x. IsSuperblock x (superblock_bytes s) s) shapes superblock_is)
          (subst (λ (x : Geometry). EmptySnapshot x.block) shapes (empty_snapshot_is shape valid)) j
          (subst (λ (x : Geometry). 0 < x.zones) shapes some)
          (subst (λ (x : Geometry). PassedByFormat x first second third (record_blocks x.block (superblock_bytes s)) (record_blocks x.block (payload_of (Snapshot []))) i j) shapes it);
    }
