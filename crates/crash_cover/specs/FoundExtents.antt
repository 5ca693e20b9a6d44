-- Where the extents lie that are found again from a recovery point.
use Rattle.std.specs.Prelude.{◌≡◌, ℕ, true}
use Rattle.std.specs.List.{AllByRecursion}
use Rattle.zone_image.specs.Image.{Image, zone_of}
use Rattle.zone_image.specs.Infos.{IsValidImage}
use Rattle.record_model.specs.declared.types.Extent.{Extent}
use Rattle.record_model.specs.declared.types.FileEntry.{FileEntry}
use Rattle.log_model.specs.Frames.{recovered_extents}
use Rattle.log_model.specs.Mounted.{is_written}

-- written, and in this zone
pub record IsWrittenIn (i : Image) (n : ℕ) (x : Extent) : Type 0 where
  pub zone : zone_of i.geometry x.start ≡ n
  pub written : is_written i x ≡ true

-- each extent that is found again is written, in the zone of the recovery point
abbrev pub FoundIsWritten : Type 0
FoundIsWritten = (i : Image) (e : FileEntry) → IsValidImage i → AllByRecursion (IsWrittenIn i (zone_of i.geometry e.active)) (recovered_extents i e)
