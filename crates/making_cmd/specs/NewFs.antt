-- What a new file system is, and why none is made.
use Rattle.std.specs.Prelude.{◌≡◌, ⊤, ℕ, List}
use Rattle.zone_image.specs.declared.Geometry.{Geometry}
use Rattle.zone_image.specs.declared.ZoneInfo.{ZoneInfo}
use Rattle.zone_image.specs.Image.{Image}
use Rattle.zone_image.specs.Infos.{infos_of}
use Rattle.superblock_core.specs.declared.superblock.Superblock.{Superblock}
use Rattle.log_model.specs.Format.{formatted_image, new_superblock}
use Rattle.log_roll.specs.FormatLeaves.{FormatLeaves, HasLogs}
use Rattle.making_cmd.specs.declared.settings.Settings.{Settings}
use Rattle.making_cmd.specs.declared.error.MakeFsError.{MakeFsError}
use Rattle.making_cmd.specs.declared.error.MakeFsError.TheVariants.{DeviceFault, OutputFault, NoMemory, NotAnImage, FsExists}

-- the superblock that is made by these settings and random bits on a device of some shape
abbrev pub superblock_for : Settings → ℕ → Geometry → Superblock
superblock_for settings random g = new_superblock g random settings.aux_path settings.finish_threshold settings.collect

-- the device keeps its shape, and holds the file system of such a superblock and nothing else
pub record HasNewFs {D : Type 0} (known : D → Type 0) (geometry : D → Geometry) (infos : D → List ZoneInfo) (tells : Type 0) (image : D → Image) (superblock : Geometry → Superblock) (old new : D) : Type 0 where
  pub is_known : known new
  pub same_shape : tells → (image old).geometry ≡ geometry new
  pub has_infos : infos new ≡ infos_of (formatted_image (geometry new) (superblock (geometry new)))
  pub is_new : tells → image new ≡ formatted_image (geometry new) (superblock (geometry new))

-- each refusal has its reason: a fault of the device or of the output, no image, or a file system that is there; want of memory needs none
abbrev pub HasFsReason : (device output absent : Type 0) → (ℕ → Type 0) → MakeFsError → Type 0
HasFsReason device output absent exists DeviceFault = device
HasFsReason device output absent exists OutputFault = output
HasFsReason device output absent exists NoMemory = ⊤
HasFsReason device output absent exists NotAnImage = absent
HasFsReason device output absent exists (FsExists zone) = exists zone

-- what stays, unless the device failed or was formatted
abbrev pub StaysUnmade : Type 0 → MakeFsError → Type 0
StaysUnmade same DeviceFault = ⊤
StaysUnmade same OutputFault = ⊤
StaysUnmade same _ = same

-- nothing is printed before any refusal but that of the output
abbrev pub IsSilent : Type 0 → MakeFsError → Type 0
IsSilent quiet OutputFault = ⊤
IsSilent quiet _ = quiet

-- what a crash leaves of an image whose every crash has a log that counts: the old file system, none, or the new one
abbrev pub LeavesOldOrNewFs : (Geometry → Superblock) → Image → Image → Type 0
LeavesOldOrNewFs superblock i j = HasLogs i → FormatLeaves (superblock i.geometry) i j
