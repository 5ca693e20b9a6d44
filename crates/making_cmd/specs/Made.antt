-- What a new device is, and why none is made.
use Rattle.std.specs.Prelude.{◌≡◌, ⊤, List}
use Rattle.zone_image.specs.declared.Geometry.{Geometry}
use Rattle.zone_image.specs.declared.ZoneInfo.{ZoneInfo}
use Rattle.zone_image.specs.Image.{Image}
use Rattle.zone_image.specs.Changes.{blank}
use Rattle.zone_image.specs.Infos.{infos_blank}
use Rattle.making_cmd.specs.declared.error.MakeDeviceError.{MakeDeviceError}
use Rattle.making_cmd.specs.declared.error.MakeDeviceError.TheVariants.{DeviceFault, OutputFault, NoMemory, ImageExists, BadGeometry}

-- a known device of this shape, all of whose zones are empty
pub record IsBlank {D : Type 0} (known : D → Type 0) (geometry : D → Geometry) (infos : D → List ZoneInfo) (tells : Type 0) (image : D → Image) (shape : Geometry) (d : D) : Type 0 where
  pub is_known : known d
  pub has_shape : geometry d ≡ shape
  pub all_empty : infos d ≡ infos_blank shape
  pub is_new : tells → image d ≡ blank shape

-- each refusal has its reason: a fault of the device or of the output, an image that is there, or wrong numbers; want of memory needs none
abbrev pub HasDeviceReason : (device output exists bad : Type 0) → MakeDeviceError → Type 0
HasDeviceReason device output exists bad DeviceFault = device
HasDeviceReason device output exists bad OutputFault = output
HasDeviceReason device output exists bad NoMemory = ⊤
HasDeviceReason device output exists bad ImageExists = exists
HasDeviceReason device output exists bad BadGeometry = bad

-- what stays, unless the device failed or was made
abbrev pub StaysUnmade : Type 0 → MakeDeviceError → Type 0
StaysUnmade same DeviceFault = ⊤
StaysUnmade same OutputFault = ⊤
StaysUnmade same _ = same

-- nothing is printed before any refusal but that of the output
abbrev pub IsSilent : Type 0 → MakeDeviceError → Type 0
IsSilent quiet OutputFault = ⊤
IsSilent quiet _ = quiet
