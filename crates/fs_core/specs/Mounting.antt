-- Why an image isn't mounted.
use Rattle.std.specs.Prelude.{◌≡◌, ⊤, Result, Err}
use Rattle.log_model.specs.declared.selection.Refusal.{Refusal}
use Rattle.log_model.specs.declared.selection.Refusal.TheVariants as refusal
use Rattle.fs_core.specs.declared.error.MountError.{MountError}
use Rattle.fs_core.specs.declared.error.MountError.TheVariants.{DevFault, NotAnImage, NoFileSystem, Unsupported, Differs, Damaged, NoMemory}

-- Each refusal has its reason: a fault of the device, no image, or that of the image, for which it has no state; want of
-- memory needs none.
abbrev pub HasMountReason : {A : Type 0} → (device tells absent : Type 0) → Result A Refusal → MountError → Type 0
HasMountReason device tells absent state DevFault = device
HasMountReason device tells absent state NotAnImage = tells → absent
HasMountReason device tells absent state NoFileSystem = tells → (absent → ⊥) × (state ≡ Err refusal.NoFileSystem)
HasMountReason device tells absent state (Unsupported zone version flags) = tells → (absent → ⊥) × (state ≡ Err (refusal.Unsupported zone version flags))
HasMountReason device tells absent state (Differs zone block zone_blocks zones) = tells → (absent → ⊥) × (state ≡ Err (refusal.Differs zone block zone_blocks zones))
HasMountReason device tells absent state (Damaged damage) = tells → (absent → ⊥) × (state ≡ Err (refusal.Damaged damage))
HasMountReason device tells absent state NoMemory = ⊤
