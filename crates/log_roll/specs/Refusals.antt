-- Why no log is chosen.
use Rattle.std.specs.Prelude.{◌≡◌, ⊤, Result, Err}
use Rattle.log_model.specs.declared.selection.Refusal.{Refusal}
use Rattle.log_model.specs.declared.selection.Refusal.TheVariants as refusal
use Rattle.log_roll.specs.declared.error.ChooseError.{ChooseError}
use Rattle.log_roll.specs.declared.error.ChooseError.TheVariants.{NoFileSystem, Unsupported, Differs, Damaged, DevFault, NoMemory}

-- the answer is this refusal of the choice; a fault and want of memory say nothing of it
abbrev pub IsRefusedBy : {A : Type 0} → Result A Refusal → ChooseError → Type 0
IsRefusedBy choice NoFileSystem = choice ≡ Err refusal.NoFileSystem
IsRefusedBy choice (Unsupported zone version flags) = choice ≡ Err (refusal.Unsupported zone version flags)
IsRefusedBy choice (Differs zone block zone_blocks zones) = choice ≡ Err (refusal.Differs zone block zone_blocks zones)
IsRefusedBy choice (Damaged damage) = choice ≡ Err (refusal.Damaged damage)
IsRefusedBy choice DevFault = ⊤
IsRefusedBy choice NoMemory = ⊤
