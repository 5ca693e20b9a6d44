-- The tables of a mount.
use Rattle.std.specs.Prelude.{◌≡◌, ⊤, ℕ, Bool, Ok, Err}
use Rattle.zone_image.specs.Image.{Image}
use Rattle.log_model.specs.declared.selection.Chosen.{Chosen}
use Rattle.log_model.specs.declared.selection.Refusal.TheVariants as refusal
use Rattle.log_model.specs.FileTable.{Table}
use Rattle.log_model.specs.LogSelection.{selected_log}
use Rattle.log_model.specs.Mounted.{table_in}
use Rattle.fs_model.specs.FsState.{state_with, zone_states}
use Rattle.extent_map.specs.TableState.{TableState}
use Rattle.zone_alloc.specs.ZoneTableState.{ZoneTableState}
use Rattle.mount_replay.specs.declared.error.ReplayError.{ReplayError}
use Rattle.mount_replay.specs.declared.error.ReplayError.TheVariants.{Damaged}

-- the log of this zone is the one that is selected on the image
pub record IsSelectedZone (i : Image) (zone : ℕ) : Type 0 where
  pub chosen : Chosen
  pub selected : selected_log i ≡ Ok chosen
  pub here : chosen.zone ≡ zone

-- the image mounts to a table, and the files and zones are those of its state, whichever log it has
pub record HasTables (i : Image) (collect : Bool) (files : TableState) (zones : ZoneTableState) : Type 0 where
  pub table : Table
  pub mounts : table_in i ≡ Ok table
  pub rows : (log : Chosen) → files.rows ≡ (state_with i table log).rows
  pub greatest : (log : Chosen) → files.greatest ≡ (state_with i table log).greatest
  pub same_geometry : zones.geometry ≡ i.geometry
  pub same_collect : zones.collect ≡ collect
  pub states : (log : Chosen) → zones.zones ≡ zone_states (state_with i table log)

-- the image mounts to no table, with this damage, or another cause
abbrev pub IsRefusedAs : Image → ReplayError → Type 0
IsRefusedAs i (Damaged d) = table_in i ≡ Err (refusal.Damaged d)
IsRefusedAs i _ = ⊤
