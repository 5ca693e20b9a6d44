-- A zone that is taken for a writer leaves one active-zone token at least.
use Rattle.std.specs.Prelude.{ℕ, ◌-◌, ◌≤◌}
use Rattle.fs_model.specs.ZonePolicy.{data_zones, tokens_taken, choose_zone}
use Rattle.fs_model.specs.FsState.{FsState, zone_states, collects}
use Rattle.fs_model.specs.FileSteps.{take_chosen}

-- the data zones that count against the device's limit leave one of it, for the log
abbrev pub LeavesToken : FsState → Type 0
LeavesToken s = tokens_taken (data_zones (zone_states s)) ≤ s.geometry.active_limit - 1

-- the zone that is chosen for a writer, whichever it is, once it is opened
abbrev pub TakeLeavesToken : Type 0
TakeLeavesToken = (s : FsState) (id hint : ℕ) → LeavesToken s
    → LeavesToken (take_chosen id hint (choose_zone s.geometry (collects s) (zone_states s) hint) s).last
