use Rattle.std.proofs.Common.{◌≡◌, ◌++◌}
use Rattle.std.specs.Prelude.{flat_map}
use Rattle.zone_alloc.proofs.ZoneWalks.{zones_from}
use Rattle.fs_report.specs.DumpState.{zone_part}
use Rattle.zenfs_cmd.proofs.dumped.add_zones.Given as goal

-- the zones so far, and those that are left
abbrev pub invariant-loop-zone : goal.invariant-loop-zone
invariant-loop-zone l =
    (l.dump.files ≡ l.fn.dump.files)
    × (l.dump.zones ++ flat_map zone_part (zones_from l.zone l.zones.zones) ≡ l.fn.dump.zones ++ flat_map zone_part (zones_from 0 l.zones.zones))
