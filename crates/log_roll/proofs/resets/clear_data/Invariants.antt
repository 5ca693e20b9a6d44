use Rattle.std.proofs.Common.{◌≡◌, ◌-◌}
use Rattle.zoned_device.specs.DeviceSteps.{ChangesDevice}
use Rattle.log_roll.specs.Resets.{CrashesMetadata, cleared, infos_cleared}
use Rattle.log_roll.proofs.resets.clear_data.Given as goal

abbrev pub invariant-loop-zone : goal.invariant-loop-zone
invariant-loop-zone g l =
    let D = g.D.ZonedDevice in
    (D.infos l.dev ≡ infos_cleared 3 (l.zone - 3) (D.infos l.fn.dev))
    × (D.tells → D.image l.dev ≡ cleared 3 (l.zone - 3) (D.image l.fn.dev))
    × ChangesDevice D.known D.geometry D.tells D.image D.tick D.since D.faults D.failed_changes l.fn.dev l.dev ⊥ (CrashesMetadata (D.image l.fn.dev))
