use Rattle.std.proofs.Common.{◌≡◌, ◌≤◌, take}
use Rattle.zone_image.specs.Reads.{OnlyReads}
use Rattle.mount_replay.proofs.infos.zone_infos.Given as goal

abbrev pub invariant-loop-zone : goal.invariant-loop-zone
invariant-loop-zone g l =
    let D = g.D.ZonedDevice in
    OnlyReads D.known D.geometry D.infos D.tells D.image D.tick D.since D.failed_changes l.fn.dev l.dev
    × (D.faults l.fn.dev ≤ D.faults l.dev)
    × (l.infos.items ≡ take l.zone (D.infos l.fn.dev))
