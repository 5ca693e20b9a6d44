use Rattle.std.proofs.Common.{◌≤◌}
use Rattle.zone_image.specs.Reads.{OnlyReads}
use Rattle.mount_replay.specs.Recovering.{FoundSoFar}
use Rattle.mount_replay.proofs.checks.recover_files.Given as goal

abbrev pub invariant-loop-i : goal.invariant-loop-i
invariant-loop-i g l =
    let D = g.D.ZonedDevice in
    OnlyReads D.known D.geometry D.infos D.tells D.image D.tick D.since D.failed_changes l.fn.dev l.dev
    × (D.faults l.fn.dev ≤ D.faults l.dev)
    × FoundSoFar D.tells l.geometry l.infos (D.image l.fn.dev) l.i l.fn.files l.files
