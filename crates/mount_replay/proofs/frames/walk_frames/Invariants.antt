use Rattle.std.proofs.Common.{◌≡◌, ◌+◌, ◌-◌, ◌*◌, ◌≤◌, ◌++◌, drop}
use Rattle.std.specs.List.{All}
use Rattle.zone_image.specs.Image.{zone_at, zone_bytes}
use Rattle.zone_image.specs.Reads.{OnlyReads}
use Rattle.mount_replay.specs.FrameWalk.{frames_from}
use Rattle.mount_replay.specs.Rules.{IsWrittenExtent}
use Rattle.mount_replay.proofs.frames.walk_frames.Given as goal

abbrev pub invariant-loop-frame : goal.invariant-loop-frame
invariant-loop-frame g l =
    let D = g.D.ZonedDevice in
    OnlyReads D.known D.geometry D.infos D.tells D.image D.tick D.since D.failed_changes l.fn.dev l.dev
    × (D.faults l.fn.dev ≤ D.faults l.dev)
    × (l.at ≤ l.from.written)
    × (l.start + (l.from.written - l.at) * l.geometry.block ≡ l.from.start + (l.from.written - l.from.first) * l.geometry.block)
    × (l.start ≡ l.from.zone * zone_bytes l.geometry + l.at * l.geometry.block)
    × (All (IsWrittenExtent l.geometry (D.infos l.fn.dev)) l.fn.extents.items → All (IsWrittenExtent l.geometry (D.infos l.fn.dev)) l.extents.items)
    × (D.tells → l.extents.items ++ frames_from l.geometry.block l.start (drop l.at (zone_at (D.image l.fn.dev) l.from.zone).blocks)
    ≡ l.fn.extents.items ++ frames_from l.geometry.block l.from.start (drop l.from.first (zone_at (D.image l.fn.dev) l.from.zone).blocks))

abbrev pub decreases-loop-frame : goal.decreases-loop-frame
decreases-loop-frame g l = l.from.written - l.at
