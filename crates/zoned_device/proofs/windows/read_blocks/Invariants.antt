use Rattle.std.proofs.Common.{◌≡◌, ◌-◌, ◌*◌, ◌≤◌, length, take}
use Rattle.zone_image.specs.Changes.{bytes_at}
use Rattle.zone_image.specs.Reads.{OnlyReads}
use Rattle.zoned_device.proofs.windows.read_blocks.Given as goal

-- so many blocks were read
abbrev pub invariant-loop-done : goal.invariant-loop-done
invariant-loop-done g l =
    let D = g.D.ZonedDevice in
    OnlyReads D.known D.geometry D.infos D.tells D.image D.tick D.since D.failed_changes l.fn.dev l.dev
    × (D.faults l.fn.dev ≤ D.faults l.dev)
    × (l.done ≤ l.count)
    × (length l.out ≡ l.count * l.block_size)
    × (D.tells → take (l.done * l.block_size) l.out ≡ bytes_at (D.image l.fn.dev) l.zone l.block l.done)

abbrev pub decreases-loop-done : goal.decreases-loop-done
decreases-loop-done g l = l.count - l.done
