use Rattle.std.proofs.Common.{◌≤◌}
use Rattle.zone_image.specs.Image.{zone_at}
use Rattle.zone_image.specs.Reads.{OnlyReads}
use Rattle.meta_log.specs.Reader.{IsHeld, IsSameLog, scan_left}
use Rattle.log_roll.proofs.Tails.{IsReadTo}
use Rattle.log_roll.proofs.summary.tail_of.Given as goal

abbrev pub decreases-loop-left : goal.decreases-loop-left
decreases-loop-left g l = l.left

-- the device was only read, the reader is in the same log, and so much of it was read
abbrev pub invariant-loop-left : goal.invariant-loop-left
invariant-loop-left g l =
    let D = g.D.ZonedDevice in
    let blocks = (zone_at (D.image l.fn.dev) l.fn.reader.zone).blocks in
    record {
      reads : OnlyReads D.known D.geometry D.infos D.tells D.image D.tick D.since D.failed_changes l.fn.dev l.dev;
      faults : D.faults l.fn.dev ≤ D.faults l.dev;
      same : IsSameLog l.fn.reader l.reader;
      held : D.tells → IsHeld l.reader (D.image l.dev);
      read : D.tells → IsReadTo (scan_left l.fn.reader blocks) l.has_end (scan_left l.reader blocks) l.left;
    }
