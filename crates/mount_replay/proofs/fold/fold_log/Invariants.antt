use Rattle.std.proofs.Common.{◌≡◌, ◌≤◌, false}
use Rattle.zone_image.specs.Image.{zone_at}
use Rattle.zone_image.specs.Reads.{OnlyReads}
use Rattle.log_model.specs.FileTable.{replay_from}
use Rattle.extent_map.specs.Applying.{rows_of}
use Rattle.extent_map.specs.Records.{recorded_of}
use Rattle.meta_log.specs.Reader.{IsHeld, IsSameLog, scan_left}
use Rattle.mount_replay.specs.Folding.{last_after}
use Rattle.mount_replay.specs.SoundTables.{IsSoundTable}
use Rattle.mount_replay.proofs.fold.fold_log.Given as goal

abbrev pub invariant-loop-taken : goal.invariant-loop-taken
invariant-loop-taken g l =
    let D = g.D.ZonedDevice in
    OnlyReads D.known D.geometry D.infos D.tells D.image D.tick D.since D.failed_changes l.fn.dev l.dev
    × (D.faults l.fn.dev ≤ D.faults l.dev)
    × IsSameLog l.fn.reader l.reader
    × (l._taken ≤ l.reader.next)
    × (l.table.rows ≡ rows_of (recorded_of l.table.rows))
    × IsSoundTable (recorded_of l.table.rows)
    × (D.tells → replay_from l.ended (recorded_of l.table.rows) (scan_left l.reader (zone_at (D.image l.fn.dev) l.fn.reader.zone).blocks).payloads
    ≡ replay_from false (recorded_of l.fn.table.rows) (scan_left l.fn.reader (zone_at (D.image l.fn.dev) l.fn.reader.zone).blocks).payloads)
    × (D.tells → last_after l.last (scan_left l.reader (zone_at (D.image l.fn.dev) l.fn.reader.zone).blocks).payloads
    ≡ last_after l.fn.before (scan_left l.fn.reader (zone_at (D.image l.fn.dev) l.fn.reader.zone).blocks).payloads)
    × (D.tells → IsHeld l.reader (D.image l.dev))
