use Rattle.std.proofs.Common.{◌≡◌, ◌-◌, ◌≤◌, length, take, drop, Some}
use Rattle.zone_image.specs.Reads.{OnlyReads}
use Rattle.log_model.specs.Frames.{bytes_of}
use Rattle.fs_model.specs.FsState.{TableRow, row_of, working_entry}
use Rattle.fs_core.proofs.shown.read_shown.Given as goal

abbrev pub invariant-loop-done : goal.invariant-loop-done
invariant-loop-done g l =
    let D = g.D.ZonedDevice in
    OnlyReads D.known D.geometry D.infos D.tells D.image D.tick D.since D.failed_changes l.fn.dev l.dev
    × (D.faults l.fn.dev ≤ D.faults l.dev)
    × (l.done ≤ length l.out)
    × (D.tells → (r : TableRow) → row_of l.place.id l.files.rows ≡ Some r
    → take l.done l.out ≡ take l.done (drop l.place.offset (bytes_of (D.image l.fn.dev) (working_entry r).extents)))

abbrev pub decreases-loop-done : goal.decreases-loop-done
decreases-loop-done g l = length l.initial.out - l.done
