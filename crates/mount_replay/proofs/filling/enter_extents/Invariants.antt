use Rattle.std.proofs.Common.{take, sum_by}
use Rattle.log_model.specs.FileTable.{size_of}
use Rattle.fs_model.specs.FsState.{touched}
use Rattle.mount_replay.specs.Filling.{Entered, marked_all}
use Rattle.mount_replay.proofs.filling.enter_extents.Given as goal

abbrev pub invariant-loop-i : goal.invariant-loop-i
invariant-loop-i l =
    Entered l.geometry (λ n m. marked_all l.geometry n l.hint (take l.i l.extents) m) (sum_by (touched l.geometry.block) (take l.i l.extents)) (size_of (take l.i l.extents))
    l.fn.starts l.fn.zones l.starts l.zones
