use Rattle.std.proofs.Common.{take, sum_by}
use Rattle.log_model.specs.FileTable.{size_of}
use Rattle.log_model.specs.Mounted.{all_extents}
use Rattle.fs_model.specs.FsState.{touched}
use Rattle.mount_replay.specs.Filling.{Entered, marked_files}
use Rattle.mount_replay.proofs.filling.enter_files.Given as goal

abbrev pub invariant-loop-file : goal.invariant-loop-file
invariant-loop-file l =
    Entered l.geometry (λ n m. marked_files l.geometry n (take l.file-index l.files) m) (sum_by (touched l.geometry.block) (all_extents (take l.file-index l.files)))
    (size_of (all_extents (take l.file-index l.files))) l.fn.starts l.fn.zones l.starts l.zones
