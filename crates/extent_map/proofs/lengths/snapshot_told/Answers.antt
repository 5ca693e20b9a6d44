use Rattle.extent_map.proofs.LengthLaws.{told_snapshot}
use Rattle.fs_model.specs.FsState.{working_of}
use Rattle.extent_map.proofs.lengths.snapshot_told.Goals as goal

pub returns : goal.returns
returns c = told_snapshot (working_of c.args.rows.now) c.entries_len.result c.tagged_len.result c.entries_len.ensures c.tagged_len.ensures
