use Rattle.fs_model.specs.FsState.{working_of}
use Rattle.extent_map.specs.ExtentLengths.{rows_with_extent}
use Rattle.extent_map.proofs.LengthLaws.{told_snapshot}
use Rattle.extent_map.proofs.extent_lengths.lengths_with_extent.Goals as goal

pub returns : goal.returns
returns c = record {
  snapshot = told_snapshot (working_of (rows_with_extent c.args.id c.args.rows.now)) c.entries_len_with_extent.result c.tagged_len.result c.entries_len_with_extent.ensures c.tagged_len.ensures;
  longest = c.longest_with_extent.ensures;
}
