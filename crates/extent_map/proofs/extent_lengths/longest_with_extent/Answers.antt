use Rattle.std.proofs.Common.{◌≡◌, length, arith}
use Rattle.record_model.specs.Encoding.{payload_of}
use Rattle.record_model.specs.declared.types.Record.TheVariants.{Update}
use Rattle.record_codec.specs.Length.{told}
use Rattle.fs_model.specs.FsState.{working_entry}
use Rattle.extent_map.specs.ExtentLengths.{row_with_extent}
use Rattle.extent_map.proofs.LengthLaws.{longest_changed, told_update}
use Rattle.extent_map.proofs.extent_lengths.longest_with_extent.Goals as goal

pub loop-row-preserved : goal.loop-row-preserved
loop-row-preserved c =
    let more = row_with_extent c.args.id c.row-item.result in
    let next : c.tagged_len.result ≡ told (length (payload_of (Update (working_entry more)))) =
    told_update (working_entry more) c.len_with_extent.result c.tagged_len.result c.len_with_extent.ensures c.tagged_len.ensures in
    rw c.max-greatest.ensures
    (longest_changed (row_with_extent c.args.id) c.loop-row.row-index c.args.rows.now c.row-item.result c.loop-row.greatest c.tagged_len.result _ (omega arith) c.row-item.is next c.loop-row.invariant)
