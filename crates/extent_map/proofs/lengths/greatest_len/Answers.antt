use Rattle.std.proofs.Common.{◌≡◌, length, arith}
use Rattle.record_model.specs.Encoding.{payload_of}
use Rattle.record_model.specs.declared.types.Record.TheVariants.{Update}
use Rattle.record_codec.specs.Length.{told}
use Rattle.fs_model.specs.FsState.{working_entry}
use Rattle.extent_map.proofs.LengthLaws.{longest_more, told_update}
use Rattle.extent_map.proofs.lengths.greatest_len.Goals as goal

pub loop-row-preserved : goal.loop-row-preserved
loop-row-preserved c =
    let next : c.tagged_len.result ≡ told (length (payload_of (Update (working_entry c.row-item.result)))) =
    told_update (working_entry c.row-item.result) c.working_len.result c.tagged_len.result c.working_len.ensures c.tagged_len.ensures in
    rw c.max-greatest.ensures
    (longest_more c.loop-row.row-index c.args.rows.now c.row-item.result c.loop-row.greatest c.tagged_len.result _ (omega arith) c.row-item.is next c.loop-row.invariant)
