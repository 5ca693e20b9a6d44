use Rattle.std.proofs.Common.{◌++◌, ◌∙◌}
use Rattle.record_model.specs.Encoding.{payload_of, slice}
use Rattle.record_model.specs.Numbers.{u64}
use Rattle.record_codec.proofs.Lengths.{told_payload, deletion_inside}
use Rattle.extent_map.proofs.change_lengths.deletion_bytes.Goals as goal

pub returns : goal.returns
unfolding payload_of
returns c = λ id.
    told_payload 3 c.deletion_len.result c.tagged_len.result (u64 id ++ slice c.args.name.now) (c.deletion_len.ensures ∙ deletion_inside id c.args.name.now) c.tagged_len.ensures
