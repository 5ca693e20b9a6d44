use Rattle.std.proofs.Common.{arith}
use Rattle.record_codec.proofs.Varints.{within_appended}
use Rattle.record_codec.proofs.varint.+push_bounded.Goals as goal

pub returns : goal.returns
returns t c =
    within_appended c.push_bounded.result _ _ _ c.args.most c.args.number (omega arith) (omega arith) c.in_ok-push-2.ensures.items c.push_bounded.ensures
