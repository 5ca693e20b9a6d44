use Rattle.record_codec.proofs.varint.+push_bounded.Given as goal

abbrev pub decreases-push_bounded : goal.decreases-push_bounded
decreases-push_bounded l = l.most
