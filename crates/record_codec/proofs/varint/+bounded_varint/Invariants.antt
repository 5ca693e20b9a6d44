use Rattle.record_codec.proofs.varint.+bounded_varint.Given as goal

abbrev pub decreases-bounded_varint : goal.decreases-bounded_varint
decreases-bounded_varint l = l.most
