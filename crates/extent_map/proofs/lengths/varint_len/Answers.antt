use Rattle.std.proofs.Common.{arith, sym}
use Rattle.record_codec.proofs.Varints.{varint_1, varint_2, varint_3, varint_4, varint_5}
use Rattle.extent_map.proofs.lengths.varint_len.Goals as goal

pub returns-then-number : goal.returns-then-number
returns-then-number c = sym (varint_1 c.args.number (omega arith))

pub returns-then-number-2 : goal.returns-then-number-2
returns-then-number-2 c = sym (varint_2 c.args.number (omega arith) (omega arith))

pub returns-then-number-3 : goal.returns-then-number-3
returns-then-number-3 c = sym (varint_3 c.args.number (omega arith) (omega arith))

pub returns-then-number-4 : goal.returns-then-number-4
returns-then-number-4 c = sym (varint_4 c.args.number (omega arith) (omega arith))

pub returns-else-number-4 : goal.returns-else-number-4
returns-else-number-4 c = sym (varint_5 c.args.number (omega arith))
