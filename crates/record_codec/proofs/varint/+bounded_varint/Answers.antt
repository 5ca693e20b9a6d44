use Rattle.std.proofs.lemmas.Grind.{common_steps}
use Rattle.std.proofs.Common.{◌-◌, arith}
use Rattle.record_codec.proofs.Varints.{bounded_at_zero, bounded_empty, bounded_last, bounded_stops, bounded_goes, pow_pred, pow_positive, pow_small}
use Rattle.record_codec.proofs.varint.+bounded_varint.Goals as goal

pub returns-then-most-eq0-clause-value : goal.returns-then-most-eq0-clause-value
returns-then-most-eq0-clause-value t c = grind (arith, bounded_at_zero)

pub returns-then-byte-lt128-clause-value : goal.returns-then-byte-lt128-clause-value
returns-then-byte-lt128-clause-value t c = grind (arith, bounded_last)

pub returns-then-byte-lt128-clause-small : goal.returns-then-byte-lt128-clause-small
returns-then-byte-lt128-clause-small t c =
    omega (arith, pow_pred c.args.most (omega arith), pow_positive (c.args.most - 1))

pub returns-in_err-high-in-len1-up-clause-value : goal.returns-in_err-high-in-len1-up-clause-value
returns-in_err-high-in-len1-up-clause-value t c = grind (arith, common_steps, bounded_stops)

pub overflow_mul-result : goal.overflow_mul-result
overflow_mul-result t c = omega (arith, pow_small (c.args.most - 1) (omega arith), c.in_ok-high-in-len1-up.ensures.small)

pub overflow_add-result : goal.overflow_add-result
overflow_add-result t c = omega (arith, pow_small (c.args.most - 1) (omega arith), c.in_ok-high-in-len1-up.ensures.small)

pub returns-in-empty-clause-value : goal.returns-in-empty-clause-value
returns-in-empty-clause-value t c = grind (arith, bounded_empty)

pub returns-in_ok-high-in-len1-up-clause-value : goal.returns-in_ok-high-in-len1-up-clause-value
returns-in_ok-high-in-len1-up-clause-value t c = grind (arith, common_steps, bounded_goes)

pub returns-in_ok-high-in-len1-up-clause-small : goal.returns-in_ok-high-in-len1-up-clause-small
returns-in_ok-high-in-len1-up-clause-small t c =
    omega (arith, pow_pred c.args.most (omega arith), c.in_ok-high-in-len1-up.ensures.small)
