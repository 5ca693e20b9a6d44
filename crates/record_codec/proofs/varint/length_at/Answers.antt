use Rattle.std.proofs.Common.{arith}
use Rattle.std.proofs.lemmas.Grind.{common_steps}
use Rattle.record_codec.proofs.Varints.{length_bad, length_high, length_long, length_good}
use Rattle.record_codec.proofs.varint.length_at.Goals as goal
use Rattle.record_codec.proofs.varint.length_at.Goals.{then-from-number-via-then-from-number, then-from-number-via-else-from-number+then-varint_len-from}

pub returns-in_err-number-clause-value : goal.returns-in_err-number-clause-value
returns-in_err-number-clause-value c = grind (arith, common_steps, length_bad)

pub returns-then-from-number-clause-value : goal.returns-then-from-number-clause-value
returns-then-from-number-clause-value c =
    elim c.then-from-number.branch [
      | then-from-number-via-then-from-number w ↦ length_high c.args.bytes.now _ _ c.in_ok-number.ensures.value (omega arith)
      | then-from-number-via-else-from-number+then-varint_len-from w ↦ length_long c.args.bytes.now _ _ c.in_ok-number.ensures.value (λ same. grind arith)
    ]

pub returns-clause-value : goal.returns-clause-value
returns-clause-value c =
    length_good c.args.bytes.now _ _ c.in_ok-number.ensures.value (omega arith) (grind arith)
