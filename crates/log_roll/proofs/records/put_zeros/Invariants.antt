use Rattle.std.proofs.Common.{◌≡◌, ◌+◌, ◌++◌, replicate, vec_len, vec_capacity}
use Rattle.log_roll.proofs.records.put_zeros.Given as goal

abbrev pub invariant-loop-put : goal.invariant-loop-put
invariant-loop-put l =
    (l.bytes.items ≡ l.fn.bytes.items ++ replicate l.put 0) × (vec_len l.bytes ≡ vec_len l.fn.bytes + l.put) × (vec_capacity l.bytes ≡ vec_capacity l.fn.bytes)
