use Rattle.std.proofs.Common.{◌≡◌, ◌+◌, ◌*◌, ◌^◌, ◌≤◌, take}
use Rattle.command_model.specs.Options.{value_of_digits}
use Rattle.clap_words.proofs.numbers.value_of.Given as goal

-- the number of the digits so far, and how large it may be
abbrev pub invariant-loop-digit : goal.invariant-loop-digit
invariant-loop-digit l = record {
  value : l.value ≡ value_of_digits (take l.digit-index l.digits);
  bound : l.value + 23 ≤ 23 * 10 ^ l.digit-index;
}
