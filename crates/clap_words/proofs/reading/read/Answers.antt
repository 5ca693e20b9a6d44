use Rattle.std.proofs.Common.{◌-◌, length, map, take, drop, string_bytes, arith}
use Rattle.command_words.specs.Commands.{command_meant}
use Rattle.clap_words.proofs.Builders.{first_word}
use Rattle.clap_words.proofs.Commands.{behind}
use Rattle.clap_words.proofs.reading.read.Goals as goal

pub read_again-requires : goal.read_again-requires
read_again-requires c =
    let words = c.args.words.now in
    let rest = map string_bytes (take (length words - 1) (drop 1 words)) in
    let first = first_word string_bytes words (omega (arith, c.in-len1-up.len_at_least)) in
    behind (map string_bytes words) first.0 rest (command_meant c.in-Ok.command) first.1 c.in-Ok.ensures
