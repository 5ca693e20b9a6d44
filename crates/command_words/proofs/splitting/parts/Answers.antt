use Rattle.std.proofs.Common.{arith}
use Rattle.std.proofs.lemmas.Str.Pattern.{split_parts}
use Rattle.command_words.proofs.SplitLaws.{parts_of}
use Rattle.command_words.proofs.splitting.parts.Goals as goal

pub returns : goal.returns
returns c = parts_of c.args.word.now c.split_once.result (split_parts 61 c.args.word.now c.split_once.result c.split_once.ensures.cases (omega arith))
