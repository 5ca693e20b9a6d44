use Rattle.std.proofs.Common.{length}
use Rattle.clap_words.proofs.parser.+with_flags.Given as goal

abbrev pub decreases-with_flags : goal.decreases-with_flags
decreases-with_flags l = length l.names.now
