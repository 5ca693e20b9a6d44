use Rattle.std.proofs.Common.{length}
use Rattle.clap_words.proofs.parser.+with_values.Given as goal

abbrev pub decreases-with_values : goal.decreases-with_values
decreases-with_values l = length l.names.now
