use Rattle.clap_words.proofs.Same.{reads_commands}
use Rattle.clap_words.proofs.laws.reads_commands.Goals as goal

pub returns : goal.returns
returns c = reads_commands
