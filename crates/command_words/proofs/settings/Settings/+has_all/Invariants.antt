use Rattle.std.proofs.Common.{length}
use Rattle.command_words.proofs.settings.Settings.+has_all.Given as goal

abbrev pub decreases-has_all : goal.decreases-has_all
decreases-has_all l = length l.names.now
