use Rattle.std.proofs.Common.{length}
use Rattle.command_words.proofs.reading.+command_after.Given as goal

abbrev pub decreases-command_after : goal.decreases-command_after
decreases-command_after l = length l.words.now
