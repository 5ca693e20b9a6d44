use Rattle.change_steps.proofs.CheckLaws.{writing_at_sequence_end, writing_is_full, writing_passes}
use Rattle.change_steps.proofs.checks.writing_is_checked.Goals as goal

pub returns-clause-sequence_end : goal.returns-clause-sequence_end
returns-clause-sequence_end c = writing_at_sequence_end

pub returns-clause-full : goal.returns-clause-full
returns-clause-full c = writing_is_full

pub returns-clause-passes : goal.returns-clause-passes
returns-clause-passes c = writing_passes
