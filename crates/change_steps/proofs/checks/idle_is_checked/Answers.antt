use Rattle.change_steps.proofs.CheckLaws.{idle_at_sequence_end, idle_table_is_full, idle_is_full, idle_passes}
use Rattle.change_steps.proofs.checks.idle_is_checked.Goals as goal

pub returns-clause-sequence_end : goal.returns-clause-sequence_end
returns-clause-sequence_end c = idle_at_sequence_end

pub returns-clause-table_full : goal.returns-clause-table_full
returns-clause-table_full c = idle_table_is_full

pub returns-clause-full : goal.returns-clause-full
returns-clause-full c = idle_is_full

pub returns-clause-passes : goal.returns-clause-passes
returns-clause-passes c = idle_passes
