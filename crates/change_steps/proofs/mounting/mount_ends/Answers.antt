use Rattle.change_steps.proofs.MountLaws.{mount_at_sequence_end, mount_is_full, mount_ends}
use Rattle.change_steps.proofs.mounting.mount_ends.Goals as goal

pub returns-clause-sequence_end : goal.returns-clause-sequence_end
returns-clause-sequence_end c = mount_at_sequence_end

pub returns-clause-full : goal.returns-clause-full
returns-clause-full c = mount_is_full

pub returns-clause-ends : goal.returns-clause-ends
returns-clause-ends c = mount_ends
