use Rattle.log_model.proofs.FrameLaws.{front_has_first_frames}
use Rattle.log_model.proofs.laws.mounts.front_has_first_frames.Goals as goal

pub returns : goal.returns
returns c = front_has_first_frames
