use Rattle.log_model.proofs.FrameLaws.{frames_stay_in_order}
use Rattle.log_model.proofs.laws.mounts.frames_stay_in_order.Goals as goal

pub returns : goal.returns
returns c = frames_stay_in_order
