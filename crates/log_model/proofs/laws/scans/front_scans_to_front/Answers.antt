use Rattle.log_model.proofs.LogScanLaws.{front_scans_to_front}
use Rattle.log_model.proofs.laws.scans.front_scans_to_front.Goals as goal

pub returns : goal.returns
returns c = front_scans_to_front
