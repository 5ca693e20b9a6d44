use Rattle.log_model.proofs.NewLogLaws.{whole_snapshot}
use Rattle.log_model.proofs.laws.new_logs.whole_snapshot.Goals as goal

pub returns : goal.returns
returns c = whole_snapshot
