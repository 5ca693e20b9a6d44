use Rattle.log_model.proofs.CrashLaws.{durable_zone_stays}
use Rattle.log_model.proofs.laws.crashes.durable_zone_stays.Goals as goal

pub returns : goal.returns
returns c = durable_zone_stays
