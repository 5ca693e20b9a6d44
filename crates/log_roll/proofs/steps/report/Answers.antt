use Rattle.log_roll.proofs.KeptData.{kept_read}
use Rattle.log_roll.proofs.steps.report.Goals as goal

pub returns-clause-data_kept : goal.returns-clause-data_kept
returns-clause-data_kept g c = kept_read c.args.dev.now c.report.new.self c.report.ensures.same_infos c.report.ensures.same_image
