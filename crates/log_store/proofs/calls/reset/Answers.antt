use Rattle.log_store.proofs.OtherData.{reset_others}
use Rattle.log_store.proofs.calls.reset.Goals as goal

pub returns-clause-data_kept : goal.returns-clause-data_kept
returns-clause-data_kept g c = reset_others c.args.dev.now c.reset.new.self c.args.zone c.reset.result c.reset.ensures.new_infos c.reset.ensures.new_image c.reset.ensures.after_fault
