use Rattle.log_store.proofs.SealedData.{seal_blocks}
use Rattle.log_store.proofs.calls.seal.Goals as goal

pub returns-clause-data_kept : goal.returns-clause-data_kept
returns-clause-data_kept g c = seal_blocks c.args.dev.now c.finish.new.self c.args.zone c.finish.result c.finish.ensures.new_infos c.finish.ensures.new_image c.finish.ensures.after_fault
