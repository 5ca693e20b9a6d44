use Rattle.log_store.proofs.OtherData.{reset_others}
use Rattle.fs_core.proofs.dead_zones.empty.Goals as goal

pub returns-clause-kept : goal.returns-clause-kept
returns-clause-kept g c =
    let e = c.reset.ensures in
    reset_others c.args.dev.now c.reset.new.self c.args.zone c.reset.result e.new_infos e.new_image e.after_fault
