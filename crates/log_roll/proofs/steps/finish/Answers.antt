use Rattle.log_roll.proofs.KeptData.{kept_whole}
use Rattle.zone_image.specs.Changes.{zone_finished}
use Rattle.zone_image.specs.Infos.{info_finished}
use Rattle.log_roll.proofs.steps.finish.Goals as goal

pub returns-clause-data_kept : goal.returns-clause-data_kept
returns-clause-data_kept g c = λ below.
    kept_whole c.args.dev.now c.finish.new.self c.args.zone info_finished zone_finished c.finish.result below c.finish.ensures.new_infos c.finish.ensures.new_image c.finish.ensures.after_fault
