use Rattle.log_roll.proofs.KeptData.{kept_whole}
use Rattle.zone_image.specs.Image.{no_zone}
use Rattle.zone_image.specs.Infos.{no_info}
use Rattle.log_roll.proofs.steps.reset.Goals as goal

pub returns-clause-data_kept : goal.returns-clause-data_kept
returns-clause-data_kept g c = λ below.
    kept_whole c.args.dev.now c.reset.new.self c.args.zone (λ _. no_info) (λ _. no_zone) c.reset.result below c.reset.ensures.new_infos c.reset.ensures.new_image c.reset.ensures.after_fault
