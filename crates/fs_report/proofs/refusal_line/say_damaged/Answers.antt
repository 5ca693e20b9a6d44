use Rattle.std.specs.Prelude.{◌++◌, codes, decimal}
use Rattle.command_model.specs.RefusalTexts.{damage_text}
use Rattle.fs_report.proofs.Saying.{said, said_two}
use Rattle.fs_report.proofs.refusal_line.say_damaged.Goals as goal

pub returns-clause-said : goal.returns-clause-said
returns-clause-said g c = λ told.
    said _ _ _ (codes "damaged: zone " ++ decimal c.args.damage.zone ++ codes " block " ++ decimal c.args.damage.block ++ codes ": ") (damage_text c.args.damage.why) (said _ _ _ (codes "damaged: zone " ++ decimal c.args.damage.zone ++ codes " block " ++ decimal c.args.damage.block) (codes ": ") (said_two _ _ _ (codes "damaged: zone " ++ decimal c.args.damage.zone) (codes " block ") (decimal c.args.damage.block) (c.in_ok-say_numbered.ensures.said told)
    (c.in_ok-say_numbered-2.ensures.said told))
    (c.in_ok-write_all.ensures.whole told))
    (c.in_ok-say_damage.ensures.said told)
