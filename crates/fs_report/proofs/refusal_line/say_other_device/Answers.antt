use Rattle.std.specs.Prelude.{◌++◌, codes, decimal}
use Rattle.fs_report.proofs.Saying.{said_two}
use Rattle.fs_report.proofs.refusal_line.say_other_device.Goals as goal

pub returns-clause-said : goal.returns-clause-said
returns-clause-said g c = λ told.
    said_two _ _ _ (codes "zone " ++ decimal c.args.zone ++ codes ": superblock states block " ++ decimal c.args.block ++ codes " zone " ++ decimal c.args.zone_blocks) (codes " count ") (decimal c.args.zones) (said_two _ _ _ (codes "zone " ++ decimal c.args.zone ++ codes ": superblock states block " ++ decimal c.args.block) (codes " zone ") (decimal c.args.zone_blocks) (said_two _ _ _ (codes "zone " ++ decimal c.args.zone) (codes ": superblock states block ") (decimal c.args.block) (c.in_ok-say_numbered.ensures.said told)
    (c.in_ok-say_numbered-2.ensures.said told))
    (c.in_ok-say_numbered-3.ensures.said told))
    (c.in_ok-say_numbered-4.ensures.said told)
