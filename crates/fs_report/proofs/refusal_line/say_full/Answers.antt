use Rattle.std.specs.Prelude.{◌++◌, codes, decimal}
use Rattle.fs_report.proofs.Saying.{said, said_two}
use Rattle.fs_report.proofs.refusal_line.say_full.Goals as goal

pub returns-clause-said : goal.returns-clause-said
returns-clause-said g c = λ told.
    said _ _ _ (codes "metadata full: " ++ decimal c.args.need ++ codes " of " ++ decimal c.args.capacity) (codes " blocks") (said_two _ _ _ (codes "metadata full: " ++ decimal c.args.need) (codes " of ") (decimal c.args.capacity) (said _ _ _ (codes "metadata full: ") (decimal c.args.need) (c.in_ok-write_all.ensures.whole told)
    (c.in_ok-say_large.ensures.said told))
    (c.in_ok-say_numbered.ensures.said told))
    (c.in_ok-write_all-2.ensures.whole told)
