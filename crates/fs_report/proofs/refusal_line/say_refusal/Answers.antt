use Rattle.std.specs.Prelude.{◌++◌, codes}
use Rattle.command_model.specs.RefusalTexts.{cause_text, refusal_text}
use Rattle.fs_report.specs.Causes.{cause_meant}
use Rattle.fs_report.proofs.Saying.{said}
use Rattle.fs_report.proofs.refusal_line.say_refusal.Goals as goal

pub returns-clause-said : goal.returns-clause-said
unfolding refusal_text
returns-clause-said g c = λ told.
    said _ _ _ (c.args.program.now ++ codes ": " ++ cause_text (cause_meant c.args.cause)) (codes "\n") (said _ _ _ (c.args.program.now ++ codes ": ") (cause_text (cause_meant c.args.cause)) (said _ _ _ (c.args.program.now) (codes ": ") (c.in_ok-say_text.ensures.said told)
    (c.in_ok-write_all.ensures.whole told))
    (c.in_ok-say_cause.ensures.said told))
    (c.in_ok-write_all-2.ensures.whole told)
