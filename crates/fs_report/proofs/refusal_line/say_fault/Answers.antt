use Rattle.fs_report.proofs.refusal_line.say_fault.Goals as goal

pub returns-in-Range-clause-said : goal.returns-in-Range-clause-said
returns-in-Range-clause-said g c = rw c.in-Range.is c.say_numbered-in-Range.ensures.said
