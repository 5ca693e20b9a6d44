use Rattle.fs_report.proofs.refusal_line.say_damage.Goals as goal

pub returns-in-Twin-clause-said : goal.returns-in-Twin-clause-said
returns-in-Twin-clause-said g c = rw c.in-Twin.is c.say_numbered-in-Twin.ensures.said
