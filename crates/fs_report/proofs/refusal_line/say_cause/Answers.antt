use Rattle.fs_report.proofs.refusal_line.say_cause.Goals as goal

pub returns-in-FsExists-clause-said : goal.returns-in-FsExists-clause-said
returns-in-FsExists-clause-said g c = rw c.in-FsExists.is c.say_numbered.ensures.said

pub returns-in-NotFound-clause-said : goal.returns-in-NotFound-clause-said
returns-in-NotFound-clause-said g c = rw c.in-NotFound.is c.say_named-in-NotFound.ensures.said

pub returns-in-IdsEnd-clause-said : goal.returns-in-IdsEnd-clause-said
returns-in-IdsEnd-clause-said g c = rw c.in-IdsEnd.is c.write_all-in-IdsEnd.ensures.whole

pub returns-in-SequenceEnd-clause-said : goal.returns-in-SequenceEnd-clause-said
returns-in-SequenceEnd-clause-said g c = rw c.in-SequenceEnd.is c.write_all-in-SequenceEnd.ensures.whole
