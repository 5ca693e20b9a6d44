use Rattle.change_steps.proofs.MountLaws.{token_answers, token_keeps_files}
use Rattle.change_steps.proofs.mounting.token_is_freed.Goals as goal

pub returns-clause-answers : goal.returns-clause-answers
returns-clause-answers c = token_answers

pub returns-clause-keeps : goal.returns-clause-keeps
returns-clause-keeps c = token_keeps_files
