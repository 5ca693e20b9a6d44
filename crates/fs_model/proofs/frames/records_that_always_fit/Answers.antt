use Rattle.fs_model.proofs.SureLaws.{delete_answers, commit_answers, replace_answers}
use Rattle.fs_model.proofs.frames.records_that_always_fit.Goals as goal

pub returns-clause-delete : goal.returns-clause-delete
returns-clause-delete c = delete_answers

pub returns-clause-commit : goal.returns-clause-commit
returns-clause-commit c = commit_answers

pub returns-clause-replace : goal.returns-clause-replace
returns-clause-replace c = replace_answers
