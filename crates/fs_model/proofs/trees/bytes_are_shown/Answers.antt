use Rattle.fs_model.proofs.GrowLaws.{commit_shown, show_shown}
use Rattle.fs_model.proofs.trees.bytes_are_shown.Goals as goal

pub returns-clause-commit : goal.returns-clause-commit
returns-clause-commit c = commit_shown

pub returns-clause-show : goal.returns-clause-show
returns-clause-show c = show_shown
