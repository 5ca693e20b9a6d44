use Rattle.fs_model.proofs.TreeLaws.{create_shown, link_shown, rename_shown, delete_shown}
use Rattle.fs_model.proofs.trees.changes_are_shown.Goals as goal

pub returns-clause-create : goal.returns-clause-create
returns-clause-create c = create_shown

pub returns-clause-link : goal.returns-clause-link
returns-clause-link c = link_shown

pub returns-clause-rename : goal.returns-clause-rename
returns-clause-rename c = rename_shown

pub returns-clause-delete : goal.returns-clause-delete
returns-clause-delete c = delete_shown
