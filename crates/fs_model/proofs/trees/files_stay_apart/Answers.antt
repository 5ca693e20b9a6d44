use Rattle.fs_model.proofs.ApartCalls.{create_apart, link_apart, rename_apart, delete_apart}
use Rattle.fs_model.proofs.trees.files_stay_apart.Goals as goal

pub returns-clause-create : goal.returns-clause-create
returns-clause-create c = create_apart

pub returns-clause-link : goal.returns-clause-link
returns-clause-link c = link_apart

pub returns-clause-rename : goal.returns-clause-rename
returns-clause-rename c = rename_apart

pub returns-clause-delete : goal.returns-clause-delete
returns-clause-delete c = delete_apart
