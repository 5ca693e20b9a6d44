use Rattle.fs_model.proofs.KeptZones.{keeps_roll}
use Rattle.fs_model.proofs.KeptCalls.{keeps_create, keeps_link, keeps_rename, keeps_delete}
use Rattle.fs_model.proofs.frames.tree_changes_touch_names.Goals as goal

pub returns-clause-create : goal.returns-clause-create
returns-clause-create c = λ name hint sparse now s. (keeps_create name hint sparse now s).every

pub returns-clause-link : goal.returns-clause-link
returns-clause-link c = λ old new s. (keeps_link old new s).every

pub returns-clause-rename : goal.returns-clause-rename
returns-clause-rename c = λ old new s. (keeps_rename old new s).every

pub returns-clause-delete : goal.returns-clause-delete
returns-clause-delete c = λ name s. (keeps_delete name s).every

pub returns-clause-roll : goal.returns-clause-roll
returns-clause-roll c = λ s. (keeps_roll s).every
