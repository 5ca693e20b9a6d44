use Rattle.fs_model.proofs.KeptFileCalls.{keeps_commit, keeps_take_zone, keeps_note, keeps_show, keeps_replace}
use Rattle.fs_model.proofs.frames.file_calls_touch_their_file.Goals as goal

pub returns-clause-commit : goal.returns-clause-commit
returns-clause-commit c = λ id now s. (keeps_commit id now s).every

pub returns-clause-take_zone : goal.returns-clause-take_zone
returns-clause-take_zone c = λ id s. (keeps_take_zone id s).every

pub returns-clause-note_extent : goal.returns-clause-note_extent
returns-clause-note_extent c = λ id x s. (keeps_note id x s).every

pub returns-clause-show : goal.returns-clause-show
returns-clause-show c = λ id now s. (keeps_show id now s).every

pub returns-clause-replace : goal.returns-clause-replace
returns-clause-replace c = λ id moves s. (keeps_replace id moves s).every
