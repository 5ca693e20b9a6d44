use Rattle.fs_model.proofs.SameFiles.{commit_loses_none, take_zone_loses_none, note_loses_none, show_loses_none, replace_loses_none, put_loses_none, give_back_loses_none, hold_loses_none, reset_victim_loses_none}
use Rattle.fs_model.proofs.frames.calls_lose_no_file.Goals as goal

pub returns-clause-commit : goal.returns-clause-commit
returns-clause-commit c = commit_loses_none

pub returns-clause-take_zone : goal.returns-clause-take_zone
returns-clause-take_zone c = take_zone_loses_none

pub returns-clause-note_extent : goal.returns-clause-note_extent
returns-clause-note_extent c = note_loses_none

pub returns-clause-show : goal.returns-clause-show
returns-clause-show c = show_loses_none

pub returns-clause-replace : goal.returns-clause-replace
returns-clause-replace c = replace_loses_none

pub returns-clause-put_blocks : goal.returns-clause-put_blocks
returns-clause-put_blocks c = put_loses_none

pub returns-clause-give_back : goal.returns-clause-give_back
returns-clause-give_back c = give_back_loses_none

pub returns-clause-hold : goal.returns-clause-hold
returns-clause-hold c = hold_loses_none

pub returns-clause-reset_victim : goal.returns-clause-reset_victim
returns-clause-reset_victim c = reset_victim_loses_none
