use Rattle.fs_model.proofs.KeptFileCalls.{keeps_put, keeps_give_back, keeps_hold, keeps_reset_victim}
use Rattle.fs_model.proofs.frames.zone_calls_touch_their_zone.Goals as goal

pub returns-clause-put_blocks : goal.returns-clause-put_blocks
returns-clause-put_blocks c = λ zone blocks s. (keeps_put zone blocks s).every

pub returns-clause-give_back : goal.returns-clause-give_back
returns-clause-give_back c = λ zone close s. (keeps_give_back zone close s).every

pub returns-clause-hold : goal.returns-clause-hold
returns-clause-hold c = λ p s. (keeps_hold p s).every

pub returns-clause-reset_victim : goal.returns-clause-reset_victim
returns-clause-reset_victim c = λ zone s. (keeps_reset_victim zone s).every
