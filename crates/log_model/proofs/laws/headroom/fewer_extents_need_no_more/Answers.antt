use Rattle.log_model.proofs.HeadroomLaws.{fewer_extents_need_no_more}
use Rattle.log_model.proofs.laws.headroom.fewer_extents_need_no_more.Goals as goal

pub returns : goal.returns
returns c = fewer_extents_need_no_more
