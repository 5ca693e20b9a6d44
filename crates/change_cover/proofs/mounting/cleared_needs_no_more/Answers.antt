use Rattle.change_cover.proofs.RoomLaws.{cleared_needs_no_more}
use Rattle.change_cover.proofs.mounting.cleared_needs_no_more.Goals as goal

pub returns : goal.returns
returns c = cleared_needs_no_more
