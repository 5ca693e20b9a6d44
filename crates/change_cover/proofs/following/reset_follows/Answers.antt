use Rattle.change_cover.proofs.FollowLaws.{reset_follows}
use Rattle.change_cover.proofs.following.reset_follows.Goals as goal

pub returns : goal.returns
returns c = reset_follows
