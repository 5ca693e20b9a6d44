use Rattle.change_cover.proofs.FollowLaws.{follows_itself}
use Rattle.change_cover.proofs.following.follows_itself.Goals as goal

pub returns : goal.returns
returns c = follows_itself
