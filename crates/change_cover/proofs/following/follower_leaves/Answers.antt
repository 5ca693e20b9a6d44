use Rattle.change_cover.proofs.FollowLaws.{follower_leaves}
use Rattle.change_cover.proofs.following.follower_leaves.Goals as goal

pub returns : goal.returns
returns c = follower_leaves
