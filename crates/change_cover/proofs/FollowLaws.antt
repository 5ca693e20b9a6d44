-- A state that stands while data zones are reset one after another.
use Rattle.std.specs.Prelude.{[], ◌∷◌, ◌==◌, refl}
use Rattle.std.proofs.Common.{◌∙◌, subst}
use Rattle.fs_model.specs.CrashClauses.{shown_tree}
use Rattle.change_cover.specs.Rests.{Stands}
use Rattle.change_cover.specs.Left.{IsLeftOf}
use Rattle.change_cover.specs.Following.{FollowsItself, ResetFollows, FollowerLeaves}
use Rattle.change_cover.proofs.LeftTrees.{left_of_same}
use Rattle.change_cover.proofs.ResetZones.{reset_stands}
use Rattle.change_cover.proofs.SameTreeLaws.{kept_blocks_show_the_same, kept_blocks_mount_the_same}

pub follows_itself : FollowsItself
follows_itself i s stands = record { stands = stands; rows = refl; log = refl; tree = refl; mounts = λ t h. h }

pub reset_follows : ResetFollows
reset_follows i j k s t next zone follows away becomes at keeps =
    let there : Stands k next = reset_stands j k t next zone follows.stands away becomes at in
    record {
      stands = there;
      rows = becomes.rows ∙ follows.rows;
      log = becomes.log ∙ follows.log;
      tree = kept_blocks_show_the_same (λ n. n == zone) j k t next follows.stands there becomes.rows keeps away ∙ follows.tree;
      mounts = λ w h. kept_blocks_mount_the_same (λ n. n == zone) j k t next follows.stands there becomes.rows keeps away w (follows.mounts w h);
    }

pub follower_leaves : FollowerLeaves
follower_leaves i j k s t follows left = left_of_same i j k (shown_tree i s ∷ []) follows.mounts (subst (λ tree. IsLeftOf j (tree ∷ []) k) follows.tree left)
