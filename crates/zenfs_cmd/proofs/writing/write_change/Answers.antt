use Rattle.std.proofs.Common.{◌≡◌, ◌∙◌, ap, [], true, false}
use Rattle.std.specs.Prelude.{Err}
use Rattle.zone_image.proofs.MomentLaws.{goes_on, weaker}
use Rattle.fs_model.specs.declared.error.FsError.{FsError}
use Rattle.fs_model.specs.TreeSteps.{mount_write}
use Rattle.zenfs_cmd.specs.Leaving.{LeftByChange}
use Rattle.zenfs_cmd.specs.Names.{command_named}
use Rattle.zenfs_cmd.specs.Plans.{action_of}
use Rattle.zenfs_cmd.proofs.ChangedTrees.{change_is_made, change_leaves, mount_leaves}
use Rattle.zenfs_cmd.proofs.Judgements.{made_as_planned, mount_is_allowed, never_refused_behind, only_fails}
use Rattle.zenfs_cmd.proofs.Standing.{standing_mounts}
use Rattle.zenfs_cmd.proofs.TreeStays.{same_tree, same_tree_behind, wants_unwritten}
use Rattle.zenfs_cmd.proofs.writing.write_change.Goals as goal

pub returns-in-Err-clause-tree_stays : goal.returns-in-Err-clause-tree_stays
returns-in-Err-clause-tree_stays g c = λ wanting told.
    let D = g.D.ZonedDevice in
    let old = c.args.fs.now.device in
    let same : c.mount_write.new.self.device ≡ old = (c.in-Err.ensures.unwritten (wants_unwritten (Err c.in-Err.error) wanting)).1 in
    same_tree (D.image old) (D.image c.mount_write.new.self.device) (ap D.image same)

pub returns-in-Err-make_change-clause-tree_stays : goal.returns-in-Err-make_change-clause-tree_stays
returns-in-Err-make_change-clause-tree_stays g c = λ wanting told.
    let D = g.D.ZonedDevice in
    let i = D.image c.args.fs.now.device in
    let mid = c.mount_write.new.self in
    let goes : mid.stopped ≡ false = c.in-Ok.ensures.stopped ∙ c.requires.goes_on in
    let stands = c.stands.ensures c.in-Ok.ensures.writes goes told in
    same_tree_behind i (D.image mid.device) (D.image c.make_change.new.fs.device) (ap D.image (c.in-Err-make_change.ensures.unwritten wanting))
    (standing_mounts i (D.image mid.device) mid.state stands (c.in-Ok.ensures.tree told)) (c.in-Ok.ensures.tree told)

pub returns-in-Err-clause-failed : goal.returns-in-Err-clause-failed
returns-in-Err-clause-failed g c =
    let k = command_named [] c.args.change in
    let s = c.args.fs.now.state in
    only_fails mount_write s c.mount_write.new.self.state c.in-Err.error c.in-Err.ensures.steps
    (λ is. let stopped = c.in-Err.ensures.refuses.0 (ap (λ (e : FsError). Err e) is) in let goes = c.requires.goes_on in cc)
    (λ f h. let allowed = mount_is_allowed k s (c.requires.judged []) in absurd cc)

pub returns-in-Ok-make_change-clause-planned : goal.returns-in-Ok-make_change-clause-planned
returns-in-Ok-make_change-clause-planned g c = λ at.
    let n = c.args.change in
    made_as_planned (command_named at n) c.args.fs.now.state c.mount_write.new.self.state c.make_change.new.fs.state (c.requires.named at) (c.requires.judged at)
    c.in-Ok.ensures.steps (c.in-Ok-make_change.ensures.steps at)

pub returns-in-Ok-make_change-clause-made : goal.returns-in-Ok-make_change-clause-made
returns-in-Ok-make_change-clause-made g c = λ at told.
    let D = g.D.ZonedDevice in
    let old = c.args.fs.now in
    let mid = c.mount_write.new.self in
    let new = c.make_change.new.fs in
    let goes : mid.stopped ≡ false = c.in-Ok.ensures.stopped ∙ c.requires.goes_on in
    let stands = c.stands.ensures c.in-Ok.ensures.writes goes told in
    change_is_made (command_named at c.args.change) (D.image old.device) (D.image mid.device) (D.image new.device) mid.state new.state
    (standing_mounts (D.image old.device) (D.image mid.device) mid.state stands (c.in-Ok.ensures.tree told)) stands
    (c.stands-in-Ok-make_change.ensures (c.in-Ok-make_change.ensures.mode ∙ c.in-Ok.ensures.writes) (c.in-Ok-make_change.ensures.goes_on ∙ goes) told)
    (c.agrees.ensures (c.in-Ok-make_change.ensures.goes_on ∙ goes) told) (c.in-Ok-make_change.ensures.tree at told)

pub returns-in-Ok-make_change-clause-any_moment : goal.returns-in-Ok-make_change-clause-any_moment
returns-in-Ok-make_change-clause-any_moment g c = λ at.
    let D = g.D.ZonedDevice in
    let k = command_named at c.args.change in
    let i = D.image c.args.fs.now.device in
    let mid = c.mount_write.new.self in
    let goes : mid.stopped ≡ false = c.in-Ok.ensures.stopped ∙ c.requires.goes_on in
    goes_on g.met.D.ZonedDevice.moments (LeftByChange k i) c.in-Ok.ensures.any_moment (c.in-Ok-make_change.ensures.any_moment at)
    (λ j told left. mount_leaves k i j (left c.requires.goes_on))
    (λ j told left.
    let stands = c.stands.ensures c.in-Ok.ensures.writes goes told in
    change_leaves k i (D.image mid.device) j mid.state (standing_mounts i (D.image mid.device) mid.state stands (c.in-Ok.ensures.tree told)) stands (left goes))

pub returns-in-Err-make_change-clause-failed : goal.returns-in-Err-make_change-clause-failed
returns-in-Err-make_change-clause-failed g c =
    let n = c.args.change in
    let k = command_named [] n in
    only_fails (action_of k) c.mount_write.new.self.state c.make_change.new.fs.state c.in-Err-make_change.error (c.in-Err-make_change.ensures.steps [])
    (λ is. let stopped = c.in-Err-make_change.ensures.refuses.0 (ap (λ (e : FsError). Err e) is) in let goes = (c.in-Ok.ensures.stopped ∙ c.requires.goes_on) in cc)
    (λ f h. never_refused_behind k c.args.fs.now.state c.mount_write.new.self.state f (c.requires.named []) c.sound.ensures (c.requires.judged []) c.in-Ok.ensures.steps h)

pub returns-in-Err-make_change-clause-any_moment : goal.returns-in-Err-make_change-clause-any_moment
returns-in-Err-make_change-clause-any_moment g c = λ at.
    let D = g.D.ZonedDevice in
    let k = command_named at c.args.change in
    let i = D.image c.args.fs.now.device in
    let mid = c.mount_write.new.self in
    let goes : mid.stopped ≡ false = c.in-Ok.ensures.stopped ∙ c.requires.goes_on in
    goes_on g.met.D.ZonedDevice.moments (LeftByChange k i) c.in-Ok.ensures.any_moment (c.in-Err-make_change.ensures.any_moment at)
    (λ j told left. mount_leaves k i j (left c.requires.goes_on))
    (λ j told left.
    let stands = c.stands.ensures c.in-Ok.ensures.writes goes told in
    change_leaves k i (D.image mid.device) j mid.state (standing_mounts i (D.image mid.device) mid.state stands (c.in-Ok.ensures.tree told)) stands (left goes))
