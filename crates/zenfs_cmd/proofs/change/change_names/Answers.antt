use Rattle.std.proofs.Common.{◌≡◌, ◌∙◌, ap, sym, subst, inl}
use Rattle.std.proofs.lemmas.Result.{IfErr-weaker, on_ok_weaker}
use Rattle.std.specs.Prelude.{OnOk}
use Rattle.zone_image.specs.Counts.{Rose}
use Rattle.zone_image.specs.Image.{Image}
use Rattle.zone_image.specs.Moments.{LeavesOnly}
use Rattle.zone_image.proofs.MomentLaws.{goes_on}
use Rattle.command_model.specs.CommandLine.{Command}
use Rattle.zenfs_cmd.specs.Leaving.{IsChanged, LeftByChange}
use Rattle.zenfs_cmd.specs.Words.{command_asked}
use Rattle.zenfs_cmd.proofs.ReasonLaws.{asked_changes, change_can_be_done, refused_by, rose_before}
use Rattle.zenfs_cmd.proofs.Changed.{both_ok, changed_if_ok}
use Rattle.zenfs_cmd.proofs.change.change_names.Goals as goal

pub returns-in-Ok-clause-done : goal.returns-in-Ok-clause-done
returns-in-Ok-clause-done g c = λ at.
    let D = g.D.ZonedDevice in
    let new = c.change_mounted-ended.new.fs in
    rw c.unmount.ensures.device (
    changed_if_ok c.change_mounted-ended.result (command_asked at c.args.asked) (D.image c.args.dev) (D.image c.in-Ok.fs.device) (D.image new.device) c.in-Ok.fs.state new.state
    D.tells c.in-Ok.ensures.state c.in-Ok.ensures.same_image (c.change_mounted-ended.ensures.planned at) (c.change_mounted-ended.ensures.made at))

pub returns-in-Ok-clause-allowed : goal.returns-in-Ok-clause-allowed
returns-in-Ok-clause-allowed g c = λ at.
    let D = g.D.ZonedDevice in
    let k = command_asked at c.args.asked in
    both_ok c.change_mounted-ended.result
    (λ planned named told.
    change_can_be_done k (D.absent c.args.dev) (D.image c.args.dev) (asked_changes at c.args.asked) (c.in-Ok.ensures.there told) named
    (record { state = c.in-Ok.fs.state; mounted = c.in-Ok.ensures.state told; answered = planned.answered }))
    (c.change_mounted-ended.ensures.planned at) (c.change_mounted-ended.ensures.named at)

pub returns-in-Ok-clause-refused : goal.returns-in-Ok-clause-refused
returns-in-Ok-clause-refused g c = λ at.
    let D = g.D.ZonedDevice in
    let dev = c.args.dev in
    let k = command_asked at c.args.asked in
    rw c.unmount.ensures.device (
    IfErr-weaker c.change_mounted-ended.result _ _ (λ cause reason.
    refused_by k (Rose (D.faults dev) (D.faults c.change_mounted-ended.new.fs.device)) (Rose (D.faults c.in-Ok.fs.device) (D.faults c.change_mounted-ended.new.fs.device)) (λ _. ⊥)
    D.tells (D.absent dev) (D.image dev) c.in-Ok.fs.state cause c.in-Ok.ensures.there c.in-Ok.ensures.state
    (rose_before (D.faults dev) (D.faults c.in-Ok.fs.device) (D.faults c.change_mounted-ended.new.fs.device) c.in-Ok.ensures.never_falls) reason)
    (c.change_mounted-ended.ensures.refused at))

pub returns-in-Ok-clause-any_moment : goal.returns-in-Ok-clause-any_moment
returns-in-Ok-clause-any_moment g c = λ at.
    let D = g.D.ZonedDevice in
    let k = command_asked at c.args.asked in
    rw c.unmount.ensures.device (
    goes_on g.met.D.ZonedDevice.moments (LeftByChange k (D.image c.args.dev)) c.in-Ok.ensures.any_moment (c.change_mounted-ended.ensures.any_moment at)
    (λ j told crash. inl crash)
    (λ j told left. subst (λ (i : Image). LeftByChange k i j) (c.in-Ok.ensures.same_image told) left))
