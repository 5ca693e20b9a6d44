use Rattle.std.proofs.Common.{◌≡◌, ◌∙◌, ap, sym, subst, refl, [], false}
use Rattle.std.specs.Prelude.{Err}
use Rattle.zone_image.specs.Counts.{Rose}
use Rattle.zone_image.specs.Moments.{LeavesOnly}
use Rattle.fs_model.specs.declared.error.FsError.{FsError}
use Rattle.fs_model.specs.LogSteps.{FsAction, NoValue}
use Rattle.fs_model.specs.Check.{check}
use Rattle.command_model.specs.CommandLine.{Command}
use Rattle.zenfs_cmd.specs.Leaving.{LeftByChange}
use Rattle.zenfs_cmd.specs.Names.{command_named}
use Rattle.zenfs_cmd.specs.Plans.{action_of, changes_names}
use Rattle.zenfs_cmd.specs.Reasons.{IsJudgement}
use Rattle.zenfs_cmd.specs.Words.{command_asked}
use Rattle.zenfs_cmd.proofs.Judgements.{judged_right, judged_so, judged_wrong, refused_as_judged}
use Rattle.zenfs_cmd.proofs.ReasonLaws.{asked_changes, failed_by, judged_by, name_refused_by, named_changes}
use Rattle.zenfs_cmd.specs.Leaving.{LeavesTheTree}
use Rattle.zenfs_cmd.proofs.TreeStays.{kept_as_failed}
use Rattle.zenfs_cmd.proofs.change.change_mounted.Goals as goal

pub returns-in-Err-clause-refused : goal.returns-in-Err-clause-refused
returns-in-Err-clause-refused g c = λ at.
    let dev = c.args.fs.now.device in
    let D = g.D.ZonedDevice in
    name_refused_by (command_asked at c.args.asked) (Rose (D.faults dev) (D.faults dev)) c.args.fs.now.state c.in-Err.cause (c.in-Err.ensures.refused at)

-- what the check answers of the command
pub cause_of-requires : goal.cause_of-requires
cause_of-requires g c = λ at.
    let k = command_asked at c.args.asked in
    let s = c.args.fs.now.state in
    judged_so k s c.in-Err-check.error (asked_changes at c.args.asked)
    (judged_wrong at c.in-Ok.change k s c.args.fs.now.writing c.in-Err-check.error (c.in-Ok.ensures.read at) (asked_changes at c.args.asked) c.requires.idle
    (c.in-Err-check.ensures.answer c.requires.goes_on 0) c.in-Err-check.ensures.early
    (λ is. let stopped = c.in-Err-check.ensures.stopped.0 (ap (λ (e : FsError). Err e) is) in let goes = c.requires.goes_on in cc))

pub returns-in-Err-check-clause-refused : goal.returns-in-Err-check-clause-refused
returns-in-Err-check-clause-refused g c = λ at.
    let dev = c.args.fs.now.device in
    let D = g.D.ZonedDevice in
    let k = command_asked at c.args.asked in
    let s = c.args.fs.now.state in
    judged_by k (Rose (D.faults dev) (D.faults dev)) s c.in-Err-check.error c.cause_of.result (c.in-Ok.ensures.named at)
    (refused_as_judged k s c.in-Err-check.error (asked_changes at c.args.asked)
    (judged_wrong at c.in-Ok.change k s c.args.fs.now.writing c.in-Err-check.error (c.in-Ok.ensures.read at) (asked_changes at c.args.asked) c.requires.idle
    (c.in-Err-check.ensures.answer c.requires.goes_on 0) c.in-Err-check.ensures.early
    (λ is. let stopped = c.in-Err-check.ensures.stopped.0 (ap (λ (e : FsError). Err e) is) in let goes = c.requires.goes_on in cc)))
    (c.cause_of.ensures at)

-- what was read is passed on
pub write_change-requires-clause-named : goal.write_change-requires-clause-named
write_change-requires-clause-named g c = λ at. named_changes at c.args.asked c.in-Ok.change (c.in-Ok.ensures.read at)

pub write_change-requires-clause-judged : goal.write_change-requires-clause-judged
write_change-requires-clause-judged g c = λ at.
    let changes = named_changes at c.args.asked c.in-Ok.change (c.in-Ok.ensures.read at) in
    judged_right at c.in-Ok.change (command_named at c.in-Ok.change) c.args.fs.now.state c.args.fs.now.writing refl changes c.requires.idle (c.in-Ok-check.ensures.answer c.requires.goes_on 0)

pub returns-in-Ok-write_change-clause-any_moment : goal.returns-in-Ok-write_change-clause-any_moment
returns-in-Ok-write_change-clause-any_moment g c = λ at.
    let D = g.D.ZonedDevice in
    let dev = c.args.fs.now.device in
    subst (λ (k : Command). LeavesOnly D.tick D.since dev c.write_change.new.fs.device (LeftByChange k (D.image dev))) (c.in-Ok.ensures.read at)
    (c.in-Ok-write_change.ensures.any_moment at)

pub returns-in-Err-write_change-clause-any_moment : goal.returns-in-Err-write_change-clause-any_moment
returns-in-Err-write_change-clause-any_moment g c = λ at.
    let D = g.D.ZonedDevice in
    let dev = c.args.fs.now.device in
    subst (λ (k : Command). LeavesOnly D.tick D.since dev c.write_change.new.fs.device (LeftByChange k (D.image dev))) (c.in-Ok.ensures.read at)
    (c.in-Err-write_change.ensures.any_moment at)

pub returns-in-Err-write_change-clause-tree_stays : goal.returns-in-Err-write_change-clause-tree_stays
returns-in-Err-write_change-clause-tree_stays g c =
    let D = g.D.ZonedDevice in
    let kept = D.tells → LeavesTheTree (D.image c.args.fs.now.device) (D.image c.write_change.new.fs.device) in
    kept_as_failed c.in-Err-write_change.error c.failure_of.result kept c.failure_of.ensures
    (λ is. c.in-Err-write_change.ensures.tree_stays (ap (λ (e : FsError). Err e) is))
