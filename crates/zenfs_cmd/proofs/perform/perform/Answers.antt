use Rattle.std.proofs.Common.{◌≡◌, refl}
use Rattle.std.specs.Prelude.{Some}
use Rattle.zone_image.proofs.MomentLaws.{weaker}
use Rattle.zone_image.specs.Counts.{Rose}
use Rattle.zenfs_cmd.specs.Leaving.{Leaves, MayLeave}
use Rattle.zenfs_cmd.specs.Printing.{IsCutShort}
use Rattle.zenfs_cmd.specs.Words.{command_asked}
use Rattle.std.proofs.lemmas.Result.{IfErr-weaker}
use Rattle.zenfs_cmd.proofs.ChangeEnds.{changes_image, ended_changed, may_leave, printed_if_ok}
use Rattle.zenfs_cmd.proofs.ReasonLaws.{asked_changes, reason_before}
use Rattle.zenfs_cmd.proofs.perform.perform.Goals as goal

pub returns-in-MakeImage-clause-left : goal.returns-in-MakeImage-clause-left
returns-in-MakeImage-clause-left g c = rw c.in-MakeImage.is (c.make_image-ended.ensures.left c.in-MakeImage.image.now c.args.random)

pub returns-in-MakeImage-clause-printed : goal.returns-in-MakeImage-clause-printed
returns-in-MakeImage-clause-printed g c = rw c.in-MakeImage.is (c.make_image-ended.ensures.printed c.in-MakeImage.image.now)

pub returns-in-MakeImage-clause-refused : goal.returns-in-MakeImage-clause-refused
returns-in-MakeImage-clause-refused g c = rw c.in-MakeImage.is (c.make_image-ended.ensures.refused c.in-MakeImage.image.now c.args.random)

pub returns-in-MakeImage-clause-allowed : goal.returns-in-MakeImage-clause-allowed
returns-in-MakeImage-clause-allowed g c = rw c.in-MakeImage.is (c.make_image-ended.ensures.allowed c.in-MakeImage.image.now)

pub returns-in-MakeFs-clause-left : goal.returns-in-MakeFs-clause-left
returns-in-MakeFs-clause-left g c = rw c.in-MakeFs.is (c.make_file_system-ended.ensures.left c.in-MakeFs.image.now)

pub returns-in-MakeFs-clause-printed : goal.returns-in-MakeFs-clause-printed
returns-in-MakeFs-clause-printed g c = rw c.in-MakeFs.is (c.make_file_system-ended.ensures.printed c.in-MakeFs.image.now)

pub returns-in-MakeFs-clause-refused : goal.returns-in-MakeFs-clause-refused
returns-in-MakeFs-clause-refused g c = rw c.in-MakeFs.is (c.make_file_system-ended.ensures.refused c.in-MakeFs.image.now)

pub returns-in-MakeFs-clause-allowed : goal.returns-in-MakeFs-clause-allowed
returns-in-MakeFs-clause-allowed g c = rw c.in-MakeFs.is (c.make_file_system-ended.ensures.allowed c.in-MakeFs.image.now)

pub returns-in-MakeFs-clause-any_moment : goal.returns-in-MakeFs-clause-any_moment
returns-in-MakeFs-clause-any_moment g c = rw c.in-MakeFs.is (λ _. c.make_file_system-ended.ensures.any_moment c.in-MakeFs.image.now)

pub returns-in-List-clause-refused : goal.returns-in-List-clause-refused
returns-in-List-clause-refused g c = rw c.in-List.is (c.list_files.ensures.refused c.in-List.image.now c.args.random)

pub returns-in-List-clause-allowed : goal.returns-in-List-clause-allowed
returns-in-List-clause-allowed g c = rw c.in-List.is (c.list_files.ensures.allowed c.in-List.image.now)

pub returns-in-Space-clause-refused : goal.returns-in-Space-clause-refused
returns-in-Space-clause-refused g c = rw c.in-Space.is (c.show_space.ensures.refused c.in-Space.image.now c.args.random)

pub returns-in-Space-clause-allowed : goal.returns-in-Space-clause-allowed
returns-in-Space-clause-allowed g c = rw c.in-Space.is (c.show_space.ensures.allowed c.in-Space.image.now)

pub returns-in-Dump-clause-refused : goal.returns-in-Dump-clause-refused
returns-in-Dump-clause-refused g c = rw c.in-Dump.is (c.show_dump.ensures.refused c.in-Dump.image.now c.args.random)

pub returns-in-Dump-clause-allowed : goal.returns-in-Dump-clause-allowed
returns-in-Dump-clause-allowed g c = rw c.in-Dump.is (c.show_dump.ensures.allowed c.in-Dump.image.now)

pub returns-in-Info-clause-refused : goal.returns-in-Info-clause-refused
returns-in-Info-clause-refused g c = rw c.in-Info.is (c.show_info.ensures.refused c.in-Info.image.now c.args.random)

pub returns-in-Info-clause-allowed : goal.returns-in-Info-clause-allowed
returns-in-Info-clause-allowed g c = rw c.in-Info.is (c.show_info.ensures.allowed c.in-Info.image.now)

pub returns-in-Change-clause-left : goal.returns-in-Change-clause-left
returns-in-Change-clause-left g c =
    let D = g.D.ZonedDevice in
    let at = c.in-Change.image.now in
    rw c.in-Change.is (
    ended_changed c.change_names.result.0 D.known D.geometry D.infos D.tells D.image (c.args.out.now ≡ c.args.out.now) c.args.random c.args.dev c.change_names.result.1
    (command_asked at c.in-Change.change) (asked_changes at c.in-Change.change) refl (c.change_names.ensures.named at) (c.change_names.ensures.done at))

pub returns-in-Change-clause-allowed : goal.returns-in-Change-clause-allowed
returns-in-Change-clause-allowed g c = rw c.in-Change.is (c.change_names.ensures.allowed c.in-Change.image.now)

pub returns-in-Change-clause-printed : goal.returns-in-Change-clause-printed
returns-in-Change-clause-printed g c =
    let D = g.D.ZonedDevice in
    let O = g.O.Sink in
    rw c.in-Change.is (
    printed_if_ok c.change_names.result.0 D.tells O.tells (command_asked c.in-Change.image.now c.in-Change.change) (D.image c.args.dev) (O.written c.args.out.now)
    (asked_changes c.in-Change.image.now c.in-Change.change))

pub returns-in-Change-clause-refused : goal.returns-in-Change-clause-refused
returns-in-Change-clause-refused g c =
    let D = g.D.ZonedDevice in
    let O = g.O.Sink in
    let dev = c.args.dev in
    let out = c.args.out.now in
    let left = c.change_names.result.1 in
    let at = c.in-Change.image.now in
    rw c.in-Change.is (
    IfErr-weaker c.change_names.result.0 _ _ (λ cause reason.
    reason_before (command_asked at c.in-Change.change) (Rose (D.faults dev) (D.faults left))
    (IsCutShort (Rose (O.faults out) (O.faults out)) (Leaves D.known D.geometry D.infos D.tells D.image (out ≡ out) c.args.random dev left) (D.tells × O.tells) (O.written out) (O.written out) (D.image dev))
    D.tells (D.absent dev) (D.image dev) cause reason)
    (c.change_names.ensures.refused at))

pub returns-in-Change-clause-unwritten : goal.returns-in-Change-clause-unwritten
returns-in-Change-clause-unwritten g c = rw c.in-Change.is (c.change_names.ensures.unwritten c.in-Change.image.now)

pub returns-in-Change-clause-unchanged : goal.returns-in-Change-clause-unchanged
returns-in-Change-clause-unchanged g c =
    let at = c.in-Change.image.now in
    rw c.in-Change.is (λ none. let is = changes_image (command_asked at c.in-Change.change) (asked_changes at c.in-Change.change) in absurd cc)

pub returns-in-Change-clause-any_moment : goal.returns-in-Change-clause-any_moment
returns-in-Change-clause-any_moment g c =
    let D = g.D.ZonedDevice in
    let at = c.in-Change.image.now in
    let k = command_asked at c.in-Change.change in
    let i = D.image c.args.dev in
    rw c.in-Change.is (λ _.
    weaker g.met.D.ZonedDevice.moments (MayLeave c.args.random (Some k) i) (c.change_names.ensures.any_moment at)
    (λ j told left. may_leave c.args.random k i j (asked_changes at c.in-Change.change) left))
