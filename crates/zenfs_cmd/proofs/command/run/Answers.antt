use Rattle.std.proofs.Common.{◌≡◌, inr, ◌∙◌, subst}
use Rattle.zone_image.specs.Counts.{Rose}
use Rattle.command_model.specs.CommandLine.Command.{MakeImage, MakeFs}
use Rattle.zenfs_cmd.specs.Leaving.{Leaves}
use Rattle.zenfs_cmd.specs.Printing.{IsCutShort}
use Rattle.zenfs_cmd.specs.Reasons.{HasReason}
use Rattle.zenfs_cmd.proofs.ChangeEnds.{leaves_back}
use Rattle.zenfs_cmd.proofs.Changed.{err_at, ok_at}
use Rattle.zenfs_cmd.proofs.EndLaws.{wants_memory}
use Rattle.zenfs_cmd.proofs.command.run.Goals as goal

pub returns-in-Ok-clause-blank : goal.returns-in-Ok-clause-blank
returns-in-Ok-clause-blank g c = λ _ at geometry over wanted.
    ok_at c.obey-dev.result.0 c.in-Ok.field-0 c.in-Ok.is (c.obey-dev.ensures.left (MakeImage at geometry over) wanted)

pub returns-in-Ok-clause-formatted : goal.returns-in-Ok-clause-formatted
returns-in-Ok-clause-formatted g c = λ _ at aux threshold collect over wanted.
    ok_at c.obey-dev.result.0 c.in-Ok.field-0 c.in-Ok.is (c.obey-dev.ensures.left (MakeFs at aux threshold collect over) wanted)

pub returns-in-Ok-clause-printed : goal.returns-in-Ok-clause-printed
returns-in-Ok-clause-printed g c = λ _ k wanted. ok_at c.obey-dev.result.0 c.in-Ok.field-0 c.in-Ok.is (c.obey-dev.ensures.printed k wanted)

pub returns-in-Ok-clause-allowed : goal.returns-in-Ok-clause-allowed
returns-in-Ok-clause-allowed g c = λ _ k wanted. ok_at c.obey-dev.result.0 c.in-Ok.field-0 c.in-Ok.is (c.obey-dev.ensures.allowed k wanted)

pub returns-in-Ok-clause-changed : goal.returns-in-Ok-clause-changed
returns-in-Ok-clause-changed g c = λ _ k wanted is.
    let D = g.D.ZonedDevice in
    leaves_back D.known D.geometry D.infos D.tells D.image (c.obey-dev.new.out ≡ c.args.out.now) c.args.random c.args.dev c.obey-dev.result.1 k is
    (ok_at c.obey-dev.result.0 c.in-Ok.field-0 c.in-Ok.is (c.obey-dev.ensures.left k wanted))

pub returns-in-Ok-clause-now : goal.returns-in-Ok-clause-now
returns-in-Ok-clause-now g c = λ _ k wanted is t mounts j left.
    let D = g.D.ZonedDevice in
    let dev = c.obey-dev.result.1 in
    let laws = g.met.D.ZonedDevice.moments in
    let leaves = leaves_back D.known D.geometry D.infos D.tells D.image (c.obey-dev.new.out ≡ c.args.out.now) c.args.random c.args.dev dev k is
    (ok_at c.obey-dev.result.0 c.in-Ok.field-0 c.in-Ok.is (c.obey-dev.ensures.left k wanted)) in
    (leaves.2 (laws.since_told dev (D.tick dev) j left)).trees.crashed t mounts j (laws.since_now dev j left)

pub returns-in-Err-clause-complete : goal.returns-in-Err-clause-complete
returns-in-Err-clause-complete g c = λ k wanted told can faults outputs.
    let D = g.D.ZonedDevice in
    let O = g.O.Sink in
    let dev = c.args.dev in
    let out = c.args.out.now in
    let left = c.obey-dev.result.1 in
    let shown = c.obey-dev.new.out in
    let device = Rose (D.faults dev) (D.faults left) in
    let output = IsCutShort (Rose (O.faults out) (O.faults shown)) (Leaves D.known D.geometry D.infos D.tells D.image (shown ≡ out) c.args.random dev left) (D.tells × O.tells) (O.written out) (O.written shown) (D.image dev) in
    inr (c.refuse-status.ensures.status
    ∙ wants_memory k device output D.tells (D.absent dev) (D.image dev) c.in-Err.cause told can faults (λ cut. outputs cut.0)
    (subst (λ w. HasReason w device output D.tells (D.absent dev) (D.image dev) c.in-Err.cause) wanted
    (err_at (HasReason _ device output D.tells (D.absent dev) (D.image dev)) c.obey-dev.result.0 c.in-Err.cause c.in-Err.is c.obey-dev.ensures.refused)))
