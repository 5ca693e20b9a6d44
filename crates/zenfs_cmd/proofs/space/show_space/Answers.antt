use Rattle.std.proofs.Common.{◌≡◌}
use Rattle.std.specs.Prelude.{Some}
use Rattle.zone_image.specs.Counts.{Rose}
use Rattle.command_model.specs.CommandLine.Command.{ShowSpace}
use Rattle.zenfs_cmd.specs.Leaving.{Leaves}
use Rattle.zenfs_cmd.specs.Printing.{IsCutShort}
use Rattle.zenfs_cmd.specs.Reasons.{HasReason}
use Rattle.zenfs_cmd.proofs.Changed.{err_at, ok_at}
use Rattle.zenfs_cmd.proofs.ReasonLaws.{reason_before}
use Rattle.zenfs_cmd.proofs.space.show_space.Goals as goal

pub returns-in-Ok-write_all-clause-allowed : goal.returns-in-Ok-write_all-clause-allowed
returns-in-Ok-write_all-clause-allowed g c = λ at. ok_at c.text_of-text.result.0 c.in-Ok.text c.in-Ok.is (c.text_of-text.ensures.allowed at)

pub returns-clause-refused : goal.returns-clause-refused
returns-clause-refused g c = λ at random.
    let D = g.D.ZonedDevice in
    let O = g.O.Sink in
    let dev = c.args.dev in
    let out = c.args.out.now in
    let left = c.text_of-text.result.1 in
    let device = Rose (D.faults dev) (D.faults left) in
    reason_before (ShowSpace at) device
    (IsCutShort (Rose (O.faults out) (O.faults out)) (Leaves D.known D.geometry D.infos D.tells D.image (out ≡ out) random dev left) (D.tells × O.tells) (O.written out) (O.written out) (D.image dev))
    D.tells (D.absent dev) (D.image dev) c.in-Err.cause
    (err_at (HasReason (Some (ShowSpace at)) device (λ _. ⊥) D.tells (D.absent dev) (D.image dev)) c.text_of-text.result.0 c.in-Err.cause c.in-Err.is (c.text_of-text.ensures.refused at))
