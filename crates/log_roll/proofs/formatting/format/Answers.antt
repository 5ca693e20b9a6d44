use Rattle.std.proofs.Common.{subst}
use Rattle.log_roll.specs.Formatting.{LeftByFormat}
use Rattle.zoned_device.proofs.DeviceLaws.{done_as, done_then, only_read}
use Rattle.log_roll.proofs.FormatMoments.{unformatted}
use Rattle.log_roll.proofs.formatting.format.Goals as goal

pub returns-in-Ok-clause-device : goal.returns-in-Ok-clause-device
returns-in-Ok-clause-device g c =
    let D = g.D.ZonedDevice in
    let dev = c.args.dev.now in
    done_then g.met.D.ZonedDevice.moments (LeftByFormat c.args.geometry.now c.args.superblock.now (D.image dev))
    (only_read g.met.D.ZonedDevice.moments c.in-Ok.ensures.device c.in-Ok.ensures.cause) (λ failed. cc) c.format_in_order.ensures.device
    (λ j told crash. unformatted c.args.geometry.now c.args.superblock.now (D.image dev) j crash)
    (λ j told left. subst (λ i. LeftByFormat c.args.geometry.now c.args.superblock.now i j) (c.in-Ok.ensures.device.same_image told) left)

pub returns-in-Err-clause-device : goal.returns-in-Err-clause-device
returns-in-Err-clause-device g c =
    let D = g.D.ZonedDevice in
    let dev = c.args.dev.now in
    done_as g.met.D.ZonedDevice.moments _ (LeftByFormat c.args.geometry.now c.args.superblock.now (D.image dev))
    (only_read g.met.D.ZonedDevice.moments c.in-Err.ensures.device c.in-Err.ensures.cause) (λ failed. (cc)) (λ failed. (cc)) (λ j told crash. unformatted c.args.geometry.now c.args.superblock.now (D.image dev) j crash)
