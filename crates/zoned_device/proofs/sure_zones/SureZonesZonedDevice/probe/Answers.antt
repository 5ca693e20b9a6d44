use Rattle.std.proofs.Common.{ap, arith}
use Rattle.zone_image.specs.Image.{IsCrash}
use Rattle.zone_image.proofs.MomentLaws.{untold}
use Rattle.zoned_device.specs.SureState.{SureState}
use Rattle.zoned_device.proofs.sure_zones.SureZonesZonedDevice.probe.Goals as goal

pub returns-clause-passes : goal.returns-clause-passes
returns-clause-passes c = untold (λ (d : SureState). d.tick) c.args.self.now _ (IsCrash c.args.self.now.image) (omega (arith, c.self.invariant, c.tick_after-self-inside.ensures, ap (λ (d : SureState). d.tick) c.self.view_is))
