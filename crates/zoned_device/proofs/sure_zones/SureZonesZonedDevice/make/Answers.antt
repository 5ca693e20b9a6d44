use Rattle.std.proofs.Common.{◌∙◌, ap, arith}
use Rattle.zone_image.specs.Image.{IsCrash}
use Rattle.zone_image.specs.Infos.{infos_of}
use Rattle.zone_image.proofs.InfoLaws.{infos-blank}
use Rattle.zone_image.proofs.MomentLaws.{untold}
use Rattle.zoned_device.specs.SureState.{SureState}
use Rattle.zoned_device.proofs.sure_zones.SureZonesZonedDevice.make.Goals as goal

pub returns-in_err-self-inside-clause-passes : goal.returns-in_err-self-inside-clause-passes
returns-in_err-self-inside-clause-passes c = λ _. untold (λ (d : SureState). d.tick) c.args.self.now _ (IsCrash c.args.self.now.image) (omega (arith, c.self.invariant, c.tick_after-self-inside.ensures, ap (λ (d : SureState). d.tick) c.self.view_is))

pub returns-clause-empty : goal.returns-clause-empty
returns-clause-empty c = ap infos_of c.in_ok-self-inside.ensures ∙ infos-blank c.args.shape.now
