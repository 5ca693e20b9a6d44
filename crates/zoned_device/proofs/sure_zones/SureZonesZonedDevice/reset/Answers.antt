use Rattle.std.proofs.Common.{◌≡◌, sym, ◌∙◌, ap, subst, arith}
use Rattle.zone_image.specs.Image.{Image}
use Rattle.zone_image.specs.Infos.{infos_of, IsValidImage}
use Rattle.zone_image.specs.Changes.{emptied}
use Rattle.zone_image.proofs.InfoLaws.{infos-emptied, valid_emptied}
use Rattle.zone_image.proofs.MomentLaws.{untold}
use Rattle.zone_image.specs.Moments.{PassedByReset}
use Rattle.zoned_device.specs.SureState.{SureState}
use Rattle.zoned_device.proofs.sure_zones.SureZonesZonedDevice.reset.Goals as goal

pub returns-clause-new_infos : goal.returns-clause-new_infos
returns-clause-new_infos c =
    let same : c.self.inside.memory ≡ c.args.self.now.image = ap (λ (d : SureState). d.image) c.self.view_is in
    let new : c.reset.new.self ≡ emptied c.args.self.now.image c.args.zone = c.reset.ensures ∙ ap (λ (i : Image). emptied i c.args.zone) same in
    ap infos_of new ∙ infos-emptied c.args.self.now.image c.args.zone

pub returns-clause-still_known : goal.returns-clause-still_known
returns-clause-still_known c =
    let same : c.self.inside.memory ≡ c.args.self.now.image = ap (λ (d : SureState). d.image) c.self.view_is in
    let new : c.reset.new.self ≡ emptied c.args.self.now.image c.args.zone = c.reset.ensures ∙ ap (λ (i : Image). emptied i c.args.zone) same in
    subst IsValidImage (sym new) (valid_emptied c.args.self.now.image c.args.zone c.requires.is_known c.requires.is_zone)

pub returns-clause-passes : goal.returns-clause-passes
returns-clause-passes c = untold (λ (d : SureState). d.tick) c.args.self.now _ (PassedByReset c.args.self.now.image c.args.zone) (omega (arith, c.self.invariant, c.tick_after-self-inside.ensures, ap (λ (d : SureState). d.tick) c.self.view_is))
