use Rattle.std.proofs.Common.{◌≡◌, sym, ◌∙◌, ap, subst, arith}
use Rattle.zone_image.specs.Image.{Image}
use Rattle.zone_image.specs.Infos.{infos_of, IsValidImage}
use Rattle.zone_image.specs.Changes.{appended}
use Rattle.zone_image.proofs.InfoLaws.{infos_written, valid_written}
use Rattle.zone_image.proofs.MomentLaws.{untold}
use Rattle.zone_image.specs.Moments.{PassedByAppend}
use Rattle.zone_image.specs.Changes.{blocks_in}
use Rattle.zoned_device.specs.SureState.{SureState}
use Rattle.zoned_device.proofs.sure_zones.SureZonesZonedDevice.append.Goals as goal

pub returns-clause-new_infos : goal.returns-clause-new_infos
returns-clause-new_infos c =
    let same : c.self.inside.memory ≡ c.args.self.now.image = ap (λ (d : SureState). d.image) c.self.view_is in
    let new : c.append.new.self ≡ appended c.args.self.now.image c.args.zone (blocks_in c.args.self.now.image.geometry c.args.bytes.now) = c.append.ensures ∙ ap (λ (i : Image). appended i c.args.zone (blocks_in i.geometry c.args.bytes.now)) same in
    ap infos_of new ∙ infos_written c.args.self.now.image c.args.zone c.args.bytes.now

pub returns-clause-still_known : goal.returns-clause-still_known
returns-clause-still_known c =
    let same : c.self.inside.memory ≡ c.args.self.now.image = ap (λ (d : SureState). d.image) c.self.view_is in
    let new : c.append.new.self ≡ appended c.args.self.now.image c.args.zone (blocks_in c.args.self.now.image.geometry c.args.bytes.now) = c.append.ensures ∙ ap (λ (i : Image). appended i c.args.zone (blocks_in i.geometry c.args.bytes.now)) same in
    subst IsValidImage (sym new) (valid_written c.args.self.now.image c.args.zone c.args.bytes.now c.requires.is_known c.requires.is_zone c.requires.whole c.requires.unsealed c.requires.room c.requires.active)

pub returns-clause-passes : goal.returns-clause-passes
returns-clause-passes c = untold (λ (d : SureState). d.tick) c.args.self.now _ (PassedByAppend c.args.self.now.image c.args.zone (blocks_in c.args.self.now.image.geometry c.args.bytes.now)) (omega (arith, c.self.invariant, c.tick_after-self-inside.ensures, ap (λ (d : SureState). d.tick) c.self.view_is))
