use Rattle.std.proofs.Common.{◌≡◌, sym, ◌∙◌, ap, subst, arith}
use Rattle.zone_image.specs.Image.{Image, IsCrash}
use Rattle.zone_image.specs.Infos.{infos_of, IsValidImage}
use Rattle.zone_image.specs.Changes.{synced}
use Rattle.zone_image.proofs.InfoLaws.{infos-synced, valid_synced}
use Rattle.zone_image.proofs.MomentLaws.{untold}
use Rattle.zoned_device.specs.SureState.{SureState}
use Rattle.zoned_device.proofs.sure_zones.SureZonesZonedDevice.sync.Goals as goal

pub returns-clause-same_infos : goal.returns-clause-same_infos
returns-clause-same_infos c =
    let same : c.self.inside.memory ≡ c.args.self.now.image = ap (λ (d : SureState). d.image) c.self.view_is in
    let new : c.sync.new.self ≡ synced c.args.self.now.image = c.sync.ensures ∙ ap (λ (i : Image). synced i) same in
    ap infos_of new ∙ infos-synced c.args.self.now.image

pub returns-clause-still_known : goal.returns-clause-still_known
returns-clause-still_known c =
    let same : c.self.inside.memory ≡ c.args.self.now.image = ap (λ (d : SureState). d.image) c.self.view_is in
    let new : c.sync.new.self ≡ synced c.args.self.now.image = c.sync.ensures ∙ ap (λ (i : Image). synced i) same in
    subst IsValidImage (sym new) (valid_synced c.args.self.now.image c.requires)

pub returns-clause-passes : goal.returns-clause-passes
returns-clause-passes c = untold (λ (d : SureState). d.tick) c.args.self.now _ (IsCrash c.args.self.now.image) (omega (arith, c.self.invariant, c.tick_after-self-inside.ensures, ap (λ (d : SureState). d.tick) c.self.view_is))
