use Rattle.std.proofs.Common.{◌∙◌, ap, sym}
use Rattle.zone_image.specs.declared.ZoneInfo.{ZoneInfo}
use Rattle.log_roll.proofs.Closing.{sealed_info, sealed_image}
use Rattle.log_roll.proofs.KeptData.{kept_same}
use Rattle.log_roll.proofs.log_end.seal_with.Goals as goal

pub returns-then-info-clause-infos : goal.returns-then-info-clause-infos
returns-then-info-clause-infos g c =
    let D = g.D.ZonedDevice in
    let dev = c.args.dev.now in
    sealed_info (D.geometry dev) (D.infos dev) c.args.zone (g.met.D.ZonedDevice.possible dev c.requires.is_known) c.requires.is_zone
    (ap (λ (x : ZoneInfo). x.sealed) (sym c.requires.told) ∙ c.if-info.true)

pub returns-then-info-clause-image : goal.returns-then-info-clause-image
returns-then-info-clause-image g c = λ told.
    let D = g.D.ZonedDevice in
    let dev = c.args.dev.now in
    sealed_image (D.geometry dev) (D.infos dev) (D.image dev) c.args.zone (g.met.D.ZonedDevice.possible dev c.requires.is_known)
    (g.met.D.ZonedDevice.told dev told c.requires.is_known) c.requires.is_zone
    (ap (λ (x : ZoneInfo). x.sealed) (sym c.requires.told) ∙ c.if-info.true)

pub returns-then-info-clause-data_kept : goal.returns-then-info-clause-data_kept
returns-then-info-clause-data_kept g c = λ below. kept_same c.args.dev.now
