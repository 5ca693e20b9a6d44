use Rattle.std.proofs.Common.{sym, ◌∙◌}
use Rattle.log_roll.proofs.ZoneChanges.{unused, emptied_info, emptied_image}
use Rattle.log_roll.proofs.KeptData.{kept_same}
use Rattle.log_roll.proofs.resets.reset_used.Goals as goal

pub returns-then-not-info-clause-infos : goal.returns-then-not-info-clause-infos
returns-then-not-info-clause-infos g c =
    let D = g.D.ZonedDevice in
    let dev = c.args.dev.now in
    emptied_info (D.geometry dev) (D.infos dev) c.args.zone (g.met.D.ZonedDevice.possible dev c.requires.is_known) c.requires.is_zone
    (sym c.requires.told ∙ unused c.args.info c.if-info-eq0.true c.if-not-info.true)

pub returns-then-not-info-clause-image : goal.returns-then-not-info-clause-image
returns-then-not-info-clause-image g c = λ told.
    let D = g.D.ZonedDevice in
    let dev = c.args.dev.now in
    emptied_image (D.geometry dev) (D.infos dev) (D.image dev) c.args.zone (g.met.D.ZonedDevice.possible dev c.requires.is_known)
    (g.met.D.ZonedDevice.told dev told c.requires.is_known) c.requires.is_zone
    (sym c.requires.told ∙ unused c.args.info c.if-info-eq0.true c.if-not-info.true)

pub returns-then-not-info-clause-data_kept : goal.returns-then-not-info-clause-data_kept
returns-then-not-info-clause-data_kept g c = λ below. kept_same c.args.dev.now
