use Rattle.std.proofs.Common.{subst, sym}
use Rattle.log_roll.proofs.Blanking.{ok_then}
use Rattle.zoned_device.proofs.DeviceLaws.{done_as}
use Rattle.log_store.specs.Resetting.{LeftByReset, RestsWithoutZone}
use Rattle.log_store.proofs.ResetLaws.{emptied_valid, left_by_reset, rests_without_zone}
use Rattle.log_store.proofs.resetting.reset_data_zone.Goals as goal

pub returns-clause-at_rest : goal.returns-clause-at_rest
returns-clause-at_rest g c =
    let D = g.D.ZonedDevice in
    let m = g.met.D.ZonedDevice in
    let dev = c.args.dev.now in
    let zone = c.args.zone in
    ok_then _ (D.tells → RestsWithoutZone zone (D.image dev) (D.image c.reset.new.dev)) c.reset.result c.reset.ensures.image
    (λ made told.
    subst (RestsWithoutZone zone (D.image dev)) (sym (made told))
    (rests_without_zone (D.image dev) zone
    (emptied_valid (D.geometry dev) (D.infos dev) (D.image dev) zone (m.possible dev c.requires.is_known) (m.told dev told c.requires.is_known) c.requires.is_zone)
    c.requires.is_data))

pub returns-clause-device : goal.returns-clause-device
returns-clause-device g c =
    let D = g.D.ZonedDevice in
    let m = g.met.D.ZonedDevice in
    let dev = c.args.dev.now in
    let zone = c.args.zone in
    done_as m.moments _ (LeftByReset zone (D.image dev)) c.reset.ensures.device (λ failed. failed) (λ failed. failed)
    (λ j told passed.
    left_by_reset (D.image dev) zone
    (emptied_valid (D.geometry dev) (D.infos dev) (D.image dev) zone (m.possible dev c.requires.is_known) (m.told dev told c.requires.is_known) c.requires.is_zone)
    c.requires.is_data j passed)
