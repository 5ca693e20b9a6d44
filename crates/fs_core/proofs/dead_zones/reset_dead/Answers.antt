use Rattle.std.proofs.Common.{◌∙◌, ap, sym, subst}
use Rattle.zone_image.specs.Infos.{infos_emptied}
use Rattle.change_steps.specs.Resetting.{after_reset}
use Rattle.fs_tables.specs.Steps.{infos_in}
use Rattle.change_cover.specs.Rests.{Stands}
use Rattle.change_cover.specs.SameTrees.{MountsTheSame}
use Rattle.zoned_device.proofs.DeviceLaws.{done_as}
use Rattle.change_cover.specs.Following.{Follows}
use Rattle.fs_core.proofs.ResetDead.{emptied_follows, emptied_is_valid, infos_reset, moment_mounts}
use Rattle.fs_core.specs.FsValue.{CanWrite}
use Rattle.fs_core.proofs.WritingGoesOn.{reset_can_write}
use Rattle.fs_core.proofs.dead_zones.reset_dead.Goals as goal

pub returns-in-Ok-clause-told : goal.returns-in-Ok-clause-told
returns-in-Ok-clause-told g c =
    ap infos_in c.reset.ensures.state ∙ infos_reset c.args.tables.now.state c.args.zone
    ∙ ap (λ is. infos_emptied is c.args.zone) c.requires.told ∙ sym c.in-Ok.ensures.infos

pub returns-in-Ok-clause-device : goal.returns-in-Ok-clause-device
returns-in-Ok-clause-device g c =
    let D = g.D.ZonedDevice in
    let m = g.met.D.ZonedDevice in
    let dev = c.args.dev.now in
    let s = c.args.tables.now.state in
    done_as m.moments _ (λ j. Stands (D.image dev) s → MountsTheSame (D.image dev) j) c.in-Ok.ensures.device (λ failed. failed) (λ failed. failed)
    (λ j told passed. moment_mounts (D.image dev) j s c.args.zone ((m.told dev told c.requires.is_known).shape ∙ c.requires.same_geometry)
    (emptied_is_valid (D.geometry dev) (D.infos dev) (D.image dev) s c.args.zone c.requires.same_geometry (m.possible dev c.requires.is_known) (m.told dev told c.requires.is_known) c.requires.dead)
    c.requires.dead passed)

pub returns-in-Err-clause-device : goal.returns-in-Err-clause-device
returns-in-Err-clause-device g c =
    let D = g.D.ZonedDevice in
    let m = g.met.D.ZonedDevice in
    let dev = c.args.dev.now in
    let s = c.args.tables.now.state in
    done_as m.moments _ (λ j. Stands (D.image dev) s → MountsTheSame (D.image dev) j) c.in-Err.ensures.device (λ failed. failed) (λ failed. failed)
    (λ j told passed. moment_mounts (D.image dev) j s c.args.zone ((m.told dev told c.requires.is_known).shape ∙ c.requires.same_geometry)
    (emptied_is_valid (D.geometry dev) (D.infos dev) (D.image dev) s c.args.zone c.requires.same_geometry (m.possible dev c.requires.is_known) (m.told dev told c.requires.is_known) c.requires.dead)
    c.requires.dead passed)

pub returns-in-Ok-clause-stands : goal.returns-in-Ok-clause-stands
returns-in-Ok-clause-stands g c = λ told stands.
    let D = g.D.ZonedDevice in
    let m = g.met.D.ZonedDevice in
    let dev = c.args.dev.now in
    let s = c.args.tables.now.state in
    let zone = c.args.zone in
    let valid = emptied_is_valid (D.geometry dev) (D.infos dev) (D.image dev) s zone c.requires.same_geometry (m.possible dev c.requires.is_known) (m.told dev told c.requires.is_known) c.requires.dead in
    subst (λ t. Follows (D.image dev) (D.image c.empty.new.dev) s t) (sym c.reset.ensures.state)
    (subst (λ i. Follows (D.image dev) i s (after_reset zone s)) (sym (c.in-Ok.ensures.image told))
    (emptied_follows (D.image dev) s zone ((m.told dev told c.requires.is_known).shape ∙ c.requires.same_geometry) valid c.requires.dead stands))

pub returns-in-Ok-clause-writes : goal.returns-in-Ok-clause-writes
returns-in-Ok-clause-writes g c = λ can.
    let s = c.args.tables.now.state in
    subst (λ t. CanWrite t) (sym c.reset.ensures.state) (reset_can_write s c.args.zone c.valid.ensures.sound c.requires.dead can)
