use Rattle.std.proofs.Common.{◌≡◌, ◌-◌, sym, ap, ◌∙◌}
use Rattle.zone_image.specs.declared.Geometry.{Geometry}
use Rattle.zone_image.specs.Changes.{blank, synced}
use Rattle.zone_image.specs.Infos.{infos_blank}
use Rattle.log_roll.specs.Resets.{CrashesMetadata, cleared, emptied_three, infos_cleared, infos_emptied_three}
use Rattle.log_roll.specs.Formatting.{PassedByFirstResets}
use Rattle.zoned_device.proofs.DeviceLaws.{both_done}
use Rattle.log_roll.proofs.Blanking.{ok_then, infos_blanked, image_blanked}
use Rattle.log_roll.proofs.formatting.empty_device.Goals as goal

pub returns-clause-infos : goal.returns-clause-infos
returns-clause-infos g c =
    let D = g.D.ZonedDevice in
    let dev = c.args.dev.now in
    let shape : Geometry = c.args.geometry.now in
    let o = c.args.order in
    ok_then _ (D.infos c.clear_data.new.dev ≡ infos_blank shape) c.clear_data.result c.clear_data.ensures.infos
    (λ made. made ∙ (ap (infos_cleared 3 (shape.zones - 3)) c.in_ok-reset_metadata.ensures.infos
    ∙ (ap (λ (s : Geometry). infos_cleared 3 (s.zones - 3) (infos_emptied_three (D.infos dev) o.first o.second o.third)) c.requires.same_geometry
    ∙ (infos_blanked (D.geometry dev) (D.infos dev) o.first o.second o.third (g.met.D.ZonedDevice.possible dev c.requires.is_known) c.requires.metadata c.requires.all
    ∙ ap infos_blank (sym c.requires.same_geometry)))))

pub returns-clause-image : goal.returns-clause-image
returns-clause-image g c =
    let D = g.D.ZonedDevice in
    let dev = c.args.dev.now in
    let shape : Geometry = c.args.geometry.now in
    let o = c.args.order in
    ok_then _ (D.tells → D.image c.clear_data.new.dev ≡ blank shape) c.clear_data.result c.clear_data.ensures.image
    (λ made told. made told ∙ (ap (cleared 3 (shape.zones - 3)) (c.in_ok-reset_metadata.ensures.image told)
    ∙ (ap (λ (s : Geometry). cleared 3 (s.zones - 3) (emptied_three (synced (D.image dev)) o.first o.second o.third)) c.requires.same_geometry
    ∙ (image_blanked (D.geometry dev) (D.infos dev) (D.image dev) o.first o.second o.third (g.met.D.ZonedDevice.possible dev c.requires.is_known)
    (g.met.D.ZonedDevice.told dev told c.requires.is_known) c.requires.metadata c.requires.all
    ∙ ap blank (sym c.requires.same_geometry)))))

pub returns-clause-device : goal.returns-clause-device
returns-clause-device g c =
    let o = c.args.order in
    both_done g.met.D.ZonedDevice.moments (PassedByFirstResets o.first o.second o.third) CrashesMetadata
    (λ i. emptied_three (synced i) o.first o.second o.third) c.in_ok-reset_metadata.ensures.device (λ failed. cc) c.in_ok-reset_metadata.ensures.image c.clear_data.ensures.device
