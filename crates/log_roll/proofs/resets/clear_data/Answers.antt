use Rattle.std.proofs.Common.{refl, ap, ◌∙◌}
use Rattle.zone_image.specs.Infos.{no_info, infos_emptied}
use Rattle.zone_image.specs.Changes.{emptied}
use Rattle.zone_image.specs.Image.{no_zone}
use Rattle.log_roll.specs.Resets.{CrashesMetadata}
use Rattle.zoned_device.proofs.DeviceLaws.{nothing_done, done_as, done_then}
use Rattle.log_roll.proofs.ZoneChanges.{cleared_metadata, fill_one_more, reset_metadata}
use Rattle.log_roll.proofs.resets.clear_data.Goals as goal

pub loop-zone-init : goal.loop-zone-init
loop-zone-init g c =
    let D = g.D.ZonedDevice in
    let dev = c.args.dev.now in
    (refl, λ told. refl, nothing_done g.met.D.ZonedDevice.moments dev (CrashesMetadata (D.image dev)) c.requires.is_known (λ j crash. cleared_metadata (D.image dev) j 0 crash))

pub returns-in-Err-clause-device : goal.returns-in-Err-clause-device
returns-in-Err-clause-device g c =
    let D = g.D.ZonedDevice in
    let dev = c.args.dev.now in
    let inv = c.loop-zone.invariant in
    done_then g.met.D.ZonedDevice.moments (CrashesMetadata (D.image dev)) inv.2 (λ none. none) c.in-Err.ensures.device (λ j told p. p)
    (λ j told passed. reset_metadata (D.image dev) (D.image c.loop-zone.dev) j c.loop-zone.zone c.loop-zone.auto.zone (inv.1 told) passed)

pub loop-zone-preserved : goal.loop-zone-preserved
loop-zone-preserved g c =
    let D = g.D.ZonedDevice in
    let dev = c.args.dev.now in
    let inv = c.loop-zone.invariant in
    let zone = c.loop-zone.zone in (
      c.in-Ok.ensures.infos ∙ (ap (λ infos. infos_emptied infos zone) inv.0 ∙ fill_one_more zone no_info (D.infos dev) c.loop-zone.auto.zone),
      λ told. c.in-Ok.ensures.image told ∙ (ap (λ i. emptied i zone) (inv.1 told)
          ∙ (λ k. record { geometry = (D.image dev).geometry; zones = fill_one_more zone no_zone (D.image dev).zones c.loop-zone.auto.zone k })),
      done_as g.met.D.ZonedDevice.moments ⊥ (CrashesMetadata (D.image dev))
          (done_then g.met.D.ZonedDevice.moments (CrashesMetadata (D.image dev)) inv.2 (λ none. none) c.in-Ok.ensures.device (λ j told p. p)
          (λ j told passed. reset_metadata (D.image dev) (D.image c.loop-zone.dev) j zone c.loop-zone.auto.zone (inv.1 told) passed))
          (λ failed. cc) (λ none. absurd none) (λ j told p. p),
    )
