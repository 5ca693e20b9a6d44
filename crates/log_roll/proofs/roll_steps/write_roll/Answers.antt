use Rattle.std.proofs.Common.{◌≡◌, ◌+◌, ◌++◌, ◌<◌, length, ap, sym, subst, ◌∙◌, arith}
use Rattle.zone_image.specs.declared.Geometry.{Geometry}
use Rattle.zone_image.specs.Changes.{emptied, synced}
use Rattle.zone_image.specs.Infos.{info_at, active_zones, infos_emptied}
use Rattle.log_model.specs.LogScan.{blocks_of, record_blocks}
use Rattle.log_model.proofs.RecordLaws.{length_record}
use Rattle.log_roll.specs.NewLog.{begun, infos_begun}
use Rattle.log_roll.specs.Rolling.{PassedByOld, PassedByReplace, next_zone, old_closed, rolled_image, rolled_infos}
use Rattle.zoned_device.proofs.DeviceLaws.{both_done, first_done}
use Rattle.log_roll.proofs.Blanking.{ok_then}
use Rattle.log_roll.proofs.ZoneChanges.{zones_of_image}
use Rattle.log_roll.proofs.Rolled.{active_closed, next_empty, infos_rolled, image_rolled}
use Rattle.log_roll.proofs.KeptData.{both_kept}
use Rattle.log_roll.proofs.roll_steps.write_roll.Goals as goal

pub replace_old-requires-clause-empty : goal.replace_old-requires-clause-empty
replace_old-requires-clause-empty g c =
    let D = g.D.ZonedDevice in
    ap (λ infos. info_at infos (next_zone c.args.zone)) c.in-Ok.ensures.infos ∙ next_empty c.args.geometry.now c.args.can_end (D.infos c.args.dev.now) c.args.zone c.requires.is_metadata

pub replace_old-requires-clause-active : goal.replace_old-requires-clause-active
replace_old-requires-clause-active g c =
    let D = g.D.ZonedDevice in
    let after = c.close_old.new.dev in
    let e = c.in-Ok.ensures in
    let count = (g.met.D.ZonedDevice.possible after e.device.still_known).count ∙ ap (λ (s : Geometry). s.zones) e.device.same_geometry in
    let long : 2 < length (D.infos after) = omega (arith, count, c.requires.metadata) in
    subst (λ infos. active_zones infos < c.args.geometry.now.active_limit) (sym e.infos)
    (active_closed c.args.geometry.now c.args.can_end (D.infos c.args.dev.now) c.args.zone c.args.geometry.now.active_limit c.requires.is_metadata (subst (λ infos. 2 < length infos) e.infos long) c.requires.active)

pub returns-in-Ok-clause-infos : goal.returns-in-Ok-clause-infos
returns-in-Ok-clause-infos g c =
    let D = g.D.ZonedDevice in
    let dev = c.args.dev.now in
    let shape : Geometry = c.args.geometry.now in
    let first = blocks_of shape.block 512 in
    let second = blocks_of shape.block (length c.args.snapshot.now) in
    let count = (g.met.D.ZonedDevice.possible dev c.requires.is_known).count in
    let long : 2 < length (D.infos dev) = omega (arith, count, c.requires.metadata) in
    ok_then _ (D.infos c.replace_old.new.dev ≡ rolled_infos (D.infos dev) (next_zone c.args.zone) (first + second)) c.replace_old.result c.replace_old.ensures.infos
    (λ made. made ∙ (ap (λ infos. infos_emptied (infos_begun shape infos (next_zone c.args.zone) first second) c.args.zone) c.in-Ok.ensures.infos
    ∙ infos_rolled shape c.args.can_end (D.infos dev) c.args.zone first second c.requires.is_metadata long c.requires.room))

pub returns-in-Ok-clause-image : goal.returns-in-Ok-clause-image
returns-in-Ok-clause-image g c =
    let D = g.D.ZonedDevice in
    let m = g.met.D.ZonedDevice in
    let dev = c.args.dev.now in
    let shape : Geometry = c.args.geometry.now in
    let zone = c.args.zone in
    let first = record_blocks shape.block c.args.superblock.now in
    let second = record_blocks shape.block c.args.snapshot.now in
    ok_then _ (D.tells → D.image c.replace_old.new.dev ≡ rolled_image (D.image dev) (next_zone zone) (first ++ second)) c.replace_old.result c.replace_old.ensures.image
    (λ made told.
    let is = m.told dev told c.requires.is_known in
    let count : length (D.image dev).zones ≡ (D.geometry dev).zones = zones_of_image (D.geometry dev) (D.infos dev) (D.image dev) (m.possible dev c.requires.is_known) is in
    let long : 2 < length (D.image dev).zones = omega (arith, count, c.requires.metadata) in
    let sizes : length first + length second < shape.capacity = omega (arith, length_record shape.block c.args.superblock.now ∙ ap (blocks_of shape.block) c.requires.size, length_record shape.block c.args.snapshot.now, c.requires.room) in
    let room : length first + length second < (D.image dev).geometry.capacity =
    subst (λ (s : Geometry). length first + length second < s.capacity) (c.requires.same_geometry ∙ sym is.shape) sizes in
    made told ∙ (ap (λ i. emptied (synced (begun (next_zone zone) first second i)) zone) (c.in-Ok.ensures.image told)
    ∙ image_rolled (D.image dev) c.args.can_end zone first second c.requires.is_metadata long room))

pub returns-in-Ok-clause-device : goal.returns-in-Ok-clause-device
returns-in-Ok-clause-device g c =
    let shape : Geometry = c.args.geometry.now in
    let first = record_blocks shape.block c.args.superblock.now in
    let second = record_blocks shape.block c.args.snapshot.now in
    both_done g.met.D.ZonedDevice.moments (PassedByOld c.args.can_end c.args.zone) (PassedByReplace c.args.zone first second) (old_closed c.args.can_end c.args.zone)
    c.in-Ok.ensures.device (λ failed. cc) c.in-Ok.ensures.image c.replace_old.ensures.device

pub returns-in-Err-clause-device : goal.returns-in-Err-clause-device
returns-in-Err-clause-device g c =
    let shape : Geometry = c.args.geometry.now in
    let first = record_blocks shape.block c.args.superblock.now in
    let second = record_blocks shape.block c.args.snapshot.now in
    first_done g.met.D.ZonedDevice.moments (PassedByOld c.args.can_end c.args.zone) (PassedByReplace c.args.zone first second) (old_closed c.args.can_end c.args.zone)
    c.in-Err.ensures.device

pub returns-in-Ok-clause-data_kept : goal.returns-in-Ok-clause-data_kept
returns-in-Ok-clause-data_kept g c = both_kept c.in-Ok.ensures.data_kept c.replace_old.ensures.data_kept
