use Rattle.std.proofs.Common.{◌≡◌, ◌+◌, ◌<◌, ℕ, length, ◌∙◌, ap, arith}
use Rattle.zone_image.specs.declared.Geometry.{Geometry}
use Rattle.zone_image.specs.declared.ZoneInfo.{ZoneInfo}
use Rattle.zone_image.specs.Changes.{appended}
use Rattle.zone_image.specs.Infos.{info_at}
use Rattle.zone_image.specs.Moments.{PassedByAppend}
use Rattle.log_model.specs.LogScan.{blocks_of, record_blocks}
use Rattle.zoned_device.proofs.DeviceLaws.{both_done}
use Rattle.log_roll.proofs.ZoneChanges.{begun_info, record_has_block}
use Rattle.log_roll.proofs.KeptData.{both_kept}
use Rattle.log_roll.proofs.records.begin_log.Goals as goal

pub write_record-requires-2-clause-unsealed : goal.write_record-requires-2-clause-unsealed
write_record-requires-2-clause-unsealed g c =
    let D = g.D.ZonedDevice in
    let dev = c.args.dev.now in
    let shape : Geometry = c.args.geometry.now in
    let n : ℕ = blocks_of shape.block (length c.args.superblock.now) in
    let less : n < shape.capacity = omega (arith, c.requires.room) in
    let info = ap (λ infos. info_at infos c.args.zone) c.in_ok-write_record.ensures.infos ∙ begun_info shape (D.geometry dev) (D.infos dev) c.args.zone n
    (g.met.D.ZonedDevice.possible dev c.requires.is_known) c.requires.is_zone c.requires.empty less in
    ap (λ (x : ZoneInfo). x.sealed) info

pub write_record-requires-2-clause-room : goal.write_record-requires-2-clause-room
write_record-requires-2-clause-room g c =
    let D = g.D.ZonedDevice in
    let dev = c.args.dev.now in
    let shape : Geometry = c.args.geometry.now in
    let n : ℕ = blocks_of shape.block (length c.args.superblock.now) in
    let less : n < shape.capacity = omega (arith, c.requires.room) in
    let info = ap (λ infos. info_at infos c.args.zone) c.in_ok-write_record.ensures.infos ∙ begun_info shape (D.geometry dev) (D.infos dev) c.args.zone n
    (g.met.D.ZonedDevice.possible dev c.requires.is_known) c.requires.is_zone c.requires.empty less in
    let written : (info_at (D.infos c.write_record.new.dev) c.args.zone).written ≡ n = ap (λ (x : ZoneInfo). x.written) info in
    let room : n + blocks_of shape.block (length c.args.snapshot.now) < shape.capacity = c.requires.room in
    omega (arith, written, room)

pub write_record-requires-2-clause-active : goal.write_record-requires-2-clause-active
write_record-requires-2-clause-active g c = λ none.
    let D = g.D.ZonedDevice in
    let dev = c.args.dev.now in
    let shape : Geometry = c.args.geometry.now in
    let n : ℕ = blocks_of shape.block (length c.args.superblock.now) in
    let less : n < shape.capacity = omega (arith, c.requires.room) in
    let info = ap (λ infos. info_at infos c.args.zone) c.in_ok-write_record.ensures.infos ∙ begun_info shape (D.geometry dev) (D.infos dev) c.args.zone n
    (g.met.D.ZonedDevice.possible dev c.requires.is_known) c.requires.is_zone c.requires.empty less in
    let written : (info_at (D.infos c.write_record.new.dev) c.args.zone).written ≡ n = ap (λ (x : ZoneInfo). x.written) info in
    let some : 0 < n = record_has_block (D.geometry dev) shape (length c.args.superblock.now) (g.met.D.ZonedDevice.possible dev c.requires.is_known).valid c.requires.same_geometry in
    absurd (omega (arith, written, some, none))

pub returns-clause-device : goal.returns-clause-device
returns-clause-device g c =
    let shape : Geometry = c.args.geometry.now in
    let first = record_blocks shape.block c.args.superblock.now in
    both_done g.met.D.ZonedDevice.moments (λ i. PassedByAppend i c.args.zone first) (λ i. PassedByAppend i c.args.zone (record_blocks shape.block c.args.snapshot.now))
    (λ i. appended i c.args.zone first) c.in_ok-write_record.ensures.device (λ failed. cc) c.in_ok-write_record.ensures.image c.write_record-2.ensures.device

pub returns-clause-data_kept : goal.returns-clause-data_kept
returns-clause-data_kept g c = λ below. both_kept (c.in_ok-write_record.ensures.data_kept below) (c.write_record-2.ensures.data_kept below)
