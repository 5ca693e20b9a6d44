use Rattle.std.proofs.Common.{inl, length, ◌/◌}
use Rattle.zone_image.specs.Changes.{blocks_in}
use Rattle.zoned_device.proofs.DeviceLaws.{whole_append}
use Rattle.log_roll.proofs.KeptData.{kept_appended, kept_failed}
use Rattle.log_roll.proofs.steps.append.Goals as goal

pub returns-in-Ok-clause-device : goal.returns-in-Ok-clause-device
returns-in-Ok-clause-device g c =
    let D = g.D.ZonedDevice in
    let dev = c.args.dev.now in
    let e = c.in-Ok.ensures in
    record {
      still_known = c.append.ensures.still_known;
      same_geometry = c.append.ensures.same_geometry;
      passes = c.append.ensures.passes;
      stands = λ told j crash. whole_append (D.image dev) (D.image c.append.new.self) j c.args.zone (blocks_in (D.geometry dev) c.args.bytes.now) (e.new_image told) crash;
      cause = record { never_falls = e.cause.never_falls; rose = λ failed. e.cause.rose failed };
      changes = inl e.changes;
    }

pub returns-in-Ok-clause-data_kept : goal.returns-in-Ok-clause-data_kept
returns-in-Ok-clause-data_kept g c = λ below.
    let shape = g.D.ZonedDevice.geometry c.args.dev.now in
    kept_appended shape c.args.dev.now c.append.new.self c.args.zone (length c.args.bytes.now / shape.block) (blocks_in shape c.args.bytes.now) below c.in-Ok.ensures.new_infos c.in-Ok.ensures.new_image

pub returns-in-Err-clause-data_kept : goal.returns-in-Err-clause-data_kept
returns-in-Err-clause-data_kept g c = λ below.
    let shape = g.D.ZonedDevice.geometry c.args.dev.now in
    kept_failed shape c.args.dev.now c.append.new.self c.args.zone (blocks_in shape c.args.bytes.now) below c.in-Err.ensures.after_fault
