use Rattle.zoned_device.proofs.DeviceLaws.{counts_may, valid_image, sync_stands}
use Rattle.log_roll.proofs.KeptData.{kept_synced}
use Rattle.log_roll.proofs.steps.sync.Goals as goal

pub returns-clause-device : goal.returns-clause-device
returns-clause-device g c =
    let D = g.D.ZonedDevice in
    let m = g.met.D.ZonedDevice in
    let dev = c.args.dev.now in
    let e = c.sync.ensures in
    record {
      still_known = e.still_known;
      same_geometry = e.same_geometry;
      passes = e.passes;
      stands =
          λ told j crash. sync_stands (D.image dev) (D.image c.sync.new.self) c.sync.result told
          (valid_image (D.geometry dev) (D.infos dev) (D.image dev) (m.possible dev c.requires) (m.told dev told c.requires))
          e.new_image e.after_fault j crash;
      cause = e.cause;
      changes = counts_may (D.failed_changes dev) (D.failed_changes c.sync.new.self) c.sync.result e.changes;
    }

pub returns-clause-data_kept : goal.returns-clause-data_kept
returns-clause-data_kept g c = kept_synced c.args.dev.now c.sync.new.self c.sync.result c.sync.ensures.same_infos c.sync.ensures.new_image c.sync.ensures.after_fault
