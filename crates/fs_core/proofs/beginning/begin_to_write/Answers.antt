use Rattle.std.proofs.Common.{inr, ap}
use Rattle.fs_model.specs.FsState.{recorded}
use Rattle.zoned_device.proofs.DeviceLaws.{done_then}
use Rattle.fs_core.specs.Beginning.{LeftByBeginning}
use Rattle.fs_core.specs.DeadZones.{is_free}
use Rattle.fs_core.proofs.Beginnings.{begun_extents, begun_shape, held_still, kept_by_both, mount_done, mount_fault_before, mount_fault_behind}
use Rattle.fs_core.proofs.beginning.begin_to_write.Goals as goal

pub returns-in-Err-clause-part : goal.returns-in-Err-clause-part
returns-in-Err-clause-part g c =
    mount_fault_before c.args.tables.now.state c.settle.new.tables.state c.requires.may (ap (λ t. t.state) c.in-Err.ensures.same)

pub returns-in-Ok-reset_dead_zones-clause-done : goal.returns-in-Ok-reset_dead_zones-clause-done
returns-in-Ok-reset_dead_zones-clause-done g c =
    let made = c.in-Ok-reset_dead_zones.ensures in
    mount_done c.args.tables.now.state c.settle.new.tables.state c.reset_dead_zones.new.tables.state c.requires.may c.in-Ok.ensures.state made.way made.none_left

pub returns-in-Ok-reset_dead_zones-clause-writes : goal.returns-in-Ok-reset_dead_zones-clause-writes
returns-in-Ok-reset_dead_zones-clause-writes g c = c.in-Ok-reset_dead_zones.ensures.writes c.in-Ok.ensures.writes

pub returns-in-Ok-reset_dead_zones-clause-extents : goal.returns-in-Ok-reset_dead_zones-clause-extents
returns-in-Ok-reset_dead_zones-clause-extents g c =
    begun_extents c.args.tables.now.state c.settle.new.tables.state c.reset_dead_zones.new.tables.state c.in-Ok.ensures.becomes.rows c.in-Ok-reset_dead_zones.ensures.way

pub returns-in-Ok-reset_dead_zones-clause-shape : goal.returns-in-Ok-reset_dead_zones-clause-shape
returns-in-Ok-reset_dead_zones-clause-shape g c =
    begun_shape c.args.tables.now.state c.settle.new.tables.state c.reset_dead_zones.new.tables.state c.in-Ok.ensures.shape c.in-Ok-reset_dead_zones.ensures.way

pub returns-in-Ok-reset_dead_zones-clause-device : goal.returns-in-Ok-reset_dead_zones-clause-device
returns-in-Ok-reset_dead_zones-clause-device g c =
    let D = g.D.ZonedDevice in
    let settled = c.in-Ok.ensures in
    done_then g.met.D.ZonedDevice.moments (LeftByBeginning (D.image c.args.dev.now)) settled.device (λ failed. cc) c.in-Ok-reset_dead_zones.ensures.device (λ j told left. left)
    (λ j told mounts. inr (λ t h. mounts (settled.stands told) t (settled.alike told t h)))

pub returns-in-Ok-reset_dead_zones-clause-kept : goal.returns-in-Ok-reset_dead_zones-clause-kept
returns-in-Ok-reset_dead_zones-clause-kept g c =
    let s = c.args.tables.now.state in
    let t = c.settle.new.tables.state in
    kept_by_both (is_free t.geometry (recorded t)) (is_free s.geometry (recorded s)) c.in-Ok.ensures.kept c.in-Ok-reset_dead_zones.ensures.kept
    (held_still s t c.in-Ok.ensures.becomes.rows c.in-Ok.ensures.shape)

pub returns-in-Err-reset_dead_zones-clause-part : goal.returns-in-Err-reset_dead_zones-clause-part
returns-in-Err-reset_dead_zones-clause-part g c =
    mount_fault_behind c.args.tables.now.state c.settle.new.tables.state c.reset_dead_zones.new.tables.state c.requires.may c.in-Ok.ensures.state c.in-Err-reset_dead_zones.ensures.way

pub returns-in-Err-reset_dead_zones-clause-extents : goal.returns-in-Err-reset_dead_zones-clause-extents
returns-in-Err-reset_dead_zones-clause-extents g c =
    begun_extents c.args.tables.now.state c.settle.new.tables.state c.reset_dead_zones.new.tables.state c.in-Ok.ensures.becomes.rows c.in-Err-reset_dead_zones.ensures.way

pub returns-in-Err-reset_dead_zones-clause-shape : goal.returns-in-Err-reset_dead_zones-clause-shape
returns-in-Err-reset_dead_zones-clause-shape g c =
    begun_shape c.args.tables.now.state c.settle.new.tables.state c.reset_dead_zones.new.tables.state c.in-Ok.ensures.shape c.in-Err-reset_dead_zones.ensures.way

pub returns-in-Err-reset_dead_zones-clause-device : goal.returns-in-Err-reset_dead_zones-clause-device
returns-in-Err-reset_dead_zones-clause-device g c =
    let D = g.D.ZonedDevice in
    let settled = c.in-Ok.ensures in
    done_then g.met.D.ZonedDevice.moments (LeftByBeginning (D.image c.args.dev.now)) settled.device (λ failed. cc) c.in-Err-reset_dead_zones.ensures.device (λ j told left. left)
    (λ j told mounts. inr (λ t h. mounts (settled.stands told) t (settled.alike told t h)))

pub returns-in-Err-reset_dead_zones-clause-kept : goal.returns-in-Err-reset_dead_zones-clause-kept
returns-in-Err-reset_dead_zones-clause-kept g c =
    let s = c.args.tables.now.state in
    let t = c.settle.new.tables.state in
    kept_by_both (is_free t.geometry (recorded t)) (is_free s.geometry (recorded s)) c.in-Ok.ensures.kept c.in-Err-reset_dead_zones.ensures.kept
    (held_still s t c.in-Ok.ensures.becomes.rows c.in-Ok.ensures.shape)
