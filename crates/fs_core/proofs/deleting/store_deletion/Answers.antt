use Rattle.std.proofs.Common.{length, refl, ◌∙◌, ap}
use Rattle.record_model.specs.declared.types.Record.TheVariants.{Deletion}
use Rattle.log_model.specs.FileTree.Change.{Unlink}
use Rattle.fs_model.specs.TreeSteps.{delete}
use Rattle.change_steps.specs.NameChanges.{delete_demand}
use Rattle.fs_core.proofs.AskedChanges.{fault_storing, is_stored, memory_wanting, prepared_granted, prepared_room}
use Rattle.fs_core.proofs.ChangeRoom.{deleted_room, large_blocks}
use Rattle.fs_core.proofs.Deletions.{deletion_asked, prepared_deletion, deleted_shown, rows_deleted, still_there}
use Rattle.fs_core.proofs.MadeChanges.{nothing_made}
use Rattle.fs_core.proofs.deleting.store_deletion.Goals as goal

pub returns-in-Err-clause-failed : goal.returns-in-Err-clause-failed
returns-in-Err-clause-failed g c =
    let refused = c.in-Err.ensures.refused in
    nothing_made g.met.D.ZonedDevice.moments (delete c.args.name.now) (Unlink c.args.name.now) c.args.dev.now c.args.tables.now.state c.in-Err.why c.requires.is_known refused.steps refused.early

pub returns-in-Err-prepare_delete-clause-failed : goal.returns-in-Err-prepare_delete-clause-failed
returns-in-Err-prepare_delete-clause-failed g c =
    let s = c.args.tables.now.state in
    let name = c.args.name.now in
    let may = c.in-Ok.ensures.granted in
    memory_wanting g.met.D.ZonedDevice.moments g.met.D.ZonedDevice.told (delete name) tt s (delete_demand s may.row name) (Unlink name) (Deletion may.row.entry.id name) c.args.dev.now
    (deletion_asked s name c.valid.ensures c.requires.can_write may) c.requires.is_known

pub store_record-requires-clause-granted : goal.store_record-requires-clause-granted
store_record-requires-clause-granted g c =
    let s = c.args.tables.now.state in
    let name = c.args.name.now in
    let may = c.in-Ok.ensures.granted in
    prepared_granted (deletion_asked s name c.valid.ensures c.requires.can_write may) (prepared_deletion s name may.row c.in-Ok-prepare_delete.prepared may.found c.in-Ok-prepare_delete.ensures)
    ∙ may.granted.sequence

pub store_record-requires-clause-room : goal.store_record-requires-clause-room
store_record-requires-clause-room g c =
    let s = c.args.tables.now.state in
    let name = c.args.name.now in
    let may = c.in-Ok.ensures.granted in
    prepared_room (deletion_asked s name c.valid.ensures c.requires.can_write may) (prepared_deletion s name may.row c.in-Ok-prepare_delete.prepared may.found c.in-Ok-prepare_delete.ensures)

pub returns-in-Err-store_record-clause-failed : goal.returns-in-Err-store_record-clause-failed
returns-in-Err-store_record-clause-failed g c =
    let D = g.D.ZonedDevice in
    let s = c.args.tables.now.state in
    let name = c.args.name.now in
    let may = c.in-Ok.ensures.granted in
    let failed = c.in-Err-store_record.ensures in
    fault_storing g.met.D.ZonedDevice.moments g.met.D.ZonedDevice.told (delete name) tt s c.store_record.new.tables.state (delete_demand s may.row name) (Unlink name) (Deletion may.row.entry.id name)
    c.in-Ok-prepare_delete.prepared c.args.dev.now c.store_record.new.dev _ refl (deletion_asked s name c.valid.ensures c.requires.can_write may)
    (prepared_deletion s name may.row c.in-Ok-prepare_delete.prepared may.found c.in-Ok-prepare_delete.ensures) c.requires.is_known c.requires.same_geometry
    (ap (λ t. t.state) failed.same) failed.device failed.data_kept

pub unlink-requires : goal.unlink-requires
unlink-requires g c =
    let s = c.args.tables.now.state in
    let may = c.in-Ok.ensures.granted in
    still_there s c.store_record.new.tables.state c.args.name.now may.row (length c.in-Ok-prepare_delete.prepared.added.blocks) c.in-Ok-store_record.ensures.state may.found

pub returns-clause-stored : goal.returns-clause-stored
returns-clause-stored g c =
    let s = c.args.tables.now.state in
    let s1 = c.store_record.new.tables.state in
    let s2 = c.unlink.new.self.state in
    let name = c.args.name.now in
    let may = c.in-Ok.ensures.granted in
    let p = c.in-Ok-prepare_delete.prepared in
    let made = c.in-Ok-store_record.ensures in
    let second = rows_deleted s s1 s2 name (length p.added.blocks) made.state c.unlink.ensures in
    let shown = deleted_shown s s1 s2 name second c.valid-2.ensures.sound.settled in
    is_stored g.met.D.ZonedDevice.moments g.met.D.ZonedDevice.told (delete name) tt s s1 s2 (delete_demand s may.row name) (Unlink name) (Deletion may.row.entry.id name)
    p c.args.dev.now c.store_record.new.dev _ (λ failed. cc) (deletion_asked s name c.valid.ensures c.requires.can_write may)
    (prepared_deletion s name may.row p may.found c.in-Ok-prepare_delete.ensures) c.requires.is_known c.requires.same_geometry made.state second shown
    (deleted_room s name c.valid.ensures.sound.settled (large_blocks s.geometry c.valid.ensures.sound.valid) c.requires.can_write.room shown)
    made.told made.goes_on made.stands made.device made.data_kept
