use Rattle.std.proofs.Common.{length, refl, ◌∙◌, ap}
use Rattle.log_model.specs.FileTree.Change.{Rename}
use Rattle.fs_model.specs.TreeSteps.{rename}
use Rattle.change_steps.specs.NameChanges.{rename_demand}
use Rattle.fs_core.specs.NameCalls.{rename_update}
use Rattle.fs_core.proofs.AskedChanges.{fault_storing, is_stored, memory_wanting, prepared_granted, prepared_room}
use Rattle.fs_core.proofs.MadeChanges.{nothing_made}
use Rattle.fs_core.proofs.Renames.{rename_asked, rename_is_short, rename_room, rename_still_there, renamed_shown, rows_after_rename}
use Rattle.fs_core.proofs.renaming.store_rename.Goals as goal

pub returns-in-Err-clause-failed : goal.returns-in-Err-clause-failed
returns-in-Err-clause-failed g c =
    let refused = c.in-Err.ensures.refused in
    nothing_made g.met.D.ZonedDevice.moments (rename c.args.old.now c.args.new) (Rename c.args.old.now c.args.new) c.args.dev.now c.args.tables.now.state c.in-Err.why c.requires.is_known refused.steps refused.early

pub returns-in-Err-prepare_rename-clause-failed : goal.returns-in-Err-prepare_rename-clause-failed
returns-in-Err-prepare_rename-clause-failed g c =
    let s = c.args.tables.now.state in
    let old = c.args.old.now in
    let new = c.args.new in
    let may = c.in-Ok.ensures.granted in
    memory_wanting g.met.D.ZonedDevice.moments g.met.D.ZonedDevice.told (rename old new) tt s (rename_demand s may.row old new) (Rename old new) (rename_update s may.row old new) c.args.dev.now
    (rename_asked s old new c.valid.ensures c.requires.can_write may) c.requires.is_known

pub store_record-requires-clause-granted : goal.store_record-requires-clause-granted
store_record-requires-clause-granted g c =
    let s = c.args.tables.now.state in
    let may = c.in-Ok.ensures.granted in
    prepared_granted (rename_asked s c.args.old.now c.args.new c.valid.ensures c.requires.can_write may) (c.in-Ok-prepare_rename.ensures may.row may.found) ∙ may.granted.sequence

pub store_record-requires-clause-room : goal.store_record-requires-clause-room
store_record-requires-clause-room g c =
    let s = c.args.tables.now.state in
    let may = c.in-Ok.ensures.granted in
    prepared_room (rename_asked s c.args.old.now c.args.new c.valid.ensures c.requires.can_write may) (c.in-Ok-prepare_rename.ensures may.row may.found)

pub returns-in-Err-store_record-clause-failed : goal.returns-in-Err-store_record-clause-failed
returns-in-Err-store_record-clause-failed g c =
    let s = c.args.tables.now.state in
    let old = c.args.old.now in
    let new = c.args.new in
    let may = c.in-Ok.ensures.granted in
    let failed = c.in-Err-store_record.ensures in
    fault_storing g.met.D.ZonedDevice.moments g.met.D.ZonedDevice.told (rename old new) tt s c.store_record.new.tables.state (rename_demand s may.row old new) (Rename old new)
    (rename_update s may.row old new) c.in-Ok-prepare_rename.prepared c.args.dev.now c.store_record.new.dev _ refl (rename_asked s old new c.valid.ensures c.requires.can_write may)
    (c.in-Ok-prepare_rename.ensures may.row may.found) c.requires.is_known c.requires.same_geometry (ap (λ t. t.state) failed.same) failed.device failed.data_kept

pub rename-requires-clause-there : goal.rename-requires-clause-there
rename-requires-clause-there g c =
    rename_still_there c.args.tables.now.state c.store_record.new.tables.state c.args.old.now c.args.new (length c.in-Ok-prepare_rename.prepared.added.blocks) c.in-Ok.ensures.granted c.in-Ok-store_record.ensures.state

pub rename-requires-clause-short : goal.rename-requires-clause-short
rename-requires-clause-short g c =
    rename_is_short c.args.tables.now.state c.store_record.new.tables.state c.args.old.now c.args.new (length c.in-Ok-prepare_rename.prepared.added.blocks) c.valid.ensures c.in-Ok.ensures.granted
    c.in-Ok-store_record.ensures.state

pub returns-clause-stored : goal.returns-clause-stored
returns-clause-stored g c =
    let s = c.args.tables.now.state in
    let s1 = c.store_record.new.tables.state in
    let s2 = c.rename.new.self.state in
    let old = c.args.old.now in
    let new = c.args.new in
    let may = c.in-Ok.ensures.granted in
    let p = c.in-Ok-prepare_rename.prepared in
    let made = c.in-Ok-store_record.ensures in
    let second = rows_after_rename s s1 s2 old new (length p.added.blocks) may made.state c.rename.ensures in
    is_stored g.met.D.ZonedDevice.moments g.met.D.ZonedDevice.told (rename old new) tt s s1 s2 (rename_demand s may.row old new) (Rename old new) (rename_update s may.row old new)
    p c.args.dev.now c.store_record.new.dev _ (λ failed. cc) (rename_asked s old new c.valid.ensures c.requires.can_write may)
    (c.in-Ok-prepare_rename.ensures may.row may.found) c.requires.is_known c.requires.same_geometry made.state second
    (renamed_shown s s1 s2 old new may second c.valid-2.ensures.sound.settled) (rename_room s old new c.valid.ensures may).table
    made.told made.goes_on made.stands made.device made.data_kept
