use Rattle.std.proofs.Common.{length, refl, ◌∙◌, ap}
use Rattle.log_model.specs.FileTree.Change.{Link}
use Rattle.fs_model.specs.TreeSteps.{link}
use Rattle.change_steps.specs.NameChanges.{link_demand}
use Rattle.fs_core.proofs.AskedChanges.{fault_storing, is_stored, prepared_granted, prepared_room}
use Rattle.fs_core.proofs.Links.{link_asked, link_is_short, link_room, link_still_free, link_still_reserved, link_still_there, link_update, linked_shown, rows_linked}
use Rattle.fs_core.proofs.linking.store_prepared.Goals as goal

pub store_record-requires-clause-granted : goal.store_record-requires-clause-granted
store_record-requires-clause-granted g c =
    let s = c.args.tables.now.state in
    let may = c.requires.may in
    prepared_granted (link_asked s c.args.old.now c.args.new c.valid.ensures c.requires.can_write may) (c.requires.prepared may.row may.found) ∙ may.granted.sequence

pub store_record-requires-clause-room : goal.store_record-requires-clause-room
store_record-requires-clause-room g c =
    let s = c.args.tables.now.state in
    let may = c.requires.may in
    prepared_room (link_asked s c.args.old.now c.args.new c.valid.ensures c.requires.can_write may) (c.requires.prepared may.row may.found)

pub store_record-requires-clause-memory : goal.store_record-requires-clause-memory
store_record-requires-clause-memory g c =
    let may = c.requires.may in
    (c.requires.prepared may.row may.found).memory

pub returns-in-Err-clause-failed : goal.returns-in-Err-clause-failed
returns-in-Err-clause-failed g c =
    let s = c.args.tables.now.state in
    let may = c.requires.may in
    let failed = c.in-Err.ensures in
    fault_storing g.met.D.ZonedDevice.moments g.met.D.ZonedDevice.told (link c.args.old.now c.args.new) tt s c.store_record.new.tables.state (link_demand s may.row c.args.new) (Link c.args.old.now c.args.new)
    (link_update may.row c.args.new) c.args.prepared c.args.dev.now c.store_record.new.dev _ refl (link_asked s c.args.old.now c.args.new c.valid.ensures c.requires.can_write may)
    (c.requires.prepared may.row may.found) c.requires.is_known c.requires.same_geometry (ap (λ t. t.state) failed.same) failed.device failed.data_kept

pub link-requires-clause-there : goal.link-requires-clause-there
link-requires-clause-there g c =
    link_still_there c.args.tables.now.state c.store_record.new.tables.state c.args.old.now c.args.new (length c.args.prepared.added.blocks) c.requires.may c.in-Ok.ensures.state

pub link-requires-clause-reserved : goal.link-requires-clause-reserved
link-requires-clause-reserved g c =
    link_still_reserved c.args.tables.now.state c.store_record.new.tables.state c.args.old.now (length c.args.prepared.added.blocks) c.args.tables.now.reserved c.store_record.new.tables.reserved
    c.in-Ok.ensures.state c.in-Ok.ensures.spare.reserved c.requires.reserved

pub link-requires-clause-free : goal.link-requires-clause-free
link-requires-clause-free g c =
    link_still_free c.args.tables.now.state c.store_record.new.tables.state c.args.old.now c.args.new (length c.args.prepared.added.blocks) c.requires.may c.in-Ok.ensures.state

pub link-requires-clause-short : goal.link-requires-clause-short
link-requires-clause-short g c =
    link_is_short c.args.tables.now.state c.store_record.new.tables.state c.args.old.now c.args.new (length c.args.prepared.added.blocks) c.valid.ensures c.requires.may c.in-Ok.ensures.state

pub returns-clause-stored : goal.returns-clause-stored
returns-clause-stored g c =
    let s = c.args.tables.now.state in
    let s1 = c.store_record.new.tables.state in
    let s2 = c.link.new.self.state in
    let old = c.args.old.now in
    let new = c.args.new in
    let may = c.requires.may in
    let p = c.args.prepared in
    let made = c.in-Ok.ensures in
    let second = rows_linked s s1 s2 old new (length p.added.blocks) may made.state c.link.ensures in
    is_stored g.met.D.ZonedDevice.moments g.met.D.ZonedDevice.told (link old new) tt s s1 s2 (link_demand s may.row new) (Link old new) (link_update may.row new)
    p c.args.dev.now c.store_record.new.dev _ (λ failed. cc) (link_asked s old new c.valid.ensures c.requires.can_write may)
    (c.requires.prepared may.row may.found) c.requires.is_known c.requires.same_geometry made.state second
    (linked_shown s s1 s2 old new may second c.valid-2.ensures.sound.settled) (link_room s old new c.valid.ensures may).table
    made.told made.goes_on made.stands made.device made.data_kept
