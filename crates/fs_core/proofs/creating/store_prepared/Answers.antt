use Rattle.std.proofs.Common.{◌+◌, ◌-◌, ◌^◌, ◌<◌, List, length, refl, sym, ◌∙◌, ap, subst}
use Rattle.log_model.specs.FileTree.Change.{Create}
use Rattle.fs_model.specs.FsState.{TableRow, row_named}
use Rattle.fs_model.specs.TreeSteps.{create}
use Rattle.change_steps.specs.NameChanges.{create_demand}
use Rattle.fs_core.specs.Changing.{HasStored}
use Rattle.fs_core.proofs.AskedChanges.{fault_storing, files_behind, is_stored, prepared_granted, prepared_room}
use Rattle.fs_core.proofs.Creations.{InRange, create_asked, create_is_short, create_room, created_shown, id_left, ids_within, next_update, rows_created}
use Rattle.fs_core.proofs.creating.store_prepared.Goals as goal

pub store_record-requires-clause-granted : goal.store_record-requires-clause-granted
store_record-requires-clause-granted g c =
    let s = c.args.tables.now.state in
    let may = c.requires.may in
    let ids = ids_within s _ _ c.files.ensures.files c.files.ensures.greatest c.valid-2.ensures.table in
    let range : InRange c.args.hint c.args.time = record { hint_range = c.requires.hint; time_range = c.ranges.time.fits } in
    prepared_granted (create_asked s c.args.name c.args.hint c.args.sparse c.args.time c.valid.ensures ids c.requires.can_write range may) c.requires.prepared ∙ may.granted.sequence

pub store_record-requires-clause-room : goal.store_record-requires-clause-room
store_record-requires-clause-room g c =
    let s = c.args.tables.now.state in
    let may = c.requires.may in
    let ids = ids_within s _ _ c.files.ensures.files c.files.ensures.greatest c.valid-2.ensures.table in
    let range : InRange c.args.hint c.args.time = record { hint_range = c.requires.hint; time_range = c.ranges.time.fits } in
    prepared_room (create_asked s c.args.name c.args.hint c.args.sparse c.args.time c.valid.ensures ids c.requires.can_write range may) c.requires.prepared

pub returns-in-Err-clause-failed : goal.returns-in-Err-clause-failed
returns-in-Err-clause-failed g c =
    let s = c.args.tables.now.state in
    let name = c.args.name in
    let hint = c.args.hint in
    let sparse = c.args.sparse in
    let time = c.args.time in
    let ids = ids_within s _ _ c.files.ensures.files c.files.ensures.greatest c.valid-2.ensures.table in
    let range : InRange hint time = record { hint_range = c.requires.hint; time_range = c.ranges.time.fits } in
    let failed = c.in-Err.ensures in
    fault_storing g.met.D.ZonedDevice.moments g.met.D.ZonedDevice.told (create name hint sparse time) (s.greatest + 1) s c.store_record.new.tables.state (create_demand s name hint sparse time)
    (Create name (s.greatest + 1) hint sparse time) (next_update s name hint sparse time) c.args.prepared c.args.dev.now c.store_record.new.dev _ refl
    (create_asked s name hint sparse time c.valid.ensures ids c.requires.can_write range c.requires.may) c.requires.prepared c.requires.is_known c.requires.same_geometry
    (ap (λ t. t.state) failed.same) failed.device failed.data_kept

pub create-id-requires-clause-free : goal.create-id-requires-clause-free
create-id-requires-clause-free g c =
    let s = c.args.tables.now.state in
    ap (λ (rows : List TableRow). row_named c.args.name rows) (files_behind s c.store_record.new.tables.state (length c.args.prepared.added.blocks) c.in-Ok.ensures.state).rows ∙ c.requires.may.free

pub create-id-requires-clause-ids : goal.create-id-requires-clause-ids
create-id-requires-clause-ids g c =
    let s = c.args.tables.now.state in
    let ids = ids_within s _ _ c.files.ensures.files c.files.ensures.greatest c.valid-2.ensures.table in
    subst (λ n. n < 2 ^ 64 - 2) (sym (files_behind s c.store_record.new.tables.state (length c.args.prepared.added.blocks) c.in-Ok.ensures.state).greatest) (id_left s ids c.requires.may.ids)

pub create-id-requires-clause-short : goal.create-id-requires-clause-short
create-id-requires-clause-short g c =
    create_is_short c.args.tables.now.state c.store_record.new.tables.state c.args.name c.args.hint c.args.sparse c.args.time (length c.args.prepared.added.blocks) c.valid.ensures c.requires.may c.in-Ok.ensures.state

pub returns-clause-stored : goal.returns-clause-stored
returns-clause-stored g c =
    let D = g.D.ZonedDevice in
    let s = c.args.tables.now.state in
    let s1 = c.store_record.new.tables.state in
    let s2 = c.create-id.new.self.state in
    let name = c.args.name in
    let hint = c.args.hint in
    let sparse = c.args.sparse in
    let time = c.args.time in
    let may = c.requires.may in
    let p = c.args.prepared in
    let made = c.in-Ok.ensures in
    let ids = ids_within s _ _ c.files.ensures.files c.files.ensures.greatest c.valid-2.ensures.table in
    let range : InRange hint time = record { hint_range = c.requires.hint; time_range = c.ranges.time.fits } in
    let second = rows_created s s1 s2 name hint sparse time (length p.added.blocks) made.state c.create-id.ensures.state in
    let id = c.create-id.ensures.id ∙ ap (λ n. n + 1) (files_behind s s1 (length p.added.blocks) made.state).greatest in
    subst (λ x. HasStored D.known D.geometry D.infos D.tells D.image D.tick D.since D.faults D.failed_changes (create name hint sparse time) x (Create name (s.greatest + 1) hint sparse time) c.args.dev.now c.store_record.new.dev s s2) (sym id)
    (is_stored g.met.D.ZonedDevice.moments g.met.D.ZonedDevice.told (create name hint sparse time) (s.greatest + 1) s s1 s2 (create_demand s name hint sparse time)
    (Create name (s.greatest + 1) hint sparse time) (next_update s name hint sparse time) p c.args.dev.now c.store_record.new.dev _ (λ failed. cc)
    (create_asked s name hint sparse time c.valid.ensures ids c.requires.can_write range may) c.requires.prepared c.requires.is_known c.requires.same_geometry made.state second
    (created_shown s s1 s2 name hint sparse time second c.valid-3.ensures.sound.settled) (create_room s name hint sparse time c.valid.ensures may).table
    made.told made.goes_on made.stands made.device made.data_kept)
