use Rattle.std.proofs.Common.{◌≡◌, List, drop, length, refl, ◌∙◌, ap, sym, arith}
use Rattle.zone_image.specs.declared.ZoneInfo.{ZoneInfo}
use Rattle.log_model.specs.declared.selection.Chosen.{Chosen}
use Rattle.fs_model.specs.FsState.{FsState}
use Rattle.zoned_device.proofs.DeviceLaws.{done_as}
use Rattle.fs_tables.specs.Steps.{infos_in}
use Rattle.fs_tables.proofs.StepLaws.{infos_after_append}
use Rattle.fs_core.specs.Storing.{LeavesChange}
use Rattle.fs_core.proofs.StoredChange.{leaves_behind, stores_behind}
use Rattle.fs_core.proofs.StoredLog.{log_info, same_append}
use Rattle.fs_core.proofs.WritingGoesOn.{append_goes_on}
use Rattle.fs_core.proofs.storing.store_behind.Goals as goal

pub add_record-requires-clause-unsealed : goal.add_record-requires-clause-unsealed
add_record-requires-clause-unsealed g c =
    let D = g.D.ZonedDevice in
    let s = c.args.tables.now.state in
    ap (λ (info : ZoneInfo). info.sealed) (log_info s c.valid.ensures.sound (D.infos c.args.dev.now) c.requires.told c.log.result.now c.log.ensures) ∙ c.requires.takes.room.unsealed

pub add_record-requires-clause-room : goal.add_record-requires-clause-room
add_record-requires-clause-room g c =
    let D = g.D.ZonedDevice in
    let s = c.args.tables.now.state in
    let here = ap (λ (info : ZoneInfo). info.written) (log_info s c.valid.ensures.sound (D.infos c.args.dev.now) c.requires.told c.log.result.now c.log.ensures) in
    let shape = ap (λ g. g.capacity) c.geometry-geometry.ensures.value in
    omega (arith, here, shape, c.requires.takes.room.room)

pub add_record-requires-clause-active : goal.add_record-requires-clause-active
add_record-requires-clause-active g c = λ none.
    let D = g.D.ZonedDevice in
    let s = c.args.tables.now.state in
    let here = ap (λ (info : ZoneInfo). info.written) (log_info s c.valid.ensures.sound (D.infos c.args.dev.now) c.requires.told c.log.result.now c.log.ensures) in
    absurd (omega (arith, here, none, c.requires.can_write.log))

pub returns-in-Ok-clause-told : goal.returns-in-Ok-clause-told
returns-in-Ok-clause-told g c =
    let D = g.D.ZonedDevice in
    let s = c.args.tables.now.state in
    let n = c.count.result in
    ap infos_in c.add_record-in-Ok.ensures.state ∙ infos_after_append s s.log.zone n
    ∙ same_append s.geometry c.geometry-geometry.result (infos_in s) (D.infos c.args.dev.now) s.log.zone c.log.result.now.zone n (length c.args.added.now.blocks)
    (sym c.geometry-geometry.ensures.value) c.requires.told (ap (λ (l : Chosen). l.zone) (sym c.log.ensures)) c.count.ensures.exact
    ∙ sym c.in-Ok.ensures.infos

pub returns-in-Ok-clause-stands : goal.returns-in-Ok-clause-stands
returns-in-Ok-clause-stands g c = λ told.
    let D = g.D.ZonedDevice in
    let s = c.args.tables.now.state in
    stores_behind c.args.added.now.blocks (D.image c.args.dev.now) (D.image c.add_record.new.dev) s c.log.result.now c.add_record-in-Ok.new.self.state.log c.log.ensures
    (ap (λ (u : FsState). u.log) c.add_record-in-Ok.ensures.state) (c.in-Ok.ensures.at_rest told) (c.in-Ok.ensures.selects told)

pub returns-in-Ok-clause-device : goal.returns-in-Ok-clause-device
returns-in-Ok-clause-device g c =
    let D = g.D.ZonedDevice in
    let s = c.args.tables.now.state in
    let i = D.image c.args.dev.now in
    done_as g.met.D.ZonedDevice.moments _ (LeavesChange c.args.added.now.blocks i s) c.in-Ok.ensures.device (λ failed. failed) (λ failed. failed)
    (λ j told left. leaves_behind c.args.added.now.blocks i j s left)

pub returns-in-Err-clause-device : goal.returns-in-Err-clause-device
returns-in-Err-clause-device g c =
    let D = g.D.ZonedDevice in
    let s = c.args.tables.now.state in
    let i = D.image c.args.dev.now in
    done_as g.met.D.ZonedDevice.moments _ (LeavesChange c.args.added.now.blocks i s) c.in-Err.ensures.device (λ failed. failed) (λ failed. failed)
    (λ j told left. leaves_behind c.args.added.now.blocks i j s left)

pub returns-in-Ok-clause-goes_on : goal.returns-in-Ok-clause-goes_on
returns-in-Ok-clause-goes_on g c =
    let s = c.args.tables.now.state in
    let v = c.add_record-in-Ok.new.self.state in
    let told : infos_in v ≡ g.D.ZonedDevice.infos c.add_record.new.dev = returns-in-Ok-clause-told g c in
    let room = c.requires.takes.room.room in
    let n = c.count.ensures.exact in
    append_goes_on s s v c.count.result c.add_record-in-Ok.ensures.state (record { unsealed = c.requires.takes.room.unsealed; room = omega (arith, room, n) }) c.count.ensures.some
    c.requires.can_write.ends refl (ap (λ (is : List ZoneInfo). drop 3 is) told ∙ c.in-Ok.ensures.data_kept.numbers ∙ ap (λ (is : List ZoneInfo). drop 3 is) (sym c.requires.told)) c.requires.can_write.active
