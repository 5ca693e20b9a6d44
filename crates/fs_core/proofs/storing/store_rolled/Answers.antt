use Rattle.std.proofs.Common.{◌≡◌, ℕ, ◌+◌, ◌≤◌, List, drop, length, refl, ◌∙◌, ap, sym, subst, arith}
use Rattle.record_model.specs.Decoding.{record_of}
use Rattle.zone_image.specs.declared.Geometry.{Geometry}
use Rattle.zone_image.specs.declared.ZoneInfo.{ZoneInfo}
use Rattle.log_model.specs.declared.selection.Chosen.{Chosen}
use Rattle.log_model.specs.LogScan.{blocks_of}
use Rattle.log_roll.specs.Rolling.{next_zone, roll_need, roll_refusal}
use Rattle.change_steps.proofs.RecordLaws.{roll_keeps_files}
use Rattle.change_cover.specs.Stored.{snapshot_of}
use Rattle.fs_tables.specs.Steps.{infos_in, rolled_infos}
use Rattle.fs_tables.proofs.StepLaws.{infos_after_append}
use Rattle.fs_model.specs.FsState.{FsState, recorded}
use Rattle.zoned_device.proofs.DeviceLaws.{done_as}
use Rattle.fs_core.specs.Storing.{LeavesChange}
use Rattle.fs_core.proofs.StoredChange.{can_snapshot, leaves_rolled, stores_rolled}
use Rattle.fs_core.proofs.StoredLog.{nothing_refused, only_fault, rolled_log, same_append, takes_behind_roll}
use Rattle.fs_core.proofs.WritingGoesOn.{append_goes_on}
use Rattle.fs_core.proofs.storing.store_rolled.Goals as goal

pub roll_and_add-requires-clause-snapshot : goal.roll_and_add-requires-clause-snapshot
roll_and_add-requires-clause-snapshot g c = record { files = recorded c.args.tables.now.state; reads = ap record_of c.items.ensures ∙ c.requires.takes.memory.reads }

pub add_record-requires : goal.add_record-requires
add_record-requires g c =
    let s = c.args.tables.now.state in
    let n = c.count-count.ensures.exact in
    takes_behind_roll s c.roll.new.self.state c.count-count.result c.valid.ensures.sound c.roll.ensures.state (omega (arith, n, c.requires.room))

pub returns-in-Ok-clause-told : goal.returns-in-Ok-clause-told
returns-in-Ok-clause-told g c =
    let D = g.D.ZonedDevice in
    let s = c.args.tables.now.state in
    let u = c.roll.new.self.state in
    let n = c.count-count.result in
    let old = c.log.result.now in
    let b = c.geometry-geometry.result.block in
    let blocks : ℕ = blocks_of b 512 + blocks_of b (length c.items.result.now) in
    let zone : c.in-Ok.log.zone ≡ next_zone old.zone = ap (λ (l : Chosen). l.zone) c.in-Ok.ensures.chosen in
    let count : c.args.rolled.now.blocks ≡ blocks = c.requires.takes.memory.blocks
    ∙ ap (λ (p : List ℕ). blocks_of s.geometry.block 512 + blocks_of s.geometry.block (length p)) (sym (c.items.ensures ∙ c.requires.takes.memory.snapshot))
    ∙ ap (λ (g : Geometry). blocks_of g.block 512 + blocks_of g.block (length c.items.result.now)) (sym c.geometry-geometry.ensures.value) in
    let begun : infos_in u ≡ rolled_infos (D.infos c.args.dev.now) (next_zone old.zone) blocks = c.roll.ensures.infos
    ∙ ap (λ (is : List ZoneInfo). rolled_infos is c.in-Ok.log.zone c.args.rolled.now.blocks) c.requires.told
    ∙ ap (λ m. rolled_infos (D.infos c.args.dev.now) m c.args.rolled.now.blocks) zone ∙ ap (λ m. rolled_infos (D.infos c.args.dev.now) (next_zone old.zone) m) count in
    ap infos_in c.add_record.ensures.state ∙ infos_after_append u u.log.zone n
    ∙ same_append u.geometry c.geometry-geometry.result (infos_in u) (rolled_infos (D.infos c.args.dev.now) (next_zone old.zone) blocks) u.log.zone (next_zone old.zone) n (length c.args.added.now.blocks)
    (ap (λ (v : FsState). v.geometry) c.roll.ensures.state ∙ (roll_keeps_files s).geometry ∙ sym c.geometry-geometry.ensures.value) begun
    (ap (λ (v : FsState). v.log.zone) c.roll.ensures.state ∙ ap (λ (l : Chosen). l.zone) (rolled_log s c.valid.ensures.sound (omega (arith, c.requires.room))) ∙ ap (λ (l : Chosen). next_zone l.zone) (sym c.log.ensures))
    c.count-count.ensures.exact
    ∙ sym c.in-Ok.ensures.infos

pub returns-in-Ok-clause-stands : goal.returns-in-Ok-clause-stands
returns-in-Ok-clause-stands g c = λ told.
    let D = g.D.ZonedDevice in
    let s = c.args.tables.now.state in
    let some = c.count-count.ensures.some in
    let n = c.count-count.ensures.exact in
    stores_rolled c.args.added.now.blocks c.items.result.now (D.image c.args.dev.now) (D.image c.roll_and_add.new.dev) s c.log.result.now c.add_record.new.self.state.log
    (can_snapshot s c.valid.ensures.sound (omega (arith, some, n, c.requires.room))) (c.items.ensures ∙ c.requires.takes.memory.snapshot) c.log.ensures
    (ap (λ (u : FsState). u.log) (c.add_record.ensures.state) ∙ ap (λ (u : FsState). u.log) c.roll.ensures.state ∙ rolled_log s c.valid.ensures.sound (omega (arith, c.requires.room)))
    (c.in-Ok.ensures.at_rest told) (c.in-Ok.ensures.selects told)

pub returns-in-Ok-clause-device : goal.returns-in-Ok-clause-device
returns-in-Ok-clause-device g c =
    let D = g.D.ZonedDevice in
    let s = c.args.tables.now.state in
    let i = D.image c.args.dev.now in
    let some = c.count-count.ensures.some in
    let n = c.count-count.ensures.exact in
    let can = can_snapshot s c.valid.ensures.sound (omega (arith, some, n, c.requires.room)) in
    done_as g.met.D.ZonedDevice.moments _ (LeavesChange c.args.added.now.blocks i s) c.in-Ok.ensures.device (λ failed. cc) (λ failed. cc)
    (λ j told left. leaves_rolled c.args.added.now.blocks c.items.result.now i j s can (c.items.ensures ∙ c.requires.takes.memory.snapshot) left)

pub returns-in-Err-clause-device : goal.returns-in-Err-clause-device
returns-in-Err-clause-device g c =
    let D = g.D.ZonedDevice in
    let s = c.args.tables.now.state in
    let i = D.image c.args.dev.now in
    let old = c.log.result.now in
    let snapshot = c.items.result.now in
    let some = c.count-count.ensures.some in
    let n = c.count-count.ensures.exact in
    let can = can_snapshot s c.valid.ensures.sound (omega (arith, some, n, c.requires.room)) in
    let taken = c.items.ensures ∙ c.requires.takes.memory.snapshot in
    let fits : roll_need s.geometry.block (length (snapshot_of s)) ≤ s.geometry.capacity = omega (arith, some, n, c.requires.room) in
    let room = subst (λ (p : List ℕ). roll_need c.geometry-geometry.result.block (length p) ≤ c.geometry-geometry.result.capacity) (sym taken)
    (subst (λ (g : Geometry). roll_need g.block (length (snapshot_of s)) ≤ g.capacity) (sym c.geometry-geometry.ensures.value) fits) in
    done_as g.met.D.ZonedDevice.moments _ (LeavesChange c.args.added.now.blocks i s) c.in-Err.ensures.device (λ failed. refl)
    (λ same. only_fault (roll_refusal c.geometry-geometry.result old (length snapshot)) c.in-Err.field-0
    (nothing_refused s c.geometry-geometry.result old (length snapshot) (ap (λ (l : Chosen). l.greatest) c.log.ensures) c.requires.goes_on room) c.in-Err.ensures.refused c.in-Err.ensures.no_memory)
    (λ j told left. leaves_rolled c.args.added.now.blocks snapshot i j s can taken left)

pub returns-in-Ok-clause-goes_on : goal.returns-in-Ok-clause-goes_on
returns-in-Ok-clause-goes_on g c =
    let s = c.args.tables.now.state in
    let u = c.roll.new.self.state in
    let v = c.add_record.new.self.state in
    let told : infos_in v ≡ g.D.ZonedDevice.infos c.roll_and_add.new.dev = returns-in-Ok-clause-told g c in
    let n = c.count-count.ensures.exact in
    append_goes_on s u v c.count-count.result c.add_record.ensures.state
    (takes_behind_roll s u c.count-count.result c.valid.ensures.sound c.roll.ensures.state (omega (arith, n, c.requires.room))) c.count-count.ensures.some
    (ap (λ (w : FsState). w.log.can_end) c.roll.ensures.state ∙ ap (λ (l : Chosen). l.can_end) (rolled_log s c.valid.ensures.sound (omega (arith, c.requires.room))))
    (ap (λ (w : FsState). w.geometry) c.roll.ensures.state ∙ (roll_keeps_files s).geometry)
    (ap (λ (is : List ZoneInfo). drop 3 is) told ∙ c.in-Ok.ensures.data_kept.numbers ∙ ap (λ (is : List ZoneInfo). drop 3 is) (sym c.requires.told)) c.requires.can_write.active
