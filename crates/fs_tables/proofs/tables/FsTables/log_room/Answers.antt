use Rattle.std.proofs.Common.{◌-◌, ◌<◌, cond, length, sym, ◌∙◌, ap, arith}
use Rattle.fs_model.specs.declared.zones.ZoneState.{ZoneState}
use Rattle.fs_model.specs.FsState.{FsState, descriptor_at, room_in}
use Rattle.fs_tables.specs.MountedTables.{MountedTables, state_from}
use Rattle.fs_tables.proofs.ZoneReads.{state_at_is}
use Rattle.fs_tables.proofs.tables.FsTables.log_room.Goals as goal

pub returns-else-info : goal.returns-else-info
returns-else-info c =
    let t = c.self.inside in
    let s : FsState = state_from t.geometry t.log t.files t.zones in
    let there : t.log.zone < length s.zones = grind (arith, c.self.invariant.sound.count, c.self.invariant.sound.valid, c.self.invariant.sound.log_zone) in
    let here = c.state.ensures.value ∙ state_at_is s t.zones t.log.zone c.self.invariant.counted there in
    let open_here = sym (ap (λ (z : ZoneState). z.info.sealed) here) ∙ c.if-info.false in
    ap (λ (z : ZoneState). t.geometry.capacity - z.info.written) here
    ∙ sym (ap (λ b. cond b 0 (t.geometry.capacity - (descriptor_at s t.log.zone).info.written)) open_here)
    ∙ ap (λ (m : MountedTables). room_in m.state m.state.log.zone) c.self.view_is
