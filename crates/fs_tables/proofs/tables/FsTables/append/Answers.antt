use Rattle.std.proofs.Common.{not, ◌∙◌, ap, arith}
use Rattle.zone_image.specs.declared.Geometry.{Geometry}
use Rattle.fs_model.specs.declared.zones.ZoneState.{ZoneState}
use Rattle.fs_model.specs.FsState.{FsState, descriptor_at, on_descriptor}
use Rattle.fs_model.specs.LogSteps.{after_append}
use Rattle.zone_alloc.specs.ZoneTableState.{state_appended}
use Rattle.fs_tables.specs.MountedTables.{MountedTables, state_from}
use Rattle.fs_tables.proofs.ZoneChanges.{appended_is_same, step_state, step_mounted}
use Rattle.fs_tables.proofs.ZoneReads.{state_at_is, unsealed_is_there}
use Rattle.fs_tables.proofs.tables.FsTables.append.Goals as goal

pub appended-requires-clause-is_zone : goal.appended-requires-clause-is_zone
appended-requires-clause-is_zone c =
    let t = c.self.inside in
    let s : FsState = state_from t.geometry t.log t.files t.zones in
    let unsealed = ap (λ (m : MountedTables). (descriptor_at m.state c.args.zone).info.sealed) c.self.view_is ∙ c.requires.unsealed in
    omega (arith, unsealed_is_there s c.args.zone unsealed, c.self.invariant.sound.count, ap (λ (g : Geometry). g.zones) c.self.invariant.same_geometry)

pub appended-requires-clause-unsealed : goal.appended-requires-clause-unsealed
appended-requires-clause-unsealed c =
    let t = c.self.inside in
    let s : FsState = state_from t.geometry t.log t.files t.zones in
    let unsealed = ap (λ (m : MountedTables). (descriptor_at m.state c.args.zone).info.sealed) c.self.view_is ∙ c.requires.unsealed in
    let here = state_at_is s t.zones c.args.zone c.self.invariant.counted (unsealed_is_there s c.args.zone unsealed) in
    ap (λ (z : ZoneState). not z.info.sealed) here ∙ ap not unsealed

pub appended-requires-clause-room : goal.appended-requires-clause-room
appended-requires-clause-room c =
    let t = c.self.inside in
    let s : FsState = state_from t.geometry t.log t.files t.zones in
    let unsealed = ap (λ (m : MountedTables). (descriptor_at m.state c.args.zone).info.sealed) c.self.view_is ∙ c.requires.unsealed in
    let here = state_at_is s t.zones c.args.zone c.self.invariant.counted (unsealed_is_there s c.args.zone unsealed) in
    omega (
      arith,
      ap (λ (z : ZoneState). z.info.written) here,
      ap (λ (m : MountedTables). (descriptor_at m.state c.args.zone).info.written) c.self.view_is,
      ap (λ (m : MountedTables). m.state.geometry.capacity) c.self.view_is,
      ap (λ (g : Geometry). g.capacity) c.self.invariant.same_geometry,
      c.requires.takes,
    )

pub invariant_of-self : goal.invariant_of-self
invariant_of-self c =
    let t = c.self.inside in
    step_mounted (state_appended t.zones.geometry.capacity c.args.blocks) _ (appended_is_same t.zones.geometry.capacity c.args.blocks) t.geometry t.log t.files t.zones
    c.appended.new.self c.args.zone c.appended.ensures c.self.invariant

pub returns-clause-state : goal.returns-clause-state
returns-clause-state c =
    let t = c.self.inside in
    let capacity = t.zones.geometry.capacity in
    let same = ap (λ (g : Geometry). g.capacity) c.self.invariant.same_geometry ∙ ap (λ (m : MountedTables). m.state.geometry.capacity) c.self.view_is in
    step_state (state_appended capacity c.args.blocks) _ (appended_is_same capacity c.args.blocks) t.geometry t.log t.files t.zones c.appended.new.self c.args.zone
    c.args.self.now.state c.appended.ensures (ap (λ (m : MountedTables). m.state) c.self.view_is)
    ∙ ap (λ n. record (c.args.self.now.state) { zones = on_descriptor c.args.zone (after_append n c.args.blocks) c.args.self.now.state.zones }) same
