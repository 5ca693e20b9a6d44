use Rattle.std.proofs.Common.{ap, ◌∙◌}
use Rattle.fs_model.specs.FsState.{extents_in}
use Rattle.zone_alloc.specs.ZoneTableState.{state_emptied}
use Rattle.fs_tables.specs.MountedTables.{MountedTables, state_from}
use Rattle.fs_tables.proofs.LiveLaws.{none_live}
use Rattle.fs_tables.proofs.ZoneChanges.{emptied_is_same, step_state, step_mounted}
use Rattle.fs_tables.proofs.tables.FsTables.reset.Goals as goal

pub was_reset-requires-clause-dead : goal.was_reset-requires-clause-dead
was_reset-requires-clause-dead c =
    let t = c.self.inside in
    let dead = ap (λ (m : MountedTables). extents_in m.state c.args.zone) c.self.view_is ∙ c.requires.dead in
    none_live (state_from t.geometry t.log t.files t.zones) t.zones c.args.zone c.self.invariant.counted dead

pub invariant_of-self : goal.invariant_of-self
invariant_of-self c =
    let t = c.self.inside in
    step_mounted state_emptied _ emptied_is_same t.geometry t.log t.files t.zones c.was_reset.new.self c.args.zone c.was_reset.ensures c.self.invariant

pub returns-clause-state : goal.returns-clause-state
returns-clause-state c =
    let t = c.self.inside in
    step_state state_emptied _ emptied_is_same t.geometry t.log t.files t.zones c.was_reset.new.self c.args.zone c.args.self.now.state c.was_reset.ensures
    (ap (λ (m : MountedTables). m.state) c.self.view_is)
