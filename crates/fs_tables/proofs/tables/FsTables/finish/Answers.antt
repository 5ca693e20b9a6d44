use Rattle.std.proofs.Common.{ap}
use Rattle.zone_alloc.specs.ZoneTableState.{state_finished}
use Rattle.fs_tables.specs.MountedTables.{MountedTables}
use Rattle.fs_tables.proofs.ZoneChanges.{finished_is_same, step_state, step_mounted}
use Rattle.fs_tables.proofs.tables.FsTables.finish.Goals as goal

pub invariant_of-self : goal.invariant_of-self
invariant_of-self c =
    let t = c.self.inside in
    step_mounted state_finished _ finished_is_same t.geometry t.log t.files t.zones c.finished.new.self c.args.zone c.finished.ensures c.self.invariant

pub returns-clause-state : goal.returns-clause-state
returns-clause-state c =
    let t = c.self.inside in
    step_state state_finished _ finished_is_same t.geometry t.log t.files t.zones c.finished.new.self c.args.zone c.args.self.now.state c.finished.ensures
    (ap (λ (m : MountedTables). m.state) c.self.view_is)
