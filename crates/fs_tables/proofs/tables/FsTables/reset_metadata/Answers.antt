use Rattle.std.proofs.Common.{List, ap, arith}
use Rattle.fs_model.specs.FsState.{FsState, ZoneDescriptor, on_descriptor}
use Rattle.zone_alloc.specs.ZoneTableState.{state_emptied}
use Rattle.fs_tables.specs.MountedTables.{MountedTables}
use Rattle.fs_tables.specs.Steps.{emptied}
use Rattle.fs_tables.proofs.LiveLaws.{metadata_none_live}
use Rattle.fs_tables.proofs.ZoneChanges.{emptied_is_same, step_state, step_mounted}
use Rattle.fs_tables.proofs.tables.FsTables.reset_metadata.Goals as goal

pub was_reset-requires-clause-dead : goal.was_reset-requires-clause-dead
was_reset-requires-clause-dead c =
    let t = c.self.inside in
    metadata_none_live t.geometry t.log t.files t.zones c.self.invariant 0 (omega arith)

pub was_reset-requires-2-clause-dead : goal.was_reset-requires-2-clause-dead
was_reset-requires-2-clause-dead c =
    let t = c.self.inside in
    let first = step_mounted state_emptied emptied emptied_is_same t.geometry t.log t.files t.zones c.was_reset.new.self 0 c.was_reset.ensures c.self.invariant in
    metadata_none_live t.geometry t.log t.files c.was_reset.new.self first 1 (omega arith)

pub was_reset-requires-3-clause-dead : goal.was_reset-requires-3-clause-dead
was_reset-requires-3-clause-dead c =
    let t = c.self.inside in
    let first = step_mounted state_emptied emptied emptied_is_same t.geometry t.log t.files t.zones c.was_reset.new.self 0 c.was_reset.ensures c.self.invariant in
    let second = step_mounted state_emptied emptied emptied_is_same t.geometry t.log t.files c.was_reset.new.self c.was_reset-2.new.self 1 c.was_reset-2.ensures first in
    metadata_none_live t.geometry t.log t.files c.was_reset-2.new.self second 2 (omega arith)

pub invariant_of-self : goal.invariant_of-self
invariant_of-self c =
    let t = c.self.inside in
    let first = step_mounted state_emptied emptied emptied_is_same t.geometry t.log t.files t.zones c.was_reset.new.self 0 c.was_reset.ensures c.self.invariant in
    let second = step_mounted state_emptied emptied emptied_is_same t.geometry t.log t.files c.was_reset.new.self c.was_reset-2.new.self 1 c.was_reset-2.ensures first in
    step_mounted state_emptied emptied emptied_is_same t.geometry t.log t.files c.was_reset-2.new.self c.was_reset-3.new.self 2 c.was_reset-3.ensures second

pub returns-clause-state : goal.returns-clause-state
returns-clause-state c =
    let t = c.self.inside in
    let step = step_state state_emptied emptied emptied_is_same t.geometry t.log t.files in
    let s = c.args.self.now.state in
    let after = λ (zs : List ZoneDescriptor). record s { zones = zs } in
    let s1 : FsState = after (on_descriptor 0 emptied s.zones) in
    let s2 : FsState = after (on_descriptor 1 emptied s1.zones) in
    let first = step t.zones c.was_reset.new.self 0 s c.was_reset.ensures (ap (λ (m : MountedTables). m.state) c.self.view_is) in
    let second = step c.was_reset.new.self c.was_reset-2.new.self 1 s1 c.was_reset-2.ensures first in
    step c.was_reset-2.new.self c.was_reset-3.new.self 2 s2 c.was_reset-3.ensures second
