use Rattle.std.proofs.Common.{List, sym, subst, refl}
use Rattle.fs_model.specs.FsState.{TableRow}
use Rattle.fs_model.specs.TreeSteps.{cleared}
use Rattle.extent_map.specs.TableState.{IsTableState}
use Rattle.extent_map.proofs.ChangeLaws.{mapped_state}
use Rattle.extent_map.proofs.table.FileTable.clear_points.Goals as goal

pub invariant_of-self : goal.invariant_of-self
invariant_of-self c = (
  subst (λ (new : List TableRow). IsTableState new c.self.inside.greatest) (sym c.clear_points.ensures)
      (mapped_state cleared c.self.inside.rows.items c.self.inside.greatest (λ r. (refl, refl)) c.self.invariant.0),
  λ holders is. absurd cc,
)
