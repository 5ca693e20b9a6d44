use Rattle.std.proofs.Common.{List, sym, subst}
use Rattle.fs_model.specs.FsState.{TableRow}
use Rattle.extent_map.specs.TableState.{IsTableState}
use Rattle.extent_map.proofs.LinkLaws.{left_state}
use Rattle.extent_map.proofs.table.FileTable.unlink.Goals as goal

pub invariant_of-self : goal.invariant_of-self
invariant_of-self c = (
  subst (λ (new : List TableRow). IsTableState new c.self.inside.greatest) (sym c.take_names.ensures.rows)
      (left_state c.from_ref.result.now c.self.inside.rows.items c.self.inside.greatest c.self.invariant.0),
  λ holders is. absurd cc,
)
