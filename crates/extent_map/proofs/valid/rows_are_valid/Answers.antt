use Rattle.std.proofs.Common.{List, take, sym, subst, arith, add-one}
use Rattle.std.proofs.lemmas.List.{take_all}
use Rattle.std.specs.List.{AllByRecursion}
use Rattle.fs_model.specs.FsState.{TableRow}
use Rattle.extent_map.specs.Sound.{IsRow}
use Rattle.extent_map.proofs.AfterLaws.{all_more}
use Rattle.extent_map.proofs.valid.rows_are_valid.Goals as goal

pub loop-row-preserved : goal.loop-row-preserved
loop-row-preserved c =
    subst (λ k. AllByRecursion IsRow (take k c.args.rows.now)) (sym (add-one c.loop-row.row-index))
    (all_more IsRow c.loop-row.row-index c.args.rows.now c.row-item.result (omega arith) c.row-item.is c.loop-row.invariant c.valid.ensures)

pub returns : goal.returns
returns c =
    subst (λ (rs : List TableRow). AllByRecursion IsRow rs) (take_all c.loop-row.row-index c.args.rows.now (omega arith)) c.loop-row.invariant
