use Rattle.std.proofs.Common.{◌<◌, ◌≤◌, List, length, set, get_or, ap, sym, ◌∙◌, arith, add-one}
use Rattle.fs_model.specs.FsState.{TableRow}
use Rattle.fs_model.specs.TreeSteps.{cleared}
use Rattle.extent_map.proofs.AfterLaws.{changed_to, changed_next, changed_all}
use Rattle.extent_map.proofs.clearing.clear_points.Goals as goal

pub loop-i-preserved : goal.loop-i-preserved
loop-i-preserved c =
    let rows : List TableRow = c.args.rows.now.items in
    let i = c.loop-i.i in
    let row = c.index_mut-row.result.now in
    let within : i < length rows = omega arith in
    ap (set c.loop-i.rows.items i) c.clear_point.ensures
    ∙ ap (λ (rs : List TableRow). set rs i (cleared row)) c.loop-i.invariant
    ∙ changed_next cleared i rows row within (c.index_mut-row.ensures.value ∙ ap (λ (rs : List TableRow). get_or rs i row) c.loop-i.invariant)
    ∙ ap (λ k. changed_to cleared k rows) (sym (add-one i))

pub returns : goal.returns
returns c =
    let rows : List TableRow = c.args.rows.now.items in
    let whole : length rows ≤ c.loop-i.i = omega arith in
    c.loop-i.invariant ∙ changed_all cleared c.loop-i.i rows whole
