use Rattle.std.proofs.Common.{◌<◌, ◌≤◌, List, length, map, set, get_or, ap, sym, ◌∙◌, arith, add-one}
use Rattle.record_model.specs.declared.types.Extent.{Extent}
use Rattle.fs_model.specs.FileSteps.{moved_extent}
use Rattle.extent_map.proofs.MoveLaws.{moved_to, moved_next, moved_all}
use Rattle.extent_map.proofs.moves.moved_extents.Goals as goal

pub loop-i-preserved : goal.loop-i-preserved
loop-i-preserved c =
    let ms = c.args.moves.now in
    let extents : List Extent = c.into_vec-list.result.items in
    let list : List Extent = c.loop-i.list.items in
    let i = c.loop-i.i in
    let x = c.index_mut-extent.result.now in
    let within : i < length extents = omega arith in
    ap (λ s. set list i (record { start = s; len = x.len })) c.moved_start-extent.ensures
    ∙ ap (λ (es : List Extent). set es i (moved_extent ms x)) c.loop-i.invariant
    ∙ moved_next ms i extents x within (c.index_mut-extent.ensures.value ∙ ap (λ (es : List Extent). get_or es i x) c.loop-i.invariant)
    ∙ ap (λ k. moved_to ms k extents) (sym (add-one i))

pub returns : goal.returns
returns c =
    let ms = c.args.moves.now in
    let extents : List Extent = c.into_vec-list.result.items in
    let whole : length extents ≤ c.loop-i.i = omega arith in
    c.from_vec.ensures ∙ c.loop-i.invariant ∙ moved_all ms c.loop-i.i extents whole ∙ ap (map (moved_extent ms)) c.into_vec-list.ensures
