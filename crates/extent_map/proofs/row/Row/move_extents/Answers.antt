use Rattle.std.proofs.Common.{◌≡◌, List, length, map, ap, sym, ◌∙◌, arith}
use Rattle.record_model.specs.declared.types.Extent.{Extent}
use Rattle.log_model.specs.FileTable.{size_of}
use Rattle.fs_model.specs.FileSteps.{moved_extent}
use Rattle.extent_map.proofs.MoveLaws.{moved_count, moved_size}
use Rattle.extent_map.proofs.row.Row.move_extents.Goals as goal

pub invariant_of-self : goal.invariant_of-self
invariant_of-self c =
    let extents : List Extent = c.self.inside.entry.extents in
    let kept = c.self.invariant.0 in
    let made : c.moved_extents.result ≡ map (moved_extent c.args.moves.now) extents =
    c.moved_extents.ensures ∙ ap (λ (xs : List Extent). map (moved_extent c.args.moves.now) xs) c.replace-extents.ensures.value in
    let size = ap size_of made ∙ moved_size c.args.moves.now extents in
    let count = ap (λ (xs : List Extent). length xs) made ∙ moved_count c.args.moves.now extents in (
      record {
        sound = record { id = kept.sound.id; size = kept.sound.size ∙ sym size; named = kept.sound.named; apart = kept.sound.apart };
        whole = kept.whole;
        shown = kept.shown;
        settled = kept.settled;
      },
      λ some. let room = c.self.invariant.1 some in omega (arith, count, room),
    )
