use Rattle.std.proofs.Common.{List, length, ap, ◌∙◌, arith}
use Rattle.std.proofs.lemmas.List.Sums.{sum_by-append}
use Rattle.record_model.specs.declared.types.Extent.{Extent}
use Rattle.log_model.specs.FileTable.{size_of}
use Rattle.fs_model.specs.FsState.{TableRow}
use Rattle.extent_map.specs.Lookups.{extents_of}
use Rattle.extent_map.proofs.NoteLaws.{size_with, length_with}
use Rattle.extent_map.proofs.row.Row.note.Goals as goal

pub invariant_of-self : goal.invariant_of-self
invariant_of-self c =
    let recorded : List Extent = c.self.inside.entry.extents in
    let others : List Extent = c.self.inside.unrecorded.items in
    let extent = c.args.extent in
    let kept = c.self.invariant.0 in
    let count = ap (λ (xs : List Extent). length xs) c.add_extent.ensures in
    let size = ap size_of c.add_extent.ensures ∙ size_with others extent in
    let counted = length_with others extent in
    let same = ap (λ (r : TableRow). size_of (extents_of r)) c.self.view_is in
    let whole = sum_by-append (λ (x : Extent). x.len) recorded others in
    let first = ap (λ (r : TableRow). length r.entry.extents) c.self.view_is in
    let second = ap (λ (r : TableRow). length r.unrecorded) c.self.view_is in (
      record {
        sound = kept.sound;
        whole = omega (arith, kept.sound.size, size, same, whole, c.requires.sum);
        shown = omega (arith, kept.shown, size);
        settled = λ none. let nothing = ap (λ (xs : List Extent). length xs) none in absurd (omega (arith, nothing, count, counted.0));
      },
      λ some. omega (arith, count, counted.1, first, second, c.requires.joined),
    )
