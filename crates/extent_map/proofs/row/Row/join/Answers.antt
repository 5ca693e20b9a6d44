use Rattle.std.proofs.Common.{◌≡◌, ◌++◌, List, length, ap, ◌∙◌, refl, arith}
use Rattle.std.proofs.lemmas.List.Sums.{sum_by-append}
use Rattle.record_model.specs.declared.types.Extent.{Extent}
use Rattle.log_model.specs.FileTable.{size_of}
use Rattle.extent_map.proofs.row.Row.join.Goals as goal

pub invariant_of-self : goal.invariant_of-self
invariant_of-self c =
    let recorded : List Extent = c.self.inside.entry.extents in
    let others : List Extent = c.self.inside.unrecorded.items in
    let kept = c.self.invariant.0 in
    let joined : c.joined.result ≡ recorded ++ others = c.joined.ensures ∙ ap (λ (xs : List Extent). xs ++ c.deref-2.result.now) c.items.ensures ∙ ap (λ (xs : List Extent). recorded ++ xs) c.deref-2.ensures.value in
    let added : c.size_of.result ≡ size_of others = c.size_of.ensures ∙ ap size_of c.deref.ensures.value in
    let whole = ap size_of joined ∙ sum_by-append (λ (x : Extent). x.len) recorded others in
    let nothing = ap (λ (xs : List Extent). length xs) c.clear.ensures.items in
    let none = ap size_of c.clear.ensures.items in (
      record {
        sound = record { id = kept.sound.id; size = omega (arith, kept.sound.size, added, whole); named = kept.sound.named; apart = kept.sound.apart };
        whole = omega (arith, kept.whole, added, none);
        shown = omega (arith, none);
        settled = λ _. refl;
      },
      λ lt. absurd (omega (arith, nothing)),
    )
