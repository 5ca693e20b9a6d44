use Rattle.std.proofs.Common.{◌≡◌, ◌<◌, ◌++◌, [], ℕ, List, length, ap, subst, sym, ◌∙◌, refl, arith}
use Rattle.record_model.specs.Grammar.{AreApart}
use Rattle.record_model.specs.declared.types.Extent.{Extent}
use Rattle.log_model.specs.FileTable.{size_of}
use Rattle.fs_model.specs.FsState.{TableRow}
use Rattle.extent_map.proofs.row.Row.grow.Goals as goal

pub invariant_of-self-2 : goal.invariant_of-self-2
invariant_of-self-2 c =
    let entry = c.args.entry.now in
    let old : List Extent = c.self.inside.entry.extents in
    let made : c.from_vec-2.result ≡ old ++ entry.extents =
    c.from_vec-2.ensures ∙ c.in_ok-added.ensures.items ∙ ap (λ (xs : List Extent). xs ++ c.items.result.now) (c.into_vec-extents.ensures ∙ c.replace-extents.ensures.value)
    ∙ ap (λ (xs : List Extent). old ++ xs) c.items.ensures in
    let none : c.self.inside.unrecorded.items ≡ [] = ap (λ (r : TableRow). r.unrecorded) c.self.view_is ∙ c.requires.settled in
    let nothing = ap size_of none in
    let count = ap (λ (xs : List Extent). length xs) none in (
      record {
        sound = record {
          id = c.self.invariant.0.sound.id;
          size = c.requires.sound.size ∙ sym (ap (λ (r : TableRow). size_of (r.entry.extents ++ entry.extents)) c.self.view_is) ∙ sym (ap size_of made);
          named = subst (λ (ns : List (List ℕ)). 0 < length ns) (sym c.requires.names) c.requires.sound.named;
          apart = subst AreApart (sym c.requires.names) c.requires.sound.apart;
        };
        whole = omega (arith, nothing, c.requires.size);
        shown = omega arith;
        settled = λ _. refl;
      },
      λ some. absurd (omega (arith, count, some)),
    )
