use Rattle.std.proofs.Common.{◌≡◌, ◌++◌, [], ◌∷◌, ℕ, List, false, length, ap, subst, sym, ◌∙◌, arith}
use Rattle.std.proofs.lemmas.List.{length-append}
use Rattle.record_model.specs.Grammar.{AreApart}
use Rattle.log_model.specs.FileTable.{is_among}
use Rattle.fs_model.specs.FsState.{TableRow}
use Rattle.extent_map.proofs.NameLaws.{more_apart}
use Rattle.extent_map.proofs.row.Row.add_name.Goals as goal

pub invariant_of-self : goal.invariant_of-self
invariant_of-self c =
    let names : List (List ℕ) = c.self.inside.entry.names in
    let kept = c.self.invariant.0 in
    let made : c.with_name.result ≡ names ++ c.args.new ∷ [] = c.with_name.ensures ∙ ap (λ (ns : List (List ℕ)). ns ++ c.args.new ∷ []) c.replace-names.ensures.value in
    let unused : is_among names c.args.new ≡ false = ap (λ (r : TableRow). is_among r.entry.names c.args.new) c.self.view_is ∙ c.requires.unused in
    let count = ap (λ (ns : List (List ℕ)). length ns) made ∙ length-append names (c.args.new ∷ []) in (
      record {
        sound = record {
          id = kept.sound.id;
          size = kept.sound.size;
          named = omega (arith, count);
          apart = subst AreApart (sym made) (more_apart names c.args.new kept.sound.apart unused);
        };
        whole = kept.whole;
        shown = kept.shown;
        settled = kept.settled;
      },
      c.self.invariant.1,
    )
