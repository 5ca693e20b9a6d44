use Rattle.std.proofs.Common.{◌≡◌, ◌<◌, ℕ, List, false, length, ap, subst, sym, ◌∙◌}
use Rattle.record_model.specs.Grammar.{AreApart}
use Rattle.log_model.specs.FileTable.{is_among}
use Rattle.log_model.specs.FileTree.{renamed}
use Rattle.fs_model.specs.FsState.{TableRow}
use Rattle.extent_map.proofs.NameLaws.{renamed_apart, renamed_length}
use Rattle.extent_map.proofs.row.Row.rename.Goals as goal

pub invariant_of-self : goal.invariant_of-self
invariant_of-self c =
    let names : List (List ℕ) = c.self.inside.entry.names in
    let kept = c.self.invariant.0 in
    let made : c.renamed.result ≡ renamed c.args.old.now c.args.new names =
    c.renamed.ensures ∙ ap (λ (ns : List (List ℕ)). renamed c.args.old.now c.args.new ns) c.replace-names.ensures.value in
    let unused : is_among names c.args.new ≡ false = ap (λ (r : TableRow). is_among r.entry.names c.args.new) c.self.view_is ∙ c.requires in (
      record {
        sound = record {
          id = kept.sound.id;
          size = kept.sound.size;
          named = subst (λ n. 0 < n) (sym (ap (λ (ns : List (List ℕ)). length ns) made ∙ renamed_length c.args.old.now c.args.new names)) kept.sound.named;
          apart = subst AreApart (sym made) (renamed_apart c.args.old.now c.args.new names kept.sound.apart unused);
        };
        whole = kept.whole;
        shown = kept.shown;
        settled = kept.settled;
      },
      c.self.invariant.1,
    )
