use Rattle.std.proofs.Common.{◌≡◌, ◌<◌, ℕ, List, length, true, ap, subst, sym, ◌∙◌}
use Rattle.std.proofs.lemmas.Bool.{ltb-true}
use Rattle.record_model.specs.Grammar.{AreApart}
use Rattle.log_model.specs.FileTable.{names_left}
use Rattle.std.specs.Prelude.{nat_lt}
use Rattle.extent_map.proofs.NameLaws.{left_apart}
use Rattle.extent_map.proofs.row.Row.lose_names.Goals as goal

pub invariant_of-self : goal.invariant_of-self
invariant_of-self c =
    let taken : List (List ℕ) = c.args.taken.now in
    let names : List (List ℕ) = c.self.inside.entry.names in
    let kept = c.self.invariant.0 in
    let made : c.names_left.result ≡ names_left taken names = c.names_left.ensures ∙ ap (names_left taken) c.replace-names.ensures.value in
    let some : nat_lt 0 (length (names_left taken names)) ≡ true =
    ap (λ (ns : List (List ℕ)). nat_lt 0 (length (names_left taken ns))) (sym c.items.ensures) ∙ sym c.keeps_name.ensures ∙ c.if-not-keeps_name.false in (
      record {
        sound = record {
          id = kept.sound.id;
          size = kept.sound.size;
          named = subst (λ (ns : List (List ℕ)). 0 < length ns) (sym made) (ltb-true 0 (length (names_left taken names)) some);
          apart = subst AreApart (sym made) (left_apart taken names kept.sound.apart);
        };
        whole = kept.whole;
        shown = kept.shown;
        settled = kept.settled;
      },
      c.self.invariant.1,
    )
