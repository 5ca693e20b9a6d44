use Rattle.std.proofs.Common.{rules, not, List, ℕ, ap, ◌∙◌}
use Rattle.std.proofs.lemmas.Fn.{filter_same}
use Rattle.log_model.specs.FileTable.{is_among, names_left}
use Rattle.extent_map.proofs.name_lists.names_left.Goals as goal

pub returns : goal.returns
returns c =
    let kept = filter_same _ (λ (n : List ℕ). not (is_among c.args.taken.now n)) _ (λ x b f k. search rules) _ _ c.retain.ensures.filtered in
    c.from_vec.ensures ∙ kept ∙ ap (names_left c.args.taken.now) c.into_vec-list.ensures
