use Rattle.std.proofs.Common.{List, ℕ, [], ◌∷◌, length, ap, ◌∙◌, arith}
use Rattle.std.proofs.lemmas.List.{take_all}
use Rattle.std.specs.List.{flat_map}
use Rattle.record_codec.specs.Length.{told}
use Rattle.log_model.specs.FileTable.{names_left}
use Rattle.extent_map.specs.RowsAfter.{names_bytes}
use Rattle.extent_map.proofs.AfterLaws.{left_pieces}
use Rattle.extent_map.proofs.name_lengths.left_len.Goals as goal

pub returns : goal.returns
returns c =
    let names = c.args.names.now in
    c.loop-name.invariant
    ∙ ap (λ (ns : List (List ℕ)). told (length (flat_map (λ n. names_bytes (names_left c.args.taken.now (n ∷ []))) ns))) (take_all c.loop-name.name-index names (omega arith))
    ∙ ap (λ (bytes : List ℕ). told (length bytes)) (left_pieces c.args.taken.now names)
