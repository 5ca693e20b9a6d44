use Rattle.std.proofs.Common.{List, ℕ, [], ◌∷◌, length, ap, ◌∙◌, arith}
use Rattle.std.proofs.lemmas.List.{take_all}
use Rattle.std.specs.List.{flat_map}
use Rattle.record_codec.specs.Length.{told}
use Rattle.log_model.specs.FileTree.{renamed}
use Rattle.extent_map.specs.RowsAfter.{names_bytes}
use Rattle.extent_map.proofs.AfterLaws.{renamed_pieces}
use Rattle.extent_map.proofs.name_lengths.renamed_len.Goals as goal

pub returns : goal.returns
returns c =
    let names = c.args.names.now in
    c.loop-name.invariant
    ∙ ap (λ (ns : List (List ℕ)). told (length (flat_map (λ n. names_bytes (renamed c.args.old.now c.args.new.now (n ∷ []))) ns))) (take_all c.loop-name.name-index names (omega arith))
    ∙ ap (λ (bytes : List ℕ). told (length bytes)) (renamed_pieces c.args.old.now c.args.new.now names)
