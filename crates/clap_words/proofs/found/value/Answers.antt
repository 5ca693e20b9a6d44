use Rattle.std.proofs.Common.{◌∙◌, sym}
use Rattle.clap.proofs.WalkLemmas.{first_value-rows}
use Rattle.clap.specs.Words.{found_of, rows_of}
use Rattle.clap_words.proofs.Findings.{value_found}
use Rattle.clap_words.proofs.found.value.Goals as goal

pub returns : goal.returns
returns c =
    let f = found_of c.args.found.now in
    c.get_str.ensures ∙ first_value-rows f c.args.name.now ∙ sym (value_found (rows_of f) c.args.name.now c.requires)
