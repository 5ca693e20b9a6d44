use Rattle.std.proofs.Common.{◌∙◌, map, fold, ap}
use Rattle.std.proofs.lemmas.Result.{IfOk-weaker}
use Rattle.clap.specs.Words.{App, with_rule}
use Rattle.clap_words.specs.Told.{flag_rule, value_rule}
use Rattle.command_words.specs.Shapes.{words_meant}
use Rattle.clap_words.proofs.Builders.{both_added}
use Rattle.clap_words.proofs.parser.parser.Goals as goal

pub returns : goal.returns
returns c =
    let values = words_meant c.args.options.values.now in
    let flags = words_meant c.args.options.flags.now in
    let first = c.in_ok-command.ensures ∙ ap (λ (a : App). fold with_rule a (map value_rule values)) c.bare.ensures in
    IfOk-weaker c.with_flags.result _ _
    (λ m h. h ∙ ap (λ (a : App). fold with_rule a (map flag_rule flags)) first ∙ both_added values flags)
    c.with_flags.ensures
