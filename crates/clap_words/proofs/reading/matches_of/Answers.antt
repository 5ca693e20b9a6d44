use Rattle.std.proofs.Common.{◌≡◌, ◌∙◌, List, map, string_bytes, ap}
use Rattle.std.proofs.lemmas.Result.{IfOk-weaker}
use Rattle.clap.specs.Simple.{matches_of}
use Rattle.clap.specs.Words.{App, Row, app_of, takes}
use Rattle.command_model.specs.CommandLine.{command_with}
use Rattle.command_words.specs.Commands.{command_meant}
use Rattle.clap_words.specs.Found.{settings_found}
use Rattle.clap_words.specs.Told.{app_for, app_with, rules_for, verb_in}
use Rattle.clap_words.proofs.Same.{reads_commands}
use Rattle.clap_words.proofs.reading.matches_of.Goals as goal

pub matches_in-requires : goal.matches_in-requires
matches_in-requires c =
    let cmd = command_meant c.args.command.now in
    let ws = map string_bytes c.args.words.now in
    let is : app_of c.in_ok-parser.parser ≡ app_for (verb_in cmd) =
    c.in_ok-parser.ensures ∙ (λ i. app_with (rules_for (c.options_of.ensures.values i) (c.options_of.ensures.flags i))) in
    ap (λ (a : App). takes a ws) is ∙ (reads_commands (verb_in cmd) ws cmd c.requires).0

pub returns : goal.returns
returns c =
    let cmd = command_meant c.args.command.now in
    let ws = map string_bytes c.args.words.now in
    let is : app_of c.in_ok-parser.parser ≡ app_for (verb_in cmd) =
    c.in_ok-parser.ensures ∙ (λ i. app_with (rules_for (c.options_of.ensures.values i) (c.options_of.ensures.flags i))) in
    IfOk-weaker c.matches_in.result _ _
    (λ m h. ap (λ (rows : List Row). command_with (verb_in cmd) (settings_found rows)) (h ∙ ap (λ (a : App). matches_of a ws) is) ∙ (reads_commands (verb_in cmd) ws cmd c.requires).1)
    c.matches_in.ensures
