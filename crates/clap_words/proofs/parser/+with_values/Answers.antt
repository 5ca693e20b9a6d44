use Rattle.std.proofs.Common.{rules, ◌≡◌, ◌∙◌, ℕ, List, [], ap, arith}
use Rattle.std.proofs.lemmas.Result.{IfOk-weaker}
use denote.Ref.{Bor}
use Rattle.clap.specs.Words.{app_of, rule_of, with_rule}
use Rattle.clap_words.specs.Told.{value_rule}
use Rattle.clap_words.proofs.Builders.{one_more, shorter}
use Rattle.clap_words.proofs.parser.+with_values.Goals as goal

pub with_values-requires : goal.with_values-requires
with_values-requires t c =
    let some = shorter c.args.names.now (omega (arith, c.in-len1-up.len_at_least)) in
    (omega (arith, c.decreases), tt)

pub returns-in_ok-command-in-len1-up : goal.returns-in_ok-command-in-len1-up
returns-in_ok-command-in-len1-up t c =
    let now = c.in_ok-command-in-len1-up.command in
    let d : Bor (List ℕ) = record { ref_ptr = (0, 0); now = [] } in
    let rule_is : rule_of c.action-option.result ≡ value_rule c.new.result.id.now = search rules in
    let adds : app_of now ≡ with_rule (app_of c.args.command) (value_rule c.new.result.id.now) =
    c.in_ok-command-in-len1-up.ensures.shape (search rules) ∙ ap (with_rule (app_of c.args.command)) rule_is in
    IfOk-weaker c.with_values.result _ _
    (λ m h. h ∙ one_more value_rule (app_of c.args.command) (app_of now) c.args.names.now d (omega (arith, c.in-len1-up.len_at_least)) (adds ∙ ap (λ (w : List ℕ). with_rule (app_of c.args.command) (value_rule w)) (search rules)))
    c.with_values.ensures
