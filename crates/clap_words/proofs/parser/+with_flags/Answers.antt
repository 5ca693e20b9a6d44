use Rattle.std.proofs.Common.{rules, ◌≡◌, ◌∙◌, ℕ, List, [], ap, arith}
use Rattle.std.proofs.lemmas.Result.{IfOk-weaker}
use denote.Ref.{Bor}
use Rattle.clap.specs.Words.{app_of, rule_of, with_rule}
use Rattle.clap_words.specs.Told.{flag_rule}
use Rattle.clap_words.proofs.Builders.{one_more, shorter}
use Rattle.clap_words.proofs.parser.+with_flags.Goals as goal

pub with_flags-requires : goal.with_flags-requires
with_flags-requires t c =
    let some = shorter c.args.names.now (omega (arith, c.in-len1-up.len_at_least)) in
    (omega (arith, c.decreases), tt)

pub returns-in_ok-command-in-len1-up : goal.returns-in_ok-command-in-len1-up
returns-in_ok-command-in-len1-up t c =
    let now = c.in_ok-command-in-len1-up.command in
    let d : Bor (List ℕ) = record { ref_ptr = (0, 0); now = [] } in
    let rule_is : rule_of c.action-option.result ≡ flag_rule c.new.result.id.now = search rules in
    let adds : app_of now ≡ with_rule (app_of c.args.command) (flag_rule c.new.result.id.now) =
    c.in_ok-command-in-len1-up.ensures.shape (search rules) ∙ ap (with_rule (app_of c.args.command)) rule_is in
    IfOk-weaker c.with_flags.result _ _
    (λ m h. h ∙ one_more flag_rule (app_of c.args.command) (app_of now) c.args.names.now d (omega (arith, c.in-len1-up.len_at_least)) (adds ∙ ap (λ (w : List ℕ). with_rule (app_of c.args.command) (flag_rule w)) (search rules)))
    c.with_flags.ensures
