use Rattle.std.proofs.Common.{◌≡◌, ◌<◌, false, None, length, map, sym, ◌∙◌, ap, rules, arith}
use Rattle.std.specs.Prelude.{string_bytes}
use Rattle.std.proofs.lemmas.List.{length-map}
use Rattle.std.proofs.lemmas.Bool.Decides.{nat_tests}
use Rattle.command_model.specs.CommandLine.{shape_of}
use Rattle.command_words.specs.Settings.{settings_in, setting_of}
use Rattle.command_words.specs.Shapes.{verb_meant}
use Rattle.command_words.specs.Splits.{first_with, first_setting}
use Rattle.command_words.proofs.SplitLaws.{stops_at_first, stops_at_second, goes_on}
use Rattle.command_words.proofs.reading.+command_after.Goals as goal

pub returns-in_err-setting : goal.returns-in_err-setting
returns-in_err-setting t c =
    let empty : c.is_empty.result ≡ false = c.if-is_empty.false in
    let some : 0 < length c.args.words.now = grind (arith, nat_tests, c.is_empty.ensures, empty) in
    let ws = map string_bytes c.args.words.now in
    let there : 0 < length ws = omega (arith, some, length-map c.args.words.now string_bytes) in
    let none : first_setting (shape_of (verb_meant c.args.verb)) ws ≡ None = ap (λ s. first_setting s ws) (sym c.shape.ensures) ∙ sym c.in_err-setting.ensures.exact in
    let stop = stops_at_first (verb_meant c.args.verb) (settings_in c.args.seen.now) ws there none in
    rw stop (search rules)

pub returns-then-is_set : goal.returns-then-is_set
returns-then-is_set t c =
    let empty : c.is_empty.result ≡ false = c.if-is_empty.false in
    let some : 0 < length c.args.words.now = grind (arith, nat_tests, c.is_empty.ensures, empty) in
    let ws = map string_bytes c.args.words.now in
    let there : 0 < length ws = omega (arith, some, length-map c.args.words.now string_bytes) in
    let rest = map string_bytes c.in_ok-setting.rest.now in
    let first : first_setting (shape_of (verb_meant c.args.verb)) ws ≡ first_with rest (setting_of c.in_ok-setting.setting) = ap (λ s. first_setting s ws) (sym c.shape.ensures) ∙ sym c.in_ok-setting.ensures.exact in
    sym (stops_at_second (verb_meant c.args.verb) (settings_in c.args.seen.now) ws there (setting_of c.in_ok-setting.setting) rest first (sym c.is_set.ensures ∙ c.if-is_set.true))

pub returns : goal.returns
returns t c =
    let empty : c.is_empty.result ≡ false = c.if-is_empty.false in
    let some : 0 < length c.args.words.now = grind (arith, nat_tests, c.is_empty.ensures, empty) in
    let ws = map string_bytes c.args.words.now in
    let there : 0 < length ws = omega (arith, some, length-map c.args.words.now string_bytes) in
    let rest = map string_bytes c.in_ok-setting.rest.now in
    let first : first_setting (shape_of (verb_meant c.args.verb)) ws ≡ first_with rest (setting_of c.in_ok-setting.setting) = ap (λ s. first_setting s ws) (sym c.shape.ensures) ∙ sym c.in_ok-setting.ensures.exact in
    c.command_after.ensures ∙ sym (goes_on (verb_meant c.args.verb) (settings_in c.args.seen.now) ws there (setting_of c.in_ok-setting.setting) rest first (sym c.is_set.ensures ∙ c.if-is_set.false))
