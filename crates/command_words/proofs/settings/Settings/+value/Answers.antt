use Rattle.std.proofs.Common.{◌≡◌, Bool, true, false, cond, Option, None, sym, ◌∙◌, ap}
use Rattle.std.specs.Str.{bytes_eq}
use Rattle.command_model.specs.Options.{Word, is_set, value_in}
use Rattle.command_words.specs.Settings.{setting_of, settings_in}
use Rattle.command_words.proofs.OptionLaws.{value_push}
use Rattle.command_words.proofs.settings.Settings.+value.Goals as goal

-- the value that is wanted, where it was given before
given : (set eq : Bool) (mine last whole : Option Word) → whole ≡ cond set mine (cond eq last None) → set ≡ true → mine ≡ whole
given set eq mine last whole is before = sym (is ∙ ap (λ b. cond b mine (cond eq last None)) before)

-- where it is the last one
last_is : (set eq : Bool) (mine last whole : Option Word) → whole ≡ cond set mine (cond eq last None) → set ≡ false → eq ≡ true → last ≡ whole
last_is set eq mine last whole is before here = sym (is ∙ ap (λ b. cond b mine (cond eq last None)) before ∙ ap (λ b. cond b last None) here)

none_is : (set eq : Bool) (mine last whole : Option Word) → whole ≡ cond set mine (cond eq last None) → set ≡ false → eq ≡ false → None ≡ whole
none_is set eq mine last whole is before here = sym (is ∙ ap (λ b. cond b mine (cond eq last None)) before ∙ ap (λ b. cond b last None) here)

pub returns-then-is_set : goal.returns-then-is_set
returns-then-is_set t c =
    c.value.ensures
    ∙ given (is_set c.args.name.now (settings_in c.in-After.before.now)) (bytes_eq c.in-After.setting.name.now c.args.name.now) (value_in c.args.name.now (settings_in c.in-After.before.now)) (setting_of c.in-After.setting).value (value_in c.args.name.now (settings_in c.args.self.now)) (ap (λ s. value_in c.args.name.now (settings_in s)) c.in-After.is ∙ value_push c.args.name.now (settings_in c.in-After.before.now) (setting_of c.in-After.setting)) (sym c.is_set.ensures ∙ c.if-is_set.true)

pub returns-then-eq : goal.returns-then-eq
returns-then-eq t c =
    last_is (is_set c.args.name.now (settings_in c.in-After.before.now)) (bytes_eq c.in-After.setting.name.now c.args.name.now) (value_in c.args.name.now (settings_in c.in-After.before.now)) (setting_of c.in-After.setting).value (value_in c.args.name.now (settings_in c.args.self.now)) (ap (λ s. value_in c.args.name.now (settings_in s)) c.in-After.is ∙ value_push c.args.name.now (settings_in c.in-After.before.now) (setting_of c.in-After.setting)) (sym c.is_set.ensures ∙ c.if-is_set.false) (sym c.eq.ensures ∙ c.if-eq.true)

pub returns-else-eq : goal.returns-else-eq
returns-else-eq t c =
    none_is (is_set c.args.name.now (settings_in c.in-After.before.now)) (bytes_eq c.in-After.setting.name.now c.args.name.now) (value_in c.args.name.now (settings_in c.in-After.before.now)) (setting_of c.in-After.setting).value (value_in c.args.name.now (settings_in c.args.self.now)) (ap (λ s. value_in c.args.name.now (settings_in s)) c.in-After.is ∙ value_push c.args.name.now (settings_in c.in-After.before.now) (setting_of c.in-After.setting)) (sym c.is_set.ensures ∙ c.if-is_set.false) (sym c.eq.ensures ∙ c.if-eq.false)
