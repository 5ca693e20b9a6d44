-- Words that clap's walk takes, one after another.
use Rattle.std.proofs.Common.{◌≡◌, ◌∙◌, Bool, true, false, cond, ◌&&◌, ◌||◌, List, [], ◌∷◌, fold, Option, Some, None, codes, refl, ap, bytes_eq}
use Rattle.std.specs.Option.{option_map_or}
use Rattle.clap.specs.Lexer.{long_of, short_of}
use Rattle.clap.specs.Walk.{Held, Rule, Step, Waiting, Walk, after_flag, after_step, arg_by_long, long_met, long_or_other, plain_word, short_or_plain, walk_from, walked, word_met}
use Rattle.clap.specs.Walk.Step.{next, trailing}
use Rattle.clap.specs.Walk.Waiting.{idle, option}
use Rattle.clap.specs.Simple.{Shape, new_shape}
use Rattle.clap.specs.Takes.{bundle_passes, flag_word_passes, long_passes, step_passes, turn_passes, walk_passes, word_passes}
use Rattle.command_model.specs.Options.{Word}

-- the command, built, with these rules
abbrev pub level : List Rule → Shape
level rules = record (new_shape (codes "zenfs")) {
  rules = rules;
  no_binary_name = true;
  disable_help_flag = true;
  disable_help_subcommand = true;
  disable_version_flag = true;
  is_built = true;
}

-- between two words
abbrev pub between : Held → Waiting → Walk
between h waiting = record { held = h; waiting = waiting; position = 1; is_trailing = false; stopped = None }

-- clap takes some words, and holds what stands behind them
pub record Goes (c : List Rule) (h : Held) (waiting : Waiting) (ws : List Word) (h2 : Held) : Type 0 where
  pub passes : walk_passes (level c) [] (between h waiting) ws ≡ true
  pub ends : fold (walked c []) (between h waiting) ws ≡ walk_from h2

pub no_words : (c : List Rule) (h : Held) → Goes c h idle [] h
unfolding walk_passes
no_words c h = record { passes = refl; ends = refl }

-- clap takes one word
pub record Meets (c : List Rule) (h : Held) (waiting : Waiting) (w : Word) (h2 : Held) (waiting2 : Waiting) : Type 0 where
  pub met : word_met c [] false waiting 1 w h ≡ (h2, next waiting2)
  pub passes : word_passes (level c) [] false waiting w h ≡ true

module _ (c : List Rule) (h h2 : Held) (x y : Waiting) (w : Word) (m : Meets c h x w h2 y) where
  turn : turn_passes (level c) [] (between h x) w ≡ true
  turn =
      let met = word_met c [] false x 1 w h in
      ap (λ (b : Bool). b && step_passes (level c) 1 met.0 met.1) m.passes
      ∙ ap (λ (p : Held × Step). step_passes (level c) 1 p.0 p.1) m.met

  on : walked c [] (between h x) w ≡ between h2 y
  unfolding walked
  on = ap (λ (p : Held × Step). after_step c w (between h x) p.0 p.1) m.met

  pub goes_on : (ws : List Word) (h3 : Held) → Goes c h2 y ws h3 → Goes c h x (w ∷ ws) h3
  unfolding walk_passes
  goes_on ws h3 g = record {
    passes = ap (λ (b : Bool). b && walk_passes (level c) [] (walked c [] (between h x) w) ws) turn ∙ ap (λ (k : Walk). walk_passes (level c) [] k ws) on ∙ g.passes;
    ends = ap (λ (k : Walk). fold (walked c []) k ws) on ∙ g.ends;
  }

-- a word of an option
module _ (c : List Rule) (h : Held) (w name : Word) (v : Option Word) (a : Rule) (dashes : bytes_eq w (45 ∷ 45 ∷ []) ≡ false) (cut : long_of w ≡ Some (name, v)) (is : arg_by_long c name ≡ Some a) where
  pub option_met_as : word_met c [] false idle 1 w h ≡ after_flag c idle w (long_met c (Some a) v h).0 (long_met c (Some a) v h).1
  option_met_as =
      ap (λ (b : Bool). cond b (h, trailing 1) (long_or_other c idle w (long_of w) h)) dashes
      ∙ ap (λ (o : Option (Word × Option Word)). long_or_other c idle w o h) cut
      ∙ ap (λ (r : Option Rule). after_flag c idle w (long_met c r v h).0 (long_met c r v h).1) is

  pub option_passes_as : word_passes (level c) [] false idle w h ≡ long_passes c false (Some a) v h
  option_passes_as =
      ap (λ (b : Bool). b || flag_word_passes c false (long_of w) w h) dashes
      ∙ ap (λ (o : Option (Word × Option Word)). flag_word_passes c false o w h) cut
      ∙ ap (λ (r : Option Rule). long_passes c false r v h) is

-- a value of its own word
module _ (c : List Rule) (h : Held) (name v : Word) (a : Rule) (dashes : bytes_eq v (45 ∷ 45 ∷ []) ≡ false) (long : long_of v ≡ None) (short : short_of v ≡ None) where
  pub value_met_as : word_met c [] false (option name) 1 v h ≡ plain_word c (option name) v h
  value_met_as =
      ap (λ (b : Bool). cond b (h, trailing 1) (long_or_other c (option name) v (long_of v) h)) dashes
      ∙ ap (λ (o : Option (Word × Option Word)). long_or_other c (option name) v o h) long
      ∙ ap (λ (o : Option Word). short_or_plain c (option name) v o h) short

  pub value_passes_as : word_passes (level c) [] false (option name) v h ≡ true
  value_passes_as =
      ap (λ (b : Bool). b || flag_word_passes c false (long_of v) v h) dashes
      ∙ ap (λ (o : Option (Word × Option Word)). flag_word_passes c false o v h) long
      ∙ ap (λ (o : Option Word). option_map_or (λ flags. bundle_passes c false flags h) o true) short
