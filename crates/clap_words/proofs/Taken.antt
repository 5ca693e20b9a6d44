-- What clap makes of a command's words: it takes them, and has these rows.
use Rattle.std.proofs.Common.{◌≡◌, ◌∙◌, Bool, true, false, not, ◌&&◌, ◌||◌, List, [], map, fold, Some, is_some, count_by, refl, ap}
use Rattle.std.specs.List.{list_all}
use Rattle.clap.specs.Walk.{Held, Row, Rule, Walk, finished, is_early_multiple, nothing_held, walk, walk_from, with_default}
use Rattle.clap.specs.Walk.Waiting.{idle}
use Rattle.clap.specs.Simple.{App, built, entered, is_in_order, is_ready, is_ready_leaf, is_simple, matches_of, names_of}
use Rattle.clap.specs.Takes.{built_takes, default_passes, entered_passes, is_given, is_valid, settle_passes, takes, walk_passes}
use Rattle.command_model.specs.Options.{Word, Setting, Shape, settings_of}
use Rattle.clap_words.specs.Told.{app_with, flag_rule, rules_for, value_rule}
use Rattle.clap_words.proofs.Lookups.{all_fail, all_pass, filled_rules, told, told_flag, told_value}
use Rattle.clap_words.proofs.Rows.{AllRight, row_of_setting}
use Rattle.clap_words.proofs.Walks.{Goes, level}
use Rattle.clap_words.proofs.Accepted.{IsTold, all_reached}

-- a built command
abbrev at_level : List Rule → App
at_level rules = record { top = level rules; subs = [] }

module _ (values flags : List Word) where
  abbrev app : App
  app = app_with (rules_for values flags)

  abbrev c : List Rule
  c = told values flags

  built_is : built app ≡ at_level c
  built_is = ap at_level (filled_rules 1 values flags)

  in_order : is_in_order c ≡ true
  in_order = ap not (all_fail told_value told_flag (is_early_multiple (count_by (λ a. is_some a.index) c)) (λ x. refl) (λ x. refl) values flags)

  pub is_simple_app : is_simple app ≡ true
  is_simple_app =
      ap (λ (b : Bool). (b && true) && ready (built app)) (all_pass value_rule flag_rule (λ a. a.is_simple) (λ x. refl) (λ x. refl) values flags)
      ∙ ap ready built_is
      ∙ ap (λ (b : Bool). (b && is_in_order c) && true) (all_pass told_value told_flag (λ a. a.is_simple) (λ x. refl) (λ x. refl) values flags)
      ∙ ap (λ (b : Bool). b && true) in_order
    where
      ready : App → Bool
      ready a = is_ready a.top && list_all is_ready_leaf a.subs

  valid : (rows : List Row) → is_valid (level c) rows false ≡ true
  valid rows =
      ap (λ (b : Bool). b && list_all (λ a. not a.required || is_given a.id rows) c) (all_pass told_value told_flag (λ a. a.is_free) (λ x. refl) (λ x. refl) values flags)
      ∙ all_pass told_value told_flag (λ a. not a.required || is_given a.id rows) (λ x. refl) (λ x. refl) values flags

  defaults : list_all default_passes c ≡ true
  defaults = all_pass told_value told_flag default_passes (λ x. refl) (λ x. refl) values flags

  -- the test of a level, by where the walk ends
  abbrev ends_well : List Word → Walk → Bool
  ends_well ws w =
      entered_passes (at_level c) w.stopped
      && (walk_passes (level c) [] (walk_from nothing_held) ws && (settle_passes c false w.held
      && (list_all default_passes c && is_valid (level c) (finished c w.held) (is_some (entered (at_level c) w.stopped)))))

  module _ (ws : List Word) (h2 : Held) (g : Goes c nothing_held idle ws h2) where
    pub app_takes : settle_passes c false h2 ≡ true → takes app ws ≡ true
    app_takes settles =
        ap (λ (b : Bool). b && built_takes (built app) nothing_held ws) is_simple_app
        ∙ ap (λ (a : App). built_takes a nothing_held ws) built_is
        ∙ ap (ends_well ws) g.ends
        ∙ ap (λ (b : Bool). b && (settle_passes c false h2 && (list_all default_passes c && is_valid (level c) (finished c h2) false))) g.passes
        ∙ ap (λ (b : Bool). b && (list_all default_passes c && is_valid (level c) (finished c h2) false)) settles
        ∙ ap (λ (b : Bool). b && is_valid (level c) (finished c h2) false) defaults
        ∙ valid (finished c h2)

    pub app_rows : matches_of app ws ≡ finished c h2
    app_rows =
        ap (λ (a : App). finished a.top.rules (walk a.top.rules (names_of a) nothing_held ws).held) built_is
        ∙ ap (λ (w : Walk). finished c w.held) g.ends

-- clap takes the words that our own test accepts, and has a row for each setting
pub record IsTaken (values flags : List Word) (ws : List Word) (ss : List Setting) : Type 0 where
  pub simple : is_simple (app_with (rules_for values flags)) ≡ true
  pub takes : takes (app_with (rules_for values flags)) ws ≡ true
  pub rows : matches_of (app_with (rules_for values flags)) ws ≡ fold with_default (map row_of_setting ss) (told values flags)
  pub right : AllRight values ss

pub taken : (shape : Shape) (values flags : List Word) → IsTold shape values flags → (ws : List Word) (ss : List Setting) → settings_of shape ws ≡ Some ss → IsTaken values flags ws ss
taken shape values flags t ws ss e =
    let r = all_reached shape values flags t ws ss e in
    record {
      simple = is_simple_app values flags;
      takes = app_takes values flags ws r.0 r.1 r.2.passes;
      rows = app_rows values flags ws r.0 r.1 ∙ ap (λ (rows : List Row). fold with_default rows (told values flags)) r.2.rows;
      right = r.2.right;
    }
