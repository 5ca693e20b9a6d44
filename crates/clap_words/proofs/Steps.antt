-- One option more, in clap's walk.
use Rattle.std.proofs.Common.{◌≡◌, ◌∙◌, Bool, true, false, not, ◌&&◌, ◌||◌, if◌then◌else◌, List, [], ◌∷◌, ◌++◌, map, Option, Some, None, codes, nat_lt, refl, sym, ap}
use Rattle.std.specs.Option.{option_map_or}
use Rattle.clap.specs.Walk.{Held, Row, Rule, Step, Waiting, arg_by_id, has_row, option_word, reacted, settled, used, used_by_id}
use Rattle.clap.specs.Walk.Step.{next}
use Rattle.clap.specs.Walk.Waiting.{idle, option}
use Rattle.clap.specs.Takes.{settle_passes, use_passes}
use Rattle.clap.specs.declared.parser.matches.ValueSource.TheVariants.{CommandLine}
use Rattle.command_model.specs.Options.{Word, Setting, is_one_of, is_set}
use Rattle.clap_words.specs.Told.{dashed}
use Rattle.clap_words.proofs.Lookups.{is_plain_name}
use Rattle.clap_words.proofs.Lookups.{id_value, long_flag, long_value, same_word, told, told_flag, told_value}
use Rattle.clap_words.proofs.Cuts.{IsOwn, joined_more, long_joined, long_name, more_than_dashes}
use Rattle.clap_words.proofs.Rows.{AllRight, right_push, row_from, row_is_set, row_of_setting, rows_push, used_adds}
use Rattle.clap_words.proofs.Walks.{Meets, option_met_as, option_passes_as, value_met_as, value_passes_as}

-- what clap holds fits the settings so far
pub record Fits (values flags : List Word) (h : Held) (seen : List Setting) : Type 0 where
  pub passes : settle_passes (told values flags) false h ≡ true
  pub rows : (settled (told values flags) h).rows ≡ map row_of_setting seen
  pub right : AllRight values seen

value_use : (name v : Word) (rows : List Row) → has_row name rows ≡ false → use_passes false (told_value name) (v ∷ []) rows ≡ true
value_use name v rows none = ap (λ (b : Bool). (not b || false) && true) none

flag_use : (name : Word) (rows : List Row) → has_row name rows ≡ false → use_passes false (told_flag name) [] rows ≡ true
flag_use name rows none = ap (λ (b : Bool). (not b || false) && true) none

value_used : (name v : Word) (rows : List Row) → has_row name rows ≡ false → used (told_value name) (v ∷ []) rows ≡ rows ++ row_from CommandLine name (v ∷ []) ∷ []
value_used name v rows none = used_adds name (v ∷ []) rows none

flag_used : (name : Word) (rows : List Row) → has_row name rows ≡ false → used (told_flag name) [] rows ≡ rows ++ row_from CommandLine name (codes "true" ∷ []) ∷ []
flag_used name rows none = used_adds name (codes "true" ∷ []) rows none

-- an option with a value, and a flag
abbrev pub valued : Word → Word → Setting
valued name v = record { name = dashed name; value = Some v }

abbrev pub flagged : Word → Setting
flagged name = record { name = dashed name; value = None }

module _ (values flags : List Word) (seen : List Setting) (h : Held) (fits : Fits values flags h seen) (name : Word) (plain : is_plain_name name ≡ true) (once : is_set (dashed name) seen ≡ false) where
  abbrev c : List Rule
  c = told values flags

  abbrev rows : List Row
  rows = (settled c h).rows

  free : has_row name rows ≡ false
  free = ap (has_row name) fits.rows ∙ row_is_set values name seen fits.right ∙ once

  grown : (s : Setting) (now : List Row) → now ≡ rows ++ row_of_setting s ∷ [] → now ≡ map row_of_setting (seen ++ s ∷ [])
  grown s now e = e ∙ ap (λ (l : List Row). l ++ row_of_setting s ∷ []) fits.rows ∙ sym (rows_push seen s)

  module _ (v : Word) (is : is_one_of values name ≡ true) where
    abbrev a : Rule
    a = told_value name

    pub joined_meets : Meets c h idle (dashed (name ++ 61 ∷ v)) (reacted c a (v ∷ []) h) idle
    joined_meets =
        let known = long_value values flags name is in
        let cut = long_joined name v plain in
        record {
          met = option_met_as c h (dashed (name ++ 61 ∷ v)) name (Some v) a (joined_more name v) cut known;
          passes = option_passes_as c h (dashed (name ++ 61 ∷ v)) name (Some v) a (joined_more name v) cut known
              ∙ ap (λ (b : Bool). b && use_passes false a (v ∷ []) rows) fits.passes ∙ value_use name v rows free;
        }

    pub joined_fits : Fits values flags (reacted c a (v ∷ []) h) (seen ++ valued name v ∷ [])
    joined_fits = record {
      passes = refl;
      rows = grown (valued name v) (used a (v ∷ []) rows) (value_used name v rows free);
      right = right_push values seen (valued name v) fits.right (name, refl, sym is);
    }

    abbrev pub waiting : Held
    waiting = record { rows = rows; pending = Some (name, []); skip = h.skip }

    abbrev pub filled_up : Held
    filled_up = record { rows = rows; pending = Some (name, v ∷ []); skip = h.skip }

    pub name_meets : Meets c h idle (dashed name) waiting (option name)
    name_meets =
        let known = long_value values flags name is in
        record {
          met = option_met_as c h (dashed name) name None a (more_than_dashes name plain) (long_name name plain) known;
          passes = option_passes_as c h (dashed name) name None a (more_than_dashes name plain) (long_name name plain) known ∙ fits.passes;
        }

    pub value_meets : (value : Word) → IsOwn v value → Meets c waiting (option name) v filled_up idle
    value_meets value o = record {
      met = value_met_as c waiting name v a o.dashes o.long o.short
          ∙ ap (λ (r : Option Rule). plain_as (option_word r name v waiting)) (id_value values flags name is)
          ∙ ap (λ (b : Bool). wait_as (if nat_lt (if b then 1 else 0) 1 then option name else idle)) (same_word name);
      passes = value_passes_as c waiting name v a o.dashes o.long o.short;
    }
      where
        plain_as : Held × Waiting → Held × Step
        plain_as p = (p.0, next p.1)

        wait_as : Waiting → Held × Step
        wait_as x = (filled_up, next x)

    pub value_fits : Fits values flags filled_up (seen ++ valued name v ∷ [])
    value_fits =
        let known = id_value values flags name is in
        record {
          passes = ap (λ (r : Option Rule). option_map_or (λ (x : Rule). use_passes false x (v ∷ []) rows) r true) known ∙ value_use name v rows free;
          rows = grown (valued name v) (used_by_id (arg_by_id c name) (v ∷ []) rows)
              (ap (λ (r : Option Rule). used_by_id r (v ∷ []) rows) known ∙ value_used name v rows free);
          right = right_push values seen (valued name v) fits.right (name, refl, sym is);
        }

  module _ (absent : is_one_of values name ≡ false) (is : is_one_of flags name ≡ true) where
    pub flag_meets : Meets c h idle (dashed name) (reacted c (told_flag name) [] h) idle
    flag_meets =
        let known = long_flag values flags name absent is in
        record {
          met = option_met_as c h (dashed name) name None (told_flag name) (more_than_dashes name plain) (long_name name plain) known;
          passes = option_passes_as c h (dashed name) name None (told_flag name) (more_than_dashes name plain) (long_name name plain) known
              ∙ ap (λ (b : Bool). b && use_passes false (told_flag name) [] rows) fits.passes ∙ flag_use name rows free;
        }

    pub flag_fits : Fits values flags (reacted c (told_flag name) [] h) (seen ++ flagged name ∷ [])
    flag_fits = record {
      passes = refl;
      rows = grown (flagged name) (used (told_flag name) [] rows) (flag_used name rows free);
      right = right_push values seen (flagged name) fits.right (name, refl, sym absent);
    }
