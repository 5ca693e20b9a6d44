-- The rows that clap has at the end, one by one.
use Rattle.std.proofs.Common.{◌≡◌, ◌∙◌, Bool, true, false, cond, ◌||◌, List, [], ◌∷◌, ◌++◌, map, drop, fold, find, Option, Some, None, is_some, codes, slice_get, option_and_then, refl, sym, ap, bytes_eq}
use Rattle.std.specs.Option.{option_or}
use Rattle.std.proofs.lemmas.List.Folds.{find-append}
use Rattle.std.proofs.lemmas.Slice.Eq.{bytes_eq-Decides}
use Rattle.clap.specs.Walk.{Row, Rule, first_of, has_row, with_default, with_values}
use Rattle.clap.specs.declared.builder.value_parser.Reading.TheVariants.{AsWritten}
use Rattle.clap.specs.declared.parser.matches.ValueSource.TheVariants.{DefaultValue}
use Rattle.command_model.specs.Options.{Word, Setting, is_one_of, is_set, value_in}
use Rattle.clap_words.specs.Told.{dashed}
use Rattle.clap_words.proofs.Lookups.{told, told_flag, told_value}
use Rattle.clap_words.proofs.Rows.{AllRight, adds, given_values, row_from, row_of_setting, same_name}

-- a flag that wasn't given
abbrev default_row : Word → Row
default_row name = row_from DefaultValue name (codes "false" ∷ [])

or_none : (o : Option Row) → o ≡ option_or o None
or_none None = refl
or_none (Some r) = refl

merged : (o : Option Row) (a b : Bool) (d : Row) → option_or (option_or o (cond a (Some d) None)) (cond b (Some d) None) ≡ option_or o (cond (a || b) (Some d) None)
merged None true b d = refl
merged None false b d = refl
merged (Some r) a b d = refl

-- options with values have no defaults
same_either : (b : Bool) (rows : List Row) → cond b rows rows ≡ rows
same_either true rows = refl
same_either false rows = refl

values_default : (values : List Word) (rest : List Rule) (rows : List Row) → fold with_default rows (map told_value values ++ rest) ≡ fold with_default rows rest
values_default [] rest rows = refl
values_default (v ∷ vs) rest rows =
    ap (λ (rs : List Row). fold with_default rs (map told_value vs ++ rest)) (same_either (has_row v rows) rows) ∙ values_default vs rest rows

module _ (name : Word) where
  abbrev named : Row → Bool
  named r = bytes_eq r.id name

  found_is : (rows : List Row) (o : Option Row) → has_row name rows ≡ true → find named rows ≡ option_or (find named rows) o
  found_is [] o h = cc
  found_is (r ∷ rs) o h = by (bytes_eq r.id name) h (found_is rs o)
    where
      by : (b : Bool) → (b || has_row name rs) ≡ true → (has_row name rs ≡ true → find named rs ≡ option_or (find named rs) o) → cond b (Some r) (find named rs) ≡ option_or (cond b (Some r) (find named rs)) o
      by true h more = refl
      by false h more = more h

  default_step : (x : Word) (rows : List Row) → find named (with_default rows (told_flag x)) ≡ option_or (find named rows) (cond (bytes_eq x name) (Some (default_row name)) None)
  default_step x rows = by (has_row x rows) (bytes_eq x name) refl refl
    where
      by : (h b : Bool) → has_row x rows ≡ h → bytes_eq x name ≡ b
          → find named (cond (has_row x rows) rows (with_values x AsWritten DefaultValue (codes "false" ∷ []) rows)) ≡ option_or (find named rows) (cond (bytes_eq x name) (Some (default_row name)) None)
      by true true e f =
          let same : x ≡ name = (bytes_eq-Decides x name).0 f in
          ap (λ (t : Bool). find named (cond t rows (with_values x AsWritten DefaultValue (codes "false" ∷ []) rows))) e
          ∙ found_is rows (cond (bytes_eq x name) (Some (default_row name)) None) (ap (λ (w : Word). has_row w rows) (sym same) ∙ e)
      by true false e f =
          ap (λ (t : Bool). find named (cond t rows (with_values x AsWritten DefaultValue (codes "false" ∷ []) rows))) e
          ∙ or_none (find named rows)
          ∙ sym (ap (λ (t : Bool). option_or (find named rows) (cond t (Some (default_row name)) None)) f)
      by false true e f =
          let same : x ≡ name = (bytes_eq-Decides x name).0 f in
          ap (λ (t : Bool). find named (cond t rows (with_values x AsWritten DefaultValue (codes "false" ∷ []) rows))) e
          ∙ ap (find named) (adds DefaultValue x (codes "false" ∷ []) rows e)
          ∙ find-append named rows (default_row x ∷ [])
          ∙ ap (λ (w : Word). option_or (find named rows) (cond (bytes_eq x name) (Some (default_row w)) None)) same
      by false false e f =
          ap (λ (t : Bool). find named (cond t rows (with_values x AsWritten DefaultValue (codes "false" ∷ []) rows))) e
          ∙ ap (find named) (adds DefaultValue x (codes "false" ∷ []) rows e)
          ∙ find-append named rows (default_row x ∷ [])
          ∙ ap (λ (t : Bool). option_or (find named rows) (cond t (Some (default_row x)) None)) f
          ∙ sym (ap (λ (t : Bool). option_or (find named rows) (cond t (Some (default_row name)) None)) f)

  flags_default : (flags : List Word) (rows : List Row) → find named (fold with_default rows (map told_flag flags)) ≡ option_or (find named rows) (cond (is_one_of flags name) (Some (default_row name)) None)
  flags_default [] rows = or_none (find named rows)
  flags_default (f ∷ fs) rows =
      flags_default fs (with_default rows (told_flag f))
      ∙ ap (λ (o : Option Row). option_or o (cond (is_one_of fs name) (Some (default_row name)) None)) (default_step f rows)
      ∙ merged (find named rows) (bytes_eq f name) (is_one_of fs name) (default_row name)

  abbrev first_text : Option Row → Option Word
  first_text o = option_and_then (λ r. slice_get r.values 0) o

  all_default : (values flags : List Word) (rows : List Row)
      → first_of name (fold with_default rows (told values flags)) ≡ first_text (option_or (find named rows) (cond (is_one_of flags name) (Some (default_row name)) None))
  all_default values flags rows =
      ap (first_of name) (values_default values (map told_flag flags) rows) ∙ ap (λ (o : Option Row). first_text o) (flags_default flags rows)

  -- the text of a setting
  shown : (o : Option Word) → is_some o ≡ true → slice_get (given_values o) 0 ≡ o
  shown None h = cc
  shown (Some v) h = refl

  hidden : (o : Option Word) → is_some o ≡ false → slice_get (given_values o) 0 ≡ Some (codes "true")
  hidden None h = refl
  hidden (Some v) h = cc

  right_value : (values : List Word) (s : Setting) (n : Word) (b : Bool) → s.name ≡ dashed n → is_some s.value ≡ is_one_of values n → is_one_of values name ≡ b
      → bytes_eq (drop 2 s.name) name ≡ true → is_some s.value ≡ b
  right_value values s n b is has known e =
      let same : n ≡ name = sym (ap (drop 2) is) ∙ (bytes_eq-Decides (drop 2 s.name) name).0 e in
      has ∙ ap (is_one_of values) same ∙ known

  given_value : (values : List Word) (ss : List Setting) → AllRight values ss → is_one_of values name ≡ true → first_text (find named (map row_of_setting ss)) ≡ value_in (dashed name) ss
  given_value values [] all known = refl
  given_value values (s ∷ ss) all known = by (bytes_eq (drop 2 s.name) name) refl (given_value values ss all.1 known)
    where
      by : (b : Bool) → bytes_eq (drop 2 s.name) name ≡ b → first_text (find named (map row_of_setting ss)) ≡ value_in (dashed name) ss
          → first_text (cond (bytes_eq (drop 2 s.name) name) (Some (row_of_setting s)) (find named (map row_of_setting ss))) ≡ cond (bytes_eq s.name (dashed name)) s.value (value_in (dashed name) ss)
      by true e more =
          ap (λ (t : Bool). first_text (cond t (Some (row_of_setting s)) (find named (map row_of_setting ss)))) e
          ∙ shown s.value (right_value values s all.0.0 true all.0.1 all.0.2 known e)
          ∙ sym (ap (λ (t : Bool). cond t s.value (value_in (dashed name) ss)) (sym (same_name s.name all.0.0 name all.0.1) ∙ e))
      by false e more =
          ap (λ (t : Bool). first_text (cond t (Some (row_of_setting s)) (find named (map row_of_setting ss)))) e
          ∙ more
          ∙ sym (ap (λ (t : Bool). cond t s.value (value_in (dashed name) ss)) (sym (same_name s.name all.0.0 name all.0.1) ∙ e))

  abbrev flag_text : Bool → Option Word
  flag_text given = Some (cond given (codes "true") (codes "false"))

  given_flag : (values : List Word) (ss : List Setting) → AllRight values ss → is_one_of values name ≡ false
      → first_text (option_or (find named (map row_of_setting ss)) (Some (default_row name))) ≡ flag_text (is_set (dashed name) ss)
  given_flag values [] all known = refl
  given_flag values (s ∷ ss) all known = by (bytes_eq (drop 2 s.name) name) refl (given_flag values ss all.1 known)
    where
      by : (b : Bool) → bytes_eq (drop 2 s.name) name ≡ b → first_text (option_or (find named (map row_of_setting ss)) (Some (default_row name))) ≡ flag_text (is_set (dashed name) ss)
          → first_text (option_or (cond (bytes_eq (drop 2 s.name) name) (Some (row_of_setting s)) (find named (map row_of_setting ss))) (Some (default_row name)))
          ≡ flag_text (bytes_eq s.name (dashed name) || is_set (dashed name) ss)
      by true e more =
          ap (λ (t : Bool). first_text (option_or (cond t (Some (row_of_setting s)) (find named (map row_of_setting ss))) (Some (default_row name)))) e
          ∙ hidden s.value (right_value values s all.0.0 false all.0.1 all.0.2 known e)
          ∙ sym (ap (λ (t : Bool). flag_text (t || is_set (dashed name) ss)) (sym (same_name s.name all.0.0 name all.0.1) ∙ e))
      by false e more =
          ap (λ (t : Bool). first_text (option_or (cond t (Some (row_of_setting s)) (find named (map row_of_setting ss))) (Some (default_row name)))) e
          ∙ more
          ∙ sym (ap (λ (t : Bool). flag_text (t || is_set (dashed name) ss)) (sym (same_name s.name all.0.0 name all.0.1) ∙ e))

  -- what clap holds of an option with a value, and of a flag
  pub value_held : (values flags : List Word) (ss : List Setting) → AllRight values ss → is_one_of values name ≡ true → is_one_of flags name ≡ false
      → first_of name (fold with_default (map row_of_setting ss) (told values flags)) ≡ value_in (dashed name) ss
  value_held values flags ss all known absent =
      all_default values flags (map row_of_setting ss)
      ∙ ap (λ (b : Bool). first_text (option_or (find named (map row_of_setting ss)) (cond b (Some (default_row name)) None))) absent
      ∙ ap (λ (o : Option Row). first_text o) (sym (or_none (find named (map row_of_setting ss))))
      ∙ given_value values ss all known

  pub flag_held : (values flags : List Word) (ss : List Setting) → AllRight values ss → is_one_of values name ≡ false → is_one_of flags name ≡ true
      → first_of name (fold with_default (map row_of_setting ss) (told values flags)) ≡ Some (cond (is_set (dashed name) ss) (codes "true") (codes "false"))
  flag_held values flags ss all absent known =
      all_default values flags (map row_of_setting ss)
      ∙ ap (λ (b : Bool). first_text (option_or (find named (map row_of_setting ss)) (cond b (Some (default_row name)) None))) known
      ∙ given_flag values ss all absent
