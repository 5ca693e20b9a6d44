-- The settings that clap found, one by one.
use Rattle.std.proofs.Common.{◌≡◌, ◌∙◌, Bool, true, false, cond, ◌&&◌, ◌||◌, List, [], ◌∷◌, Option, Some, None, refl, sym, ap, bytes_eq}
use Rattle.std.proofs.lemmas.Slice.Eq.{bytes_eq-Decides}
use Rattle.clap.specs.Words.{Row, first_of}
use Rattle.command_model.specs.Options.{Word, Setting, is_one_of, is_set, value_in}
use Rattle.clap_words.specs.Told.{dashed}
use Rattle.clap_words.specs.Found.{flag_names, flags_found, is_flagged, settings_found, value_names, values_found, with_flag, with_value}
use Rattle.clap_words.proofs.Lookups.{or_parts}

none_either : (b : Bool) (o : Option Word) → o ≡ None → cond b o None ≡ None
none_either true o e = e
none_either false o e = refl

and_false : (b : Bool) → (b && false) ≡ false
and_false true = refl
and_false false = refl

module _ (rows : List Row) (name : Word) where
  -- flags have no values
  no_flag_value : (names : List Word) → value_in (dashed name) (flags_found names rows) ≡ None
  no_flag_value [] = refl
  no_flag_value (n ∷ ns) = by (is_flagged n rows) (no_flag_value ns)
    where
      one : (b : Bool) (rest : Option Word) → rest ≡ None → cond b None rest ≡ None
      one true rest e = refl
      one false rest e = e

      by : (t : Bool) → value_in (dashed name) (flags_found ns rows) ≡ None → value_in (dashed name) (with_flag n t (flags_found ns rows)) ≡ None
      by true rest = one (bytes_eq n name) (value_in (dashed name) (flags_found ns rows)) rest
      by false rest = rest

  in_values : (names : List Word) (rest : List Setting) → value_in (dashed name) rest ≡ None
      → value_in (dashed name) (values_found names rows rest) ≡ cond (is_one_of names name) (first_of name rows) None
  in_values [] rest none = none
  in_values (n ∷ ns) rest none = by (bytes_eq n name) (first_of n rows) refl refl (in_values ns rest none)
    where
      by : (b : Bool) (o : Option Word) → bytes_eq n name ≡ b → first_of n rows ≡ o
          → value_in (dashed name) (values_found ns rows rest) ≡ cond (is_one_of ns name) (first_of name rows) None
          → value_in (dashed name) (with_value n (first_of n rows) (values_found ns rows rest)) ≡ cond (bytes_eq n name || is_one_of ns name) (first_of name rows) None
      by true (Some v) e is more =
          let same : n ≡ name = (bytes_eq-Decides n name).0 e in
          ap (λ (o : Option Word). value_in (dashed name) (with_value n o (values_found ns rows rest))) is
          ∙ ap (λ (b : Bool). cond b (Some v) (value_in (dashed name) (values_found ns rows rest))) e
          ∙ sym is ∙ ap (λ (w : Word). first_of w rows) same
          ∙ sym (ap (λ (b : Bool). cond (b || is_one_of ns name) (first_of name rows) None) e)
      by true None e is more =
          let same : n ≡ name = (bytes_eq-Decides n name).0 e in
          let nothing : first_of name rows ≡ None = ap (λ (w : Word). first_of w rows) (sym same) ∙ is in
          ap (λ (o : Option Word). value_in (dashed name) (with_value n o (values_found ns rows rest))) is
          ∙ more
          ∙ none_either (is_one_of ns name) (first_of name rows) nothing
          ∙ sym nothing
          ∙ sym (ap (λ (b : Bool). cond (b || is_one_of ns name) (first_of name rows) None) e)
      by false (Some v) e is more =
          ap (λ (o : Option Word). value_in (dashed name) (with_value n o (values_found ns rows rest))) is
          ∙ ap (λ (b : Bool). cond b (Some v) (value_in (dashed name) (values_found ns rows rest))) e
          ∙ more
          ∙ sym (ap (λ (b : Bool). cond (b || is_one_of ns name) (first_of name rows) None) e)
      by false None e is more =
          ap (λ (o : Option Word). value_in (dashed name) (with_value n o (values_found ns rows rest))) is
          ∙ more
          ∙ sym (ap (λ (b : Bool). cond (b || is_one_of ns name) (first_of name rows) None) e)

  pub value_found : is_one_of value_names name ≡ true → value_in (dashed name) (settings_found rows) ≡ first_of name rows
  unfolding settings_found
  value_found known =
      in_values value_names (flags_found flag_names rows) (no_flag_value flag_names)
      ∙ ap (λ (b : Bool). cond b (first_of name rows) None) known

  -- an option with a value is no flag
  not_in_values : (names : List Word) (rest : List Setting) → is_one_of names name ≡ false → is_set (dashed name) (values_found names rows rest) ≡ is_set (dashed name) rest
  not_in_values [] rest none = refl
  not_in_values (n ∷ ns) rest none =
      let two = or_parts (bytes_eq n name) (is_one_of ns name) none in
      by (first_of n rows) two.0 (not_in_values ns rest two.1)
    where
      by : (o : Option Word) → bytes_eq n name ≡ false → is_set (dashed name) (values_found ns rows rest) ≡ is_set (dashed name) rest
          → is_set (dashed name) (with_value n o (values_found ns rows rest)) ≡ is_set (dashed name) rest
      by None e more = more
      by (Some v) e more = ap (λ (b : Bool). b || is_set (dashed name) (values_found ns rows rest)) e ∙ more

  in_flags : (names : List Word) → is_set (dashed name) (flags_found names rows) ≡ (is_one_of names name && is_flagged name rows)
  in_flags [] = refl
  in_flags (n ∷ ns) = by (bytes_eq n name) (is_flagged n rows) refl refl (in_flags ns)
    where
      by : (b t : Bool) → bytes_eq n name ≡ b → is_flagged n rows ≡ t → is_set (dashed name) (flags_found ns rows) ≡ (is_one_of ns name && is_flagged name rows)
          → is_set (dashed name) (with_flag n (is_flagged n rows) (flags_found ns rows)) ≡ ((bytes_eq n name || is_one_of ns name) && is_flagged name rows)
      by true true e f more =
          let same : n ≡ name = (bytes_eq-Decides n name).0 e in
          ap (λ (t : Bool). is_set (dashed name) (with_flag n t (flags_found ns rows))) f
          ∙ ap (λ (b : Bool). b || is_set (dashed name) (flags_found ns rows)) e
          ∙ sym f ∙ ap (λ (w : Word). is_flagged w rows) same
          ∙ sym (ap (λ (b : Bool). (b || is_one_of ns name) && is_flagged name rows) e)
      by true false e f more =
          let same : n ≡ name = (bytes_eq-Decides n name).0 e in
          let unset : is_flagged name rows ≡ false = ap (λ (w : Word). is_flagged w rows) (sym same) ∙ f in
          ap (λ (t : Bool). is_set (dashed name) (with_flag n t (flags_found ns rows))) f
          ∙ more
          ∙ ap (λ (t : Bool). is_one_of ns name && t) unset ∙ and_false (is_one_of ns name)
          ∙ sym unset
          ∙ sym (ap (λ (b : Bool). (b || is_one_of ns name) && is_flagged name rows) e)
      by false true e f more =
          ap (λ (t : Bool). is_set (dashed name) (with_flag n t (flags_found ns rows))) f
          ∙ ap (λ (b : Bool). b || is_set (dashed name) (flags_found ns rows)) e
          ∙ more
          ∙ sym (ap (λ (b : Bool). (b || is_one_of ns name) && is_flagged name rows) e)
      by false false e f more =
          ap (λ (t : Bool). is_set (dashed name) (with_flag n t (flags_found ns rows))) f
          ∙ more
          ∙ sym (ap (λ (b : Bool). (b || is_one_of ns name) && is_flagged name rows) e)

  pub flag_found : is_one_of value_names name ≡ false → is_one_of flag_names name ≡ true → is_set (dashed name) (settings_found rows) ≡ is_flagged name rows
  unfolding settings_found
  flag_found absent known =
      not_in_values value_names (flags_found flag_names rows) absent
      ∙ in_flags flag_names
      ∙ ap (λ (b : Bool). b && is_flagged name rows) known
