-- A word that is cut at its first equals sign, and options one after another.
use Rattle.std.proofs.Common.{◌≡◌, ◌≢◌, ℕ, suc, ◌<◌, Bool, true, false, cond, List, [], ◌∷◌, ◌++◌, length, map, get_or, take, drop, ◌-◌, Option, None, Some, refl, sym, ◌∙◌, ap, arith}
use Rattle.std.specs.Prelude.{MatchOption, not}
use denote.Ref.{Bor}
use Rattle.std.proofs.lemmas.Bool.{ne_eqb}
use Rattle.std.proofs.lemmas.List.{take_all}
use Rattle.command_model.specs.Options.{Word, Setting, Shape, ◌>>=◌, only_if, is_set, before_equals, after_equals, own_value, one_word, takes_value, add_setting, settings_from, settings_of}
use Rattle.command_model.specs.CommandLine.{Verb, Command, verb_of, shape_of, command_with, command}
use Rattle.command_words.specs.Commands.{complete, command_after}
use Rattle.command_words.specs.Splits.{IsCut, First, first_with, first_setting}

-- a word without an equals sign
no_equals : (bs : Word) → ((i : ℕ) → i < length bs → get_or bs i 0 ≢ 61) → after_equals bs ≡ None
no_equals [] none = refl
no_equals (b ∷ bs) none =
    ap (λ t. cond t (Some bs) (after_equals bs)) (ne_eqb b 61 (none 0 (omega arith))) ∙ no_equals bs (λ i lt. none (suc i) (omega arith))

-- what stands before the first one
front_of : (xs ys : Word) → ((i : ℕ) → i < length xs → get_or xs i 0 ≢ 61) → before_equals (xs ++ 61 ∷ ys) ≡ xs
front_of [] ys none = refl
front_of (x ∷ xs) ys none =
    ap (λ t. cond t [] (x ∷ before_equals (xs ++ 61 ∷ ys))) (ne_eqb x 61 (none 0 (omega arith))) ∙ ap (λ (l : Word). x ∷ l) (front_of xs ys (λ i lt. none (suc i) (omega arith)))

-- and behind it
rest_of : (xs ys : Word) → ((i : ℕ) → i < length xs → get_or xs i 0 ≢ 61) → after_equals (xs ++ 61 ∷ ys) ≡ Some ys
rest_of [] ys none = refl
rest_of (x ∷ xs) ys none =
    ap (λ t. cond t (Some (xs ++ 61 ∷ ys)) (after_equals (xs ++ 61 ∷ ys))) (ne_eqb x 61 (none 0 (omega arith))) ∙ rest_of xs ys (λ i lt. none (suc i) (omega arith))

-- the parts of a word
pub parts_of : (bs : Word) (r : Option (Bor (List ℕ) × Bor (List ℕ)))
    → MatchOption r ((i : ℕ) → i < length bs → get_or bs i 0 ≢ 61) (λ x. (bs ≡ x.0.now ++ (61 ∷ x.1.now)) × ((i : ℕ) → i < length x.0.now → get_or x.0.now i 0 ≢ 61))
    → MatchOption r (after_equals bs ≡ None) (λ p. IsCut bs p.0.now p.1.now)
parts_of bs None none = no_equals bs none
parts_of bs (Some x) cut = record {
  front = ap before_equals cut.0 ∙ front_of x.0.now x.1.now cut.1;
  rest = ap after_equals cut.0 ∙ rest_of x.0.now x.1.now cut.1;
}

-- what follows the first option
abbrev pub after_first : Shape → List Setting → First → Option (List Setting)
after_first shape seen f = add_setting seen f.setting >>= (λ more. settings_from shape more f.rest)

-- an option with its value
abbrev valued : Word → Word → Setting
valued name value = record { name = name; value = Some value }

bind_some : {A : Type 0} (o : Option A) → o ≡ (o >>= (λ x. Some x))
bind_some None = refl
bind_some (Some x) = refl

last_step : (shape : Shape) (seen : List Setting) (o : Option Setting) → (o >>= add_setting seen) ≡ ((o >>= first_with []) >>= after_first shape seen)
last_step shape seen None = refl
last_step shape seen (Some s) = bind_some (add_setting seen s)

two_step : (shape : Shape) (seen : List Setting) (w v : Word) (ws : List Word) (t : Bool) (o : Option Word) (p : Option Setting)
    → cond t (o >>= (λ value. cond t (Some (valued w value)) None >>= (λ s. add_setting seen s >>= (λ more. settings_from shape more ws)))) (p >>= (λ s. add_setting seen s >>= (λ more. settings_from shape more (v ∷ ws))))
    ≡ (cond t (o >>= (λ value. first_with ws (valued w value))) (p >>= first_with (v ∷ ws)) >>= after_first shape seen)
two_step shape seen w v ws true None p = refl
two_step shape seen w v ws true (Some value) p = refl
two_step shape seen w v ws false o None = refl
two_step shape seen w v ws false o (Some s) = refl

-- the options of some words are the first one and those behind it
settings_step : (shape : Shape) (seen : List Setting) (ws : List Word) → 0 < length ws → settings_from shape seen ws ≡ (first_setting shape ws >>= after_first shape seen)
settings_step shape seen [] some = absurd (omega arith)
settings_step shape seen (w ∷ []) some = last_step shape seen (one_word shape w)
settings_step shape seen (w ∷ v ∷ ws) some = two_step shape seen w v ws (takes_value shape w) (own_value v) (one_word shape w)

-- what is done with all settings
abbrev then_command : Verb → Option (List Setting) → Option Command
then_command verb o = (o >>= complete verb) >>= command_with verb

module _ (verb : Verb) (seen : List Setting) (ws : List Word) (some : 0 < length ws) where
  pub stops_at_first : first_setting (shape_of verb) ws ≡ None → command_after verb seen ws ≡ None
  stops_at_first none =
      ap (then_command verb) (settings_step (shape_of verb) seen ws some) ∙ ap (λ o. then_command verb (o >>= after_first (shape_of verb) seen)) none

  module _ (s : Setting) (rest : List Word) (first : first_setting (shape_of verb) ws ≡ first_with rest s) where
    at_first : command_after verb seen ws ≡ then_command verb (after_first (shape_of verb) seen (record { setting = s; rest = rest }))
    at_first = ap (then_command verb) (settings_step (shape_of verb) seen ws some) ∙ ap (λ o. then_command verb (o >>= after_first (shape_of verb) seen)) first

    pub stops_at_second : is_set s.name seen ≡ true → command_after verb seen ws ≡ None
    stops_at_second twice = at_first ∙ ap (λ b. then_command verb (only_if (not b) (seen ++ s ∷ []) >>= (λ more. settings_from (shape_of verb) more rest))) twice

    pub goes_on : is_set s.name seen ≡ false → command_after verb seen ws ≡ command_after verb (seen ++ s ∷ []) rest
    goes_on once = at_first ∙ ap (λ b. then_command verb (only_if (not b) (seen ++ s ∷ []) >>= (λ more. settings_from (shape_of verb) more rest))) once

-- words, as the first and those behind it
pub first_word : {A : Type 0} (h : A → Word) (xs : List A) (d : A) → 0 < length xs → map h xs ≡ h (get_or xs 0 d) ∷ map h (take (length xs - 1) (drop 1 xs))
first_word h [] d some = absurd (omega arith)
first_word h (x ∷ xs) d some =
    let left : suc (length xs) - 1 ≡ length xs = omega arith in
    sym (ap (λ k. h x ∷ map h (take k xs)) left ∙ ap (λ l. h x ∷ map h l) (take_all (length xs) xs (omega arith)))

-- the command of a first word and those behind it
pub command_of_words : (ws : List Word) (w : Word) (rest : List Word) (verb : Verb) → ws ≡ w ∷ rest → Some verb ≡ verb_of w → command ws ≡ command_after verb [] rest
unfolding command
command_of_words ws w rest verb is named = ap command is ∙ ap (λ o. o >>= (λ v. settings_of (shape_of v) rest >>= command_with v)) (sym named)
