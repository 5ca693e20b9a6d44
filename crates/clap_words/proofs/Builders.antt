-- Options that are added one after another.
use Rattle.std.proofs.Common.{◌≡◌, ◌∙◌, ℕ, suc, ◌-◌, ◌<◌, List, [], ◌∷◌, ◌++◌, length, map, get_or, take, drop, fold, sym, ap, arith, append_assoc, append-nil}
use Rattle.std.proofs.lemmas.List.{take_all}
use denote.Ref.{Bor}
use Rattle.clap.specs.Words.{App, Rule, with_rule}
use Rattle.command_model.specs.Options.{Word}
use Rattle.clap_words.specs.Told.{app_with, flag_rule, rules_for, value_rule}
use Rattle.command_words.specs.Shapes.{words_meant}

pub one_more : (f : List ℕ → Rule) (a b : App) (names : List (Bor (List ℕ))) (d : Bor (List ℕ)) → 0 < length names → b ≡ with_rule a (f (get_or names 0 d).now)
    → fold with_rule b (map f (words_meant (take (length names - 1) (drop 1 names)))) ≡ fold with_rule a (map f (words_meant names))
one_more f a b [] d some e = absurd (omega arith)
one_more f a b (x ∷ xs) d some e =
    let left : suc (length xs) - 1 ≡ length xs = omega arith in
    ap (λ (k : ℕ). fold with_rule b (map f (words_meant (take k xs)))) left
    ∙ ap (λ (l : List (Bor (List ℕ))). fold with_rule b (map f (words_meant l))) (take_all (length xs) xs (omega arith))
    ∙ ap (λ (y : App). fold with_rule y (map f (words_meant xs))) e

pub all_added : (before rules : List Rule) → fold with_rule (app_with before) rules ≡ app_with (before ++ rules)
all_added before [] = ap app_with (sym (append-nil before))
all_added before (r ∷ rs) = all_added (before ++ r ∷ []) rs ∙ ap app_with (append_assoc before (r ∷ []) rs)

pub both_added : (values flags : List Word) → fold with_rule (fold with_rule (app_with []) (map value_rule values)) (map flag_rule flags) ≡ app_with (rules_for values flags)
both_added values flags =
    ap (λ (a : App). fold with_rule a (map flag_rule flags)) (all_added [] (map value_rule values))
    ∙ all_added (map value_rule values) (map flag_rule flags)

-- what is left is shorter
pub shorter : {A : Type 0} (xs : List A) → 0 < length xs → length (take (length xs - 1) (drop 1 xs)) < length xs
shorter [] some = absurd (omega arith)
shorter (x ∷ xs) some =
    let left : suc (length xs) - 1 ≡ length xs = omega arith in
    let same : length (take (suc (length xs) - 1) xs) ≡ length xs = ap (λ (k : ℕ). length (take k xs)) left ∙ ap length (take_all (length xs) xs (omega arith)) in
    omega (arith, same)

-- words, as the first and those behind it
pub first_word : {A : Type 0} (h : A → Word) (xs : List A) → 0 < length xs → (w : Word) × (map h xs ≡ w ∷ map h (take (length xs - 1) (drop 1 xs)))
first_word h [] some = absurd (omega arith)
first_word h (x ∷ xs) some =
    let left : suc (length xs) - 1 ≡ length xs = omega arith in
    (h x, sym (ap (λ (k : ℕ). h x ∷ map h (take k xs)) left ∙ ap (λ l. h x ∷ map h l) (take_all (length xs) xs (omega arith))))
