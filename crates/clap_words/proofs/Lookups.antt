-- Which of clap's rules a name stands for.
use Rattle.std.proofs.Common.{◌≡◌, ◌∙◌, ℕ, Bool, true, false, cond, not, ◌&&◌, ◌||◌, List, [], ◌∷◌, ◌++◌, map, Option, Some, find, is_some, refl, sym, ap, subst, append-nil, bytes_eq}
use Rattle.std.specs.List.{list_all, list_any}
use Rattle.std.proofs.lemmas.Slice.Eq.{bytes_eq-Decides}
use Rattle.clap.proofs.WalkLemmas.{both}
use Rattle.command_model.specs.Options.{Word, is_one_of}
use Rattle.clap.specs.Lexer.{has_byte}
use Rattle.clap.specs.Walk.{Rule, arg_by_id, arg_by_long, has_long}
use Rattle.clap.specs.Simple.{filled, filled_from}
use Rattle.clap_words.specs.Told.{dashed, value_rule, flag_rule, rules_for}

-- a name has at least one byte and no equals sign
abbrev pub is_plain_name : Word → Bool
is_plain_name [] = false
is_plain_name (b ∷ bs) = not (has_byte 61 (b ∷ bs))

pub same_word : (w : Word) → bytes_eq w w ≡ true
same_word w = (bytes_eq-Decides w w).1 refl

pub or_false : (b : Bool) → (b || false) ≡ b
or_false true = refl
or_false false = refl

pub or_true : (b : Bool) → (b || true) ≡ true
or_true true = refl
or_true false = refl

pub or_parts : (a b : Bool) → (a || b) ≡ false → (a ≡ false) × (b ≡ false)
or_parts true b h = cc
or_parts false b h = (refl, h)

-- the rules, filled in
abbrev pub told_value : Word → Rule
told_value name = filled (value_rule name)

abbrev pub told_flag : Word → Rule
told_flag name = filled (flag_rule name)

abbrev pub told : List Word → List Word → List Rule
told values flags = map told_value values ++ map told_flag flags

filled_flags : (i : ℕ) (flags : List Word) → filled_from i (map flag_rule flags) ≡ map told_flag flags
filled_flags i [] = refl
filled_flags i (f ∷ fs) = ap (λ (rs : List Rule). told_flag f ∷ rs) (filled_flags i fs)

pub filled_rules : (i : ℕ) (values flags : List Word) → filled_from i (rules_for values flags) ≡ told values flags
filled_rules i [] flags = filled_flags i flags
filled_rules i (v ∷ vs) flags = ap (λ (rs : List Rule). told_value v ∷ rs) (filled_rules i vs flags)

-- the first rule of a name
module _ (f : Word → Rule) (p : Rule → Bool) (name : Word) (reads : (x : Word) → p (f x) ≡ bytes_eq x name) where
  head : (b : Bool) (x : Word) (rest : Option Rule) → p (f x) ≡ b → cond (p (f x)) (Some (f x)) rest ≡ cond b (Some (f x)) rest
  head b x rest e = ap (λ (t : Bool). cond t (Some (f x)) rest) e

  pub found : (xs : List Word) (rest : List Rule) → is_one_of xs name ≡ true → find p (map f xs ++ rest) ≡ Some (f name)
  found [] rest h = cc
  found (x ∷ xs) rest h = by (bytes_eq x name) refl h (found xs rest)
    where
      by : (b : Bool) → bytes_eq x name ≡ b → (b || is_one_of xs name) ≡ true → (is_one_of xs name ≡ true → find p (map f xs ++ rest) ≡ Some (f name)) → find p (map f (x ∷ xs) ++ rest) ≡ Some (f name)
      by true e h more = head true x (find p (map f xs ++ rest)) (reads x ∙ e) ∙ ap (λ (w : Word). Some (f w)) ((bytes_eq-Decides x name).0 e)
      by false e h more = head false x (find p (map f xs ++ rest)) (reads x ∙ e) ∙ more h

  pub passed : (xs : List Word) (rest : List Rule) → is_one_of xs name ≡ false → find p (map f xs ++ rest) ≡ find p rest
  passed [] rest h = refl
  passed (x ∷ xs) rest h =
      let two = or_parts (bytes_eq x name) (is_one_of xs name) h in
      head false x (find p (map f xs ++ rest)) (reads x ∙ two.0) ∙ passed xs rest two.1

-- the test that finds a rule by its long name
abbrev by_long : Word → Rule → Bool
by_long name a = not (is_some a.index) && has_long a name

module _ (values flags : List Word) (name : Word) where
  pub long_value : is_one_of values name ≡ true → arg_by_long (told values flags) name ≡ Some (told_value name)
  long_value h = found told_value (by_long name) name (λ x. or_false (bytes_eq x name)) values (map told_flag flags) h

  pub id_value : is_one_of values name ≡ true → arg_by_id (told values flags) name ≡ Some (told_value name)
  id_value h = found told_value (λ a. bytes_eq a.id name) name (λ x. refl) values (map told_flag flags) h

  pub long_flag : is_one_of values name ≡ false → is_one_of flags name ≡ true → arg_by_long (told values flags) name ≡ Some (told_flag name)
  long_flag absent h =
      passed told_value (by_long name) name (λ x. or_false (bytes_eq x name)) values (map told_flag flags) absent
      ∙ ap (λ (rs : List Rule). arg_by_long rs name) (sym (append-nil (map told_flag flags)))
      ∙ found told_flag (by_long name) name (λ x. or_false (bytes_eq x name)) flags [] h

-- a test of all names, at one of them
pub passes_named : (p : Word → Bool) (xs : List Word) (name : Word) → list_all p xs ≡ true → is_one_of xs name ≡ true → p name ≡ true
passes_named p [] name all h = cc
passes_named p (x ∷ xs) name all h = by (bytes_eq x name) refl h (both (p x) (list_all p xs) all) (passes_named p xs name)
  where
    by : (b : Bool) → bytes_eq x name ≡ b → (b || is_one_of xs name) ≡ true → (p x ≡ true) × (list_all p xs ≡ true) → (list_all p xs ≡ true → is_one_of xs name ≡ true → p name ≡ true) → p name ≡ true
    by true e h two more = subst (λ (w : Word). p w ≡ true) ((bytes_eq-Decides x name).0 e) two.0
    by false e h two more = more two.1 h

-- a word with hyphens is one of some names
pub undashed : (xs : List Word) (w : Word) → is_one_of (map dashed xs) w ≡ true → (name : Word) × (w ≡ dashed name) × (is_one_of xs name ≡ true)
undashed [] w h = cc
undashed (x ∷ xs) w h = by (bytes_eq (dashed x) w) refl h (undashed xs w)
  where
    by : (b : Bool) → bytes_eq (dashed x) w ≡ b → (b || is_one_of (map dashed xs) w) ≡ true
        → (is_one_of (map dashed xs) w ≡ true → (name : Word) × (w ≡ dashed name) × (is_one_of xs name ≡ true))
        → (name : Word) × (w ≡ dashed name) × (is_one_of (x ∷ xs) name ≡ true)
    by true e h more = (x, sym ((bytes_eq-Decides (dashed x) w).0 e), ap (λ (t : Bool). t || is_one_of xs x) (same_word x))
    by false e h more =
        let r = more h in
        (r.0, r.1, ap (λ (t : Bool). bytes_eq x r.0 || t) r.2 ∙ or_true (bytes_eq x r.0))

pub dashed_same : (xs : List Word) (name : Word) → is_one_of (map dashed xs) (dashed name) ≡ is_one_of xs name
dashed_same [] name = refl
dashed_same (x ∷ xs) name = ap (λ (t : Bool). bytes_eq x name || t) (dashed_same xs name)

-- a test of all rules
module _ (f g : Word → Rule) (p : Rule → Bool) (value : (x : Word) → p (f x) ≡ true) (flag : (x : Word) → p (g x) ≡ true) where
  last_pass : (ys : List Word) → list_all p (map g ys) ≡ true
  last_pass [] = refl
  last_pass (y ∷ ys) = ap (λ (b : Bool). b && list_all p (map g ys)) (flag y) ∙ last_pass ys

  pub all_pass : (xs ys : List Word) → list_all p (map f xs ++ map g ys) ≡ true
  all_pass [] ys = last_pass ys
  all_pass (x ∷ xs) ys = ap (λ (b : Bool). b && list_all p (map f xs ++ map g ys)) (value x) ∙ all_pass xs ys

module _ (f g : Word → Rule) (p : Rule → Bool) (value : (x : Word) → p (f x) ≡ false) (flag : (x : Word) → p (g x) ≡ false) where
  last_fail : (ys : List Word) → list_any p (map g ys) ≡ false
  last_fail [] = refl
  last_fail (y ∷ ys) = ap (λ (b : Bool). b || list_any p (map g ys)) (flag y) ∙ last_fail ys

  pub all_fail : (xs ys : List Word) → list_any p (map f xs ++ map g ys) ≡ false
  all_fail [] ys = last_fail ys
  all_fail (x ∷ xs) ys = ap (λ (b : Bool). b || list_any p (map f xs ++ map g ys)) (value x) ∙ all_fail xs ys
