-- The rows that clap holds for settings.
use Rattle.std.proofs.Common.{◌≡◌, ◌∙◌, Bool, false, cond, ◌||◌, List, [], ◌∷◌, ◌++◌, map, drop, Option, Some, None, is_some, codes, refl, sym, ap, ap₂, append-nil, bytes_eq}
use Rattle.clap.specs.Walk.{Row, at_row, has_row, more_values, with_values, without}
use Rattle.clap.specs.declared.builder.value_parser.Reading.TheVariants.{AsWritten}
use Rattle.clap.specs.declared.parser.matches.ValueSource.{ValueSource}
use Rattle.clap.specs.declared.parser.matches.ValueSource.TheVariants.{CommandLine}
use Rattle.command_model.specs.Options.{Word, Setting, is_one_of, is_set}
use Rattle.clap_words.specs.Told.{dashed}
use Rattle.clap_words.proofs.Lookups.{or_parts}

-- the row of an option
abbrev pub row_from : ValueSource → Word → List Word → Row
row_from source name values =
    record { id = name; values = values; count = None; source = Some source; reading = AsWritten }

-- the values that clap holds for one
abbrev pub given_values : Option Word → List Word
given_values (Some v) = v ∷ []
given_values None = codes "true" ∷ []

abbrev pub row_of_setting : Setting → Row
row_of_setting s = row_from CommandLine (drop 2 s.name) (given_values s.value)

-- a row that isn't there comes last
at_none : (name : Word) (change : Row → List Row) (missing rows : List Row) → has_row name rows ≡ false → at_row name change missing rows ≡ rows ++ missing
at_none name change missing [] none = refl
at_none name change missing (r ∷ rs) none =
    let two = or_parts (bytes_eq r.id name) (has_row name rs) none in
    ap (λ (b : Bool). cond b (change r ++ rs) (r ∷ at_row name change missing rs)) two.0
    ∙ ap (λ (l : List Row). r ∷ l) (at_none name change missing rs two.1)

pub adds : (source : ValueSource) (name : Word) (values : List Word) (rows : List Row) → has_row name rows ≡ false
    → with_values name AsWritten source values rows ≡ rows ++ row_from source name values ∷ []
adds source name values rows none = at_none name (more_values source values) (row_from source name values ∷ []) rows none

pub used_adds : (name : Word) (values : List Word) (rows : List Row) → has_row name rows ≡ false
    → with_values name AsWritten CommandLine values (without name rows) ≡ rows ++ row_from CommandLine name values ∷ []
used_adds name values rows none =
    ap (with_values name AsWritten CommandLine values) (at_none name (λ _. []) [] rows none ∙ append-nil rows)
    ∙ adds CommandLine name values rows none

-- a setting's name has hyphens, and it has a value where its option has one
abbrev pub IsRight : List Word → Setting → Type 0
IsRight values s = (name : Word) × (s.name ≡ dashed name) × (is_some s.value ≡ is_one_of values name)

abbrev pub AllRight : List Word → List Setting → Type 0
AllRight values [] = Unit {0}
AllRight values (s ∷ ss) = IsRight values s × AllRight values ss

pub right_push : (values : List Word) (ss : List Setting) (s : Setting) → AllRight values ss → IsRight values s → AllRight values (ss ++ s ∷ [])
right_push values [] s all one = (one, tt)
right_push values (x ∷ xs) s all one = (all.0, right_push values xs s all.1 one)

pub rows_push : (ss : List Setting) (s : Setting) → map row_of_setting (ss ++ s ∷ []) ≡ map row_of_setting ss ++ row_of_setting s ∷ []
rows_push [] s = refl
rows_push (x ∷ xs) s = ap (λ (l : List Row). row_of_setting x ∷ l) (rows_push xs s)

-- a name is the same with hyphens and without
pub same_name : (w n name : Word) → w ≡ dashed n → bytes_eq (drop 2 w) name ≡ bytes_eq w (dashed name)
same_name w n name e = ap (λ (v : Word). bytes_eq (drop 2 v) name) e ∙ sym (ap (λ (v : Word). bytes_eq v (dashed name)) e)

pub row_is_set : (values : List Word) (name : Word) (ss : List Setting) → AllRight values ss → has_row name (map row_of_setting ss) ≡ is_set (dashed name) ss
row_is_set values name [] all = refl
row_is_set values name (s ∷ ss) all = ap₂ ◌||◌ (same_name s.name all.0.0 name all.0.1) (row_is_set values name ss all.1)
