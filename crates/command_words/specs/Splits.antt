-- A word of an option and its value.
use Rattle.std.specs.Prelude.{◌≡◌, List, [], ◌∷◌, Option, Some, None, if◌then◌else◌}
use Rattle.command_model.specs.Options.{Word, Setting, Shape, ◌>>=◌, before_equals, after_equals, some_value, own_value, takes_value, one_word, setting}

-- a word is cut at its first equals sign
pub record IsCut (word before after : Word) : Type 0 where
  pub front : before_equals word ≡ before
  pub rest : after_equals word ≡ Some after

-- an option with a value of at least one byte
abbrev pub setting_with : Shape → Word → Word → Option Setting
setting_with shape name value = some_value value >>= (λ v. setting shape name v)

-- an option and the words behind it
pub record First : Type 0 where
  pub setting : Setting
  pub rest : List Word

abbrev pub first_with : List Word → Setting → Option First
first_with rest s = Some (record { setting = s; rest = rest })

-- the first option of some words
abbrev pub first_setting : Shape → List Word → Option First
first_setting shape [] = None
first_setting shape (w ∷ []) = one_word shape w >>= first_with []
first_setting shape (w ∷ v ∷ ws) =
    if takes_value shape w
    then own_value v >>= (λ value. first_with ws (record { name = w; value = Some value }))
    else one_word shape w >>= first_with (v ∷ ws)
