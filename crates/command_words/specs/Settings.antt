-- Options as the code keeps them.
use Rattle.std.specs.Prelude.{List, [], ◌∷◌, ◌++◌}
use Rattle.std.specs.Option.{option_copied}
use Rattle.command_model.specs.Options as options
use Rattle.command_words.specs.declared.settings.Setting.{Setting}
use Rattle.command_words.specs.declared.settings.Settings.{Settings, Empty, After'}

-- an option
abbrev pub setting_of : Setting → options.Setting
setting_of s = record { name = s.name.now; value = option_copied s.value }

-- the options, the first one first
abbrev pub settings_in : Settings → List options.Setting
settings_in Empty = []
settings_in (After' p before s) = settings_in before ++ setting_of s ∷ []
