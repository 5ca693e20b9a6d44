-- clap reads the words that are commands.
use Rattle.std.specs.Prelude.{◌≡◌, List, [], Some, true}
use Rattle.clap.specs.Simple.{matches_of}
use Rattle.clap.specs.Words.{takes}
use Rattle.command_model.specs.Options.{Word}
use Rattle.command_model.specs.CommandLine.{Command, Verb, command_with}
use Rattle.clap_words.specs.Found.{settings_found}
use Rattle.clap_words.specs.Told.{app_for}
use Rattle.command_words.specs.Commands.{command_after}

-- clap refuses no words of a command, and what it finds in them is that command
abbrev pub ReadsCommands : Type 0
ReadsCommands = (verb : Verb) (ws : List Word) (cmd : Command) → command_after verb [] ws ≡ Some cmd
    → (takes (app_for verb) ws ≡ true) × (command_with verb (settings_found (matches_of (app_for verb) ws)) ≡ Some cmd)
