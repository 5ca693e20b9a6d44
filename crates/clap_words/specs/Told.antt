-- What clap is told of a command's options.
use Rattle.std.specs.Prelude.{◌≡◌, List, [], ◌∷◌, ◌++◌, map, drop, Some, true, codes}
use Rattle.clap.specs.Words.{App, Rule, new_rule}
use Rattle.clap.specs.Simple.{new_shape}
use Rattle.clap.specs.declared.builder.action.ArgAction.TheVariants.{Set, SetTrue}
use Rattle.command_model.specs.Options.{Word, Shape}
use Rattle.command_model.specs.CommandLine.{Command, Verb, shape_of}
use Rattle.command_model.specs.CommandLine.Command.{MakeImage, MakeFs, ListFiles, ShowSpace, Dump, ShowInfo, Backup, Restore, LinkFile, RenameFile, DeleteFile}
use Rattle.command_model.specs.CommandLine.Verb.{Mkimage, Mkfs, List_, Df, Dump_, Info, Backup_, Restore_, Link_, Rename_, Delete_}
use Rattle.command_words.specs.Commands.{command_after}

-- an option's name with the two hyphens before it
abbrev pub dashed : Word → Word
dashed name = 45 ∷ 45 ∷ name

-- what the first word of a command stands for
abbrev pub verb_in : Command → Verb
verb_in (MakeImage at g over) = Mkimage
verb_in (MakeFs at aux threshold collect over) = Mkfs
verb_in (ListFiles at prefix) = List_
verb_in (ShowSpace at) = Df
verb_in (Dump at) = Dump_
verb_in (ShowInfo at) = Info
verb_in (Backup at dir prefix) = Backup_
verb_in (Restore at dir prefix) = Restore_
verb_in (LinkFile at old new) = Link_
verb_in (RenameFile at old new) = Rename_
verb_in (DeleteFile at name) = Delete_

-- the options of a command
abbrev pub shape_for : Command → Shape
shape_for cmd = shape_of (verb_in cmd)

-- the words are those behind the first one of this command
abbrev pub AreOptionsOf : Command → List Word → Type 0
AreOptionsOf cmd ws = command_after (verb_in cmd) [] ws ≡ Some cmd

-- an option that has a value
abbrev pub value_rule : Word → Rule
value_rule name = record (new_rule name) { long = Some name; action = Some Set }

-- an option that is a flag
abbrev pub flag_rule : Word → Rule
flag_rule name = record (new_rule name) { long = Some name; action = Some SetTrue }

-- options with values, and flags
abbrev pub rules_for : List Word → List Word → List Rule
rules_for values flags = map value_rule values ++ map flag_rule flags

-- a command with options and nothing else, whose words hold no program's name
abbrev pub app_with : List Rule → App
app_with rules = record {
  top = record (new_shape (codes "zenfs")) {
    rules = rules;
    no_binary_name = true;
    disable_help_flag = true;
    disable_version_flag = true;
  };
  subs = [];
}

-- names without their hyphens
abbrev pub bare_names : List Word → List Word
bare_names = map (drop 2)

-- what clap is told of a command
abbrev pub app_for : Verb → App
app_for verb = app_with (rules_for (bare_names ((shape_of verb).required ++ (shape_of verb).optional)) (bare_names (shape_of verb).flags))
