-- A command with its values, as the code has it.
use Rattle.std.specs.Prelude.{List, Option}
use Rattle.std.specs.Option.{option_copied}
use Rattle.std.specs.List.{list_all}
use Rattle.command_model.specs.Options.{Word, Setting, ◌>>=◌, only_if, is_set, settings_from}
use Rattle.command_model.specs.CommandLine as line
use Rattle.command_words.specs.declared.command.Command.{Command}
use Rattle.command_words.specs.declared.command.Command.TheVariants.{MakeImage, MakeFs, ListFiles, ShowSpace, Dump, ShowInfo, Backup, Restore, LinkFile, RenameFile, DeleteFile}

-- a command, by its values
abbrev pub command_meant : Command → line.Command
command_meant (MakeImage image geometry force) = line.Command.MakeImage image.now geometry force
command_meant (MakeFs image aux_path threshold collect force) = line.Command.MakeFs image.now aux_path.now threshold collect force
command_meant (ListFiles image prefix) = line.Command.ListFiles image.now (option_copied prefix)
command_meant (ShowSpace image) = line.Command.ShowSpace image.now
command_meant (Dump image) = line.Command.Dump image.now
command_meant (ShowInfo image) = line.Command.ShowInfo image.now
command_meant (Backup image directory prefix) = line.Command.Backup image.now directory.now (option_copied prefix)
command_meant (Restore image directory prefix) = line.Command.Restore image.now directory.now (option_copied prefix)
command_meant (LinkFile image source target) = line.Command.LinkFile image.now source.now target.now
command_meant (RenameFile image source target) = line.Command.RenameFile image.now source.now target.now
command_meant (DeleteFile image path) = line.Command.DeleteFile image.now path.now

-- the settings, where all that the command needs are there
abbrev pub complete : line.Verb → List Setting → Option (List Setting)
complete verb settings = only_if (list_all (λ n. is_set n settings) (line.shape_of verb).required) settings

-- the command of all settings
abbrev pub command_of_all : line.Verb → List Setting → Option line.Command
command_of_all verb settings = complete verb settings >>= line.command_with verb

-- the command of the words behind those whose settings were read
abbrev pub command_after : line.Verb → List Setting → List Word → Option line.Command
command_after verb seen ws = (settings_from (line.shape_of verb) seen ws >>= complete verb) >>= line.command_with verb
