-- The command of a change whose names were read.
use Rattle.command_model.specs.CommandLine.{Command}
use Rattle.command_model.specs.CommandLine.Command.{ShowInfo, LinkFile, RenameFile, DeleteFile}
use Rattle.command_model.specs.Options.{Word}
use Rattle.fs_core.specs.declared.check.Change.{Change}
use Rattle.fs_core.specs.declared.check.Change.TheVariants.{Create, Link, Rename, Unlink}

-- the command with these names; for a new file, which no command makes, one that changes no name
abbrev pub command_named : Word → Change → Command
command_named at (Link old new) = LinkFile at old new
command_named at (Rename old new) = RenameFile at old new
command_named at (Unlink name) = DeleteFile at name
command_named at (Create name hint sparse) = ShowInfo at
