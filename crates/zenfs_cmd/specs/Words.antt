-- The words that are a command that is built.
use Rattle.std.specs.Prelude.{⊤, Bool, true, false, List, Option, Some, IsTrue}
use Rattle.std.specs.Option.{option_copied}
use Rattle.log_model.specs.Format.{is_aux_path}
use Rattle.command_model.specs.Options.{Word, ◌>>=◌, only_if}
use Rattle.command_model.specs.CommandLine as line
use Rattle.command_model.specs.CommandLine.Command.{MakeImage, MakeFs, ListFiles, ShowSpace, Dump, ShowInfo, LinkFile, RenameFile, DeleteFile}
use Rattle.zenfs_cmd.specs.declared.words.Asked.{Asked}
use Rattle.zenfs_cmd.specs.declared.words.Asked.TheVariants as asked
use Rattle.zenfs_cmd.specs.declared.words.Built.{Built}
use Rattle.zenfs_cmd.specs.declared.words.Built.TheVariants as read

-- the command is built
abbrev pub is_built : line.Command → Bool
is_built (MakeImage at g over) = true
is_built (MakeFs at aux threshold collect over) = true
is_built (ListFiles at prefix) = true
is_built (ShowSpace at) = true
is_built (Dump at) = true
is_built (ShowInfo at) = true
is_built (LinkFile at old new) = true
is_built (RenameFile at old new) = true
is_built (DeleteFile at name) = true
is_built _ = false

-- a command, if it is built
abbrev pub if_built : line.Command → Option line.Command
if_built c = only_if (is_built c) c

-- the command of some words, if it is built
abbrev pub command_in : List Word → Option line.Command
command_in words = line.command words >>= if_built

-- the command with this change of names
abbrev pub command_asked : Word → Asked → line.Command
command_asked at (asked.Link source target) = LinkFile at source.now target.now
command_asked at (asked.Rename source target) = RenameFile at source.now target.now
command_asked at (asked.Delete path) = DeleteFile at path.now

-- what was read of the words
abbrev pub meaning_of : Built → line.Command
meaning_of (read.MakeImage image geometry force) = MakeImage image.now geometry force
meaning_of (read.MakeFs image options) = MakeFs image.now options.aux_path.now options.finish_threshold options.collect options.force
meaning_of (read.List image prefix) = ListFiles image.now (option_copied prefix)
meaning_of (read.Space image) = ShowSpace image.now
meaning_of (read.Dump image) = Dump image.now
meaning_of (read.Info image) = ShowInfo image.now
meaning_of (read.Change image change) = command_asked image.now change

-- the auxiliary path of a new file system keeps its rule
abbrev pub HasAuxPath : line.Command → Type 0
HasAuxPath (MakeFs at aux threshold collect over) = IsTrue (is_aux_path aux)
HasAuxPath _ = ⊤

-- the command makes an image or a file system
abbrev pub makes : Option line.Command → Bool
makes (Some (MakeImage at g over)) = true
makes (Some (MakeFs at aux threshold collect over)) = true
makes _ = false

-- the command makes an image
abbrev pub makes_image : Option line.Command → Bool
makes_image (Some (MakeImage at g over)) = true
makes_image _ = false

-- the command changes the image
abbrev pub changes : Option line.Command → Bool
changes (Some (LinkFile at old new)) = true
changes (Some (RenameFile at old new)) = true
changes (Some (DeleteFile at name)) = true
changes wanted = makes wanted
