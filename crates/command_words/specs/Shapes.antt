-- Commands and their options as the code has them.
use Rattle.std.specs.Prelude.{ℕ, List, [], ◌∷◌}
use denote.Ref.{Bor}
use Rattle.command_model.specs.Options as options
use Rattle.command_model.specs.CommandLine as line
use Rattle.command_words.specs.declared.shapes.Verb.{Verb}
use Rattle.command_words.specs.declared.shapes.Verb.TheVariants.{MakeImage, MakeFs, ListFiles, ShowSpace, Dump, ShowInfo, Backup, Restore, LinkFile, RenameFile, DeleteFile}
use Rattle.command_words.specs.declared.shapes.Shape.{Shape}

-- a command by its first word
abbrev pub verb_meant : Verb → line.Verb
verb_meant MakeImage = line.Mkimage
verb_meant MakeFs = line.Mkfs
verb_meant ListFiles = line.List_
verb_meant ShowSpace = line.Df
verb_meant Dump = line.Dump_
verb_meant ShowInfo = line.Info
verb_meant Backup = line.Backup_
verb_meant Restore = line.Restore_
verb_meant LinkFile = line.Link_
verb_meant RenameFile = line.Rename_
verb_meant DeleteFile = line.Delete_

-- words that are borrowed
abbrev pub words_meant : List (Bor (List ℕ)) → List options.Word
words_meant [] = []
words_meant (w ∷ ws) = w.now ∷ words_meant ws

-- the options of a command
abbrev pub shape_meant : Shape → options.Shape
shape_meant s = record { required = words_meant s.required.now; optional = words_meant s.optional.now; flags = words_meant s.flags.now }
