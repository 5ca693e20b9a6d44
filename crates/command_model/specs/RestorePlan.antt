-- What a restore is refused with before it mounts for writing.
use Rattle.std.specs.Prelude.{not, ℕ, List, ◌∷◌, map, filter, Option, Some, None, is_some, Result, Ok, Err}
use Rattle.record_model.specs.Name.{is_name}
use Rattle.log_model.specs.FileTree.{Tree, id_of}
use Rattle.command_model.specs.TreeCommands.{RestoreFile}
use Rattle.command_model.specs.Backup.{HostEntry, is_hints, with_prefix, first_path, files_to_restore}
use Rattle.command_model.specs.RefusalTexts.{Cause}
use Rattle.command_model.specs.RefusalTexts.Cause.{BadName, BadHints, NameExists}

-- the names that a restore would make, in the order of the listing
abbrev pub names_to_restore : Option (List ℕ) → List HostEntry → List (List ℕ)
names_to_restore prefix es = map (λ e. with_prefix prefix e.path) (filter (λ e. not (is_hints e)) es)

-- these names after the prefix, if there is one
abbrev pub after_prefix : Option (List ℕ) → List (List ℕ) → List (List ℕ)
after_prefix None names = names
after_prefix (Some prefix) names = prefix ∷ names

-- the first that isn't a name: the prefix, or what a file would be called
abbrev pub bad_name_in : Option (List ℕ) → List HostEntry → Option (List ℕ)
bad_name_in prefix es = first_path (λ name. not (is_name name)) (after_prefix prefix (names_to_restore prefix es))

-- the first file that is there already
abbrev pub existing_name : Tree → Option (List ℕ) → List HostEntry → Option (List ℕ)
existing_name tree prefix es = first_path (λ name. is_some (id_of name tree)) (names_to_restore prefix es)

-- refused for a file that is there already, and else the files to restore
abbrev pub or_existing : Option (List ℕ) → List RestoreFile → Result (List RestoreFile) Cause
or_existing None files = Ok files
or_existing (Some name) files = Err (NameExists name)

-- the hints file is judged before
abbrev pub or_hints : Result (List RestoreFile) ℕ → Option (List ℕ) → Result (List RestoreFile) Cause
or_hints (Err line) there = Err (BadHints line)
or_hints (Ok files) there = or_existing there files

-- names are judged before that
abbrev pub or_bad_name : Option (List ℕ) → Result (List RestoreFile) Cause → Result (List RestoreFile) Cause
or_bad_name None other = other
or_bad_name (Some name) other = Err (BadName name)

-- the files that a restore makes in this tree, or its first refusal: names, then the hints file, then files that are there
unfoldable pub restore_plan : Tree → Option (List ℕ) → List HostEntry → Result (List RestoreFile) Cause
restore_plan tree prefix es =
    or_bad_name (bad_name_in prefix es) (or_hints (files_to_restore es prefix) (existing_name tree prefix es))
