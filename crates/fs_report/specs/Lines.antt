-- The lines of the list of names.
use Rattle.std.specs.Prelude.{ℕ, List, [], ◌∷◌, ◌++◌, Option, Some, None, nat_eq, if◌then◌else◌}
use Rattle.std.specs.List.{starts_with}
use Rattle.fs_report.specs.declared.listing.Line.{Line}
use Rattle.command_model.specs.ReportTexts.{Listed, list_line}

-- a line as the definition of the list has it
abbrev pub listed_of : Line → Listed
listed_of l = record { name = l.name.now; size = l.size; time = l.time }

-- what the names begin with that are listed
abbrev pub folder_of : Option (List ℕ) → List ℕ
folder_of None = []
folder_of (Some prefix) = prefix ++ 47 ∷ []

-- the text of a name that begins so, and no text of another
abbrev pub listed_text : List ℕ → Listed → List ℕ
listed_text folder l = if starts_with nat_eq l.name folder then list_line l else []
