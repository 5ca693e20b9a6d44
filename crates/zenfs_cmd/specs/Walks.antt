-- A walk over the files of a table by rising id.
use Rattle.std.specs.Prelude.{ℕ, ◌-◌, ◌^◌, ◌<◌, List, [], ◌∷◌, Option, Some, None, nat_lt, if◌then◌else◌}
use Rattle.std.specs.List.{AllByRecursion}
use Rattle.record_model.specs.declared.types.FileEntry.{FileEntry}
use Rattle.log_model.specs.FileTable.{Table}

-- each id is one that a file can have
abbrev pub HaveIds : Table → Type 0
HaveIds es = AllByRecursion (λ e. e.id < 2 ^ 64 - 1) es

-- the files behind those with lower ids
abbrev pub rest_from : ℕ → Table → Table
rest_from from [] = []
rest_from from (e ∷ es) = if nat_lt e.id from then rest_from from es else e ∷ es

-- the first file of a table
abbrev pub head_of : Table → Option FileEntry
head_of [] = None
head_of (e ∷ es) = Some e

-- the first file that hasn't a lower id
abbrev pub first_from : ℕ → Table → Option FileEntry
first_from from es = head_of (rest_from from es)
