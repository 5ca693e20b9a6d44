-- The layout of a restored store, computed: files of short and of long lives.
use Rattle.std.specs.Prelude.{◌≡◌, ℕ, zero, suc, ◌+◌, ◌%◌, true, false, List, [], ◌∷◌, ◌++◌, map, codes, refl}
use Rattle.command_model.specs.Opened.{laying_out}
use Rattle.zone_image.specs.declared.Geometry.{Geometry}
use Rattle.fs_model.specs.FsState.{FsState, descriptor_at}
use Rattle.command_model.specs.TreeCommands.{planned_layout, TreeCommand, RestoreFile}
use Rattle.fs_model.specs.StepExamples.{g, formatted_on, locked}

-- a device with as many active zones as the store needs
abbrev shape : Geometry
shape = record g { active_limit = 14 }

-- a table file: its number in the name, its hint by turns
abbrev table_file : ℕ → RestoreFile
table_file k = record { name = codes "db/0" ++ (64 + k) ∷ []; hint = 2 + k % 4; sparse = false; bytes = k ∷ [] }

-- so many of them
abbrev table_files : ℕ → ℕ → List RestoreFile
table_files zero k = []
table_files (suc n) k = table_file k ∷ table_files n (k + 1)

-- the store: tables, two sparse logs of short life, and two files without a hint
abbrev store : List RestoreFile
store = table_files 20 1
    ++ (record { name = codes "db/1"; hint = 2; sparse = true; bytes = 1 ∷ 2 ∷ 3 ∷ [] })
    ∷ (record { name = codes "db/2"; hint = 2; sparse = true; bytes = 4 ∷ [] })
    ∷ (record { name = codes "db/C"; hint = 0; sparse = false; bytes = 5 ∷ [] })
    ∷ (record { name = codes "db/M"; hint = 0; sparse = false; bytes = 6 ∷ [] }) ∷ []

-- the state in the end
abbrev laid_out : FsState
laid_out = (planned_layout (TreeCommand.RestoreFiles store) 7 (locked (formatted_on shape))).last.fs

-- the blocks of the data zones: lives of one length stand together
store_zones : map (λ n. (descriptor_at laid_out n).info.written) (3 ∷ 4 ∷ 5 ∷ 6 ∷ 7 ∷ 8 ∷ 9 ∷ 10 ∷ 11 ∷ []) ≡ 8 ∷ 5 ∷ 5 ∷ 1 ∷ 1 ∷ 1 ∷ 1 ∷ 2 ∷ 0 ∷ []
unfolding laying_out
store_zones = refl
