-- Records of two files, replayed, computed.
use Rattle.std.specs.Prelude.{◌≡◌, ℕ, false, List, [], ◌∷◌, codes, Ok, refl}
use Rattle.record_model.specs.declared.types.FileEntry.{FileEntry}
use Rattle.record_model.specs.declared.types.Record.TheVariants.{Deletion}
use Rattle.log_model.specs.FileTable.{after_record}
use Rattle.fs_model.specs.FsState.{TableRow}
use Rattle.fs_model.specs.TreeSteps.{new_entry, new_row, entry_update, entry_in}
use Rattle.change_records.specs.Recorded.{entries}
use Rattle.change_records.specs.NameRecords.{rows_renamed}

-- an entry of these names
abbrev file : ℕ → List (List ℕ) → FileEntry
file id names = record (new_entry id [] 0 false 7) { names = names }

-- a file of one name, and one of two
abbrev rows : List TableRow
rows = new_row (file 1 (codes "a" ∷ [])) ∷ new_row (file 2 (codes "b" ∷ codes "c" ∷ [])) ∷ []

-- the rows after the first file's name was changed to this one
abbrev renamed_to : List ℕ → List TableRow
renamed_to name = rows_renamed rows (new_row (file 1 (codes "a" ∷ []))) (codes "a") name

-- the name is taken from the other file
renamed_over : after_record (entry_update (entry_in 1 (renamed_to (codes "b")) (file 1 []))) (entries rows) ≡ Ok (file 1 (codes "b" ∷ []) ∷ file 2 (codes "c" ∷ []) ∷ [])
unfolding after_record
renamed_over = refl

-- a name that is its own changes nothing
renamed_same : after_record (entry_update (entry_in 1 (renamed_to (codes "a")) (file 1 []))) (entries rows) ≡ Ok (entries rows)
unfolding after_record
renamed_same = refl

-- a file without a name is gone
unlinked : after_record (Deletion 1 (codes "a")) (entries rows) ≡ Ok (file 2 (codes "b" ∷ codes "c" ∷ []) ∷ [])
unfolding after_record
unlinked = refl
