-- What records make of a table, computed.
use Rattle.std.specs.Prelude.{◌≡◌, ℕ, ◌+◌, List, [], ◌∷◌, codes, Ok, Err, refl}
use Rattle.record_model.specs.Encoding.{payload_of}
use Rattle.record_model.specs.declared.types.Extent.{Extent}
use Rattle.record_model.specs.declared.types.Record.{Record}
use Rattle.record_model.specs.declared.types.Record.TheVariants.{Snapshot, Update, Deletion, End, Replace}
use Rattle.log_model.specs.FileTable.{replay_log}
use Rattle.log_model.specs.declared.selection.DamageWhy.TheVariants as why
use Rattle.log_model.specs.Opened.{replaying}
use Rattle.log_model.specs.ExampleImages.{file, file_over}

-- the payloads of records, a block each
abbrev payloads_from : ℕ → List Record → List (ℕ × List ℕ)
payloads_from at [] = []
payloads_from at (r ∷ rs) = (at, payload_of r) ∷ payloads_from (at + 1) rs

-- the payloads of a log whose snapshot stands in the third block
abbrev log_of : List Record → List (ℕ × List ℕ)
log_of records = payloads_from 2 records

-- short names
abbrev a : List ℕ
a = codes "a"

-- the second of them
abbrev b : List ℕ
b = codes "b"

-- four bytes of the first data zone from an offset on
abbrev four : ℕ → Extent
four offset = record { start = 24576 + offset; len = 4 }

-- a file, a second name, and the first one gone
linked_and_deleted : replay_log (log_of (Snapshot [] ∷ Update (file 1 (a ∷ [])) ∷ Update (file 1 (a ∷ b ∷ [])) ∷ Deletion 1 a ∷ [])) ≡ Ok (file 1 (b ∷ []) ∷ [])
unfolding replaying
linked_and_deleted = refl

-- a file whose last name goes is gone
last_name_deleted : replay_log (log_of (Snapshot (file 1 (a ∷ []) ∷ file 2 (b ∷ []) ∷ []) ∷ Deletion 1 a ∷ [])) ≡ Ok (file 2 (b ∷ []) ∷ [])
unfolding replaying
last_name_deleted = refl

-- an update takes its names from other files, and one that has none left is gone
name_taken : replay_log (log_of (Snapshot (file 1 (a ∷ []) ∷ file 2 (b ∷ []) ∷ []) ∷ Update (file 2 (a ∷ [])) ∷ [])) ≡ Ok (file 2 (a ∷ []) ∷ [])
unfolding replaying
name_taken = refl

-- an update adds its extents behind those of the file, and replaces all other fields
extents_added : replay_log (log_of (Snapshot (file_over 1 a 4 (four 0 ∷ []) ∷ []) ∷ Update (file_over 1 b 8 (four 512 ∷ [])) ∷ [])) ≡ Ok (file_over 1 b 8 (four 0 ∷ four 512 ∷ []) ∷ [])
unfolding replaying
extents_added = refl

-- a replacement puts its own extents in their place
extents_replaced : replay_log (log_of (Snapshot (file_over 1 a 4 (four 0 ∷ []) ∷ []) ∷ Replace (file_over 1 a 4 (four 512 ∷ [])) ∷ [])) ≡ Ok (file_over 1 a 4 (four 512 ∷ []) ∷ [])
unfolding replaying
extents_replaced = refl

-- a later snapshot replaces the table, and its entries come in any order
later_snapshot : replay_log (log_of (Snapshot (file 1 (a ∷ []) ∷ []) ∷ Snapshot (file 7 (a ∷ []) ∷ file 3 (b ∷ []) ∷ []) ∷ [])) ≡ Ok (file 3 (b ∷ []) ∷ file 7 (a ∷ []) ∷ [])
unfolding replaying
later_snapshot = refl

-- an end changes nothing
end_changes_nothing : replay_log (log_of (Snapshot (file 1 (a ∷ []) ∷ []) ∷ End ∷ [])) ≡ Ok (file 1 (a ∷ []) ∷ [])
unfolding replaying
end_changes_nothing = refl

-- nothing follows an end, not even another one
second_end : replay_log (log_of (Snapshot [] ∷ End ∷ End ∷ [])) ≡ Err (4, why.Rule 2)
unfolding replaying
second_end = refl

-- a replacement of an id that isn't there
unknown_replacement : replay_log (log_of (Snapshot [] ∷ Replace (file_over 7 a 1 []) ∷ [])) ≡ Err (3, why.Rule 3)
unfolding replaying
unknown_replacement = refl

-- an update states the size of the whole file, and not of what it adds
size_of_added_alone : replay_log (log_of (Snapshot (file_over 1 a 4 (four 0 ∷ []) ∷ []) ∷ Update (file_over 1 a 4 (four 512 ∷ [])) ∷ [])) ≡ Err (3, why.Rule 5)
unfolding replaying
size_of_added_alone = refl

-- a replacement states the size of its own extents
size_of_replacement : replay_log (log_of (Snapshot (file_over 1 a 4 (four 0 ∷ []) ∷ []) ∷ Replace (file_over 1 a 8 (four 512 ∷ [])) ∷ [])) ≡ Err (3, why.Rule 5)
unfolding replaying
size_of_replacement = refl

-- of several rules that a snapshot breaks the lowest is named
lowest_rule : replay_log (log_of (Snapshot (file_over 1 a 1 [] ∷ file 1 (a ∷ []) ∷ []) ∷ [])) ≡ Err (2, why.Rule 5)
unfolding replaying
lowest_rule = refl
