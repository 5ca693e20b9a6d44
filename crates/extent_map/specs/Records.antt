-- The records of a table's files.
use Rattle.std.specs.Prelude.{ℕ, List, [], ◌∷◌, length, map, max}
use Rattle.record_model.specs.Encoding.{payload_of}
use Rattle.record_model.specs.declared.types.Record.{Record}
use Rattle.record_model.specs.declared.types.Record.TheVariants.{Snapshot, Update}
use Rattle.log_model.specs.FileTable.{Table}
use Rattle.fs_model.specs.FsState.{TableRow, working_entry, working_of}

-- the table as it is recorded
abbrev pub recorded_of : List TableRow → Table
recorded_of rows = map (λ r. r.entry) rows

-- the record with which what isn't recorded of a file is recorded
abbrev pub update_of : TableRow → Record
update_of r = Update (record (working_entry r) { extents = r.unrecorded })

-- the length of a table's snapshot
abbrev pub snapshot_len : List TableRow → ℕ
snapshot_len rows = length (payload_of (Snapshot (working_of rows)))

-- the length of the longest update that has a whole entry
abbrev pub greatest_len : Table → ℕ
greatest_len [] = 0
greatest_len (e ∷ es) = max (length (payload_of (Update e))) (greatest_len es)
