-- The steps of changes of the tree, and of mounting for writing.
use Rattle.std.specs.Prelude.{ℕ, ◌+◌, ◌-◌, ◌^◌, Bool, List, [], ◌∷◌, ◌++◌, map, filter, Option, Some, None, is_some, ◌==◌, if◌then◌else◌, unwrap_or, option_map}
use Rattle.std.specs.List.{count_by}
use Rattle.record_model.specs.declared.types.FileEntry.{FileEntry}
use Rattle.record_model.specs.declared.types.Record.{Record}
use Rattle.record_model.specs.declared.types.Record.TheVariants as records
use Rattle.log_model.specs.FileTable.{is_named, names_left}
use Rattle.log_model.specs.FileTree.{renamed}
use Rattle.log_model.specs.Frames.{no_active}
use Rattle.log_model.specs.Headroom.{blocks_of_record, log_need}
use Rattle.fs_model.specs.declared.zones.ZoneState.{ZoneState}
use Rattle.fs_model.specs.declared.error.FsError.TheVariants.{NotFound, Exists, IdsEnd, SequenceEnd}
use Rattle.fs_model.specs.ZonePolicy.{data_zones, is_idle_active, least, room_of}
use Rattle.fs_model.specs.FsState.{FsState, TableRow, working, zone_states, row_of, row_named, on_row}
use Rattle.fs_model.specs.Trace.{done, refuse, step, ◌>>◌, from_state, refuse_if, when}
use Rattle.fs_model.specs.LogSteps.{FsAction, NoValue, finish_zone, set_rows, at_sequence_end, roll, add_record, refuse_sequence, block_of, rows_need, refuse_above, reset_dead_zones}

-- a change with its record: refused for want of a sequence or of room, and else recorded, shown, and tidied up
abbrev pub change_rows : FsState → Record → List TableRow → ℕ → FsAction NoValue
change_rows s r after greatest =
    refuse_sequence (blocks_of_record (block_of s) r)
    >> refuse_above s (rows_need s after (blocks_of_record (block_of s) r))
    >> add_record (blocks_of_record (block_of s) r)
    >> step (λ t. record t { rows = after; greatest = greatest })
    >> reset_dead_zones

-- the entry of a new file
abbrev pub new_entry : ℕ → List ℕ → ℕ → Bool → ℕ → FileEntry
new_entry id name hint sparse now = record {
  id = id;
  size = 0;
  hint = hint;
  time = now;
  active = no_active;
  sparse = sparse;
  extents = [];
  names = name ∷ [];
}

-- a new file
abbrev pub new_row : FileEntry → TableRow
new_row e = record { entry = e; unrecorded = []; shown = 0 }

-- a new file of this name and entry
abbrev pub create_entry : FsState → List ℕ → FileEntry → FsAction ℕ
create_entry s name e =
    refuse_if (is_some (row_named name s.rows)) Exists
    >> refuse_if (s.greatest == 2 ^ 64 - 2) IdsEnd
    >> change_rows s (records.Update e) (s.rows ++ new_row e ∷ []) e.id
    >> done e.id

-- makes a file, and answers its id
unfoldable pub create : List ℕ → ℕ → Bool → ℕ → FsAction ℕ
create name hint sparse now = from_state (λ s. create_entry s name (new_entry (s.greatest + 1) name hint sparse now))

-- the row with these names
abbrev pub with_names : List (List ℕ) → TableRow → TableRow
with_names names r = record r { entry = record (r.entry) { names = names } }

-- the record of a change without extents: the entry, with none of them
abbrev pub entry_update : FileEntry → Record
entry_update e = records.Update (record e { extents = [] })

-- takes a name away; a file that has none left is gone
abbrev pub drop_name : List ℕ → List TableRow → List TableRow
drop_name name rows =
    filter (λ r. is_named r.entry) (map (λ r. with_names (names_left (name ∷ []) r.entry.names) r) rows)

-- links a file, if there is one
abbrev pub link_to : FsState → Option TableRow → List ℕ → FsAction NoValue
link_to s None new = refuse NotFound
link_to s (Some r) new =
    refuse_if (is_some (row_named new s.rows)) Exists
    >> change_rows s (entry_update (with_names (r.entry.names ++ new ∷ []) r).entry)
    (on_row r.entry.id (with_names (r.entry.names ++ new ∷ [])) s.rows) s.greatest

-- gives a file one more name
unfoldable pub link : List ℕ → List ℕ → FsAction NoValue
link old new = from_state (λ s. link_to s (row_named old s.rows) new)

-- the rows after a rename, of which both names may be one file's
abbrev pub renamed_rows : TableRow → Option TableRow → List ℕ → List ℕ → List TableRow → List TableRow
renamed_rows r None old new rows = on_row r.entry.id (with_names (renamed old new r.entry.names)) rows
renamed_rows r (Some other) old new rows =
    if other.entry.id == r.entry.id then rows
    else on_row r.entry.id (with_names (renamed old new r.entry.names)) (drop_name new rows)

-- the entry of an id, or this one
abbrev pub entry_in : ℕ → List TableRow → FileEntry → FileEntry
entry_in id rows default = unwrap_or (option_map (λ r. r.entry) (row_of id rows)) default

-- a rename to these rows
abbrev pub rename_into : FsState → TableRow → List TableRow → FsAction NoValue
rename_into s r after = change_rows s (entry_update (entry_in r.entry.id after r.entry)) after s.greatest

-- renames a file, if there is one
abbrev pub rename_to : FsState → Option TableRow → List ℕ → List ℕ → FsAction NoValue
rename_to s None old new = refuse NotFound
rename_to s (Some r) old new = rename_into s r (renamed_rows r (row_named new s.rows) old new s.rows)

-- moves a name; it is taken from another file that has it
unfoldable pub rename : List ℕ → List ℕ → FsAction NoValue
rename old new = from_state (λ s. rename_to s (row_named old s.rows) old new)

-- a deletion whose record has so many blocks; it always has room
abbrev pub delete_by : ℕ → List ℕ → FsAction NoValue
delete_by blocks name = refuse_sequence blocks >> add_record blocks >> set_rows (drop_name name) >> reset_dead_zones

-- deletes a name of a file, if there is one
abbrev pub delete_row : FsState → Option TableRow → List ℕ → FsAction NoValue
delete_row s None name = refuse NotFound
delete_row s (Some r) name = delete_by (blocks_of_record (block_of s) (records.Deletion r.entry.id name)) name

-- takes a name away
unfoldable pub delete : List ℕ → FsAction NoValue
delete name = from_state (λ s. delete_row s (row_named name s.rows) name)

-- ---- mounting for writing

-- the row without a recovery point
abbrev pub cleared : TableRow → TableRow
cleared r = record r { entry = record (r.entry) { active = no_active } }

-- finishes a zone, if there is one
abbrev pub finish_one : Option (ℕ × ZoneState) → FsAction NoValue
finish_one None = done tt
finish_one (Some z) = finish_zone z.0

-- where all tokens are taken, the active zone with least room is finished
abbrev pub free_token : FsAction NoValue
free_token = from_state (λ s.
    when (count_by is_idle_active (data_zones (zone_states s)) == s.geometry.active_limit)
    (finish_one (least (λ z. room_of s.geometry.capacity z.1) (filter is_idle_active (data_zones (zone_states s))))))

-- mounts for writing
unfoldable pub mount_write : FsAction NoValue
mount_write = from_state (λ s.
    refuse_if (at_sequence_end s) SequenceEnd
    >> refuse_above s (log_need (block_of s) (working s))
    >> set_rows (map cleared)
    >> free_token
    >> roll
    >> reset_dead_zones)
