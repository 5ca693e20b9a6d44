-- The steps of files that are written, and of zones that are taken and given back.
use Rattle.std.specs.Prelude.{ℕ, ◌+◌, ◌*◌, Bool, not, ◌&&◌, List, [], ◌∷◌, ◌++◌, length, map, filter, Option, Some, None, nat_lt, ◌==◌, if◌then◌else◌}
use Rattle.std.specs.List.{list_any}
use Rattle.record_model.specs.declared.types.Extent.{Extent}
use Rattle.record_model.specs.declared.types.FileEntry.{FileEntry}
use Rattle.record_model.specs.declared.types.Record.{Record}
use Rattle.record_model.specs.declared.types.Record.TheVariants as records
use Rattle.log_model.specs.FileTable.{size_of}
use Rattle.log_model.specs.Frames.{no_active}
use Rattle.log_model.specs.Headroom.{blocks_of_record, log_need}
use Rattle.fs_model.specs.declared.zones.Move.{Move}
use Rattle.fs_model.specs.declared.zones.Owner.TheVariants.{Idle, Writer, Collector, Victim}
use Rattle.fs_model.specs.declared.policy.Choice.{Choice}
use Rattle.fs_model.specs.declared.policy.Choice.TheVariants as choices
use Rattle.fs_model.specs.declared.policy.Before.{Before}
use Rattle.fs_model.specs.declared.policy.Before.TheVariants as befores
use Rattle.fs_model.specs.declared.policy.Plan.{Plan}
use Rattle.fs_model.specs.declared.error.FsError.TheVariants.{Gone, InUse, SequenceEnd, NoSpace, Busy}
use Rattle.fs_model.specs.ZonePolicy.{choose_zone, is_idle_owner}
use Rattle.fs_model.specs.FsState.{FsState, TableRow, working_of, descriptor_at, zone_states, collects, room_in, next_address, row_of, on_row, working_entry}
use Rattle.fs_model.specs.Trace.{done, refuse, step, ◌>>=◌, ◌>>◌, from_state, refuse_if, when}
use Rattle.fs_model.specs.LogSteps.{FsAction, NoValue, finish_zone, reset_zone, set_owner, open_zone, set_row, at_sequence_end, must_roll, add_record, refuse_sequence, block_of, refuse_above, reset_dead_zones}
use Rattle.fs_model.specs.TreeSteps.{entry_update}

-- goes on with a row, or is refused where the file is gone
abbrev pub or_gone : {A : Type 0} → (TableRow → FsAction A) → Option TableRow → FsAction A
or_gone f None = refuse Gone
or_gone f (Some r) = f r

-- goes on with the row of a file
abbrev pub with_row : {A : Type 0} → ℕ → (TableRow → FsAction A) → FsAction A
with_row id f = from_state (λ s. or_gone f (row_of id s.rows))

-- a commit that shows more bytes sets the time
abbrev pub commit_time : ℕ → TableRow → ℕ
commit_time now r = if nat_lt r.shown (r.entry.size + size_of r.unrecorded) then now else r.entry.time

-- the entry that a commit records
abbrev pub committed_entry : ℕ → TableRow → FileEntry
committed_entry now r = record (working_entry r) { active = no_active; time = commit_time now r }

-- the row after a commit: all extents recorded, all bytes shown
abbrev pub committed : ℕ → TableRow → TableRow
committed now r = record { entry = committed_entry now r; unrecorded = []; shown = r.entry.size + size_of r.unrecorded }

-- the update of a commit has the new extents alone
abbrev pub commit_record : ℕ → TableRow → Record
commit_record now r = records.Update (record (committed_entry now r) { extents = r.unrecorded })

-- a commit whose record has so many blocks
abbrev pub commit_blocks : ℕ → ℕ → TableRow → FsAction NoValue
commit_blocks blocks now r =
    refuse_sequence blocks
    >> add_record blocks
    >> set_row r.entry.id (committed now)
    >> reset_dead_zones

-- records the extents that aren't recorded yet, and shows their bytes
unfoldable pub commit : ℕ → ℕ → FsAction NoValue
commit id now = with_row id (λ r. from_state (λ s. commit_blocks (blocks_of_record (block_of s) (commit_record now r)) now r))

-- opens a writer on a file
unfoldable pub mark_open : ℕ → FsAction NoValue
mark_open id = with_row id (λ r. from_state (λ s.
    refuse_if (list_any (λ w. w == id) s.writers) InUse
    >> step (λ t. record t { writers = id ∷ t.writers })))

-- closes the writer of a file
unfoldable pub mark_closed : ℕ → FsAction NoValue
mark_closed id = step (λ t. record t { writers = filter (λ w. not (w == id)) t.writers })

-- ---- zones of writers

-- opens the zone that was chosen for a file
abbrev pub take_chosen : ℕ → ℕ → Choice → FsAction ℕ
take_chosen id hint (choices.Take zone) = open_zone (Writer id) hint zone >> done zone
take_chosen id hint (choices.Fresh zone) = open_zone (Writer id) hint zone >> done zone
take_chosen id hint (choices.FinishFresh old zone) = finish_zone old >> open_zone (Writer id) hint zone >> done zone
take_chosen id hint choices.Busy = refuse Busy
take_chosen id hint choices.NoSpace = refuse NoSpace

-- the row with this recovery point
abbrev pub with_recovery_point : ℕ → TableRow → TableRow
with_recovery_point start r = record r { entry = record (r.entry) { active = start } }

-- the blocks of the record of a recovery point
abbrev pub recovery_point_blocks : FsState → TableRow → ℕ
recovery_point_blocks s r = blocks_of_record (block_of s) (entry_update r.entry)

-- a sparse file records where its frames begin
abbrev pub record_recovery_point : TableRow → ℕ → FsAction NoValue
record_recovery_point r zone = from_state (λ s.
    when r.entry.sparse (
    add_record (recovery_point_blocks s r)
    >> set_row r.entry.id (with_recovery_point (next_address s zone))))

-- a zone change of a sparse file may have to roll
abbrev pub refuse_recovery_point : FsState → TableRow → FsAction NoValue
refuse_recovery_point s r = refuse_if (r.entry.sparse && must_roll s (recovery_point_blocks s r) && at_sequence_end s) SequenceEnd

-- what a zone change is refused with before anything else
unfoldable pub recovery_point_fits : ℕ → FsAction NoValue
recovery_point_fits id = with_row id (λ r. from_state (λ s. refuse_recovery_point s r))

-- a zone for the writer of this file; a sparse file records its recovery point
abbrev pub take_for : ℕ → TableRow → FsState → FsAction ℕ
take_for id r s =
    refuse_recovery_point s r
    >> (take_chosen id r.entry.hint (choose_zone s.geometry (collects s) (zone_states s) r.entry.hint) >>= (λ zone.
    record_recovery_point r zone >> done zone))

-- a zone for a file's writer
unfoldable pub take_zone : ℕ → FsAction ℕ
take_zone id = with_row id (λ r. from_state (take_for id r))

-- the last of the extents made longer, or the new one after them
abbrev pub extents_with : List Extent → Extent → List Extent
extents_with [] x = x ∷ []
extents_with (y ∷ []) x = if y.start + y.len == x.start then (record y { len = y.len + x.len }) ∷ [] else y ∷ x ∷ []
extents_with (y ∷ z ∷ zs) x = y ∷ extents_with (z ∷ zs) x

-- the row with one more extent that isn't recorded
abbrev pub note : Extent → TableRow → TableRow
note x r = record r { unrecorded = extents_with r.unrecorded x }

-- what one more extent of the file needs
abbrev pub extent_need : FsState → ℕ → ℕ
extent_need s id = log_need (block_of s) (working_of (on_row id (λ r. record r { unrecorded = r.unrecorded ++ (record { start = 0; len = 1 }) ∷ [] }) s.rows))

-- whether one more extent of a file fits the log
unfoldable pub extent_fits : ℕ → FsAction NoValue
extent_fits id = with_row id (λ r. from_state (λ s. refuse_above s (extent_need s id)))

-- notes an extent of a file; a new one has to fit
unfoldable pub note_extent : ℕ → Extent → FsAction NoValue
note_extent id x = with_row id (λ r. from_state (λ s.
    when (nat_lt (length r.unrecorded) (length (extents_with r.unrecorded x))) (refuse_above s (extent_need s id))
    >> set_row id (note x)))

-- the row with all its bytes shown
abbrev pub shown_row : ℕ → TableRow → TableRow
shown_row now r = record { entry = record (r.entry) { time = now }; unrecorded = r.unrecorded; shown = r.entry.size + size_of r.unrecorded }

-- shows what a device sync made durable
unfoldable pub show : ℕ → ℕ → FsAction NoValue
show id now = set_row id (shown_row now)

-- at a close a zone with little room is finished
abbrev pub finish_short : ℕ → FsAction NoValue
finish_short zone = from_state (λ s.
    when (not (descriptor_at s zone).info.sealed && nat_lt (room_in s zone * 100) (s.log.superblock.finish_threshold * s.geometry.capacity)) (finish_zone zone))

-- a zone that a writer or the collector is done with
unfoldable pub give_back : ℕ → Bool → FsAction NoValue
give_back zone close = when close (finish_short zone) >> set_owner Idle zone

-- ---- zones of the collector

-- where an extent starts after these moves
abbrev pub moved_start : List Move → ℕ → ℕ
moved_start [] start = start
moved_start (m ∷ ms) start = if m.from == start then m.to else moved_start ms start

-- an extent after these moves
abbrev pub moved_extent : List Move → Extent → Extent
moved_extent ms x = record { start = moved_start ms x.start; len = x.len }

-- the row after these moves
abbrev pub moved : List Move → TableRow → TableRow
moved ms r = record r { entry = record (r.entry) { extents = map (moved_extent ms) r.entry.extents } }

-- a replacement whose record has so many blocks
abbrev pub replace_by : ℕ → ℕ → List Move → FsAction NoValue
replace_by blocks id ms = refuse_sequence blocks >> add_record blocks >> set_row id (moved ms)

-- records a file with its moved extents
unfoldable pub replace : ℕ → List Move → FsAction NoValue
replace id ms = with_row id (λ r. from_state (λ s. replace_by (blocks_of_record (block_of s) (records.Replace (moved ms r).entry)) id ms))

-- what is done first with the zone that the collector holds
abbrev pub release_previous : Before → FsAction NoValue
release_previous befores.Nothing = done tt
release_previous (befores.Finish own) = finish_zone own >> set_owner Idle own
release_previous (befores.Release own) = set_owner Idle own

-- a zone that the collector holds already isn't opened again, so it keeps its hint
abbrev pub open_destination : ℕ → ℕ → FsAction NoValue
open_destination hint zone = from_state (λ s. when (is_idle_owner (descriptor_at s zone).owner) (open_zone Collector hint zone))

-- pins a plan: the collector's zone is put aside, the destination opened, the victim marked
unfoldable pub hold : Plan → FsAction NoValue
hold p = release_previous p.before >> from_state (λ s.
    open_destination (descriptor_at s p.victim).hint p.dest >> set_owner Victim p.victim)

-- empties the victim, which nobody holds then
unfoldable pub reset_victim : ℕ → FsAction NoValue
reset_victim zone = reset_zone zone >> set_owner Idle zone
