-- One more name of a file.
use Rattle.std.proofs.Common.{◌≡◌, ℕ, ◌+◌, ◌^◌, ◌<◌, ◌≤◌, List, [], ◌∷◌, ◌++◌, Option, Some, None, length, refl, sym, ◌∙◌, ap, subst, arith}
use Rattle.std.specs.Prelude.{IsTrue}
use Rattle.std.specs.Option.{ForSome, IsSome}
use Rattle.record_model.specs.Encoding.{payload_of}
use Rattle.record_model.specs.Name.{is_name}
use Rattle.record_model.specs.declared.types.Record.{Record}
use Rattle.log_model.specs.FileTree.Change.{Link}
use Rattle.log_model.specs.Headroom.{blocks_of_record}
use Rattle.fs_model.specs.FsState.{FsState, TableRow, row_named}
use Rattle.fs_model.specs.TreeSteps.{entry_update, link, with_names}
use Rattle.change_records.specs.Recorded.{AreValid}
use Rattle.change_records.proofs.RenameRecords.{link_is_recorded}
use Rattle.change_records.proofs.PinnedRows.{names_add_no_extent}
use Rattle.change_records.proofs.TreesAfter.{link_changes_tree}
use Rattle.change_records.proofs.Writable.{link_stays_writable}
use Rattle.change_steps.specs.NameChanges.{link_demand}
use Rattle.change_steps.specs.Recording.{after_record}
use Rattle.change_steps.proofs.NameLaws.{link_asks}
use Rattle.change_cover.specs.Rests.{AreShown}
use Rattle.change_cover.specs.Stored.{IsChange}
use Rattle.change_cover.proofs.PointLaws.{names_set_no_point}
use Rattle.extent_map.specs.Naming.{linked_rows}
use Rattle.extent_map.specs.Records.{snapshot_len}
use Rattle.fs_tables.specs.MountedTables.{IsSoundState}
use Rattle.fs_core.specs.FsValue.{CanWrite}
use Rattle.fs_core.specs.NameCalls.{MayLink}
use Rattle.fs_core.specs.Storing.{new_log_blocks}
use Rattle.fs_core.proofs.AskedChanges.{IsAsked, files_behind}
use Rattle.fs_core.proofs.ChangeRoom.{HasChangeRoom, granted_room, short_len, short_snapshot}

-- the update with one more name
abbrev pub link_update : TableRow → List ℕ → Record
link_update r new = entry_update (with_names (r.entry.names ++ new ∷ []) r).entry

-- it is the record of a change of names
links : (s : FsState) (r : TableRow) (old new : List ℕ) → IsSoundState s → CanWrite s → row_named old s.rows ≡ Some r → row_named new s.rows ≡ None → IsTrue (is_name new)
    → blocks_of_record s.geometry.block (link_update r new) ≤ s.geometry.capacity → IsChange s (Link old new) (link_update r new) (linked_rows new r s.rows)
links s r old new is can found free named fits =
    let valid : AreValid s.rows = record { table = is.table; sized = is.sized } in
    let makes = link_is_recorded s.rows r old new valid found free in
    record {
      makes = makes;
      adds = names_add_no_extent s.rows r.entry.id (r.entry.names ++ new ∷ []);
      names = record { changed = link_changes_tree s.rows r old new valid found free; valid = makes.valid; bytes = refl; points = names_set_no_point s.rows r.entry.id (r.entry.names ++ new ∷ []) can.points };
      spelled = (link_stays_writable s.rows r old new is.sound.writable found free named).spelled;
      short = short_len s.geometry (length (payload_of (link_update r new))) is.sound.valid fits;
      goes_on = refl;
    }

-- its room
pub link_room : (s : FsState) (old new : List ℕ) → IsSoundState s → (may : MayLink s old new) → HasChangeRoom s (blocks_of_record s.geometry.block (link_update may.row new)) (linked_rows new may.row s.rows)
link_room s old new is may = granted_room s (blocks_of_record s.geometry.block (link_update may.row new)) (linked_rows new may.row s.rows) is.sound.settled may.granted.room

-- where it may be made, it is made by its record
pub link_asked : (s : FsState) (old new : List ℕ) → IsSoundState s → CanWrite s → (may : MayLink s old new)
    → IsAsked (link old new) tt s (link_demand s may.row new) (Link old new) (link_update may.row new)
link_asked s old new is can may =
    let room = link_room s old new is may in
    record {
      asks = link_asks s old new may.row may.found may.free;
      granted = may.granted;
      change = links s may.row old new is can may.found may.free may.named (omega (arith, room.log));
      blocks = refl;
      log = room.log;
    }

-- there is room for its record behind a snapshot
pub link_fits_zone : (s : FsState) (old new : List ℕ) (r : Record) → IsSoundState s → (may : MayLink s old new) → ForSome (row_named old s.rows) (λ q. r ≡ link_update q new)
    → new_log_blocks s + blocks_of_record s.geometry.block r < s.geometry.capacity
link_fits_zone s old new r is may made =
    let count = ap (blocks_of_record s.geometry.block) (made may.row may.found) in
    let room = link_room s old new is may in
    omega (arith, count, room.log)

-- the rows after it, once they are there
pub rows_linked : (s s1 s2 : FsState) (old new : List ℕ) (blocks : ℕ) (may : MayLink s old new) → s1 ≡ after_record blocks s
    → ForSome (row_named old s1.rows) (λ r. s2 ≡ record s1 { rows = linked_rows new r s1.rows })
    → s2 ≡ record s1 { rows = linked_rows new may.row s.rows; greatest = s.greatest }
rows_linked s s1 s2 old new blocks may first second =
    let kept = files_behind s s1 blocks first in
    second may.row (ap (λ (rows : List TableRow). row_named old rows) kept.rows ∙ may.found)
    ∙ ap (λ (rows : List TableRow). record s1 { rows = linked_rows new may.row rows }) kept.rows ∙ ap (λ n. record s1 { rows = linked_rows new may.row s.rows; greatest = n }) kept.greatest

-- the file is there still
pub link_still_there : (s s1 : FsState) (old new : List ℕ) (blocks : ℕ) (may : MayLink s old new) → s1 ≡ after_record blocks s → IsSome (row_named old s1.rows)
link_still_there s s1 old new blocks may first =
    subst (λ (o : Option TableRow). IsSome o) (sym (ap (λ (rows : List TableRow). row_named old rows) (files_behind s s1 blocks first).rows ∙ may.found)) refl

-- the room that was made for it is there still
pub link_still_reserved : (s s1 : FsState) (old : List ℕ) (blocks : ℕ) (reserved there : Option ℕ) → s1 ≡ after_record blocks s → there ≡ reserved
    → ForSome (row_named old s.rows) (λ r. reserved ≡ Some r.entry.id) → ForSome (row_named old s1.rows) (λ r. there ≡ Some r.entry.id)
link_still_reserved s s1 old blocks reserved there first same h =
    subst (λ (rows : List TableRow). ForSome (row_named old rows) (λ r. there ≡ Some r.entry.id)) (sym (files_behind s s1 blocks first).rows) (λ r is. same ∙ h r is)

-- no file has the new name still
pub link_still_free : (s s1 : FsState) (old new : List ℕ) (blocks : ℕ) (may : MayLink s old new) → s1 ≡ after_record blocks s → row_named new s1.rows ≡ None
link_still_free s s1 old new blocks may first = ap (λ (rows : List TableRow). row_named new rows) (files_behind s s1 blocks first).rows ∙ may.free

-- the same row
same_row : (q r : TableRow) (o : Option TableRow) → o ≡ Some r → o ≡ Some q → r ≡ q
same_row q r o here there = cc

-- the snapshot after it is short
pub link_is_short : (s s1 : FsState) (old new : List ℕ) (blocks : ℕ) → IsSoundState s → (may : MayLink s old new) → s1 ≡ after_record blocks s
    → ForSome (row_named old s1.rows) (λ r. snapshot_len (linked_rows new r s1.rows) < 2 ^ 62)
link_is_short s s1 old new blocks is may first =
    subst (λ (rows : List TableRow). ForSome (row_named old rows) (λ r. snapshot_len (linked_rows new r rows) < 2 ^ 62)) (sym (files_behind s s1 blocks first).rows)
    (λ r there. subst (λ (q : TableRow). snapshot_len (linked_rows new q s.rows) < 2 ^ 62) (same_row r may.row (row_named old s.rows) may.found there)
    (short_snapshot s (linked_rows new may.row s.rows) is.sound.valid (link_room s old new is may).table))

-- the rows after it are shown
pub linked_shown : (s s1 s2 : FsState) (old new : List ℕ) (may : MayLink s old new) → s2 ≡ record s1 { rows = linked_rows new may.row s.rows; greatest = s.greatest } → AreShown s2.rows
    → AreShown (linked_rows new may.row s.rows)
linked_shown s s1 s2 old new may second shown = subst (λ rows. AreShown rows) (ap (λ (u : FsState). u.rows) second) shown
