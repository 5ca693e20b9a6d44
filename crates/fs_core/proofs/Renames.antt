-- A name of a file in the place of another one.
use Rattle.std.proofs.Common.{◌≡◌, ℕ, ◌+◌, ◌^◌, ◌<◌, ◌≤◌, List, Option, Some, length, refl, sym, ◌∙◌, ap, subst, arith}
use Rattle.std.specs.Prelude.{IsTrue}
use Rattle.std.specs.Option.{ForSome, IsSome}
use Rattle.record_model.specs.Encoding.{payload_of}
use Rattle.record_model.specs.Name.{is_name}
use Rattle.record_model.specs.declared.types.Record.{Record}
use Rattle.log_model.specs.FileTree.Change.{Rename}
use Rattle.log_model.specs.Headroom.{blocks_of_record}
use Rattle.fs_model.specs.FsState.{FsState, TableRow, row_named}
use Rattle.fs_model.specs.TreeSteps.{rename}
use Rattle.change_records.specs.NameRecords.{rows_renamed}
use Rattle.change_records.specs.Recorded.{AreValid}
use Rattle.change_records.proofs.PinnedRows.{rename_adds_no_extent}
use Rattle.change_records.proofs.RenameRecords.{rename_is_recorded}
use Rattle.change_records.proofs.TreesAfter.{rename_changes_tree}
use Rattle.change_records.proofs.Writable.{rename_stays_writable}
use Rattle.change_steps.specs.NameChanges.{rename_demand}
use Rattle.change_steps.specs.Recording.{after_record}
use Rattle.change_steps.proofs.NameLaws.{rename_asks}
use Rattle.change_cover.specs.Rests.{AreShown}
use Rattle.change_cover.specs.Stored.{IsChange}
use Rattle.change_cover.proofs.PointLaws.{rename_sets_no_point}
use Rattle.extent_map.specs.Records.{snapshot_len}
use Rattle.fs_tables.specs.MountedTables.{IsSoundState}
use Rattle.fs_core.specs.FsValue.{CanWrite}
use Rattle.fs_core.specs.NameCalls.{MayRename, rename_update}
use Rattle.fs_core.specs.Storing.{new_log_blocks}
use Rattle.fs_core.proofs.AskedChanges.{IsAsked, files_behind}
use Rattle.fs_core.proofs.ChangeRoom.{HasChangeRoom, granted_room, short_len, short_snapshot}

-- its record is that of a change of names
renames : (s : FsState) (r : TableRow) (old new : List ℕ) → IsSoundState s → CanWrite s → row_named old s.rows ≡ Some r → IsTrue (is_name new)
    → blocks_of_record s.geometry.block (rename_update s r old new) ≤ s.geometry.capacity → IsChange s (Rename old new) (rename_update s r old new) (rows_renamed s.rows r old new)
renames s r old new is can found named fits =
    let valid : AreValid s.rows = record { table = is.table; sized = is.sized } in
    let makes = rename_is_recorded s.rows r old new valid found in
    record {
      makes = makes;
      adds = rename_adds_no_extent s.rows r old new;
      names = record { changed = rename_changes_tree s.rows r old new valid found; valid = makes.valid; bytes = refl; points = rename_sets_no_point s.rows r old new can.points };
      spelled = (rename_stays_writable s.rows r old new valid is.sound.writable found named).spelled;
      short = short_len s.geometry (length (payload_of (rename_update s r old new))) is.sound.valid fits;
      goes_on = refl;
    }

-- its room
pub rename_room : (s : FsState) (old new : List ℕ) → IsSoundState s → (may : MayRename s old new)
    → HasChangeRoom s (blocks_of_record s.geometry.block (rename_update s may.row old new)) (rows_renamed s.rows may.row old new)
rename_room s old new is may =
    granted_room s (blocks_of_record s.geometry.block (rename_update s may.row old new)) (rows_renamed s.rows may.row old new) is.sound.settled may.granted.room

-- where it may be made, it is made by its record
pub rename_asked : (s : FsState) (old new : List ℕ) → IsSoundState s → CanWrite s → (may : MayRename s old new)
    → IsAsked (rename old new) tt s (rename_demand s may.row old new) (Rename old new) (rename_update s may.row old new)
rename_asked s old new is can may =
    let room = rename_room s old new is may in
    record {
      asks = rename_asks s old new may.row may.found;
      granted = may.granted;
      change = renames s may.row old new is can may.found may.named (omega (arith, room.log));
      blocks = refl;
      log = room.log;
    }

-- there is room for its record behind a snapshot
pub rename_fits_zone : (s : FsState) (old new : List ℕ) (r : Record) → IsSoundState s → (may : MayRename s old new) → ForSome (row_named old s.rows) (λ q. r ≡ rename_update s q old new)
    → new_log_blocks s + blocks_of_record s.geometry.block r < s.geometry.capacity
rename_fits_zone s old new r is may made =
    let count = ap (blocks_of_record s.geometry.block) (made may.row may.found) in
    let room = rename_room s old new is may in
    omega (arith, count, room.log)

-- the rows after it, once they are there
pub rows_after_rename : (s s1 s2 : FsState) (old new : List ℕ) (blocks : ℕ) (may : MayRename s old new) → s1 ≡ after_record blocks s
    → ForSome (row_named old s1.rows) (λ r. s2 ≡ record s1 { rows = rows_renamed s1.rows r old new })
    → s2 ≡ record s1 { rows = rows_renamed s.rows may.row old new; greatest = s.greatest }
rows_after_rename s s1 s2 old new blocks may first second =
    let kept = files_behind s s1 blocks first in
    second may.row (ap (λ (rows : List TableRow). row_named old rows) kept.rows ∙ may.found)
    ∙ ap (λ (rows : List TableRow). record s1 { rows = rows_renamed rows may.row old new }) kept.rows ∙ ap (λ n. record s1 { rows = rows_renamed s.rows may.row old new; greatest = n }) kept.greatest

-- the file is there still
pub rename_still_there : (s s1 : FsState) (old new : List ℕ) (blocks : ℕ) (may : MayRename s old new) → s1 ≡ after_record blocks s → IsSome (row_named old s1.rows)
rename_still_there s s1 old new blocks may first =
    subst (λ (o : Option TableRow). IsSome o) (sym (ap (λ (rows : List TableRow). row_named old rows) (files_behind s s1 blocks first).rows ∙ may.found)) refl

-- the same row
same_row : (q r : TableRow) (o : Option TableRow) → o ≡ Some r → o ≡ Some q → r ≡ q
same_row q r o here there = cc

-- the snapshot after it is short
pub rename_is_short : (s s1 : FsState) (old new : List ℕ) (blocks : ℕ) → IsSoundState s → (may : MayRename s old new) → s1 ≡ after_record blocks s
    → ForSome (row_named old s1.rows) (λ r. snapshot_len (rows_renamed s1.rows r old new) < 2 ^ 62)
rename_is_short s s1 old new blocks is may first =
    subst (λ (rows : List TableRow). ForSome (row_named old rows) (λ r. snapshot_len (rows_renamed rows r old new) < 2 ^ 62)) (sym (files_behind s s1 blocks first).rows)
    (λ r there. subst (λ (q : TableRow). snapshot_len (rows_renamed s.rows q old new) < 2 ^ 62) (same_row r may.row (row_named old s.rows) may.found there)
    (short_snapshot s (rows_renamed s.rows may.row old new) is.sound.valid (rename_room s old new is may).table))

-- the rows after it are shown
pub renamed_shown : (s s1 s2 : FsState) (old new : List ℕ) (may : MayRename s old new) → s2 ≡ record s1 { rows = rows_renamed s.rows may.row old new; greatest = s.greatest } → AreShown s2.rows
    → AreShown (rows_renamed s.rows may.row old new)
renamed_shown s s1 s2 old new may second shown = subst (λ rows. AreShown rows) (ap (λ (u : FsState). u.rows) second) shown
