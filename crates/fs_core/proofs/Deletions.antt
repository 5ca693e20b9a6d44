-- A deletion of a name of a file.
use Rattle.std.proofs.Common.{◌≡◌, ℕ, ◌+◌, ◌<◌, ◌≤◌, List, Option, Some, length, refl, sym, ◌∙◌, ap, subst, arith}
use Rattle.record_model.specs.Encoding.{payload_of}
use Rattle.std.specs.Option.{ForSome, IsSome}
use Rattle.record_model.specs.declared.types.Record.{Record}
use Rattle.record_model.specs.declared.types.Record.TheVariants.{Deletion}
use Rattle.log_model.specs.FileTree.Change.{Unlink}
use Rattle.log_model.specs.Headroom.{blocks_of_record}
use Rattle.fs_model.specs.FsState.{FsState, TableRow, row_named}
use Rattle.fs_model.specs.TreeSteps.{delete, drop_name}
use Rattle.change_records.proofs.NameRecords.{unlink_is_recorded}
use Rattle.change_records.proofs.PinnedRows.{unlink_adds_no_extent}
use Rattle.change_records.proofs.TreesAfter.{unlink_changes_tree}
use Rattle.change_records.proofs.Writable.{unlink_stays_writable}
use Rattle.change_steps.specs.Recording.{after_record}
use Rattle.change_steps.specs.NameChanges.{delete_demand}
use Rattle.change_steps.proofs.NameLaws.{delete_asks}
use Rattle.change_cover.specs.Rests.{AreShown}
use Rattle.change_cover.specs.Stored.{IsChange}
use Rattle.change_cover.proofs.PointLaws.{unlink_sets_no_point}
use Rattle.fs_tables.specs.MountedTables.{IsSoundState}
use Rattle.fs_core.specs.FsValue.{CanWrite}
use Rattle.fs_core.specs.NameCalls.{MayDelete}
use Rattle.fs_core.specs.Storing.{IsPrepared, new_log_blocks}
use Rattle.fs_core.specs.declared.prepared.PreparedRecord.{PreparedRecord}
use Rattle.fs_core.proofs.AskedChanges.{IsAsked, files_behind}
use Rattle.fs_core.proofs.ChangeRoom.{deletion_fits, short_len}

-- its record is that of a change of names
deletes : (s : FsState) (r : TableRow) (name : List ℕ) → IsSoundState s → CanWrite s → row_named name s.rows ≡ Some r → blocks_of_record s.geometry.block (Deletion r.entry.id name) ≤ s.geometry.capacity
    → IsChange s (Unlink name) (Deletion r.entry.id name) (drop_name name s.rows)
deletes s r name is can found fits =
    let makes = unlink_is_recorded s.rows r name (record { table = is.table; sized = is.sized }) found in
    record {
      makes = makes;
      adds = unlink_adds_no_extent s.rows name;
      names = record { changed = unlink_changes_tree s.rows name; valid = makes.valid; bytes = refl; points = unlink_sets_no_point s.rows name can.points };
      spelled = (unlink_stays_writable s.rows r name is.sound.writable found).spelled;
      short = short_len s.geometry (length (payload_of (Deletion r.entry.id name))) is.sound.valid fits;
      goes_on = refl;
    }

-- where it may be made, it is made by its record of one block
pub deletion_asked : (s : FsState) (name : List ℕ) → IsSoundState s → CanWrite s → (may : MayDelete s name)
    → IsAsked (delete name) tt s (delete_demand s may.row name) (Unlink name) (Deletion may.row.entry.id name)
deletion_asked s name is can may =
    let log = deletion_fits s is.sound.settled can.room in
    record {
      asks = delete_asks s name may.row may.found;
      granted = may.granted;
      change = deletes s may.row name is can may.found (omega (arith, may.one, log));
      blocks = refl;
      log = omega (arith, may.one, log);
    }

-- the record that is prepared is that of the file which has the name
pub prepared_deletion : (s : FsState) (name : List ℕ) (r : TableRow) (p : PreparedRecord) → row_named name s.rows ≡ Some r → ForSome (row_named name s.rows) (λ q. IsPrepared s (Deletion q.entry.id name) p)
    → IsPrepared s (Deletion r.entry.id name) p
prepared_deletion s name r p found h = h r found

-- there is room for it behind a snapshot
pub deletion_fits_zone : (s : FsState) (name : List ℕ) (r : Record) → IsSoundState s → CanWrite s → (may : MayDelete s name) → ForSome (row_named name s.rows) (λ q. r ≡ Deletion q.entry.id name)
    → new_log_blocks s + blocks_of_record s.geometry.block r < s.geometry.capacity
deletion_fits_zone s name r is can may made =
    let same : r ≡ Deletion may.row.entry.id name = made may.row may.found in
    let count = ap (blocks_of_record s.geometry.block) same in
    let log = deletion_fits s is.sound.settled can.room in
    omega (arith, count, may.one, log)

-- the rows after it, once they are there
pub rows_deleted : (s s1 s2 : FsState) (name : List ℕ) (blocks : ℕ) → s1 ≡ after_record blocks s → s2 ≡ record s1 { rows = drop_name name s1.rows }
    → s2 ≡ record s1 { rows = drop_name name s.rows; greatest = s.greatest }
rows_deleted s s1 s2 name blocks first second =
    let kept = files_behind s s1 blocks first in
    second ∙ ap (λ (rows : List TableRow). record s1 { rows = drop_name name rows }) kept.rows ∙ ap (λ n. record s1 { rows = drop_name name s.rows; greatest = n }) kept.greatest

-- the file is there still
pub still_there : (s s1 : FsState) (name : List ℕ) (r : TableRow) (blocks : ℕ) → s1 ≡ after_record blocks s → row_named name s.rows ≡ Some r → IsSome (row_named name s1.rows)
still_there s s1 name r blocks first found =
    let kept = files_behind s s1 blocks first in
    subst (λ (o : Option TableRow). IsSome o) (sym (ap (λ (rows : List TableRow). row_named name rows) kept.rows ∙ found)) refl

-- the rows after it are shown
pub deleted_shown : (s s1 s2 : FsState) (name : List ℕ) → s2 ≡ record s1 { rows = drop_name name s.rows; greatest = s.greatest } → AreShown s2.rows → AreShown (drop_name name s.rows)
deleted_shown s s1 s2 name second shown = subst (λ rows. AreShown rows) (ap (λ (u : FsState). u.rows) second) shown
