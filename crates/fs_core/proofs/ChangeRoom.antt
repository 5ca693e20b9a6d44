-- The room of a change of names, and the lengths that it bounds.
use Rattle.std.proofs.Common.{◌≡◌, ℕ, ◌+◌, ◌^◌, ◌<◌, ◌≤◌, true, false, List, [], ◌∷◌, map, nat_lt, append-nil, add-zero, refl, sym, ◌∙◌, ap, subst, arith}
use Rattle.std.specs.Prelude.{IsTrue}
use Rattle.std.proofs.lemmas.Bool.{le-leb, leb-true, ltb-false}
use Rattle.std.proofs.lemmas.Grind.{common_steps}
use Rattle.zone_image.specs.declared.Geometry.{Geometry}
use Rattle.zone_image.specs.Image.{is_valid}
use Rattle.record_model.specs.declared.types.FileEntry.{FileEntry}
use Rattle.log_model.specs.LogScan.{blocks_of}
use Rattle.log_model.specs.FileTable.{Table}
use Rattle.log_model.specs.Headroom.{change_need, has_room, log_need, snapshot_blocks}
use Rattle.log_model.proofs.HeadroomLaws.{deletion_keeps_room}
use Rattle.fs_model.specs.FsState.{FsState, TableRow, mounted_row, working, working_entry, working_of}
use Rattle.fs_model.specs.LogSteps.{rows_need}
use Rattle.fs_model.specs.TreeSteps.{drop_name}
use Rattle.change_records.specs.Recorded.{entries}
use Rattle.change_records.proofs.EntryLaws.{entries_dropped}
use Rattle.change_cover.specs.Rests.{AreShown}
use Rattle.extent_map.specs.Records.{snapshot_len}
use Rattle.fs_core.specs.Storing.{new_log_blocks}

-- a row that is shown has its entry for the working one
entry_whole : (e : FileEntry) → working_entry (mounted_row e) ≡ e
entry_whole e = ap (λ xs. record e { extents = xs; size = e.size + 0 }) (append-nil e.extents) ∙ ap (λ n. record e { size = n }) (add-zero e.size)

-- so the working table of shown rows is the recorded one
table_whole : (es : Table) → working_of (map mounted_row es) ≡ es
table_whole [] = refl
table_whole (e ∷ es) = ap (λ f. f ∷ working_of (map mounted_row es)) (entry_whole e) ∙ ap (λ fs. e ∷ fs) (table_whole es)

-- of rows that are shown
pub working_shown : (rows : List TableRow) → AreShown rows → working_of rows ≡ entries rows
working_shown rows shown = ap working_of shown ∙ table_whole (entries rows)

-- a record that a zone has room for is short
pub short_len : (g : Geometry) (len : ℕ) → IsTrue (is_valid g) → blocks_of g.block len ≤ g.capacity → len < 2 ^ 32
short_len g len valid fits = grind (arith, common_steps)

-- the room of a change of which nothing is wanting: its table has room, and so have its record and the table before it
pub record HasChangeRoom (s : FsState) (blocks : ℕ) (after : List TableRow) : Type 0 where
  pub table : has_room s.geometry.capacity s.geometry.block (working_of after) ≡ true
  pub log : new_log_blocks s + blocks < s.geometry.capacity

-- where the need isn't above the capacity
pub granted_room : (s : FsState) (blocks : ℕ) (after : List TableRow) → AreShown s.rows → nat_lt s.geometry.capacity (rows_need s after blocks) ≡ false → HasChangeRoom s blocks after
unfolding change_need
granted_room s blocks after shown room =
    let fits : rows_need s after blocks ≤ s.geometry.capacity = ltb-false s.geometry.capacity (rows_need s after blocks) room in
    let same = ap (snapshot_blocks s.geometry.block) (working_shown s.rows shown) in
    record {
      table = le-leb (log_need s.geometry.block (working_of after)) s.geometry.capacity (omega (arith, fits));
      log = omega (arith, fits, same);
    }

-- a deletion keeps the room of a table
pub deleted_room : (s : FsState) (name : List ℕ) → AreShown s.rows → 512 ≤ s.geometry.block → has_room s.geometry.capacity s.geometry.block (working s) ≡ true → AreShown (drop_name name s.rows)
    → has_room s.geometry.capacity s.geometry.block (working_of (drop_name name s.rows)) ≡ true
deleted_room s name shown large room still =
    let here : has_room s.geometry.capacity s.geometry.block (entries s.rows) ≡ true = subst (λ (es : Table). has_room s.geometry.capacity s.geometry.block es ≡ true) (working_shown s.rows shown) room in
    subst (λ (es : Table). has_room s.geometry.capacity s.geometry.block es ≡ true) (sym (working_shown (drop_name name s.rows) still ∙ entries_dropped name s.rows))
    (deletion_keeps_room s.geometry.capacity s.geometry.block (entries s.rows) name large here)

-- and has room itself
pub deletion_fits : (s : FsState) → AreShown s.rows → has_room s.geometry.capacity s.geometry.block (working s) ≡ true → new_log_blocks s + 1 < s.geometry.capacity
unfolding log_need
deletion_fits s shown room =
    let here : has_room s.geometry.capacity s.geometry.block (entries s.rows) ≡ true = subst (λ (es : Table). has_room s.geometry.capacity s.geometry.block es ≡ true) (working_shown s.rows shown) room in
    let fits : log_need s.geometry.block (entries s.rows) ≤ s.geometry.capacity = leb-true (log_need s.geometry.block (entries s.rows)) s.geometry.capacity here in
    omega (arith, fits)

-- the snapshot of a table that has room is short
pub short_snapshot : (s : FsState) (after : List TableRow) → IsTrue (is_valid s.geometry) → has_room s.geometry.capacity s.geometry.block (working_of after) ≡ true → snapshot_len after < 2 ^ 62
unfolding log_need
short_snapshot s after valid room =
    let fits : log_need s.geometry.block (working_of after) ≤ s.geometry.capacity = leb-true (log_need s.geometry.block (working_of after)) s.geometry.capacity room in
    let less : snapshot_len after < 2 ^ 32 = short_len s.geometry (snapshot_len after) valid (omega (arith, fits)) in
    omega (arith, less)

-- blocks have 512 bytes or more
pub large_blocks : (g : Geometry) → IsTrue (is_valid g) → 512 ≤ g.block
large_blocks g valid = grind (arith, valid)
