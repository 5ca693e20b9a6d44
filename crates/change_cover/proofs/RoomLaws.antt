-- Room for the log with which a mount begins to write.
use Rattle.std.specs.Prelude.{◌≡◌, ℕ, ◌+◌, ◌*◌, ◌-◌, ◌^◌, ◌<◌, ◌≤◌, IsTrue, Bool, true, false, List, [], ◌∷◌, length, map, nat_lt, Result, Ok, Err, ◌==◌, if◌then◌else◌, refl}
use Rattle.std.proofs.Common.{◌∙◌, ap, add-zero, append-nil, subst, sym, arith}
use Rattle.std.proofs.lemmas.Bool.{le-ltb, le-leb, ltb-false}
use Rattle.std.proofs.Math.Nat.{mul-le-mul_right}
use Rattle.std.proofs.lemmas.Grind.{div_ceil_times}
use Rattle.std.specs.List.{AllZip}
use Rattle.zone_image.specs.declared.Geometry.{Geometry}
use Rattle.zone_image.specs.Image.{is_valid}
use Rattle.record_model.specs.Encoding.{payload_of}
use Rattle.record_model.specs.declared.types.FileEntry.{FileEntry}
use Rattle.record_model.specs.declared.types.Record.TheVariants.{Snapshot}
use Rattle.log_model.specs.LogScan.{blocks_of}
use Rattle.log_model.specs.FileTable.{Table}
use Rattle.log_model.specs.Headroom.{log_need, snapshot_blocks}
use Rattle.log_model.specs.HeadroomLaws.{IsNoLonger}
use Rattle.log_model.proofs.HeadroomLaws.{fewer_extents_need_no_more}
use Rattle.fs_model.specs.FsState.{FsState, TableRow, mounted_row, recorded, working, working_entry, working_of}
use Rattle.fs_model.specs.TreeSteps.{cleared}
use Rattle.log_roll.specs.Rolling.{NoValue, roll_need}
use Rattle.log_roll.specs.declared.roll_error.RollError.{RollError}
use Rattle.log_roll.specs.declared.roll_error.RollError.TheVariants.{SequenceEnd, MetaFull}
use Rattle.change_records.specs.Recorded.{entries}
use Rattle.change_cover.specs.Rests.{AreShown}
use Rattle.change_cover.specs.MountRoom.{ClearedNeedsNoMore, MayMount, MayMountRolls, MayMountFits, MayMountIsShort, MayMountHasRoom}
use Rattle.change_cover.proofs.MountSteps.{mount_clears_rows}

-- a row that is shown has its entry for the working one
entry_whole : (e : FileEntry) → working_entry (mounted_row e) ≡ e
entry_whole e = ap (λ xs. record e { extents = xs; size = e.size + 0 }) (append-nil e.extents) ∙ ap (λ n. record e { size = n }) (add-zero e.size)

-- so the working table of shown rows is the recorded one
table_whole : (es : Table) → working_of (map mounted_row es) ≡ es
table_whole [] = refl
table_whole (e ∷ es) = ap (λ f. f ∷ working_of (map mounted_row es)) (entry_whole e) ∙ ap (λ fs. e ∷ fs) (table_whole es)

-- of rows that are shown
working_shown : (rows : List TableRow) → AreShown rows → working_of rows ≡ entries rows
working_shown rows shown = ap working_of shown ∙ table_whole (entries rows)

-- entries without recovery points are no longer
no_longer : (rows : List TableRow) → AllZip IsNoLonger (entries (map cleared rows)) (entries rows)
no_longer [] = tt
no_longer (q ∷ qs) = (record { names = refl; sparse = refl; extents = omega arith }, no_longer qs)

pub cleared_needs_no_more : ClearedNeedsNoMore
cleared_needs_no_more block s large shown =
    let less = fewer_extents_need_no_more block (entries (map cleared s.rows)) (recorded s) large (no_longer s.rows) in
    record {
      snapshot = less.0;
      log =
          subst (λ es. log_need block es ≤ log_need block (working s)) (sym (working_shown (map cleared s.rows) ((mount_clears_rows s.rows).shown shown)))
          (subst (λ es. log_need block (entries (map cleared s.rows)) ≤ log_need block es) (sym (working_shown s.rows shown)) less.1);
    }

-- why a roll is refused, by its two tests
abbrev refused_by : Bool → Bool → ℕ → ℕ → Result NoValue RollError
refused_by last above need capacity = if last then Err SequenceEnd else if above then Err (MetaFull need capacity) else Ok tt

-- where neither holds it isn't
not_refused : (last above : Bool) (need capacity : ℕ) → last ≡ false → above ≡ false → refused_by last above need capacity ≡ Ok tt
not_refused true above need capacity h g = absurd cc
not_refused false true need capacity h g = absurd cc
not_refused false false need capacity h g = refl

-- a log takes the snapshot where it takes the table with its greatest record
need_within : (block capacity : ℕ) (s : FsState) → snapshot_blocks block (entries (map cleared s.rows)) ≤ snapshot_blocks block (recorded s)
    → log_need block (recorded s) ≤ capacity → roll_need block (length (payload_of (Snapshot (entries (map cleared s.rows))))) ≤ capacity
unfolding log_need
need_within block capacity s less within = omega arith

-- so does a mount that passes its tests
need_of_roll : (s : FsState) → 512 ≤ s.geometry.block → AreShown s.rows → MayMount s
    → roll_need s.geometry.block (length (payload_of (Snapshot (entries (map cleared s.rows))))) ≤ s.geometry.capacity
need_of_roll s large shown may =
    let g = s.geometry in
    let within : log_need g.block (recorded s) ≤ g.capacity =
    subst (λ es. log_need g.block es ≤ g.capacity) (working_shown s.rows shown) (ltb-false g.capacity (log_need g.block (working s)) may.room) in
    need_within g.block g.capacity s (cleared_needs_no_more g.block s large shown).snapshot within

pub may_mount_rolls : MayMountRolls
may_mount_rolls s large shown may =
    let g = s.geometry in
    let need : ℕ = roll_need g.block (length (payload_of (Snapshot (entries (map cleared s.rows))))) in
    not_refused (s.log.greatest == 2 ^ 32 - 1) (nat_lt g.capacity need) need g.capacity may.sequence (le-ltb g.capacity need (need_of_roll s large shown may))

pub may_mount_fits : MayMountFits
may_mount_fits s large shown may = omega (arith, need_of_roll s large shown may)

-- a payload has fewer bytes than the blocks of its record
payload_within : (block len count : ℕ) → 0 < block → blocks_of block len ≤ count → len < count * block
payload_within block len count pos less =
    let times = (div_ceil_times (8 + len) block pos).0 in
    let more : blocks_of block len * block ≤ count * block = mul-le-mul_right block less in
    omega (arith, times)

-- a zone has fewer than 2 ^ 32 bytes, and blocks of 512 bytes or more
record IsShape (g : Geometry) : Type 0 where
  block : 512 ≤ g.block
  bytes : g.zone_blocks * g.block < 2 ^ 32
  capacity : g.capacity ≤ g.zone_blocks

shape_of : (g : Geometry) → IsTrue (is_valid g) → IsShape g
shape_of g valid = record { block = grind (arith, valid); bytes = grind (arith, valid); capacity = grind (arith, valid) }

pub may_mount_is_short : MayMountIsShort
may_mount_is_short s valid shown may =
    let g = s.geometry in
    let shape = shape_of g valid in
    let len : ℕ = length (payload_of (Snapshot (entries (map cleared s.rows)))) in
    let less : blocks_of g.block len ≤ g.capacity = omega (arith, need_of_roll s shape.block shown may) in
    let within : len < g.capacity * g.block = payload_within g.block len g.capacity (omega (arith, shape.block)) less in
    let more : g.capacity * g.block ≤ g.zone_blocks * g.block = mul-le-mul_right g.block shape.capacity in
    omega (arith, shape.bytes)

pub may_mount_has_room : MayMountHasRoom
may_mount_has_room s large shown may =
    let g = s.geometry in
    let less = (cleared_needs_no_more g.block s large shown).log in
    let within : log_need g.block (working s) ≤ g.capacity = ltb-false g.capacity (log_need g.block (working s)) may.room in
    le-leb (log_need g.block (working_of (map cleared s.rows))) g.capacity (omega arith)
