-- A new file.
use Rattle.std.proofs.Common.{◌≡◌, ℕ, ◌+◌, ◌-◌, ◌^◌, ◌<◌, ◌≤◌, ◌==◌, Bool, false, List, [], ◌∷◌, ◌++◌, length, refl, sym, ◌∙◌, ap, subst, arith}
use Rattle.std.specs.List.{AllByRecursion}
use Rattle.std.proofs.lemmas.Bool.{eq-eqb, false≢true}
use Rattle.record_model.specs.Encoding.{payload_of}
use Rattle.record_model.specs.declared.types.Record.{Record}
use Rattle.record_model.specs.declared.types.Record.TheVariants.{Update}
use Rattle.log_model.specs.FileTree.Change.{Create}
use Rattle.log_model.specs.Headroom.{blocks_of_record}
use Rattle.fs_model.specs.FsState.{FsState, TableRow}
use Rattle.fs_model.specs.TreeSteps.{create, new_entry, new_row}
use Rattle.change_records.specs.Recorded.{AreValid}
use Rattle.change_records.proofs.NameRecords.{create_is_recorded}
use Rattle.change_records.proofs.PinnedRows.{create_adds_no_extent}
use Rattle.change_records.proofs.TreesAfter.{create_changes_tree}
use Rattle.change_records.proofs.Writable.{create_stays_writable}
use Rattle.change_steps.specs.NameChanges.{create_demand}
use Rattle.change_steps.specs.Recording.{after_record}
use Rattle.change_steps.proofs.NameLaws.{create_asks}
use Rattle.change_cover.specs.Rests.{AreShown}
use Rattle.change_cover.specs.Stored.{IsChange}
use Rattle.change_cover.proofs.PointLaws.{create_sets_no_point}
use Rattle.extent_map.specs.TableState.{IsTableState}
use Rattle.extent_map.specs.Records.{snapshot_len}
use Rattle.fs_tables.specs.MountedTables.{IsSoundState}
use Rattle.fs_core.specs.FsValue.{CanWrite}
use Rattle.fs_core.specs.NameCalls.{MayCreate}
use Rattle.fs_core.specs.Storing.{new_log_blocks}
use Rattle.fs_core.proofs.AskedChanges.{IsAsked, files_behind}
use Rattle.fs_core.proofs.ChangeRoom.{HasChangeRoom, granted_room, short_len, short_snapshot}

-- the record of the next file
abbrev pub next_update : FsState → List ℕ → ℕ → Bool → ℕ → Record
next_update s name hint sparse time = Update (new_entry (s.greatest + 1) name hint sparse time)

-- the rows with it
abbrev pub created_rows : FsState → List ℕ → ℕ → Bool → ℕ → List TableRow
created_rows s name hint sparse time = s.rows ++ new_row (new_entry (s.greatest + 1) name hint sparse time) ∷ []

-- no file has a higher id than the greatest, which is one of a file
pub record IdsWithin (s : FsState) : Type 0 where
  pub above : AllByRecursion (λ r. r.entry.id ≤ s.greatest) s.rows
  pub limit : s.greatest ≤ 2 ^ 64 - 2

-- so it is in a table of files
pub ids_within : (s : FsState) (rows : List TableRow) (greatest : ℕ) → rows ≡ s.rows → greatest ≡ s.greatest → IsTableState rows greatest → IdsWithin s
ids_within s rows greatest same_rows same table =
    subst (λ (qs : List TableRow). IdsWithin (record s { rows = qs })) same_rows
    (subst (λ n. IdsWithin (record s { rows = rows; greatest = n })) same (record { above = table.above; limit = table.limit }))

-- ids up to a number are below the next one
ids_below : (n : ℕ) (rows : List TableRow) → AllByRecursion (λ r. r.entry.id ≤ n) rows → AllByRecursion (λ r. r.entry.id < n + 1) rows
ids_below n [] h = tt
ids_below n (r ∷ rs) h = ((let first : r.entry.id ≤ n = h.0 in omega (arith, first)), ids_below n rs h.1)

-- where the greatest id isn't the last one, another is left
pub id_left : (s : FsState) → IdsWithin s → (s.greatest == 2 ^ 64 - 2) ≡ false → s.greatest < 2 ^ 64 - 2
id_left s ids left = omega (arith, ids.limit, differs)
  where
    differs : s.greatest ≡ 2 ^ 64 - 2 → ⊥
    differs same = false≢true (sym left ∙ eq-eqb s.greatest (2 ^ 64 - 2) same)

-- the numbers of a new file are in their ranges
pub record InRange (hint time : ℕ) : Type 0 where
  pub hint_range : hint ≤ 5
  pub time_range : time < 2 ^ 64

-- its record is that of a change of names
creates : (s : FsState) (name : List ℕ) (hint : ℕ) (sparse : Bool) (time : ℕ) → IsSoundState s → IdsWithin s → CanWrite s → InRange hint time → MayCreate s name hint sparse time
    → blocks_of_record s.geometry.block (next_update s name hint sparse time) ≤ s.geometry.capacity
    → IsChange s (Create name (s.greatest + 1) hint sparse time) (next_update s name hint sparse time) (created_rows s name hint sparse time)
creates s name hint sparse time is ids can range may fits =
    let valid : AreValid s.rows = record { table = is.table; sized = is.sized } in
    let id : ℕ = s.greatest + 1 in
    let makes = create_is_recorded s.rows id name hint sparse time valid (ids_below s.greatest s.rows ids.above) may.free in
    let left = id_left s ids may.ids in
    record {
      makes = makes;
      adds = create_adds_no_extent s.rows id name hint sparse time;
      names = record { changed = create_changes_tree s.rows id name hint sparse time; valid = makes.valid; bytes = refl; points = create_sets_no_point s.rows id name hint sparse time can.points };
      spelled = (create_stays_writable s.rows id name hint sparse time is.sound.writable (omega (arith, left)) may.named range.hint_range range.time_range).spelled;
      short = short_len s.geometry (length (payload_of (next_update s name hint sparse time))) is.sound.valid fits;
      goes_on = refl;
    }

-- its room
pub create_room : (s : FsState) (name : List ℕ) (hint : ℕ) (sparse : Bool) (time : ℕ) → IsSoundState s → MayCreate s name hint sparse time
    → HasChangeRoom s (blocks_of_record s.geometry.block (next_update s name hint sparse time)) (created_rows s name hint sparse time)
create_room s name hint sparse time is may =
    granted_room s (blocks_of_record s.geometry.block (next_update s name hint sparse time)) (created_rows s name hint sparse time) is.sound.settled may.granted.room

-- where it may be made, it is made by its record
pub create_asked : (s : FsState) (name : List ℕ) (hint : ℕ) (sparse : Bool) (time : ℕ) → IsSoundState s → IdsWithin s → CanWrite s → InRange hint time → MayCreate s name hint sparse time
    → IsAsked (create name hint sparse time) (s.greatest + 1) s (create_demand s name hint sparse time) (Create name (s.greatest + 1) hint sparse time) (next_update s name hint sparse time)
create_asked s name hint sparse time is ids can range may =
    let room = create_room s name hint sparse time is may in
    record {
      asks = create_asks s name hint sparse time may.free may.ids;
      granted = may.granted;
      change = creates s name hint sparse time is ids can range may (omega (arith, room.log));
      blocks = refl;
      log = room.log;
    }

-- there is room for its record behind a snapshot
pub create_fits_zone : (s : FsState) (name : List ℕ) (hint : ℕ) (sparse : Bool) (time : ℕ) (r : Record) → IsSoundState s → MayCreate s name hint sparse time → r ≡ next_update s name hint sparse time
    → new_log_blocks s + blocks_of_record s.geometry.block r < s.geometry.capacity
create_fits_zone s name hint sparse time r is may made =
    let count = ap (blocks_of_record s.geometry.block) made in
    let room = create_room s name hint sparse time is may in
    omega (arith, count, room.log)

-- the rows with the file, from those behind the record
rows_from : (name : List ℕ) (hint : ℕ) (sparse : Bool) (time : ℕ) → List TableRow → ℕ → List TableRow
rows_from name hint sparse time rows greatest = rows ++ new_row (new_entry (greatest + 1) name hint sparse time) ∷ []

-- the rows after it, once they are there
pub rows_created : (s s1 s2 : FsState) (name : List ℕ) (hint : ℕ) (sparse : Bool) (time : ℕ) (blocks : ℕ) → s1 ≡ after_record blocks s
    → s2 ≡ record s1 { rows = created_rows s1 name hint sparse time; greatest = s1.greatest + 1 }
    → s2 ≡ record s1 { rows = created_rows s name hint sparse time; greatest = s.greatest + 1 }
unfolding rows_from
rows_created s s1 s2 name hint sparse time blocks first second =
    let kept = files_behind s s1 blocks first in
    second
    ∙ ap (λ (rows : List TableRow). record s1 { rows = rows_from name hint sparse time rows s1.greatest; greatest = s1.greatest + 1 }) kept.rows
    ∙ ap (λ n. record s1 { rows = rows_from name hint sparse time s.rows n; greatest = n + 1 }) kept.greatest

-- the snapshot after it is short
pub create_is_short : (s s1 : FsState) (name : List ℕ) (hint : ℕ) (sparse : Bool) (time : ℕ) (blocks : ℕ) → IsSoundState s → MayCreate s name hint sparse time → s1 ≡ after_record blocks s
    → snapshot_len (created_rows s1 name hint sparse time) < 2 ^ 62
unfolding rows_from
create_is_short s s1 name hint sparse time blocks is may first =
    let kept = files_behind s s1 blocks first in
    subst (λ (rows : List TableRow). snapshot_len (rows_from name hint sparse time rows s1.greatest) < 2 ^ 62) (sym kept.rows)
    (subst (λ n. snapshot_len (rows_from name hint sparse time s.rows n) < 2 ^ 62) (sym kept.greatest)
    (short_snapshot s (created_rows s name hint sparse time) is.sound.valid (create_room s name hint sparse time is may).table))

-- the rows after it are shown
pub created_shown : (s s1 s2 : FsState) (name : List ℕ) (hint : ℕ) (sparse : Bool) (time : ℕ) → s2 ≡ record s1 { rows = created_rows s name hint sparse time; greatest = s.greatest + 1 } → AreShown s2.rows
    → AreShown (created_rows s name hint sparse time)
created_shown s s1 s2 name hint sparse time second shown = subst (λ rows. AreShown rows) (ap (λ (u : FsState). u.rows) second) shown
