-- Files of mounted tables that change.
use Rattle.std.specs.Prelude.{◌≡◌, ℕ, ◌+◌, ◌^◌, ◌<◌, Bool, true, false, cond, List, [], ◌∷◌, ◌++◌, length, map, filter, flat_map, sum_by, ◌==◌, refl}
use Rattle.std.specs.List.{All, AllByRecursion, enumerate_from}
use Rattle.std.proofs.Common.{ap, sym, subst, ◌∙◌}
use Rattle.std.proofs.lemmas.List.{append-nil, map-append}
use Rattle.std.proofs.lemmas.Grind.{flat_map-append}
use Rattle.zone_image.specs.declared.Geometry.{Geometry}
use Rattle.zone_image.specs.Image.{zone_of}
use Rattle.record_model.specs.Grammar.{IsWritable}
use Rattle.record_model.specs.declared.types.Extent.{Extent}
use Rattle.record_model.specs.declared.types.FileEntry.{FileEntry}
use Rattle.log_model.specs.declared.selection.Chosen.{Chosen}
use Rattle.log_model.specs.FileTable.{is_named, names_left, size_of}
use Rattle.fs_model.specs.declared.zones.Owner.TheVariants.{Idle}
use Rattle.fs_model.specs.declared.zones.ZoneState.{ZoneState}
use Rattle.fs_model.specs.FsState.{FsState, TableRow, ZoneDescriptor, mounted_row, touched, working_entry, working_of, on_row}
use Rattle.fs_model.specs.TreeSteps.{cleared, drop_name, new_row, with_names}
use Rattle.extent_map.specs.Applying.{rows_of}
use Rattle.extent_map.specs.Naming.{without_names}
use Rattle.extent_map.specs.Records.{recorded_of, snapshot_len}
use Rattle.extent_map.specs.TableState.{TableState}
use Rattle.zone_alloc.specs.Descriptors.{descriptor_of}
use Rattle.zone_alloc.specs.ZoneTableState.{ZoneTableState, IsInDataZone}
use Rattle.fs_tables.specs.MountedTables.{AreMounted, state_from}
use Rattle.fs_tables.proofs.LiveLaws.{recorded_extents}

-- ---- rows of which everything is recorded and shown

-- everything of the row is recorded and shown
abbrev pub IsWhole : TableRow → Type 0
IsWhole r = r ≡ mounted_row r.entry

-- each of rows that are those of their entries
pub all_whole : (rows : List TableRow) → rows ≡ rows_of (recorded_of rows) → AllByRecursion IsWhole rows
all_whole [] h = tt
all_whole (r ∷ rs) h = (cc, all_whole rs (cc))

-- and the other way round
pub rows_whole : (rows : List TableRow) → AllByRecursion IsWhole rows → rows ≡ rows_of (recorded_of rows)
rows_whole [] h = refl
rows_whole (r ∷ rs) h = ap (λ (q : TableRow). q ∷ rs) h.0 ∙ ap (λ (qs : List TableRow). mounted_row r.entry ∷ qs) (rows_whole rs h.1)

-- with one row more
pub whole_after : (rows : List TableRow) (r : TableRow) → AllByRecursion IsWhole rows → IsWhole r → AllByRecursion IsWhole (rows ++ r ∷ [])
whole_after [] r h p = (p, tt)
whole_after (q ∷ qs) r h p = (h.0, whole_after qs r h.1 p)

-- with other names of one
pub whole_named : (id : ℕ) (names : List (List ℕ)) (rows : List TableRow) → AllByRecursion IsWhole rows → AllByRecursion IsWhole (on_row id (with_names names) rows)
whole_named id names [] h = tt
whole_named id names (r ∷ rs) h = (choice (r.entry.id == id), whole_named id names rs h.1)
  where
    choice : (b : Bool) → IsWhole (cond b (with_names names r) r)
    choice true = ap (with_names names) h.0
    choice false = h.0

-- without a name
pub whole_left : (name : List ℕ) (rows : List TableRow) → AllByRecursion IsWhole rows → AllByRecursion IsWhole (drop_name name rows)
whole_left name [] h = tt
whole_left name (r ∷ rs) h = choice (is_named (without_names (name ∷ []) r).entry) (whole_left name rs h.1)
  where
    choice : (b : Bool) → AllByRecursion IsWhole (drop_name name rs) → AllByRecursion IsWhole (cond b (without_names (name ∷ []) r ∷ drop_name name rs) (drop_name name rs))
    choice true rest = (ap (λ (q : TableRow). with_names (names_left (name ∷ []) r.entry.names) q) h.0, rest)
    choice false rest = rest

-- without recovery points
pub whole_cleared : (rows : List TableRow) → AllByRecursion IsWhole rows → AllByRecursion IsWhole (map cleared rows)
whole_cleared [] h = tt
whole_cleared (r ∷ rs) h = (ap cleared h.0, whole_cleared rs h.1)

-- ---- extents

-- all extents of files
abbrev pub extents_of_rows : List TableRow → List Extent
extents_of_rows rows = flat_map (λ e. e.extents) (working_of rows)

-- a file without extents adds none
pub extents_after : (rows : List TableRow) (e : FileEntry) → e.extents ≡ [] → extents_of_rows (rows ++ new_row e ∷ []) ≡ extents_of_rows rows
extents_after rows e none =
    ap (flat_map (λ (f : FileEntry). f.extents)) (map-append working_entry rows (new_row e ∷ []))
    ∙ flat_map-append (λ (f : FileEntry). f.extents) (working_of rows) (working_of (new_row e ∷ []))
    ∙ ap (λ (xs : List Extent). extents_of_rows rows ++ ((xs ++ []) ++ [])) none ∙ append-nil (extents_of_rows rows)

-- other names change none
pub extents_named : (id : ℕ) (names : List (List ℕ)) (rows : List TableRow) → extents_of_rows (on_row id (with_names names) rows) ≡ extents_of_rows rows
extents_named id names [] = refl
extents_named id names (r ∷ rs) = choice (r.entry.id == id) ∙ ap (λ (xs : List Extent). (r.entry.extents ++ r.unrecorded) ++ xs) (extents_named id names rs)
  where
    choice : (b : Bool) → (working_entry (cond b (with_names names r) r)).extents ++ extents_of_rows (on_row id (with_names names) rs)
        ≡ (r.entry.extents ++ r.unrecorded) ++ extents_of_rows (on_row id (with_names names) rs)
    choice true = refl
    choice false = refl

-- nor do recovery points
pub extents_cleared : (rows : List TableRow) → extents_of_rows (map cleared rows) ≡ extents_of_rows rows
extents_cleared [] = refl
extents_cleared (r ∷ rs) = ap (λ (xs : List Extent). (r.entry.extents ++ r.unrecorded) ++ xs) (extents_cleared rs)

-- ---- tables with other files

-- a zone in which these extents are live
abbrev pub state_with : Geometry → List Extent → ℕ × ZoneDescriptor → ZoneState
state_with g xs z = record {
  info = z.1.info;
  owner = z.1.owner;
  hint = z.1.hint;
  live = sum_by (touched g.block) (filter (λ x. zone_of g x.start == z.0) xs);
  live_bytes = size_of (filter (λ x. zone_of g x.start == z.0) xs);
}

-- zones in which these extents are live, numbered from here
abbrev pub states_with : Geometry → ℕ → List ZoneDescriptor → List Extent → List ZoneState
states_with g from zs xs = map (state_with g xs) (enumerate_from from zs)

-- the tables are sound with other files and zones
pub mounted_with : (g : Geometry) (log : Chosen) (files new : TableState) (t u : ZoneTableState) → AreMounted g log files t → AllByRecursion IsWhole new.rows
    → AllByRecursion IsWritable (recorded_of new.rows) → All (IsInDataZone g) (extents_of_rows new.rows) → snapshot_len new.rows < 2 ^ 62
    → map descriptor_of u.zones ≡ map descriptor_of t.zones → u.geometry ≡ t.geometry → u.collect ≡ t.collect
    → u.zones ≡ states_with g 0 (map descriptor_of t.zones) (extents_of_rows new.rows) → AreMounted g log new u
mounted_with g log files new t u are whole writable lie short described geometry collect counted =
    let s : FsState = state_from g log new u in
    let settled : new.rows ≡ rows_of (recorded_of new.rows) = rows_whole new.rows whole in
    record {
      sound = record {
        valid = are.sound.valid;
        count = ap length described ∙ are.sound.count;
        settled = settled;
        writable = writable;
        lie = subst (λ (xs : List Extent). All (IsInDataZone g) xs) (recorded_extents s settled) lie;
        idle = subst (λ (zs : List ZoneDescriptor). All (λ z. z.owner ≡ Idle) zs) (sym described) are.sound.idle;
        log_zone = are.sound.log_zone;
        flags = are.sound.flags;
        short = short;
      };
      counted = counted ∙ ap (λ (zs : List ZoneDescriptor). states_with g 0 zs (extents_of_rows new.rows)) (sym described);
      same_geometry = geometry ∙ are.same_geometry;
      same_collect = collect ∙ are.same_collect;
    }

-- the tables are sound with other files of the same extents
pub mounted_files : (g : Geometry) (log : Chosen) (files new : TableState) (t : ZoneTableState) → AreMounted g log files t → AllByRecursion IsWhole new.rows
    → AllByRecursion IsWritable (recorded_of new.rows) → extents_of_rows new.rows ≡ extents_of_rows files.rows → snapshot_len new.rows < 2 ^ 62 → AreMounted g log new t
mounted_files g log files new t are whole writable same short =
    let s : FsState = state_from g log files t in
    let lie : All (IsInDataZone g) (extents_of_rows new.rows) =
    subst (λ (xs : List Extent). All (IsInDataZone g) xs) (sym (recorded_extents s are.sound.settled) ∙ sym same) are.sound.lie in
    mounted_with g log files new t t are whole writable lie short refl refl refl
    (are.counted ∙ ap (states_with g 0 (map descriptor_of t.zones)) (sym same))
