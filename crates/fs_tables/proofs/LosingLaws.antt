-- Tables of which a file is gone.
use Rattle.std.specs.Prelude.{◌≡◌, ℕ, ◌<◌, ◌^◌, List, [], ◌∷◌, ◌++◌, length, map, Option, Some, None, option_map, false, cond, eqb, ◌==◌, refl}
use Rattle.std.specs.Option.{option_eq}
use Rattle.std.proofs.lemmas.Bool.{false≢true, eq-eqb, ne_eqb}
use Rattle.std.specs.List.{All, AllByRecursion}
use Rattle.std.proofs.Common.{ap, sym, subst, ◌∙◌}
use Rattle.std.proofs.lemmas.List.Elements.{All-nil, All-cons, All-head, All-tail, All-append}
use Rattle.zone_image.specs.declared.Geometry.{Geometry}
use Rattle.record_model.specs.Grammar.{IsWritable}
use Rattle.record_model.specs.declared.types.Extent.{Extent}
use Rattle.log_model.specs.declared.selection.Chosen.{Chosen}
use Rattle.fs_model.specs.FsState.{FsState, TableRow, ZoneDescriptor, row_named, on_row}
use Rattle.fs_model.specs.TreeSteps.{drop_name, renamed_rows, with_names}
use Rattle.log_model.specs.FileTree.{renamed}
use Rattle.extent_map.specs.Lookups.{id_named}
use Rattle.extent_map.specs.Naming.{lost_by, lost_extents}
use Rattle.extent_map.specs.Records.{recorded_of, snapshot_len}
use Rattle.extent_map.specs.TableState.{IsTableState, TableState}
use Rattle.zone_alloc.specs.Descriptors.{descriptor_of}
use Rattle.zone_alloc.specs.ZoneTableState.{ZoneTableState, IsInDataZone}
use Rattle.fs_tables.specs.MountedTables.{AreMounted, state_from}
use Rattle.fs_tables.specs.Released.{AreLive, released}
use Rattle.fs_tables.proofs.FileChanges.{IsWhole, all_whole, whole_left, whole_named, extents_named, extents_of_rows, mounted_files, mounted_with, states_with}
use Rattle.fs_tables.proofs.LiveLaws.{recorded_extents}
use Rattle.fs_tables.proofs.LostLaws.{LosesPart, table_loses}
use Rattle.fs_tables.proofs.ReleaseLaws.{AreReleased, part_released, described_released}

-- what holds of all holds of both parts
all_parts : (P : Extent → Type 0) (xs ys : List Extent) → All P (xs ++ ys) → All P xs × All P ys
all_parts P [] ys h = (All-nil P, h)
all_parts P (x ∷ xs) ys h =
    let rest = all_parts P xs ys (All-tail P x (xs ++ ys) h) in
    (All-cons P x xs (All-head P x (xs ++ ys) h) rest.0, rest.1)

-- the extents that are lost with a name can be taken out of the live counts
pub record CanLose (files : TableState) (t : ZoneTableState) (name : List ℕ) : Type 0 where
  pub part : LosesPart files.rows (drop_name name files.rows) (lost_extents name files.rows)
  pub done : AreReleased (map descriptor_of t.zones) part.front (lost_extents name files.rows) part.back t
  pub kept : All (IsInDataZone t.geometry) (part.front ++ part.back)

-- in mounted tables they can
pub can_lose : (g : Geometry) (log : Chosen) (files : TableState) (t : ZoneTableState) (name : List ℕ) (r : TableRow) → AreMounted g log files t → IsTableState files.rows files.greatest
    → row_named name files.rows ≡ Some r → CanLose files t name
can_lose g log files t name r are state is =
    let s : FsState = state_from g log files t in
    let lost : List Extent = lost_extents name files.rows in
    let zs : List ZoneDescriptor = map descriptor_of t.zones in
    let part : LosesPart files.rows (drop_name name files.rows) lost = table_loses name files.rows files.greatest r state (all_whole files.rows are.sound.settled) is in
    let same : g ≡ t.geometry = sym are.same_geometry in
    let counted : t.zones ≡ states_with t.geometry 0 zs (part.front ++ (lost ++ part.back)) =
    are.counted ∙ ap (states_with g 0 zs) part.before ∙ ap (λ (h : Geometry). states_with h 0 zs (part.front ++ (lost ++ part.back))) same in
    let lie : All (IsInDataZone g) (part.front ++ (lost ++ part.back)) =
    subst (λ (xs : List Extent). All (IsInDataZone g) xs) (sym (recorded_extents s are.sound.settled) ∙ part.before) are.sound.lie in
    let within : All (IsInDataZone t.geometry) (part.front ++ (lost ++ part.back)) = subst (λ (h : Geometry). All (IsInDataZone h) (part.front ++ (lost ++ part.back))) same lie in
    let front = all_parts (IsInDataZone t.geometry) part.front (lost ++ part.back) within in
    let back = all_parts (IsInDataZone t.geometry) lost part.back front.1 in
    record {
      part = part;
      done = part_released zs part.front lost part.back t counted (are.sound.count ∙ ap (λ (h : Geometry). h.zones) same) back.0;
      kept = All-append (IsInDataZone t.geometry) part.front part.back front.0 back.1;
    }

-- tables are sound with files of the extents that are left
pub mounted_without : (g : Geometry) (log : Chosen) (files new : TableState) (t u : ZoneTableState) (name : List ℕ) → AreMounted g log files t → CanLose files t name
    → u ≡ released (lost_extents name files.rows) t → extents_of_rows new.rows ≡ extents_of_rows (drop_name name files.rows) → AllByRecursion IsWhole new.rows
    → AllByRecursion IsWritable (recorded_of new.rows) → snapshot_len new.rows < 2 ^ 62 → AreMounted g log new u
mounted_without g log files new t u name are can made same whole writable short =
    let lost : List Extent = lost_extents name files.rows in
    let zs : List ZoneDescriptor = map descriptor_of t.zones in
    let kept : All (IsInDataZone g) (extents_of_rows new.rows) =
    subst (λ (xs : List Extent). All (IsInDataZone g) xs) (sym (same ∙ can.part.rest)) (subst (λ (h : Geometry). All (IsInDataZone h) (can.part.front ++ can.part.back)) are.same_geometry can.kept) in
    mounted_with g log files new t u are whole writable kept short
    (ap (λ (v : ZoneTableState). map descriptor_of v.zones) made ∙ described_released lost t)
    (ap (λ (v : ZoneTableState). v.geometry) made ∙ can.done.same_geometry)
    (ap (λ (v : ZoneTableState). v.collect) made ∙ can.done.same_collect)
    (ap (λ (v : ZoneTableState). v.zones) made ∙ can.done.zones ∙ ap (λ (h : Geometry). states_with h 0 zs (can.part.front ++ can.part.back)) are.same_geometry
    ∙ ap (states_with g 0 zs) (sym (same ∙ can.part.rest)))

-- their state has the same zones
pub state_without : (g : Geometry) (log : Chosen) (new : TableState) (t u : ZoneTableState) (lost : List Extent) → u ≡ released lost t → state_from g log new u ≡ state_from g log new t
state_without g log new t u lost made =
    ap (λ (zs : List ZoneDescriptor). record (state_from g log new t) { zones = zs }) (ap (λ (v : ZoneTableState). map descriptor_of v.zones) made ∙ described_released lost t)

-- ---- renames

-- the extents that are lost with a name are live, if any are
pub lost_live : (g : Geometry) (log : Chosen) (files : TableState) (t : ZoneTableState) (name : List ℕ) → AreMounted g log files t → IsTableState files.rows files.greatest
    → AreLive (lost_extents name files.rows) t
lost_live g log files t name are state = choice (row_named name files.rows) refl
  where
    choice : (o : Option TableRow) → row_named name files.rows ≡ o → AreLive (lost_by name o) t
    choice None is = tt
    choice (Some r) is = subst (λ (o : Option TableRow). AreLive (lost_by name o) t) is (can_lose g log files t name r are state is).done.live

-- tables are sound after a rename
pub mounted_renamed : (g : Geometry) (log : Chosen) (files after : TableState) (t u : ZoneTableState) (old new : List ℕ) (r : TableRow) → AreMounted g log files t
    → IsTableState files.rows files.greatest → row_named old files.rows ≡ Some r → option_eq eqb (id_named old files.rows) (id_named new files.rows) ≡ false
    → u ≡ released (lost_extents new files.rows) t → after.rows ≡ renamed_rows r (row_named new files.rows) old new files.rows
    → AllByRecursion IsWritable (recorded_of after.rows) → snapshot_len after.rows < 2 ^ 62 → AreMounted g log after u
mounted_renamed g log files after t u old new r are state is differs made rows writable short = choice (row_named new files.rows) refl
  where
    choice : (o : Option TableRow) → row_named new files.rows ≡ o → AreMounted g log after u
    choice None none =
        let same : after.rows ≡ on_row r.entry.id (with_names (renamed old new r.entry.names)) files.rows = rows ∙ ap (λ (o : Option TableRow). renamed_rows r o old new files.rows) none in
        let kept : u ≡ t = made ∙ ap (λ (o : Option TableRow). released (lost_by new o) t) none in
        let whole = whole_named r.entry.id (renamed old new r.entry.names) files.rows (all_whole files.rows are.sound.settled) in
        subst (λ (v : ZoneTableState). AreMounted g log after v) (sym kept)
        (mounted_files g log files after t are (subst (λ (rs : List TableRow). AllByRecursion IsWhole rs) (sym same) whole) writable
        (ap extents_of_rows same ∙ extents_named r.entry.id (renamed old new r.entry.names) files.rows) short)
    choice (Some other) there =
        let ids : eqb r.entry.id other.entry.id ≡ false =
        sym (ap (λ (o : Option TableRow). option_eq eqb (option_map (λ (q : TableRow). q.entry.id) o) (id_named new files.rows)) is
        ∙ ap (λ (o : Option TableRow). option_eq eqb (Some r.entry.id) (option_map (λ (q : TableRow). q.entry.id) o)) there) ∙ differs in
        let apart : (other.entry.id == r.entry.id) ≡ false =
        ne_eqb other.entry.id r.entry.id (λ same. false≢true (sym ids ∙ eq-eqb r.entry.id other.entry.id (sym same))) in
        let left : List TableRow = drop_name new files.rows in
        let same : after.rows ≡ on_row r.entry.id (with_names (renamed old new r.entry.names)) left =
        rows ∙ ap (λ (o : Option TableRow). renamed_rows r o old new files.rows) there
        ∙ ap (λ b. cond b files.rows (on_row r.entry.id (with_names (renamed old new r.entry.names)) left)) apart in
        let whole = whole_named r.entry.id (renamed old new r.entry.names) left (whole_left new files.rows (all_whole files.rows are.sound.settled)) in
        mounted_without g log files after t u new are (can_lose g log files t new other are state there) made
        (ap extents_of_rows same ∙ extents_named r.entry.id (renamed old new r.entry.names) left)
        (subst (λ (rs : List TableRow). AllByRecursion IsWhole rs) (sym same) whole) writable short
