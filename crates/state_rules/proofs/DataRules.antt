-- Commits, recovery points, shown bytes and moved extents keep the rules.
use Rattle.std.specs.Prelude.{◌≡◌, ◌≢◌, ℕ, ◌+◌, ◌-◌, ◌≤◌, Bool, true, false, List, [], ◌∷◌, ◌++◌, map, nat_le, ◌==◌, if◌then◌else◌, refl}
use Rattle.std.proofs.Common.{◌∙◌, ap, sym, subst, append-nil, ⊎_elim, inl, inr, arith}
use mathlib.Core.Logic.{◌⊎◌}
use Rattle.std.proofs.lemmas.Bool.{le-leb, eqb-true}
use Rattle.std.proofs.lemmas.List.Sums.{sum_by-cons}
use Rattle.std.specs.List.{AllByRecursion}
use Rattle.zone_image.specs.declared.Geometry.{Geometry}
use Rattle.zone_image.specs.Image.{zone_of}
use Rattle.record_model.specs.declared.types.Extent.{Extent}
use Rattle.log_model.specs.FileTable.{Table, size_of}
use Rattle.log_model.specs.Frames.{no_active}
use Rattle.log_model.specs.Mounted.{all_extents, overlap}
use Rattle.fs_model.specs.declared.zones.Move.{Move}
use Rattle.fs_model.specs.declared.zones.Owner.{Owner}
use Rattle.fs_model.specs.declared.zones.Owner.TheVariants.{Writer, Collector}
use Rattle.fs_model.specs.FsState.{FsState, TableRow, ZoneDescriptor, working_entry, working_of, on_row}
use Rattle.fs_model.specs.TreeSteps.{cleared}
use Rattle.fs_model.specs.FileSteps.{committed, with_recovery_point, show, shown_row, moved, moved_start, moved_extent}
use Rattle.change_records.specs.Recorded.{entries, AreValid}
use Rattle.change_records.specs.Writable.{AreWritable}
use Rattle.change_records.proofs.DataRecords.{commit_is_recorded, recovery_point_is_recorded, replacement_is_recorded}
use Rattle.change_records.proofs.EntryLaws.{only_row}
use Rattle.change_records.proofs.Writable.{commit_stays_writable, recovery_point_stays_writable, replacement_stays_writable}
use Rattle.change_records.proofs.StepsWithoutRecord.{show_changes_time, show_stays_writable, mount_clears_points}
use Rattle.state_rules.specs.Rules.{found_within, finds_again, found_of, RowRules, LiesInZone, FileRules, owner_in, EndBefore, IsFresh, FreshRules, KeepsRules}
use Rattle.state_rules.specs.DataRules.{CommitKeepsRules, PointKeepsRules, ShowKeepsRules, ClearKeepsRules, MoveKeepsRules}
use Rattle.state_rules.proofs.RowChanges.{each_row, both_rows, at_row, working_same, fresh_where, all_append, all_split}

-- a state with other rows, by its rules
pub rows_keep : (s : FsState) (rows : List TableRow) → KeepsRules s → AreValid rows → AreWritable rows → FileRules s.geometry s.greatest rows → FreshRules s.geometry s.zones (entries rows) rows
    → KeepsRules (record s { rows = rows })
rows_keep s rows h valid writable files fresh = record {
  device = record { valid = h.device.valid; count = h.device.count; log_zone = h.device.log_zone; flags = h.device.flags };
  valid = valid;
  writable = writable;
  files = files;
  owners = h.owners;
  fresh = fresh;
}

-- of a file of which all is recorded nothing is found
nothing_found : (b : Bool) (n : ℕ) → size_of (if b then found_within n [] else []) ≡ 0
nothing_found true n = refl
nothing_found false n = refl

-- files of which one is changed, and no extent in memory
files_same : (g : Geometry) (greatest id : ℕ) (change : TableRow → TableRow) (rows : List TableRow) → ((q : TableRow) → (working_entry (change q)).extents ≡ (working_entry q).extents)
    → ((q : TableRow) → (change q).entry.id ≡ q.entry.id) → AllByRecursion RowRules (on_row id change rows) → FileRules g greatest rows → FileRules g greatest (on_row id change rows)
files_same g greatest id change rows same names each h =
    let extents = working_same id change rows same in
    record {
      each = each;
      ids = each_row (λ r. r.entry.id ≤ greatest) (λ r. r.entry.id ≤ greatest) id change rows (λ q is low. let id_is = names q in omega (arith, low, id_is)) (λ q other low. low) h.ids;
      lie = subst (AllByRecursion (LiesInZone g)) (sym extents) h.lie;
      apart = ap overlap extents ∙ h.apart;
    }

-- ---- commits

-- the rules of a committed row
committed_rules : (now : ℕ) (r : TableRow) → RowRules r → RowRules (committed now r)
committed_rules now r h = record {
  extents = tt;
  fits = omega (arith, h.fits);
  ordered = tt;
  shown = let none = nothing_found (finds_again (committed now r)) (r.entry.size + size_of r.unrecorded - (r.entry.size + size_of r.unrecorded)) in omega (arith, none);
}

-- what a file's writer has written and not recorded lies in no other writer's zone
other_writer : (a b : ℕ) → a ≢ b → Writer a ≢ Writer b
other_writer a b other same = other (ap number same)
  where
    number : Owner → ℕ
    number (Writer n) = n
    number _ = 0

-- extents of one writer's zone, seen from an extent in another's
elsewhere : (g : Geometry) (zones : List ZoneDescriptor) (es : Table) (id other : ℕ) (x : Extent) (ys : List Extent) → id ≢ other → owner_in zones (zone_of g x.start) ≡ Writer other
    → AllByRecursion (IsFresh g zones es id) ys → AllByRecursion (λ y. zone_of g y.start ≡ zone_of g x.start → y.start + y.len ≤ x.start) ys
elsewhere g zones es id other x [] apart owner h = tt
elsewhere g zones es id other x (y ∷ ys) apart owner h = (
  (λ same. absurd (other_writer id other apart (sym h.0.owner ∙ ap (owner_in zones) same ∙ owner))),
  elsewhere g zones es id other x ys apart owner h.1,
)

-- so of all that a commit records
pub behind_committed : (g : Geometry) (zones : List ZoneDescriptor) (es : Table) (id now other : ℕ) (x : Extent) (rows : List TableRow) → id ≢ other → owner_in zones (zone_of g x.start) ≡ Writer other
    → FreshRules g zones es rows → EndBefore g x.start (entries rows) → EndBefore g x.start (entries (on_row id (committed now) rows))
behind_committed g zones es id now other x [] apart owner fresh before = tt
behind_committed g zones es id now other x (q ∷ qs) apart owner fresh before =
    let P : Extent → Type 0 = λ y. zone_of g y.start ≡ zone_of g x.start → y.start + y.len ≤ x.start in
    let parts = all_split P q.entry.extents (all_extents (entries qs)) before in
    by (q.entry.id == id) refl parts.0 (behind_committed g zones es id now other x qs apart owner fresh.1 parts.1)
  where
    by : (b : Bool) → (q.entry.id == id) ≡ b → AllByRecursion (λ y. zone_of g y.start ≡ zone_of g x.start → y.start + y.len ≤ x.start) q.entry.extents
        → EndBefore g x.start (entries (on_row id (committed now) qs))
        → AllByRecursion (λ y. zone_of g y.start ≡ zone_of g x.start → y.start + y.len ≤ x.start)
        ((if b then committed now q else q).entry.extents ++ all_extents (entries (on_row id (committed now) qs)))
    by true is here rest =
        all_append (λ y. zone_of g y.start ≡ zone_of g x.start → y.start + y.len ≤ x.start) (q.entry.extents ++ q.unrecorded) (all_extents (entries (on_row id (committed now) qs)))
        (all_append (λ y. zone_of g y.start ≡ zone_of g x.start → y.start + y.len ≤ x.start) q.entry.extents q.unrecorded here
        (elsewhere g zones es q.entry.id other x q.unrecorded (λ same. apart (sym (eqb-true q.entry.id id is) ∙ same)) owner fresh.0)) rest
    by false is here rest =
        all_append (λ y. zone_of g y.start ≡ zone_of g x.start → y.start + y.len ≤ x.start) q.entry.extents (all_extents (entries (on_row id (committed now) qs))) here rest

pub commit_keeps_rules : CommitKeepsRules
commit_keeps_rules s r now h is time =
    let id = r.entry.id in
    let after = on_row id (committed now) s.rows in
    let row : RowRules r = at_row RowRules id s.rows r h.files.each is in
    rows_keep s after h (commit_is_recorded s.rows r now h.valid is).valid (commit_stays_writable s.rows r now h.valid h.writable is time row.extents row.fits).again
    (files_same s.geometry s.greatest id (committed now) s.rows (λ q. append-nil (q.entry.extents ++ q.unrecorded)) (λ q. refl)
    (each_row RowRules RowRules id (committed now) s.rows (λ q at rules. committed_rules now q rules) (λ q other rules. rules) h.files.each) h.files)
    (each_row (λ q. AllByRecursion (IsFresh s.geometry s.zones (entries s.rows) q.entry.id) q.unrecorded)
    (λ q. AllByRecursion (IsFresh s.geometry s.zones (entries after) q.entry.id) q.unrecorded) id (committed now) s.rows
    (λ q at fresh. tt)
    (λ q other fresh. fresh_where s.geometry s.zones (entries s.rows) (entries after) q.entry.id q.unrecorded
    (λ x it. behind_committed s.geometry s.zones (entries s.rows) id now q.entry.id x s.rows (λ same. other (sym same)) it.owner h.fresh it.behind) fresh)
    h.fresh)

-- ---- steps that record no other extents

-- the same extents are recorded
pub recorded_same : (id : ℕ) (change : TableRow → TableRow) (rows : List TableRow) → ((q : TableRow) → (change q).entry.extents ≡ q.entry.extents)
    → all_extents (entries (on_row id change rows)) ≡ all_extents (entries rows)
recorded_same id change [] same = refl
recorded_same id change (q ∷ qs) same =
    ap (λ xs. xs ++ all_extents (entries (on_row id change qs))) (by (q.entry.id == id)) ∙ ap (λ xs. q.entry.extents ++ xs) (recorded_same id change qs same)
  where
    by : (b : Bool) → (if b then change q else q).entry.extents ≡ q.entry.extents
    by true = same q
    by false = refl

-- so the same is fresh, of rows with the same extents that aren't recorded
pub fresh_same : (g : Geometry) (zones : List ZoneDescriptor) (id : ℕ) (change : TableRow → TableRow) (rows : List TableRow) → ((q : TableRow) → (change q).entry.extents ≡ q.entry.extents)
    → ((q : TableRow) → (change q).entry.id ≡ q.entry.id) → ((q : TableRow) → (change q).unrecorded ≡ q.unrecorded)
    → FreshRules g zones (entries rows) rows → FreshRules g zones (entries (on_row id change rows)) (on_row id change rows)
fresh_same g zones id change rows extents names waits h =
    let after = on_row id change rows in
    let same = recorded_same id change rows extents in
    let kept = λ (q : TableRow) (fresh : AllByRecursion (IsFresh g zones (entries rows) q.entry.id) q.unrecorded).
    fresh_where g zones (entries rows) (entries after) q.entry.id q.unrecorded
    (λ x it. subst (AllByRecursion (λ y. zone_of g y.start ≡ zone_of g x.start → y.start + y.len ≤ x.start)) (sym same) it.behind) fresh in
    each_row (λ q. AllByRecursion (IsFresh g zones (entries rows) q.entry.id) q.unrecorded)
    (λ q. AllByRecursion (IsFresh g zones (entries after) q.entry.id) q.unrecorded) id change rows
    (λ q at fresh.
    subst (λ n. AllByRecursion (IsFresh g zones (entries after) n) (change q).unrecorded) (sym (names q))
    (subst (AllByRecursion (IsFresh g zones (entries after) q.entry.id)) (sym (waits q)) (kept q fresh)))
    (λ q other fresh. kept q fresh) h

-- ---- recovery points

pointed_rules : (start : ℕ) (r : TableRow) → r.unrecorded ≡ [] → RowRules r → RowRules (with_recovery_point start r)
pointed_rules start r all h = record {
  extents = h.extents;
  fits = h.fits;
  ordered = h.ordered;
  shown = h.shown ∙ ap (λ n. r.entry.size + n) (none (finds_again r) ∙ sym (none (finds_again (with_recovery_point start r))));
}
  where
    none : (b : Bool) → size_of (if b then found_within (r.shown - r.entry.size) r.unrecorded else []) ≡ 0
    none b = ap (λ xs. size_of (if b then found_within (r.shown - r.entry.size) xs else [])) all ∙ nothing_found b (r.shown - r.entry.size)

pub point_keeps_rules : PointKeepsRules
point_keeps_rules s r start h is place all =
    let id = r.entry.id in
    let only = only_row 0 id s.rows r h.valid.table.ids is in
    rows_keep s (on_row id (with_recovery_point start) s.rows) h (recovery_point_is_recorded s.rows r start h.valid is).valid (recovery_point_stays_writable s.rows r start h.writable is place).again
    (files_same s.geometry s.greatest id (with_recovery_point start) s.rows (λ q. refl) (λ q. refl)
    (each_row (λ q. RowRules q × (q.entry.id ≡ id → q ≡ r)) RowRules id (with_recovery_point start) s.rows
    (λ q at rules. pointed_rules start q (ap (λ p. p.unrecorded) (rules.1 at) ∙ all) rules.0) (λ q other rules. rules.0)
    (both_rows RowRules (λ q. q.entry.id ≡ id → q ≡ r) s.rows h.files.each only)) h.files)
    (fresh_same s.geometry s.zones id (with_recovery_point start) s.rows (λ q. refl) (λ q. refl) (λ q. refl) h.fresh)

-- ---- bytes that are shown

-- all extents are found within their sum
all_found : (xs : List Extent) → found_within (size_of xs) xs ≡ xs
all_found [] = refl
all_found (x ∷ xs) =
    let sum : size_of (x ∷ xs) ≡ x.len + size_of xs = sum_by-cons (λ (y : Extent). y.len) x xs in
    let fits : nat_le x.len (size_of (x ∷ xs)) ≡ true = le-leb x.len (size_of (x ∷ xs)) (omega (arith, sum)) in
    let left : size_of (x ∷ xs) - x.len ≡ size_of xs = omega (arith, sum) in
    ap (λ b. if b then x ∷ found_within (size_of (x ∷ xs) - x.len) xs else []) fits
    ∙ ap (λ n. x ∷ found_within n xs) left ∙ ap (λ ys. x ∷ ys) (all_found xs)

shown_rules : (now : ℕ) (r : TableRow) → finds_again r ≡ true → RowRules r → RowRules (shown_row now r)
shown_rules now r again h =
    let count : r.entry.size + size_of r.unrecorded - r.entry.size ≡ size_of r.unrecorded = omega arith in
    let found : found_of (shown_row now r) ≡ r.unrecorded =
    ap (λ b. if b then found_within (r.entry.size + size_of r.unrecorded - r.entry.size) r.unrecorded else []) again
    ∙ ap (λ n. found_within n r.unrecorded) count ∙ all_found r.unrecorded in
    record {
      extents = h.extents;
      fits = h.fits;
      ordered = h.ordered;
      shown = ap (λ xs. r.entry.size + size_of xs) (sym found);
    }

pub show_keeps_rules : ShowKeepsRules
unfolding show
show_keeps_rules s r now h is time again =
    let id = r.entry.id in
    let only = only_row 0 id s.rows r h.valid.table.ids is in
    rows_keep s (on_row id (shown_row now) s.rows) h ((show_changes_time s.rows id now).valid h.valid) (show_stays_writable s.rows id now time h.writable)
    (files_same s.geometry s.greatest id (shown_row now) s.rows (λ q. refl) (λ q. refl)
    (each_row (λ q. RowRules q × (q.entry.id ≡ id → q ≡ r)) RowRules id (shown_row now) s.rows
    (λ q at rules. shown_rules now q (ap finds_again (rules.1 at) ∙ again) rules.0) (λ q other rules. rules.0)
    (both_rows RowRules (λ q. q.entry.id ≡ id → q ≡ r) s.rows h.files.each only)) h.files)
    (fresh_same s.geometry s.zones id (shown_row now) s.rows (λ q. refl) (λ q. refl) (λ q. refl) h.fresh)

-- ---- points that are cleared

-- the same extents, in memory and recorded
cleared_working : (rows : List TableRow) → all_extents (working_of (map cleared rows)) ≡ all_extents (working_of rows)
cleared_working [] = refl
cleared_working (r ∷ rs) = ap (λ xs. (r.entry.extents ++ r.unrecorded) ++ xs) (cleared_working rs)

cleared_rows : (rows : List TableRow) → AllByRecursion RowRules rows → AllByRecursion (λ r. r.unrecorded ≡ []) rows → AllByRecursion RowRules (map cleared rows)
cleared_rows [] h all = tt
cleared_rows (r ∷ rs) h all = (pointed_rules no_active r all.0 h.0, cleared_rows rs h.1 all.1)

cleared_ids : (greatest : ℕ) (rows : List TableRow) → AllByRecursion (λ r. r.entry.id ≤ greatest) rows → AllByRecursion (λ r. r.entry.id ≤ greatest) (map cleared rows)
cleared_ids greatest [] h = tt
cleared_ids greatest (r ∷ rs) h = (h.0, cleared_ids greatest rs h.1)

-- nothing is fresh
cleared_fresh : (g : Geometry) (zones : List ZoneDescriptor) (es : Table) (rows : List TableRow) → AllByRecursion (λ r. r.unrecorded ≡ []) rows → FreshRules g zones es (map cleared rows)
cleared_fresh g zones es [] all = tt
cleared_fresh g zones es (r ∷ rs) all = (subst (AllByRecursion (IsFresh g zones es r.entry.id)) (sym all.0) tt, cleared_fresh g zones es rs all.1)

pub clear_keeps_rules : ClearKeepsRules
clear_keeps_rules s h all =
    let clears = mount_clears_points s.rows in
    rows_keep s (map cleared s.rows) h (clears.valid h.valid) (clears.writable h.writable)
    (record {
      each = cleared_rows s.rows h.files.each all;
      ids = cleared_ids s.greatest s.rows h.files.ids;
      lie = subst (AllByRecursion (LiesInZone s.geometry)) (sym (cleared_working s.rows)) h.files.lie;
      apart = ap overlap (cleared_working s.rows) ∙ h.files.apart;
    })
    (cleared_fresh s.geometry s.zones (entries (map cleared s.rows)) s.rows all)

-- ---- extents that are moved

-- an address stays, or comes to lie in the collector's zone
moved_to : (g : Geometry) (zones : List ZoneDescriptor) (moves : List Move) (start : ℕ) → AllByRecursion (λ m. owner_in zones (zone_of g m.to) ≡ Collector) moves
    → (moved_start moves start ≡ start) ⊎ (owner_in zones (zone_of g (moved_start moves start)) ≡ Collector)
moved_to g zones [] start own = inl refl
moved_to g zones (m ∷ ms) start own = by (m.from == start) (moved_to g zones ms start own.1)
  where
    by : (b : Bool) → (moved_start ms start ≡ start) ⊎ (owner_in zones (zone_of g (moved_start ms start)) ≡ Collector)
        → ((if b then m.to else moved_start ms start) ≡ start) ⊎ (owner_in zones (zone_of g (if b then m.to else moved_start ms start)) ≡ Collector)
    by true rest = inr own.0
    by false rest = rest

collectors : (id : ℕ) → Collector ≢ Writer id
collectors id same = cc

-- so what is fresh lies behind it still
moved_behind : (g : Geometry) (zones : List ZoneDescriptor) (moves : List Move) (other : ℕ) (x : Extent) (ys : List Extent) → AllByRecursion (λ m. owner_in zones (zone_of g m.to) ≡ Collector) moves
    → owner_in zones (zone_of g x.start) ≡ Writer other → AllByRecursion (λ y. zone_of g y.start ≡ zone_of g x.start → y.start + y.len ≤ x.start) ys
    → AllByRecursion (λ y. zone_of g y.start ≡ zone_of g x.start → y.start + y.len ≤ x.start) (map (moved_extent moves) ys)
moved_behind g zones moves other x [] own owner h = tt
moved_behind g zones moves other x (y ∷ ys) own owner h = (
  (λ same.
      ⊎_elim (λ stays. let end = h.0 (ap (zone_of g) (sym stays) ∙ same) in omega (arith, end, stays))
      (λ lands. absurd (collectors other (sym lands ∙ ap (owner_in zones) same ∙ owner))) (moved_to g zones moves y.start own)),
  moved_behind g zones moves other x ys own owner h.1,
)

behind_moved : (g : Geometry) (zones : List ZoneDescriptor) (moves : List Move) (id other : ℕ) (x : Extent) (rows : List TableRow) → AllByRecursion (λ m. owner_in zones (zone_of g m.to) ≡ Collector) moves
    → owner_in zones (zone_of g x.start) ≡ Writer other → EndBefore g x.start (entries rows) → EndBefore g x.start (entries (on_row id (moved moves) rows))
behind_moved g zones moves id other x [] own owner before = tt
behind_moved g zones moves id other x (q ∷ qs) own owner before =
    let P : Extent → Type 0 = λ y. zone_of g y.start ≡ zone_of g x.start → y.start + y.len ≤ x.start in
    let parts = all_split P q.entry.extents (all_extents (entries qs)) before in
    by (q.entry.id == id) parts.0 (behind_moved g zones moves id other x qs own owner parts.1)
  where
    by : (b : Bool) → AllByRecursion (λ y. zone_of g y.start ≡ zone_of g x.start → y.start + y.len ≤ x.start) q.entry.extents
        → EndBefore g x.start (entries (on_row id (moved moves) qs))
        → AllByRecursion (λ y. zone_of g y.start ≡ zone_of g x.start → y.start + y.len ≤ x.start)
        ((if b then moved moves q else q).entry.extents ++ all_extents (entries (on_row id (moved moves) qs)))
    by true here rest =
        all_append (λ y. zone_of g y.start ≡ zone_of g x.start → y.start + y.len ≤ x.start) (map (moved_extent moves) q.entry.extents) (all_extents (entries (on_row id (moved moves) qs)))
        (moved_behind g zones moves other x q.entry.extents own owner here) rest
    by false here rest =
        all_append (λ y. zone_of g y.start ≡ zone_of g x.start → y.start + y.len ≤ x.start) q.entry.extents (all_extents (entries (on_row id (moved moves) qs))) here rest

moved_rules : (moves : List Move) (r : TableRow) → RowRules r → RowRules (moved moves r)
moved_rules moves r h = record { extents = h.extents; fits = h.fits; ordered = h.ordered; shown = h.shown }

pub move_keeps_rules : MoveKeepsRules
move_keeps_rules s r moves h is may =
    let id = r.entry.id in
    let after = on_row id (moved moves) s.rows in
    let behind = λ (q : TableRow) (fresh : AllByRecursion (IsFresh s.geometry s.zones (entries s.rows) q.entry.id) q.unrecorded).
    fresh_where s.geometry s.zones (entries s.rows) (entries after) q.entry.id q.unrecorded
    (λ x it. behind_moved s.geometry s.zones moves id q.entry.id x s.rows may.own it.owner it.behind) fresh in
    rows_keep s after h (replacement_is_recorded s.rows r moves h.valid is).valid (replacement_stays_writable s.rows r moves h.writable is may.places).again
    (record {
      each = each_row RowRules RowRules id (moved moves) s.rows (λ q at rules. moved_rules moves q rules) (λ q other rules. rules) h.files.each;
      ids = each_row (λ q. q.entry.id ≤ s.greatest) (λ q. q.entry.id ≤ s.greatest) id (moved moves) s.rows (λ q at low. low) (λ q other low. low) h.files.ids;
      lie = may.lie;
      apart = may.apart;
    })
    (each_row (λ q. AllByRecursion (IsFresh s.geometry s.zones (entries s.rows) q.entry.id) q.unrecorded)
    (λ q. AllByRecursion (IsFresh s.geometry s.zones (entries after) q.entry.id) q.unrecorded) id (moved moves) s.rows
    (λ q at fresh. behind q fresh) (λ q other fresh. behind q fresh) h.fresh)
