-- Commits, shown bytes, noted extents and recovery points keep the rules of a mount that writes.
use Rattle.std.specs.Prelude.{◌≡◌, ◌≢◌, ℕ, ◌+◌, ◌≤◌, Bool, true, false, List, [], ◌∷◌, ◌++◌, length, ◌==◌, if◌then◌else◌, IsTrue, refl}
use Rattle.std.proofs.Common.{ap, sym, subst, append-nil, arith}
use Rattle.std.proofs.lemmas.Bool.{leb-true, le-leb}
use Rattle.std.specs.List.{AllByRecursion, AllZip}
use Rattle.zone_image.specs.declared.Geometry.{Geometry}
use Rattle.zone_image.specs.Image.{is_valid, zone_of}
use Rattle.record_model.specs.declared.types.Extent.{Extent}
use Rattle.record_model.specs.declared.types.FileEntry.{FileEntry}
use Rattle.log_model.specs.Frames.{no_active}
use Rattle.log_model.specs.Mounted.{all_extents}
use Rattle.log_model.specs.Headroom.{log_need, has_room}
use Rattle.log_model.specs.HeadroomLaws.{IsNoLonger}
use Rattle.log_model.proofs.HeadroomLaws.{fewer_extents_need_no_more}
use Rattle.fs_model.specs.FsState.{FsState, TableRow, ZoneDescriptor, working_entry, working_of, recorded, on_row}
use Rattle.fs_model.specs.FileSteps.{committed, with_recovery_point, note, show, shown_row}
use Rattle.change_records.specs.Recorded.{entries}
use Rattle.change_records.proofs.EntryLaws.{all_rows, only_row}
use Rattle.change_records.proofs.StepsWithoutRecord.{note_records_nothing}
use Rattle.state_rules.specs.Rules.{KeepsRules}
use Rattle.state_rules.specs.Unbroken.{PointLies, PointRules}
use Rattle.state_rules.specs.WritingRules.{KeepsWritingRules}
use Rattle.state_rules.specs.WritingData.{CommitKeepsWriting, ShowKeepsWriting, NoteKeepsWriting, PointKeepsWriting}
use Rattle.state_rules.proofs.RowChanges.{each_row, both_rows}
use Rattle.state_rules.proofs.DataRules.{behind_committed, recorded_same, commit_keeps_rules, show_keeps_rules, point_keeps_rules}
use Rattle.state_rules.proofs.NoteRules.{note_keeps_rules}
use Rattle.state_rules.proofs.TokenCounts.{tokens_are}

-- ---- room

-- a block has 512 bytes at least
long_block : (g : Geometry) → IsTrue (is_valid g) → 512 ≤ g.block
long_block g valid = grind (arith, valid)

-- a change after which no file is longer leaves the room
room_kept : (g : Geometry) (id : ℕ) (change : TableRow → TableRow) (rows : List TableRow) → IsTrue (is_valid g) → ((q : TableRow) → IsNoLonger (working_entry (change q)) (working_entry q))
    → has_room g.capacity g.block (working_of rows) ≡ true → has_room g.capacity g.block (working_of (on_row id change rows)) ≡ true
room_kept g id change rows valid shorter room =
    let after = working_of (on_row id change rows) in
    let less : log_need g.block after ≤ log_need g.block (working_of rows) = (fewer_extents_need_no_more g.block after (working_of rows) (long_block g valid) (lengths rows)).1 in
    let fits : log_need g.block (working_of rows) ≤ g.capacity = leb-true (log_need g.block (working_of rows)) g.capacity room in
    le-leb (log_need g.block after) g.capacity (omega (arith, less, fits))
  where
    choice : (b : Bool) (q : TableRow) → IsNoLonger (working_entry (if b then change q else q)) (working_entry q)
    choice true q = shorter q
    choice false q = record { names = refl; sparse = refl; extents = omega arith }

    lengths : (rs : List TableRow) → AllZip IsNoLonger (working_of (on_row id change rs)) (working_of rs)
    lengths [] = tt
    lengths (q ∷ qs) = (choice (q.entry.id == id) q, lengths qs)

-- ---- points

-- a commit makes no file longer
committed_length : (q : TableRow) → length ((q.entry.extents ++ q.unrecorded) ++ []) ≤ length (q.entry.extents ++ q.unrecorded)
committed_length q = let same = ap (λ (xs : List Extent). length xs) (append-nil (q.entry.extents ++ q.unrecorded)) in omega (arith, same)

-- of each recorded entry what is true of its row
to_entries : (P : FileEntry → Type 0) (rows : List TableRow) → AllByRecursion (λ q. P q.entry) rows → AllByRecursion P (entries rows)
to_entries P [] h = tt
to_entries P (q ∷ qs) h = (h.0, to_entries P qs h.1)

pub commit_keeps_writing : CommitKeepsWriting
commit_keeps_writing s r now h is time =
    let id = r.entry.id in
    let g = s.geometry in
    let after = on_row id (committed now) s.rows in
    let t : FsState = record s { rows = after } in
    let few = h.token in
    record {
      rules = commit_keeps_rules s r now h.rules is time;
      room = room_kept g id (committed now) s.rows h.rules.device.valid (λ q. record { names = refl; sparse = refl; extents = committed_length q }) h.room;
      token = omega (arith, tokens_are s, tokens_are t, few);
      written = h.written;
      unused = h.unused;
      points =
          to_entries (λ e. e.active ≢ no_active → PointLies g s.zones (entries after) e) after
          (each_row (λ q. q.entry.active ≢ no_active → PointLies g s.zones (entries s.rows) q.entry) (λ q. q.entry.active ≢ no_active → PointLies g s.zones (entries after) q.entry) id (committed now) s.rows
          (λ q at it set. absurd (set refl))
          (λ q other it set. let lies = it set in record {
            owner = lies.owner;
            whole = lies.whole;
            behind =
                behind_committed g s.zones (entries s.rows) id now q.entry.id (record { start = q.entry.active; len = 0 }) s.rows (λ same. other (sym same)) lies.owner
                h.rules.fresh lies.behind;
            within = lies.within;
          })
          (all_rows (λ e. e.active ≢ no_active → PointLies g s.zones (entries s.rows) e) (λ q. q.entry.active ≢ no_active → PointLies g s.zones (entries s.rows) q.entry) s.rows (λ q p. p) h.points));
    }

-- ---- other steps on a row

-- a state with other rows, by its rules
rows_write : (s : FsState) (rows : List TableRow) → KeepsRules (record s { rows = rows }) → has_room s.geometry.capacity s.geometry.block (working_of rows) ≡ true
    → PointRules s.geometry s.zones (entries rows) → KeepsWritingRules s → KeepsWritingRules (record s { rows = rows })
rows_write s rows rules room points h =
    let t : FsState = record s { rows = rows } in
    let few = h.token in
    record {
      rules = rules;
      room = room;
      token = omega (arith, tokens_are s, tokens_are t, few);
      written = h.written;
      unused = h.unused;
      points = points;
    }

-- a point lies where it lay, where the same extents are recorded
point_stays : (g : Geometry) (zones : List ZoneDescriptor) (es fs : List FileEntry) (e : FileEntry) → all_extents fs ≡ all_extents es → PointLies g zones es e → PointLies g zones fs e
point_stays g zones es fs e same it = record {
  owner = it.owner;
  whole = it.whole;
  behind = subst (AllByRecursion (λ y. zone_of g y.start ≡ zone_of g e.active → y.start + y.len ≤ e.active)) (sym same) it.behind;
  within = it.within;
}

-- the points as rows have them
row_points : (s : FsState) → PointRules s.geometry s.zones (recorded s) → AllByRecursion (λ q. q.entry.active ≢ no_active → PointLies s.geometry s.zones (recorded s) q.entry) s.rows
row_points s points =
    all_rows (λ e. e.active ≢ no_active → PointLies s.geometry s.zones (recorded s) e) (λ q. q.entry.active ≢ no_active → PointLies s.geometry s.zones (recorded s) q.entry) s.rows (λ q p. p) points

-- the same point of an entry at another time
timed_point : (g : Geometry) (zones : List ZoneDescriptor) (es : List FileEntry) (e : FileEntry) (now : ℕ) → PointLies g zones es e → PointLies g zones es (record e { time = now })
timed_point g zones es e now it = record { owner = it.owner; whole = it.whole; behind = it.behind; within = it.within }

pub show_keeps_writing : ShowKeepsWriting
unfolding show
show_keeps_writing s r now h is time again =
    let id = r.entry.id in
    let g = s.geometry in
    let after = on_row id (shown_row now) s.rows in
    let same = recorded_same id (shown_row now) s.rows (λ q. refl) in
    rows_write s after (show_keeps_rules s r now h.rules is time again)
    (room_kept g id (shown_row now) s.rows h.rules.device.valid (λ q. record { names = refl; sparse = refl; extents = omega arith }) h.room)
    (to_entries (λ e. e.active ≢ no_active → PointLies g s.zones (entries after) e) after
    (each_row (λ q. q.entry.active ≢ no_active → PointLies g s.zones (recorded s) q.entry) (λ q. q.entry.active ≢ no_active → PointLies g s.zones (entries after) q.entry) id (shown_row now) s.rows
    (λ q at it set. timed_point g s.zones (entries after) q.entry now (point_stays g s.zones (recorded s) (entries after) q.entry same (it set)))
    (λ q other it set. point_stays g s.zones (recorded s) (entries after) q.entry same (it set))
    (row_points s h.points))) h

pub note_keeps_writing : NoteKeepsWriting
note_keeps_writing s r x h is may room =
    let id = r.entry.id in
    let same : entries (on_row id (note x) s.rows) ≡ entries s.rows = note_records_nothing s.rows id x in
    rows_write s (on_row id (note x) s.rows) (note_keeps_rules s r x h.rules is may) room
    (subst (PointRules s.geometry s.zones) (sym same) h.points) h

pub point_keeps_writing : PointKeepsWriting
point_keeps_writing s r start h is place all lies =
    let id = r.entry.id in
    let g = s.geometry in
    let after = on_row id (with_recovery_point start) s.rows in
    let same = recorded_same id (with_recovery_point start) s.rows (λ q. refl) in
    let only = only_row 0 id s.rows r h.rules.valid.table.ids is in
    rows_write s after (point_keeps_rules s r start h.rules is place all)
    (room_kept g id (with_recovery_point start) s.rows h.rules.device.valid (λ q. record { names = refl; sparse = refl; extents = omega arith }) h.room)
    (to_entries (λ e. e.active ≢ no_active → PointLies g s.zones (entries after) e) after
    (each_row (λ q. (q.entry.active ≢ no_active → PointLies g s.zones (recorded s) q.entry) × (q.entry.id ≡ id → q ≡ r)) (λ q. q.entry.active ≢ no_active → PointLies g s.zones (entries after) q.entry) id (with_recovery_point start) s.rows
    (λ q at it set. point_stays g s.zones (recorded s) (entries after) (with_recovery_point start q).entry same
    (subst (λ p. PointLies g s.zones (recorded s) (with_recovery_point start p).entry) (sym (it.1 at)) lies))
    (λ q other it set. point_stays g s.zones (recorded s) (entries after) q.entry same (it.0 set))
    (both_rows (λ q. q.entry.active ≢ no_active → PointLies g s.zones (recorded s) q.entry) (λ q. q.entry.id ≡ id → q ≡ r) s.rows (row_points s h.points) only))) h
