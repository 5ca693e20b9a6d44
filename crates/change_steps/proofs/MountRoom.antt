-- The state behind a mount for writing: the same files, and a log with the table alone.
use Rattle.std.specs.Prelude.{◌≡◌, ◌≢◌, ℕ, ◌+◌, ◌-◌, ◌<◌, ◌≤◌, Bool, true, false, ◌==◌, List, [], ◌∷◌, length, map, filter, Option, Some, None, Ok, nat_lt, cond, refl, if◌then◌else◌}
use Rattle.std.specs.List.{AllByRecursion, enumerate_from, count_by}
use Rattle.std.proofs.Common.{sym, ◌∙◌, ap, subst, arith}
use Rattle.std.proofs.lemmas.Bool.{ltb-false, le-ltb}
use Rattle.zone_image.specs.declared.ZoneInfo.{ZoneInfo}
use Rattle.log_model.specs.FileTable.{Table}
use Rattle.log_model.specs.Headroom.{superblock_blocks, snapshot_blocks, log_need}
use Rattle.fs_model.specs.declared.error.FsError.TheVariants.{SequenceEnd}
use Rattle.fs_model.specs.declared.zones.ZoneState.{ZoneState}
use Rattle.fs_model.specs.ZonePolicy.{Numbered, data_zones, is_idle_active, least, room_of}
use Rattle.fs_model.specs.VictimPolicy.{is_resettable}
use Rattle.fs_model.specs.FsState.{FsState, TableRow, ZoneDescriptor, descriptor_at, descriptor_room, room_in, recorded, working, zone_states}
use Rattle.fs_model.specs.Trace.{Refines, ◌>>◌, each, when, refuse_if}
use Rattle.fs_model.specs.LogSteps.{FsAction, NoValue, reset_zone, resettable_zones, reset_dead_zones, must_roll, next_log, refuse_above, set_rows, roll, at_sequence_end}
use Rattle.fs_model.specs.TreeSteps.{cleared, finish_one, free_token, mount_write}
use Rattle.change_steps.specs.Behind.{HasLogZones}
use Rattle.change_steps.specs.Recording.{KeepsFiles}
use Rattle.change_steps.specs.WriteMount.{mount_need, cleared_state, after_token, settled_state}
use Rattle.change_steps.proofs.ClearedRows.{clear, entries_cleared}
use Rattle.change_steps.proofs.ClearedLengths.{table_alike, snapshot_recorded}
use Rattle.change_steps.proofs.EndingLaws.{room_passed}
use Rattle.change_steps.proofs.MountLaws.{token_answers, token_keeps_files}
use Rattle.change_steps.proofs.RecordLaws.{both_keep, roll_answers, roll_keeps_files}
use Rattle.change_steps.proofs.ResetLaws.{each_keeps, resets_answer}
use Rattle.change_steps.proofs.RollRoom.{holding, log_blocks, other_zone, rolled_holds, zone_count}
use Rattle.change_steps.proofs.Traces.{passes, ok_then}

-- ---- dead zones are data zones

-- numbers from one on are no lower
numbers_from : {X : Type 0} (i : ℕ) (xs : List X) → 3 ≤ i → AllByRecursion (λ (z : ℕ × X). 3 ≤ z.0) (enumerate_from i xs)
numbers_from i [] high = tt
numbers_from i (x ∷ xs) high = (high, numbers_from (i + 1) xs (omega arith))

-- data zones come behind the three of metadata
data_numbers : (zs : List ZoneState) → AllByRecursion (λ (z : Numbered). 3 ≤ z.0) (data_zones zs)
data_numbers [] = tt
data_numbers (a ∷ []) = tt
data_numbers (a ∷ b ∷ []) = tt
data_numbers (a ∷ b ∷ c ∷ zs) = numbers_from 3 zs (omega arith)

-- a zone that may be reset, or none, in front of others
number_either : (b : Bool) (z : Numbered) (zs : List Numbered) → 3 ≤ z.0 → AllByRecursion (λ (n : ℕ). 3 ≤ n) (map (λ y. y.0) zs)
    → AllByRecursion (λ (n : ℕ). 3 ≤ n) (map (λ y. y.0) (cond b (z ∷ zs) zs))
number_either true z zs high rest = (high, rest)
number_either false z zs high rest = rest

-- those that may be reset are among them
dead_numbers : (zs : List Numbered) → AllByRecursion (λ (z : Numbered). 3 ≤ z.0) zs → AllByRecursion (λ (n : ℕ). 3 ≤ n) (map (λ z. z.0) (filter is_resettable zs))
dead_numbers [] all = tt
dead_numbers (z ∷ zs) all = number_either (is_resettable z) z (filter is_resettable zs) all.0 (dead_numbers zs all.1)

-- resets of them leave the zones of metadata
resets_leave : (zones : List ℕ) (n : ℕ) (s : FsState) → n < 3 → AllByRecursion (λ (z : ℕ). 3 ≤ z) zones → descriptor_at (each reset_zone zones s).last n ≡ descriptor_at s n
resets_leave [] n s low all = refl
resets_leave (z ∷ zs) n s low all =
    let empty : ZoneDescriptor → ZoneDescriptor = λ y. record y { info = record { written = 0; sealed = false } } in
    let high : 3 ≤ z = all.0 in
    let away : n ≢ z = λ is. omega (arith, is, high, low) in
    resets_leave zs n (reset_zone z s).last low all.1 ∙ other_zone z n empty s.zones away

-- ---- a token that is freed

-- it keeps the log and the number of zones
record KeepsLog (s t : FsState) : Type 0 where
  log : t.log ≡ s.log
  count : length t.zones ≡ length s.zones

finish_keeps : (there : Option (ℕ × ZoneState)) (s : FsState) → KeepsLog s (finish_one there s).last
finish_keeps None s = record { log = refl; count = refl }
finish_keeps (Some z) s = record { log = refl; count = zone_count z.0 (λ y. record y { info = record { written = y.info.written; sealed = true } }) s.zones }

token_either : (b : Bool) (there : Option (ℕ × ZoneState)) (s : FsState) → KeepsLog s (when b (finish_one there) s).last
token_either true there s = finish_keeps there s
token_either false there s = record { log = refl; count = refl }

token_keeps : (s : FsState) → KeepsLog s (after_token s)
token_keeps s =
    let kept =
    token_either (count_by is_idle_active (data_zones (zone_states s)) == s.geometry.active_limit)
    (least (λ z. room_of s.geometry.capacity z.1) (filter is_idle_active (data_zones (zone_states s)))) s in
    record { log = kept.log; count = kept.count }

-- ---- the state behind the mount

-- the steps of a mount that passes its tests
steps_end : (tests : FsAction NoValue) (s : FsState) → Refines tests s (Ok tt) s
    → (reset_dead_zones (settled_state s)).last ≡ ((tests >> set_rows (map cleared) >> free_token >> roll >> reset_dead_zones) s).last
steps_end tests s passed =
    let stored : FsState = settled_state s in
    let freed : FsAction NoValue = tests >> set_rows (map cleared) >> free_token in
    (ok_then (freed >> roll) reset_dead_zones s stored (reset_dead_zones stored).last tt
    (ok_then freed roll s (after_token (cleared_state s)) stored tt
    (ok_then (tests >> set_rows (map cleared)) free_token s (cleared_state s) (after_token (cleared_state s)) tt
    (ok_then tests (set_rows (map cleared)) s s (cleared_state s) tt passed (refl, refl)) (token_answers (cleared_state s), refl))
    (roll_answers (after_token (cleared_state s)), refl)) (resets_answer stored, refl)).1

-- its last state
mount_last : (s : FsState) → at_sequence_end s ≡ false → nat_lt s.geometry.capacity (mount_need s) ≡ false
    → (reset_dead_zones (settled_state s)).last ≡ (mount_write s).last
unfolding mount_write
mount_last s left room =
    steps_end (refuse_if (at_sequence_end s) SequenceEnd >> refuse_above s (mount_need s)) s
    (ok_then (refuse_if (at_sequence_end s) SequenceEnd) (refuse_above s (mount_need s)) s s s tt (passes (at_sequence_end s) SequenceEnd s left) (room_passed s s (mount_need s) room))

-- what the mount leaves: the rows without recovery points, and blocks of a log with no more than the table
pub record IsMounted (s t : FsState) : Type 0 where
  pub geometry : t.geometry ≡ s.geometry
  pub rows : t.rows ≡ map cleared s.rows
  pub greatest : t.greatest ≡ s.greatest
  pub blocks : ℕ
  pub fits : blocks ≤ superblock_blocks s.geometry.block + snapshot_blocks s.geometry.block (working s)
  pub info : (descriptor_at t t.log.zone).info ≡ holding blocks

-- a snapshot of cleared rows is no longer than the table
snapshot_less : (s : FsState) (rows : List TableRow) → 512 ≤ s.geometry.block → rows ≡ map cleared s.rows
    → snapshot_blocks s.geometry.block (map (λ r. r.entry) rows) ≤ snapshot_blocks s.geometry.block (working s)
snapshot_less s rows large is =
    let block : ℕ = s.geometry.block in
    let same : snapshot_blocks block (map (λ r. r.entry) rows) ≡ snapshot_blocks block (map clear (recorded s)) =
    ap (λ (qs : List TableRow). snapshot_blocks block (map (λ r. r.entry) qs)) is ∙ ap (snapshot_blocks block) (entries_cleared s.rows) in
    omega (arith, same, (table_alike block (recorded s) large).snapshot, snapshot_recorded block s.rows large)

-- a log takes the snapshot of the table where it takes the table
snapshot_fits : (block capacity : ℕ) (es : Table) → log_need block es ≤ capacity → superblock_blocks block + snapshot_blocks block es < capacity
unfolding log_need
snapshot_fits block capacity es within = omega arith

-- the state once the log is rolled
settled_is_mounted : (s : FsState) → HasLogZones s → nat_lt s.geometry.capacity (mount_need s) ≡ false → IsMounted s (reset_dead_zones (settled_state s)).last
settled_is_mounted s has room =
    let g = s.geometry in
    let u : FsState = after_token (cleared_state s) in
    let v : FsState = settled_state s in
    let token = token_keeps (cleared_state s) in
    let files : KeepsFiles (cleared_state s) u = token_keeps_files (cleared_state s) in
    let kept = each_keeps (resettable_zones v) v in
    let all : KeepsFiles (cleared_state s) (reset_dead_zones v).last = both_keep (both_keep files (roll_keeps_files u)) kept.0 in
    let low : u.log.zone < 3 = subst (λ l. l.zone < 3) (sym token.log) has.log in
    let long : 3 ≤ length u.zones = omega (arith, token.count, has.zones) in
    let same_block : superblock_blocks u.geometry.block + snapshot_blocks u.geometry.block (recorded u) ≡ superblock_blocks g.block + snapshot_blocks g.block (recorded u) =
    ap (λ x. superblock_blocks x.block + snapshot_blocks x.block (recorded u)) files.geometry in
    let no_more : snapshot_blocks g.block (recorded u) ≤ snapshot_blocks g.block (working s) = snapshot_less s u.rows has.block files.rows in
    let within : superblock_blocks g.block + snapshot_blocks g.block (working s) < g.capacity = snapshot_fits g.block g.capacity (working s) (ltb-false g.capacity (mount_need s) room) in
    let capacity : u.geometry.capacity ≡ g.capacity = ap (λ x. x.capacity) files.geometry in
    let less : log_blocks u < u.geometry.capacity = omega (arith, same_block, no_more, within, capacity) in
    let rolled = rolled_holds u low long less in
    let zone : (reset_dead_zones v).last.log.zone ≡ (next_log u).zone = ap (λ l. l.zone) (kept.1 ∙ rolled.log) in
    let still : descriptor_at (reset_dead_zones v).last (next_log u).zone ≡ descriptor_at v (next_log u).zone =
    resets_leave (resettable_zones v) (next_log u).zone v (omega arith) (dead_numbers (data_zones (zone_states v)) (data_numbers (zone_states v))) in
    record {
      geometry = all.geometry;
      rows = all.rows;
      greatest = all.greatest;
      blocks = 0 + superblock_blocks u.geometry.block + snapshot_blocks u.geometry.block (recorded u);
      fits = omega (arith, same_block, no_more);
      info =
          ap (λ n. (descriptor_at (reset_dead_zones v).last n).info) zone ∙ ap (λ (z : ZoneDescriptor). z.info) still ∙ rolled.info;
    }

-- so is the last state of the mount
pub mount_is_made : (s t : FsState) → HasLogZones s → at_sequence_end s ≡ false → nat_lt s.geometry.capacity (mount_need s) ≡ false → t ≡ (mount_write s).last → IsMounted s t
mount_is_made s t has left room is = subst (λ u. IsMounted s u) (mount_last s left room ∙ sym is) (settled_is_mounted s has room)

-- ---- room for a record

-- the room of a zone that holds so many blocks
room_left : (capacity : ℕ) (z : ZoneDescriptor) (k : ℕ) → z.info ≡ holding k → descriptor_room capacity z ≡ capacity - k
room_left capacity z k is = ap (λ (i : ZoneInfo). if i.sealed then 0 else capacity - i.written) is

-- a record that a new log takes behind the table needs no roll
pub no_roll : (s t : FsState) (blocks : ℕ) → IsMounted s t → superblock_blocks s.geometry.block + snapshot_blocks s.geometry.block (working s) + blocks + 1 ≤ s.geometry.capacity
    → must_roll t blocks ≡ false
no_roll s t blocks made within =
    let room : room_in t t.log.zone ≡ t.geometry.capacity - made.blocks = room_left t.geometry.capacity (descriptor_at t t.log.zone) made.blocks made.info in
    let capacity : t.geometry.capacity ≡ s.geometry.capacity = ap (λ x. x.capacity) made.geometry in
    let fits : made.blocks ≤ superblock_blocks s.geometry.block + snapshot_blocks s.geometry.block (working s) = made.fits in
    le-ltb (room_in t t.log.zone) (blocks + 1) (omega (arith, room, capacity, fits, within))
