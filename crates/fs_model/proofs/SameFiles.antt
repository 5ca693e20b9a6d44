-- Calls after which the same files are there.
use Rattle.std.specs.Prelude.{◌≡◌, ℕ, ◌*◌, Bool, true, false, not, ◌&&◌, ◌==◌, nat_lt, List, [], ◌∷◌, length, map, Option, Some, None, refl, if◌then◌else◌}
use Rattle.std.proofs.Common.{◌∙◌, ap}
use Rattle.record_model.specs.declared.types.Extent.{Extent}
use Rattle.record_model.specs.declared.types.Record.TheVariants as records
use Rattle.log_model.specs.Headroom.{blocks_of_record, superblock_blocks, snapshot_blocks}
use Rattle.fs_model.specs.declared.error.FsError.TheVariants.{Gone, SequenceEnd, NoSpace, Busy}
use Rattle.fs_model.specs.declared.zones.Owner.{Owner}
use Rattle.fs_model.specs.declared.zones.Owner.TheVariants.{Idle, Collector, Victim}
use Rattle.fs_model.specs.declared.zones.Move.{Move}
use Rattle.fs_model.specs.declared.policy.Before.{Before}
use Rattle.fs_model.specs.declared.policy.Before.TheVariants as befores
use Rattle.fs_model.specs.declared.policy.Choice.{Choice}
use Rattle.fs_model.specs.declared.policy.Choice.TheVariants as choices
use Rattle.fs_model.specs.declared.policy.Plan.{Plan}
use Rattle.fs_model.specs.ZonePolicy.{choose_zone, is_idle_owner}
use Rattle.fs_model.specs.FsState.{FsState, ZoneDescriptor, TableRow, descriptor_at, on_descriptor, on_row, row_of, recorded, room_in, next_address, collects, zone_states}
use Rattle.fs_model.specs.LogSteps.{FsAction, set_descriptor, after_append, append_blocks, reset_zone, set_owner, open_zone, is_used, reset_if_used, next_log, other_zones, roll_from, roll, must_roll, at_sequence_end, add_record, refuse_sequence, set_row, block_of, resettable_zones, reset_dead_zones}
use Rattle.fs_model.specs.FileSteps.{or_gone, commit, commit_blocks, commit_record, committed, take_chosen, take_for, take_zone, with_recovery_point, recovery_point_blocks, record_recovery_point, note, note_extent, extents_with, extent_need, show, shown_row, give_back, moved, replace, release_previous, hold, reset_victim}
use Rattle.fs_model.specs.Untouched.{ids_of, LosesNoFile}
use Rattle.fs_model.proofs.KeptFacts.{Stays, stays_done, stays_refuse, stays_step, stays_bind, stays_then, stays_from, stays_when, stays_refuse_if, stays_each}

-- the files have these ids
abbrev pub HasIds : List ℕ → FsState → Type 0
HasIds ids s = ids_of s ≡ ids

-- a change of a zone
ids_zone : {ids : List ℕ} → (n : ℕ) (f : ZoneDescriptor → ZoneDescriptor) → Stays (HasIds ids) (set_descriptor n f)
ids_zone n f = stays_step (λ s. record s { zones = on_descriptor n f s.zones }) (λ s h. h)

-- an append
ids_append : {ids : List ℕ} → (n k : ℕ) → Stays (HasIds ids) (append_blocks n k)
ids_append n k = stays_from (λ s. set_descriptor n (after_append s.geometry.capacity k)) (λ s. ids_zone n (after_append s.geometry.capacity k))

-- another owner
ids_owner : {ids : List ℕ} → (owner : Owner) (zone : ℕ) → Stays (HasIds ids) (set_owner owner zone)
ids_owner owner zone = ids_zone zone _

-- an owner for a zone that is opened
ids_open : {ids : List ℕ} → (owner : Owner) (hint zone : ℕ) → Stays (HasIds ids) (open_zone owner hint zone)
ids_open owner hint zone = ids_zone zone _

-- a reset
ids_reset : {ids : List ℕ} → (zone : ℕ) → Stays (HasIds ids) (reset_zone zone)
ids_reset zone = ids_zone zone _

-- one file of two
same_id : (b : Bool) (g : TableRow → TableRow) (r : TableRow) → (g r).entry.id ≡ r.entry.id → (if b then g r else r).entry.id ≡ r.entry.id
same_id true g r h = h
same_id false g r h = refl

-- a change of a file that keeps its id
ids_on_row : (id : ℕ) (g : TableRow → TableRow) (rows : List TableRow) → ((r : TableRow) → (g r).entry.id ≡ r.entry.id)
    → map (λ r. r.entry.id) (on_row id g rows) ≡ map (λ r. r.entry.id) rows
ids_on_row id g [] same = refl
ids_on_row id g (r ∷ rs) same =
    ap (λ n. n ∷ map (λ q. q.entry.id) (on_row id g rs)) (same_id (r.entry.id == id) g r (same r)) ∙ ap (λ ns. r.entry.id ∷ ns) (ids_on_row id g rs same)

-- a step on one file
ids_row : {ids : List ℕ} → (id : ℕ) (g : TableRow → TableRow) → ((r : TableRow) → (g r).entry.id ≡ r.entry.id) → Stays (HasIds ids) (set_row id g)
ids_row id g same = stays_step (λ s. record s { rows = on_row id g s.rows }) (λ s h. ids_on_row id g s.rows same ∙ h)

-- a roll
ids_roll : {ids : List ℕ} → Stays (HasIds ids) roll
unfolding roll
ids_roll = stays_from roll_from (λ s.
    stays_then (stays_then (stays_then (stays_then (stays_then (stays_then
    (stays_each {f = reset_if_used} (other_zones s.log.zone) (λ zone. stays_from _ (λ t. stays_when (is_used (descriptor_at t zone)) (ids_zone zone _))))
    (stays_from _ (λ t. stays_when (t.log.can_end && nat_lt 0 (room_in t t.log.zone)) (ids_append t.log.zone 1))))
    (stays_from _ (λ t. stays_when (not (descriptor_at t s.log.zone).info.sealed) (ids_zone s.log.zone _))))
    (ids_append (next_log s).zone (superblock_blocks s.geometry.block)))
    (ids_append (next_log s).zone (snapshot_blocks s.geometry.block (recorded s))))
    (ids_zone s.log.zone _))
    (stays_step (λ t. record t { log = next_log s }) (λ t h. h)))

-- a record
ids_record : {ids : List ℕ} → (blocks : ℕ) → Stays (HasIds ids) (add_record blocks)
ids_record blocks = stays_then (stays_from _ (λ s. stays_when (must_roll s blocks) ids_roll)) (stays_from _ (λ s. ids_append s.log.zone blocks))

-- its refusal
ids_tests : {ids : List ℕ} → (blocks : ℕ) → Stays (HasIds ids) (refuse_sequence blocks)
ids_tests blocks = stays_from _ (λ s. stays_refuse_if (must_roll s blocks && at_sequence_end s) SequenceEnd)

-- resets
ids_resets : {ids : List ℕ} → Stays (HasIds ids) reset_dead_zones
ids_resets = stays_from _ (λ s. stays_each {f = reset_zone} (resettable_zones s) (λ zone. ids_zone zone _))

-- a file that is there or not
ids_or_gone : {A : Type 0} {ids : List ℕ} → (there : Option TableRow) (f : TableRow → FsAction A) → ((r : TableRow) → Stays (HasIds ids) (f r)) → Stays (HasIds ids) (or_gone f there)
ids_or_gone None f a = stays_refuse Gone
ids_or_gone (Some r) f a = a r

-- ---- calls

-- one that keeps any ids loses no file
loses_none : {A : Type 0} {m : FsAction A} → ((ids : List ℕ) → Stays (HasIds ids) m) → LosesNoFile m
loses_none k s t i = (k (ids_of s)).every s t refl i

-- a commit
ids_commit : {ids : List ℕ} → (blocks now : ℕ) (r : TableRow) → Stays (HasIds ids) (commit_blocks blocks now r)
ids_commit blocks now r = stays_then (stays_then (stays_then (ids_tests blocks) (ids_record blocks)) (ids_row r.entry.id (committed now) (λ q. refl))) ids_resets

-- a commit loses no file
pub commit_loses_none : (id now : ℕ) → LosesNoFile (commit id now)
unfolding commit
commit_loses_none id now = loses_none (λ ids. stays_from _ (λ s. ids_or_gone (row_of id s.rows) _
    (λ r. stays_from _ (λ t. ids_commit (blocks_of_record (block_of t) (commit_record now r)) now r))))

-- nor does what shows bytes
pub show_loses_none : (id now : ℕ) → LosesNoFile (show id now)
unfolding show
show_loses_none id now = loses_none (λ ids. ids_row id (shown_row now) (λ r. refl))

-- nor a note of an extent
pub note_loses_none : (id : ℕ) (x : Extent) → LosesNoFile (note_extent id x)
unfolding note_extent
note_loses_none id x = loses_none (λ ids. stays_from _ (λ s. ids_or_gone (row_of id s.rows) _
    (λ r. stays_from _ (λ t. stays_then
    (stays_when (nat_lt (length r.unrecorded) (length (extents_with r.unrecorded x))) (stays_refuse_if (nat_lt t.geometry.capacity (extent_need t id)) _))
    (ids_row id (note x) (λ q. refl))))))

-- nor a replacement
pub replace_loses_none : (id : ℕ) (ms : List Move) → LosesNoFile (replace id ms)
unfolding replace
replace_loses_none id ms = loses_none (λ ids. stays_from _ (λ s. ids_or_gone (row_of id s.rows) _
    (λ r. stays_from _ (λ t. stays_then (stays_then (ids_tests (blocks_of_record (block_of t) (records.Replace (moved ms r).entry)))
    (ids_record (blocks_of_record (block_of t) (records.Replace (moved ms r).entry)))) (ids_row id (moved ms) (λ q. refl))))))

-- a zone that was chosen
ids_chosen : {ids : List ℕ} → (id hint : ℕ) (c : Choice) → Stays (HasIds ids) (take_chosen id hint c)
ids_chosen id hint (choices.Take zone) = stays_then (ids_zone zone _) (stays_done zone)
ids_chosen id hint (choices.Fresh zone) = stays_then (ids_zone zone _) (stays_done zone)
ids_chosen id hint (choices.FinishFresh old zone) = stays_then (stays_then (ids_zone old _) (ids_zone zone _)) (stays_done zone)
ids_chosen id hint choices.Busy = stays_refuse Busy
ids_chosen id hint choices.NoSpace = stays_refuse NoSpace

-- a recovery point
ids_point : {ids : List ℕ} → (r : TableRow) (zone : ℕ) → Stays (HasIds ids) (record_recovery_point r zone)
ids_point r zone = stays_from _ (λ s. stays_when r.entry.sparse
    (stays_then (ids_record (recovery_point_blocks s r)) (ids_row r.entry.id (with_recovery_point (next_address s zone)) (λ q. refl))))

-- nor does a writer that takes a zone
pub take_zone_loses_none : (id : ℕ) → LosesNoFile (take_zone id)
unfolding take_zone
take_zone_loses_none id = loses_none (λ ids. stays_from _ (λ s. ids_or_gone (row_of id s.rows) _
    (λ r. stays_from (take_for id r) (λ t. stays_then (stays_refuse_if (r.entry.sparse && must_roll t (recovery_point_blocks t r) && at_sequence_end t) SequenceEnd)
    (stays_bind (ids_chosen id r.entry.hint (choose_zone t.geometry (collects t) (zone_states t) r.entry.hint)) (λ zone. stays_then (ids_point r zone) (stays_done zone)))))))

-- nor an append to a zone
pub put_loses_none : (zone k : ℕ) → LosesNoFile (append_blocks zone k)
put_loses_none zone k = loses_none (λ ids. ids_append zone k)

-- nor giving a zone back
pub give_back_loses_none : (zone : ℕ) (close : Bool) → LosesNoFile (give_back zone close)
unfolding give_back
give_back_loses_none zone close = loses_none (λ ids. stays_then
    (stays_when close (stays_from _ (λ s. stays_when (not (descriptor_at s zone).info.sealed && nat_lt (room_in s zone * 100) (s.log.superblock.finish_threshold * s.geometry.capacity)) (ids_zone zone _))))
    (ids_zone zone _))

-- what is done first with the zone that the collector holds
ids_previous : {ids : List ℕ} → (b : Before) → Stays (HasIds ids) (release_previous b)
ids_previous befores.Nothing = stays_done tt
ids_previous (befores.Finish zone) = stays_then (ids_zone zone _) (ids_zone zone _)
ids_previous (befores.Release zone) = ids_zone zone _

-- nor pinning a plan
pub hold_loses_none : (p : Plan) → LosesNoFile (hold p)
unfolding hold
hold_loses_none p = loses_none (λ ids. stays_then (ids_previous p.before) (stays_from _ (λ s. stays_then
    (stays_from _ (λ t. stays_when (is_idle_owner (descriptor_at t p.dest).owner) (ids_open Collector (descriptor_at s p.victim).hint p.dest))) (ids_owner Victim p.victim))))

-- nor the reset of a victim
pub reset_victim_loses_none : (zone : ℕ) → LosesNoFile (reset_victim zone)
unfolding reset_victim
reset_victim_loses_none zone = loses_none (λ ids. stays_then (ids_reset zone) (ids_owner Idle zone))
