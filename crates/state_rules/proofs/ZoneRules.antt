-- Steps on zones, on the log and on writers keep the rules.
use Rattle.std.specs.Prelude.{◌≡◌, ◌≢◌, ℕ, ◌+◌, ◌*◌, ◌%◌, ◌<◌, ◌≤◌, Bool, true, false, not, ◌&&◌, ◌||◌, List, [], ◌∷◌, filter, Option, Some, None, nat_lt, ◌==◌, if◌then◌else◌, refl}
use Rattle.std.proofs.Common.{◌∙◌, ap, sym, arith}
use Rattle.std.proofs.lemmas.Bool.{false≢true, eqb-true}
use Rattle.std.specs.List.{list_any, count_by}
use Rattle.log_model.specs.Headroom.{superblock_blocks, snapshot_blocks}
use Rattle.fs_model.specs.declared.zones.Owner.{Owner}
use Rattle.fs_model.specs.declared.zones.Owner.TheVariants.{Idle, Writer, Collector, Victim}
use Rattle.fs_model.specs.declared.zones.ZoneState.{ZoneState}
use Rattle.fs_model.specs.declared.error.FsError.TheVariants.{Gone, InUse}
use Rattle.fs_model.specs.ZonePolicy.{is_idle_owner, is_idle_active, least, room_of, data_zones}
use Rattle.fs_model.specs.FsState.{FsState, TableRow, ZoneDescriptor, zone_states, descriptor_at, on_descriptor, room_in, recorded, row_of}
use Rattle.fs_model.specs.Trace.{step, from_state, when, refuse_if, ◌>>◌}
use Rattle.fs_model.specs.LogSteps.{FsAction, set_descriptor, after_append, append_blocks, finish_zone, reset_zone, set_owner, is_used, reset_if_used, finish_if_open, end_log, next_log, other_zones, roll_from, roll, must_roll, resettable_zones}
use Rattle.fs_model.specs.TreeSteps.{finish_one}
use Rattle.fs_model.specs.FileSteps.{or_gone, mark_open, mark_closed, give_back, reset_victim}
use Rattle.fs_model.specs.Untouched.{is_one_of}
use Rattle.fs_model.proofs.KeptFacts.{Stays, stays_done, stays_refuse, stays_step, stays_then, stays_from, stays_when, stays_refuse_if, stays_each}
use Rattle.state_rules.specs.Rules.{owner_in, KeepsRules}
use Rattle.state_rules.specs.ZoneRules.{AppendKeepsRules, FinishKeepsRules, ResetKeepsRules, RollKeepsRules, RecordKeepsRules, DeadZonesKeepRules, FreeTokenKeepsRules, HasNoZone, HasNothingFresh, TakeKeepsRules, DestinationKeepsRules, VictimKeepsRules, GiveBackKeepsRules, RetireKeepsRules, OpenKeepsRules, CloseKeepsRules}
use Rattle.state_rules.proofs.OwnerLaws.{same_count, owners_stay, Given, owner_given, owners_given, owners_same, fresh_owners, fresh_given, nothing_fresh}

-- a step on a zone that leaves its owner
pub info_keeps : (n : ℕ) (f : ZoneDescriptor → ZoneDescriptor) (s : FsState) → ((z : ZoneDescriptor) → (f z).owner ≡ z.owner) → KeepsRules s
    → KeepsRules (record s { zones = on_descriptor n f s.zones })
info_keeps n f s same h = record {
  device = record { valid = h.device.valid; count = same_count n f s.zones ∙ h.device.count; log_zone = h.device.log_zone; flags = h.device.flags };
  valid = h.valid;
  writable = h.writable;
  files = h.files;
  owners = owners_same s.zones (on_descriptor n f s.zones) s.writers (λ m. owners_stay n m f s.zones same) h.owners;
  fresh = fresh_owners s.geometry s.zones (on_descriptor n f s.zones) _ s.rows (λ m. owners_stay n m f s.zones same) h.fresh;
}

-- one that gives it an owner
owner_keeps : (n : ℕ) (owner : Owner) (f : ZoneDescriptor → ZoneDescriptor) (s : FsState) → ((z : ZoneDescriptor) → (f z).owner ≡ owner)
    → (is_idle_owner owner ≡ false → 3 ≤ n) → ((id : ℕ) → owner ≡ Writer id → is_one_of s.writers id ≡ true) → (is_idle_owner owner ≡ false → HasNoZone s owner)
    → HasNothingFresh s.geometry n s.rows → KeepsRules s → KeepsRules (record s { zones = on_descriptor n f s.zones })
owner_keeps n owner f s gives data_zone open_too none away h =
    let given : Given s.zones (on_descriptor n f s.zones) n owner = λ m. owner_given n m owner f s.zones gives in
    record {
      device = record { valid = h.device.valid; count = same_count n f s.zones ∙ h.device.count; log_zone = h.device.log_zone; flags = h.device.flags };
      valid = h.valid;
      writable = h.writable;
      files = h.files;
      owners = owners_given s.zones (on_descriptor n f s.zones) s.writers n owner given data_zone open_too none h.owners;
      fresh = fresh_given s.geometry s.zones (on_descriptor n f s.zones) _ n owner s.rows given away h.fresh;
    }

-- ---- zones and the log

-- an operation that looks at a state that keeps the rules
stays_given : {A : Type 0} {P : FsState → Type 0} → (f : FsState → FsAction A) → ((s : FsState) → P s → Stays P (f s)) → Stays P (from_state f)
stays_given f a = record { every = λ s t h i. (a s h).every s t h i }

stays_append : (zone count : ℕ) → Stays KeepsRules (append_blocks zone count)
stays_append zone count =
    stays_from (λ s. set_descriptor zone (after_append s.geometry.capacity count))
    (λ s. stays_step (λ t. record t { zones = on_descriptor zone (after_append s.geometry.capacity count) t.zones })
    (λ t h. info_keeps zone (after_append s.geometry.capacity count) t (λ z. refl) h))

stays_finish : (zone : ℕ) → Stays KeepsRules (finish_zone zone)
stays_finish zone = stays_step _ (λ t h. info_keeps zone _ t (λ z. refl) h)

stays_reset : (zone : ℕ) → Stays KeepsRules (reset_zone zone)
stays_reset zone = stays_step _ (λ t h. info_keeps zone _ t (λ z. refl) h)

pub append_keeps_rules : AppendKeepsRules
append_keeps_rules zone count = (stays_append zone count).every

pub finish_keeps_rules : FinishKeepsRules
finish_keeps_rules zone = (stays_finish zone).every

pub reset_keeps_rules : ResetKeepsRules
reset_keeps_rules zone = (stays_reset zone).every

stays_reset_used : (zone : ℕ) → Stays KeepsRules (reset_if_used zone)
stays_reset_used zone = stays_from (λ s. when (is_used (descriptor_at s zone)) (reset_zone zone)) (λ s. stays_when (is_used (descriptor_at s zone)) (stays_reset zone))

stays_finish_open : (zone : ℕ) → Stays KeepsRules (finish_if_open zone)
stays_finish_open zone =
    stays_from (λ s. when (not (descriptor_at s zone).info.sealed) (finish_zone zone)) (λ s. stays_when (not (descriptor_at s zone).info.sealed) (stays_finish zone))

stays_end : Stays KeepsRules end_log
stays_end =
    stays_from (λ s. when (s.log.can_end && nat_lt 0 (room_in s s.log.zone)) (append_blocks s.log.zone 1))
    (λ s. stays_when (s.log.can_end && nat_lt 0 (room_in s s.log.zone)) (stays_append s.log.zone 1))

-- another log, of the same flags
log_keeps : (s t : FsState) → KeepsRules s → KeepsRules t → KeepsRules (record t { log = next_log s })
log_keeps s t before h = record {
  device = record { valid = h.device.valid; count = h.device.count; log_zone = next_low s.log.zone; flags = before.device.flags };
  valid = h.valid;
  writable = h.writable;
  files = h.files;
  owners = h.owners;
  fresh = h.fresh;
}
  where
    next_low : (n : ℕ) → (n + 1) % 3 < 3
    next_low n = omega arith

stays_roll : Stays KeepsRules roll
unfolding roll
stays_roll = stays_given roll_from (λ s h.
    stays_then (stays_then (stays_then (stays_then (stays_then (stays_then
    (stays_each (other_zones s.log.zone) stays_reset_used)
    stays_end)
    (stays_finish_open s.log.zone))
    (stays_append (next_log s).zone (superblock_blocks s.geometry.block)))
    (stays_append (next_log s).zone (snapshot_blocks s.geometry.block (recorded s))))
    (stays_reset s.log.zone))
    (stays_step (λ t. record t { log = next_log s }) (λ t g. log_keeps s t h g)))

pub roll_keeps_rules : RollKeepsRules
roll_keeps_rules = stays_roll.every

pub record_keeps_rules : RecordKeepsRules
record_keeps_rules blocks =
    (stays_then (stays_from (λ s. when (must_roll s blocks) roll) (λ s. stays_when (must_roll s blocks) stays_roll))
    (stays_from (λ s. append_blocks s.log.zone blocks) (λ s. stays_append s.log.zone blocks))).every

pub dead_zones_keep_rules : DeadZonesKeepRules
dead_zones_keep_rules = (stays_given (λ s. _) (λ s h. stays_each (resettable_zones s) stays_reset)).every

stays_finish_one : (z : Option (ℕ × ZoneState)) → Stays KeepsRules (finish_one z)
stays_finish_one None = stays_done tt
stays_finish_one (Some z) = stays_finish z.0

pub free_token_keeps_rules : FreeTokenKeepsRules
free_token_keeps_rules =
    (stays_given (λ s. _)
    (λ s h. stays_when (count_by is_idle_active (data_zones (zone_states s)) == s.geometry.active_limit)
    (stays_finish_one (least (λ z. room_of s.geometry.capacity z.1) (filter is_idle_active (data_zones (zone_states s))))))).every

-- ---- owners

-- no writer holds a zone that nobody holds
idle_unwritten : (o : Owner) (id : ℕ) → is_idle_owner o ≡ true → o ≢ Writer id
idle_unwritten o id idle is = false≢true (ap is_idle_owner (sym is) ∙ idle)

pub take_keeps_rules : TakeKeepsRules
take_keeps_rules s id hint zone h is open_too none =
    owner_keeps zone (Writer id) _ s (λ z. refl) (λ _. is.data_zone) (λ other same. ap (is_one_of s.writers) (sym (id_of id other same)) ∙ open_too) (λ _. none)
    (nothing_fresh s.geometry s.zones _ zone s.rows (λ other. idle_unwritten (owner_in s.zones zone) other is.idle) h.fresh) h
  where
    number : Owner → ℕ
    number (Writer n) = n
    number _ = 0

    id_of : (n m : ℕ) → Writer n ≡ Writer m → n ≡ m
    id_of n m same = ap number same

-- a collector is no writer
collector_other : (id : ℕ) → Collector ≢ Writer id
collector_other id same = cc

victim_other : (id : ℕ) → Victim ≢ Writer id
victim_other id same = cc

idle_other : (id : ℕ) → Idle ≢ Writer id
idle_other id same = cc

pub destination_keeps_rules : DestinationKeepsRules
destination_keeps_rules s hint zone h is none =
    owner_keeps zone Collector _ s (λ z. refl) (λ _. is.data_zone) (λ id same. absurd (collector_other id same)) (λ _. none)
    (nothing_fresh s.geometry s.zones _ zone s.rows (λ id. idle_unwritten (owner_in s.zones zone) id is.idle) h.fresh) h

pub victim_keeps_rules : VictimKeepsRules
victim_keeps_rules s zone h is none =
    owner_keeps zone Victim _ s (λ z. refl) (λ _. is.data_zone) (λ id same. absurd (victim_other id same)) (λ _. none)
    (nothing_fresh s.geometry s.zones _ zone s.rows (λ id. idle_unwritten (owner_in s.zones zone) id is.idle) h.fresh) h

-- a zone that nobody holds any more
release_keeps : (s : FsState) (zone : ℕ) → KeepsRules s → HasNothingFresh s.geometry zone s.rows → KeepsRules (set_owner Idle zone s).last
release_keeps s zone h away =
    owner_keeps zone Idle _ s (λ z. refl) (λ busy. absurd (false≢true (sym busy))) (λ id same. absurd (idle_other id same)) (λ busy. absurd (false≢true (sym busy))) away h

-- a zone that is finished, or not, and given back
finish_and_release : (b : Bool) (s : FsState) (zone : ℕ) → KeepsRules s → HasNothingFresh s.geometry zone s.rows
    → KeepsRules ((when b (finish_zone zone) >> set_owner Idle zone) s).last
finish_and_release true s zone h away = release_keeps (finish_zone zone s).last zone (info_keeps zone _ s (λ z. refl) h) away
finish_and_release false s zone h away = release_keeps s zone h away

pub give_back_keeps_rules : GiveBackKeepsRules
unfolding give_back
give_back_keeps_rules s zone true h away =
    finish_and_release (not (descriptor_at s zone).info.sealed && nat_lt (room_in s zone * 100) (s.log.superblock.finish_threshold * s.geometry.capacity)) s zone h away
give_back_keeps_rules s zone false h away = release_keeps s zone h away

pub retire_keeps_rules : RetireKeepsRules
unfolding reset_victim
retire_keeps_rules s zone h is =
    release_keeps (reset_zone zone s).last zone (info_keeps zone _ s (λ z. refl) h)
    (nothing_fresh s.geometry s.zones _ zone s.rows (λ id same. victim_other id (sym is ∙ same)) h.fresh)

-- ---- writers

-- one writer more
opened_keeps : (s : FsState) (id : ℕ) → KeepsRules s → KeepsRules (record s { writers = id ∷ s.writers })
opened_keeps s id h = record {
  device = record { valid = h.device.valid; count = h.device.count; log_zone = h.device.log_zone; flags = h.device.flags };
  valid = h.valid;
  writable = h.writable;
  files = h.files;
  owners = record {
    held = h.owners.held;
    writer = λ other n is. more (id == other) (is_one_of s.writers other) (h.owners.writer other n is);
    only = h.owners.only;
    collector = h.owners.collector;
    victim = h.owners.victim;
  };
  fresh = h.fresh;
}
  where
    more : (a b : Bool) → b ≡ true → a || b ≡ true
    more true b has = refl
    more false b has = has

stays_opened : (id : ℕ) (there : Option TableRow) → Stays KeepsRules (or_gone (λ r. from_state (λ s.
    refuse_if (list_any (λ w. w == id) s.writers) InUse
    >> step (λ t. record t { writers = id ∷ t.writers }))) there)
stays_opened id None = stays_refuse Gone
stays_opened id (Some r) =
    stays_from (λ s. refuse_if (list_any (λ w. w == id) s.writers) InUse >> step (λ t. record t { writers = id ∷ t.writers }))
    (λ s. stays_then (stays_refuse_if (list_any (λ w. w == id) s.writers) InUse) (stays_step (λ t. record t { writers = id ∷ t.writers }) (λ t h. opened_keeps t id h)))

pub open_keeps_rules : OpenKeepsRules
unfolding mark_open
open_keeps_rules id = (stays_given (λ s. _) (λ s h. stays_opened id (row_of id s.rows))).every

-- the others are open still
still_open : (id other : ℕ) (ws : List ℕ) → other ≢ id → is_one_of ws other ≡ true → is_one_of (filter (λ w. not (w == id)) ws) other ≡ true
still_open id other [] away has = has
still_open id other (w ∷ ws) away has = by (w == id) refl (w == other) refl has (still_open id other ws away)
  where
    by : (same : Bool) → (w == id) ≡ same → (it : Bool) → (w == other) ≡ it → it || is_one_of ws other ≡ true → (is_one_of ws other ≡ true → is_one_of (filter (λ v. not (v == id)) ws) other ≡ true)
        → is_one_of (if not same then w ∷ filter (λ v. not (v == id)) ws else filter (λ v. not (v == id)) ws) other ≡ true
    by true a true b has rest = absurd (away (sym (eqb-true w other b) ∙ eqb-true w id a))
    by true a false b has rest = rest has
    by false a true b has rest = ap (λ c. c || is_one_of (filter (λ v. not (v == id)) ws) other) b
    by false a false b has rest = ap (λ c. c || is_one_of (filter (λ v. not (v == id)) ws) other) b ∙ rest has

pub close_keeps_rules : CloseKeepsRules
unfolding mark_closed
close_keeps_rules s id h none = record {
  device = record { valid = h.device.valid; count = h.device.count; log_zone = h.device.log_zone; flags = h.device.flags };
  valid = h.valid;
  writable = h.writable;
  files = h.files;
  owners = record {
    held = h.owners.held;
    writer = λ other n is. still_open id other s.writers (λ same. none n (is ∙ ap Writer same)) (h.owners.writer other n is);
    only = h.owners.only;
    collector = h.owners.collector;
    victim = h.owners.victim;
  };
  fresh = h.fresh;
}
