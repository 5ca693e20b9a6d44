-- Rolls of a log at rest.
use Rattle.std.specs.Prelude.{◌≡◌, ◌≢◌, ◌⊎◌, ℕ, zero, suc, ◌+◌, ◌<◌, ◌≤◌, false, List, [], ◌∷◌, length, drop, map, Ok, refl, IsOk}
use Rattle.std.proofs.Common.{◌∙◌, ap, sym, subst, ⊎_elim, inl, inr, arith}
use Rattle.zone_image.specs.Image.{Image, zone_at, zone_in}
use Rattle.zone_image.specs.Changes.{zone_synced, synced}
use Rattle.zone_image.specs.Infos.{IsValidImage}
use Rattle.record_model.specs.Numbers.{u32}
use Rattle.record_model.specs.Decoding.{record_of}
use Rattle.record_model.specs.FieldDecoding.{◌>>=◌}
use Rattle.record_model.specs.declared.types.Record.TheVariants.{Snapshot, End}
use Rattle.superblock_core.specs.Superblock.{superblock_bytes}
use Rattle.log_model.specs.declared.selection.Chosen.{Chosen}
use Rattle.log_model.specs.LogScan.{blocks_of}
use Rattle.log_model.specs.LogSelection.{LogAt, chosen_of}
use Rattle.log_model.specs.FileTable.{Table, after_record, replay_log}
use Rattle.log_model.specs.CrashLaws.{IsDurable}
use Rattle.log_model.specs.MountedLogLaws.{HasTable, MountsTable}
use Rattle.log_model.proofs.DecodedNames.{replay_makes_table}
use Rattle.log_model.proofs.LogReplayLaws.{added_record_is_replayed}
use Rattle.log_model.proofs.MountedLogLaws.{some_payload, behind_first, end_behind}
use Rattle.log_model.proofs.SelectedLog.{ok_is}
use Rattle.log_model.proofs.SnapshotLaws.{snapshot_is_replayed}
use Rattle.crash_cover.specs.SameData.{HaveSameData}
use Rattle.crash_cover.specs.Pinned.{IsPinned}
use Rattle.crash_cover.specs.AtRest.{IsAtRest}
use Rattle.crash_cover.specs.Recovery.{RecoversTable}
use Rattle.crash_cover.proofs.PinnedTables.{pinned_is_kept}
use Rattle.crash_cover.proofs.RestLaws.{avoids_nothing, kept_within, crash_at_rest_mounts}
use Rattle.log_roll.proofs.RollStages.{synced_zone}
use Rattle.log_roll.specs.FormatLeaves.{HasNewLog, HasLogs}
use Rattle.log_roll.specs.RollLeaves.{MayEnd, KeepsLog, RollLeaves}
use Rattle.log_roll.specs.Rolling.{next_superblock, next_zone, rolled_image}
use Rattle.log_store.specs.RollRest.{IsSnapshotOf, IsRolled, new_log, RollIsAtRest, RollMomentRecovers, RollMomentMounts}
use Rattle.log_store.proofs.DataZones.{zone_behind, same_data, left_table}

-- a new log replays to the table of its snapshot
pub snapshot_table : (first : ℕ × List ℕ) (at : ℕ) (snapshot : List ℕ) (es : Table) → IsSnapshotOf snapshot es → replay_log (drop 1 (first ∷ (at, snapshot) ∷ [])) ≡ Ok es
unfolding replay_log
snapshot_table first at snapshot es is =
    added_record_is_replayed [] at snapshot (Snapshot es) [] es refl refl is.reads (snapshot_is_replayed es [] is.table is.sized)

-- the new log has the table of its snapshot
pub new_table : (j : Image) (old : Chosen) (snapshot : List ℕ) (es : Table) → IsSnapshotOf snapshot es → HasNewLog (next_zone old.zone) (next_superblock old) snapshot j
    → HasTable j (new_log j.geometry old snapshot) (next_superblock old).sequence es
new_table j old snapshot es is log = record {
  selected = log.selected;
  table = snapshot_table (0, superblock_bytes (next_superblock old)) (blocks_of j.geometry.block (length (superblock_bytes (next_superblock old)))) snapshot es is;
}

-- a data zone after a roll has its blocks, all of them durable
rolled_zone : (i : Image) (zone n : ℕ) (blocks : List (List ℕ)) → zone_at (rolled_image i zone blocks) (suc (suc (suc n))) ≡ zone_synced (zone_at i (suc (suc (suc n))))
rolled_zone i zone n blocks = first zone ∙ zone_behind (map zone_synced i.zones) n ∙ synced_zone i (suc (suc (suc n)))
  where
    first : (z : ℕ) → zone_at (rolled_image i z blocks) (suc (suc (suc n))) ≡ zone_in (drop 3 (synced i).zones) n
    first zero = refl
    first (suc zero) = refl
    first (suc (suc zero)) = refl
    first (suc (suc (suc z))) = refl

-- the data zones have the same blocks after a roll
pub rolled_data : (i : Image) (zone : ℕ) (blocks : List (List ℕ)) → IsValidImage i → HaveSameData (λ _. false) i (rolled_image i zone blocks)
rolled_data i zone blocks valid = record {
  geometry = refl;
  blocks = λ n data_zone other. ap (λ z. z.blocks) (at n data_zone);
  kept = λ n data_zone other. let is = ap (λ z. z.kept) (at n data_zone) in omega (arith, is, kept_within i n valid);
}
  where
    at : (n : ℕ) → 3 ≤ n → zone_at (rolled_image i zone blocks) n ≡ zone_synced (zone_at i n)
    at zero data_zone = absurd (omega arith)
    at (suc zero) data_zone = absurd (omega arith)
    at (suc (suc zero)) data_zone = absurd (omega arith)
    at (suc (suc (suc n))) data_zone = rolled_zone i zone n blocks

-- the metadata zones are durable after a roll
rolled_durable : (i : Image) (zone m : ℕ) (blocks : List (List ℕ)) → m < 3 → IsDurable (rolled_image i zone blocks) m
rolled_durable i zone (suc (suc (suc m))) blocks less = absurd (omega arith)
rolled_durable i zero zero blocks less = omega arith
rolled_durable i zero (suc zero) blocks less = omega arith
rolled_durable i zero (suc (suc zero)) blocks less = omega arith
rolled_durable i (suc zero) zero blocks less = omega arith
rolled_durable i (suc zero) (suc zero) blocks less = omega arith
rolled_durable i (suc zero) (suc (suc zero)) blocks less = omega arith
rolled_durable i (suc (suc zero)) zero blocks less = omega arith
rolled_durable i (suc (suc zero)) (suc zero) blocks less = omega arith
rolled_durable i (suc (suc zero)) (suc (suc zero)) blocks less = omega arith
rolled_durable i (suc (suc (suc n))) zero blocks less = omega arith
rolled_durable i (suc (suc (suc n))) (suc zero) blocks less = omega arith
rolled_durable i (suc (suc (suc n))) (suc (suc zero)) blocks less = omega arith

-- a roll leaves an image at rest with the table of its snapshot, where that is a pinned one
pub rolled_at_rest : (i j : Image) (old : Chosen) (snapshot : List ℕ) (blocks : List (List ℕ)) (next : Table) → IsValidImage i
    → IsSnapshotOf snapshot next → IsPinned i next → IsRolled old snapshot blocks i j → IsValidImage j → IsAtRest j (new_log j.geometry old snapshot) (old.greatest + 1) next
rolled_at_rest i j old snapshot blocks next was snap pinned rolled valid =
    let zone = next_zone old.zone in
    record {
      valid = valid;
      table = new_table j old snapshot next snap rolled.log;
      metadata = λ m less. subst (λ k. IsDurable k m) (sym rolled.image) (rolled_durable i zone m blocks less);
      pinned =
          subst (λ k. IsPinned k next) (sym rolled.image)
          (pinned_is_kept (λ _. false) i (rolled_image i zone blocks) next (rolled_data i zone blocks was) (avoids_nothing i next) pinned);
    }

pub roll_is_at_rest : RollIsAtRest
roll_is_at_rest i j log greatest old snapshot blocks es next rest snap pinned rolled valid = rolled_at_rest i j old snapshot blocks next rest.valid snap pinned rolled valid

-- each crash of an image at rest has a log that counts
pub rest_has_logs : (i : Image) (log : LogAt) (greatest : ℕ) (es : Table) → IsAtRest i log greatest es → HasLogs i
rest_has_logs i log greatest es rest k crash =
    let has : HasTable k log greatest es = (crash_at_rest_mounts i k log greatest es rest crash).0 in
    subst (λ r. IsOk r) (sym (ap (λ r. r >>= (λ l. Ok (chosen_of l))) has.selected)) refl

-- the same payloads, or an end record behind them, replay to the same table
kept_replay : (payloads more : List (ℕ × List ℕ)) (es : Table) → payloads ≢ [] → MayEnd payloads more → replay_log (drop 1 payloads) ≡ Ok es → replay_log (drop 1 more) ≡ Ok es
unfolding after_record record_of
kept_replay payloads more es some may h =
    ⊎_elim
    (λ same. ap (λ ps. replay_log (drop 1 ps)) same ∙ h)
    (λ ended.
    let block : ℕ = ended.1.0 in
    ap (λ ps. replay_log (drop 1 ps)) ended.1.1
    ∙ (ap replay_log (behind_first payloads (block, u32 4) some)
    ∙ added_record_is_replayed (drop 1 payloads) block (u32 4) End es es h (end_behind payloads ended.0) refl refl))
    may.payloads

-- where the old log is kept, it has its table
pub kept_table : (k j : Image) (log : LogAt) (greatest : ℕ) (es : Table) (keeps : KeepsLog k j) → HasTable k log greatest es
    → HasTable j (record { zone = keeps.log.zone; superblock = keeps.log.superblock; scan = keeps.scan }) keeps.after es
kept_table k j log greatest es keeps has =
    let pair : ◌≡◌ {A = LogAt × ℕ} (log, greatest) (keeps.log, keeps.before) = ok_is (sym has.selected ∙ keeps.was) in
    let same : log ≡ keeps.log = ap (λ (p : LogAt × ℕ). p.0) pair in
    record {
      selected = keeps.is;
      table =
          kept_replay keeps.log.scan.payloads keeps.scan.payloads es
          (subst (λ (l : LogAt). l.scan.payloads ≢ []) same (some_payload k log greatest es has))
          keeps.payloads
          (subst (λ (l : LogAt). replay_log (drop 1 l.scan.payloads) ≡ Ok es) same has.table);
    }

-- what a roll leaves has the table of the old log, or that of the snapshot
roll_left : (i j : Image) (log : LogAt) (greatest : ℕ) (old : Chosen) (snapshot : List ℕ) (es next : Table) → IsAtRest i log greatest es
    → IsSnapshotOf snapshot next → IsPinned i next → RollLeaves old snapshot i j → (RecoversTable i es j × MountsTable j es) ⊎ (RecoversTable i next j × MountsTable j next)
roll_left i j log greatest old snapshot es next rest snap pinned left =
    let same = same_data left.crashed j left.data_zones in
    ⊎_elim
    (λ keeps.
    inl (left_table i left.crashed j (record { zone = keeps.log.zone; superblock = keeps.log.superblock; scan = keeps.scan }) keeps.after es rest.valid left.crash same
    (replay_makes_table (drop 1 log.scan.payloads) es rest.table.table) rest.pinned
    (kept_table left.crashed j log greatest es keeps (crash_at_rest_mounts i left.crashed log greatest es rest left.crash).0)))
    (λ new.
    inr (left_table i left.crashed j (new_log j.geometry old snapshot) (next_superblock old).sequence next rest.valid left.crash same
    snap.table pinned (new_table j old snapshot next snap new.1)))
    left.log

pub roll_moment_recovers : RollMomentRecovers
roll_moment_recovers i j log greatest old snapshot es next rest snap pinned left =
    ⊎_elim (λ before. inl before.0) (λ after. inr after.0)
    (roll_left i j log greatest old snapshot es next rest snap pinned (left (rest_has_logs i log greatest es rest)))

pub roll_moment_mounts : RollMomentMounts
roll_moment_mounts i j log greatest old snapshot es next rest snap pinned left =
    ⊎_elim (λ before. inl before.1) (λ after. inr after.1)
    (roll_left i j log greatest old snapshot es next rest snap pinned (left (rest_has_logs i log greatest es rest)))
