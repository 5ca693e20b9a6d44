-- A zone that is finished for one more, where recovery points are taken away.
use Rattle.std.specs.Prelude.{◌≡◌, ◌+◌, ◌%◌, ◌<◌, ℕ, codes, zero, suc, Bool, true, false, List, [], ◌∷◌, ◌++◌, Option, Some, None, drop, filter, flat_map, map, sum_by, ◌==◌, refl}
use Rattle.std.proofs.Common.{ap, subst, sym, ◌∙◌}
use Rattle.std.specs.List.{count_by, enumerate_from}
use Rattle.zone_image.specs.Image.{zone_of}
use Rattle.zone_image.specs.declared.ZoneInfo.{ZoneInfo}
use Rattle.record_model.specs.declared.types.Extent.{Extent}
use Rattle.record_model.specs.declared.types.FileEntry.{FileEntry}
use Rattle.log_model.specs.FileTable.{size_of}
use Rattle.log_model.specs.declared.selection.Chosen.{Chosen}
use Rattle.log_model.specs.Headroom.{snapshot_blocks, superblock_blocks}
use Rattle.fs_model.specs.declared.zones.ZoneState.{ZoneState}
use Rattle.fs_model.specs.ZonePolicy.{data_zones, is_idle_active, least, room_of}
use Rattle.fs_model.specs.FsState.{FsState, TableRow, ZoneDescriptor, recorded, touched, working_of, zone_states}
use Rattle.fs_model.specs.Trace.{when}
use Rattle.fs_model.specs.LogSteps.{next_log}
use Rattle.fs_model.specs.TreeSteps.{cleared, finish_one}
use Rattle.change_records.specs.Recorded.{entries}
use Rattle.change_steps.specs.Recording.{after_roll}
use Rattle.change_steps.specs.WriteMount.{after_token, cleared_state}
use Rattle.change_steps.proofs.MountLaws.{token_keeps_files}
use Rattle.change_cover.specs.Rests.{Becomes}
use Rattle.fs_tables.specs.MountedTables.{AreSound}
use Rattle.fs_tables.specs.Steps.{rolled_infos}
use Rattle.fs_tables.proofs.RollLaws.{roll_ends, some_zones}

-- rows without recovery points have the same extents
same_extents : (rows : List TableRow) → flat_map (λ (e : FileEntry). e.extents) (working_of (map cleared rows)) ≡ flat_map (λ (e : FileEntry). e.extents) (working_of rows)
same_extents [] = refl
same_extents (q ∷ qs) = ap (λ xs. (q.entry.extents ++ q.unrecorded) ++ xs) (same_extents qs)

-- so the policy sees the same zones
same_zones : (s : FsState) → zone_states (cleared_state s) ≡ zone_states s
same_zones s =
    ap (λ (xs : List Extent).
    map (λ (z : ℕ × ZoneDescriptor). record {
      info = z.1.info;
      owner = z.1.owner;
      hint = z.1.hint;
      live = sum_by (touched s.geometry.block) (filter (λ x. zone_of s.geometry x.start == z.0) xs);
      live_bytes = size_of (filter (λ x. zone_of s.geometry x.start == z.0) xs);
    }) (enumerate_from 0 s.zones))
    (same_extents s.rows)

-- a zone is finished, or none, whatever rows there are
finish_keeps_rows : (b : Bool) (found : Option (ℕ × ZoneState)) (s : FsState) → (when b (finish_one found) (cleared_state s)).last ≡ cleared_state (when b (finish_one found) s).last
finish_keeps_rows false found s = refl
finish_keeps_rows true None s = refl
finish_keeps_rows true (Some z) s = refl

-- and the log stays
finish_keeps_log : (b : Bool) (found : Option (ℕ × ZoneState)) (s : FsState) → (when b (finish_one found) s).last.log ≡ s.log
finish_keeps_log false found s = refl
finish_keeps_log true None s = refl
finish_keeps_log true (Some z) s = refl

-- so it does where a token is freed
token_keeps_log : (s : FsState) → (after_token s).log ≡ s.log
token_keeps_log s =
    finish_keeps_log (count_by is_idle_active (data_zones (zone_states s)) == s.geometry.active_limit)
    (least (λ z. room_of s.geometry.capacity z.1) (filter is_idle_active (data_zones (zone_states s)))) s

-- the log that follows is told by the one that counts
next_of : Chosen → Chosen
next_of log = record {
  zone = (log.zone + 1) % 3;
  superblock = record (log.superblock) { sequence = log.greatest + 1; version_text = codes "profile-2" };
  greatest = log.greatest + 1;
  can_end = true;
}

-- what a roll has at hand behind a finish and the clearing
pub record IsCleared (s mid : FsState) : Type 0 where
  pub geometry : mid.geometry ≡ s.geometry
  pub rows : mid.rows ≡ map cleared s.rows
  pub log : next_log mid ≡ next_log s

-- the state with a token, without recovery points
pub cleared_token : (s mid : FsState) → mid ≡ cleared_state (after_token s) → IsCleared s mid
unfolding next_of
cleared_token s mid is =
    let kept = token_keeps_files s in
    record {
      geometry = ap (λ (t : FsState). t.geometry) is ∙ kept.geometry;
      rows = ap (λ (t : FsState). t.rows) is ∙ ap (map cleared) kept.rows;
      log = ap (λ (t : FsState). next_of t.log) is ∙ ap next_of (token_keeps_log s);
    }

-- after a roll it has the new log
pub rolled_becomes : (s mid next : FsState) (blocks : ℕ) → IsCleared s mid → AreSound mid → next ≡ after_roll mid
    → blocks ≡ superblock_blocks s.geometry.block + snapshot_blocks s.geometry.block (entries (map cleared s.rows)) → blocks < s.geometry.capacity
    → Becomes (next_log s) (map cleared s.rows) next
rolled_becomes s mid next blocks cleared_is sound is count room =
    let here : superblock_blocks s.geometry.block + snapshot_blocks s.geometry.block (entries (map cleared s.rows)) < s.geometry.capacity = subst (λ n. n < s.geometry.capacity) count room in
    let there : superblock_blocks mid.geometry.block + snapshot_blocks mid.geometry.block (recorded mid) < mid.geometry.capacity =
    subst (λ g. superblock_blocks g.block + snapshot_blocks g.block (recorded mid) < g.capacity) (sym cleared_is.geometry)
    (subst (λ rows. superblock_blocks s.geometry.block + snapshot_blocks s.geometry.block (entries rows) < s.geometry.capacity) (sym cleared_is.rows) here) in
    let last = is ∙ (roll_ends mid sound.log_zone (some_zones mid sound) there).last in
    record {
      rows = ap (λ (t : FsState). t.rows) last ∙ cleared_is.rows;
      log = ap (λ (t : FsState). t.log) last ∙ cleared_is.log;
    }

-- the order of both doesn't matter
pub token_clears : (s : FsState) → after_token (cleared_state s) ≡ cleared_state (after_token s)
token_clears s =
    let g = s.geometry in
    ap (λ zs. (when (count_by is_idle_active (data_zones zs) == g.active_limit) (finish_one (least (λ z. room_of g.capacity z.1) (filter is_idle_active (data_zones zs)))) (cleared_state s)).last)
    (same_zones s)
    ∙ finish_keeps_rows (count_by is_idle_active (data_zones (zone_states s)) == g.active_limit)
    (least (λ z. room_of g.capacity z.1) (filter is_idle_active (data_zones (zone_states s)))) s

-- a roll keeps the numbers and seals of data zones
pub rolled_data : (infos : List ZoneInfo) (zone count : ℕ) → drop 3 (rolled_infos infos zone count) ≡ drop 3 infos
rolled_data infos zero count = refl
rolled_data infos (suc zero) count = refl
rolled_data infos (suc (suc zero)) count = refl
rolled_data infos (suc (suc (suc n))) count = refl
