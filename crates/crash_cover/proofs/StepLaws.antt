-- Steps from one image at rest to the next.
use Rattle.std.specs.Prelude.{◌≡◌, ◌≢◌, ℕ, zero, suc, ◌<◌, ◌≤◌, false, List, [], ◌∷◌, length, map, drop, ◌==◌, refl}
use Rattle.std.proofs.Common.{◌∙◌, ap, sym, subst, ⊎_elim, arith}
use Rattle.std.proofs.lemmas.Bool.{eqb-false}
use Rattle.zone_image.specs.Image.{Zone, Image, zone_at, zone_in, no_zone}
use Rattle.zone_image.specs.Changes.{change_at, zone_appended, zone_finished, zone_synced, appended, finished, emptied, synced}
use Rattle.zone_image.specs.Infos.{IsValidImage}
use Rattle.zone_image.proofs.InfoLaws.{valid_synced}
use Rattle.log_model.specs.LogScan.{record_blocks}
use Rattle.log_model.specs.LogSelection.{scans_of}
use Rattle.log_model.specs.FileTable.{replay_log}
use Rattle.log_model.specs.CrashLaws.{IsDurable}
use Rattle.log_model.specs.AppendLaws.{AppendsTo}
use Rattle.log_model.proofs.AppendLaws.{selected_is_of_its_zone, record_behind_selected}
use Rattle.log_model.proofs.LogReplayLaws.{added_record_is_replayed}
use Rattle.log_model.proofs.CrashLaws.{changed_here, changed_elsewhere}
use Rattle.log_model.proofs.MountedLogLaws.{some_payload, behind_first, end_behind}
use Rattle.crash_cover.specs.SameData.{HaveSameData}
use Rattle.crash_cover.specs.RestSteps.{RestIsKept, SyncKeepsRest, FinishKeepsRest, ResetKeepsRest, RecordIsAtRest, FinishMomentMounts, ResetMomentMounts}
use Rattle.crash_cover.proofs.PinnedTables.{pinned_is_kept}
use Rattle.crash_cover.proofs.RestLaws.{same_selected, crash_at_rest_mounts, avoids_nothing, appended_data, three_zones, kept_within}

pub rest_is_kept : RestIsKept
rest_is_kept changed i j log greatest es rest valid keeps same away = record {
  valid = valid;
  table = record { selected = same_selected i j log greatest keeps.geometry keeps.blocks rest.table.selected; table = rest.table.table };
  metadata = keeps.durable;
  pinned = pinned_is_kept changed i j es same away rest.pinned;
}

-- a zone of synced zones
zone_of_synced : (zs : List Zone) (n : ℕ) → zone_in (map zone_synced zs) n ≡ zone_synced (zone_in zs n)
zone_of_synced [] n = refl
zone_of_synced (z ∷ zs) zero = refl
zone_of_synced (z ∷ zs) (suc n) = zone_of_synced zs n

-- a sync keeps all blocks
synced_data : (i : Image) → IsValidImage i → HaveSameData (λ _. false) i (synced i)
synced_data i is = record {
  geometry = refl;
  blocks = λ n data_zone other. ap (λ z. z.blocks) (zone_of_synced i.zones n);
  kept = λ n data_zone other.
      let all = ap (λ z. z.kept) (zone_of_synced i.zones n) in
      omega (arith, kept_within i n is, all);
}

-- each zone is durable after a sync
synced_durable : (i : Image) (m : ℕ) → IsDurable (synced i) m
synced_durable i m =
    let is = zone_of_synced i.zones m in
    let blocks = ap (λ z. length z.blocks) is in
    let kept = ap (λ z. z.kept) is in
    omega (arith, blocks, kept)

pub sync_keeps_rest : SyncKeepsRest
sync_keeps_rest i log greatest es rest =
    rest_is_kept (λ _. false) i (synced i) log greatest es rest (valid_synced i rest.valid)
    (record {
      geometry = refl;
      blocks = λ m less. ap (λ z. z.blocks) (zone_of_synced i.zones m);
      durable = λ m less. synced_durable i m;
    })
    (synced_data i rest.valid) (avoids_nothing i es)

-- a finished zone has the blocks that it had
finished_zone : (n m : ℕ) (zs : List Zone) → ((zone_in (change_at n zone_finished zs) m).blocks ≡ (zone_in zs m).blocks) × ((zone_in (change_at n zone_finished zs) m).kept ≡ (zone_in zs m).kept)
finished_zone n m [] = (refl, refl)
finished_zone zero zero (z ∷ zs) = (refl, refl)
finished_zone zero (suc m) (z ∷ zs) = (refl, refl)
finished_zone (suc n) zero (z ∷ zs) = (refl, refl)
finished_zone (suc n) (suc m) (z ∷ zs) = finished_zone n m zs

pub finish_keeps_rest : FinishKeepsRest
finish_keeps_rest i zone log greatest es rest valid =
    rest_is_kept (λ _. false) i (finished i zone) log greatest es rest valid
    (record {
      geometry = refl;
      blocks = λ m less. (finished_zone zone m i.zones).0;
      durable = λ m less.
          let same = finished_zone zone m i.zones in
          let blocks = ap (λ bs. length bs) same.0 in
          omega (arith, rest.metadata m less, blocks, same.1);
    })
    (record {
      geometry = refl;
      blocks = λ n data_zone other. (finished_zone zone n i.zones).0;
      kept = λ n data_zone other. let same = (finished_zone zone n i.zones).1 in omega (arith, same);
    })
    (avoids_nothing i es)

-- another zone than the one that was reset
not_reset : (i : Image) (zone n : ℕ) → n ≢ zone → zone_at (emptied i zone) n ≡ zone_at i n
not_reset i zone n other = changed_elsewhere zone n (λ _. no_zone) i.zones other

pub reset_keeps_rest : ResetKeepsRest
reset_keeps_rest i zone log greatest es rest valid data_zone away =
    rest_is_kept (λ n. n == zone) i (emptied i zone) log greatest es rest valid
    (record {
      geometry = refl;
      blocks = λ m less. ap (λ z. z.blocks) (not_reset i zone m (λ is. omega (arith, is)));
      durable = λ m less. subst (λ z. length z.blocks ≤ z.kept) (sym (not_reset i zone m (λ is. omega (arith, is)))) (rest.metadata m less);
    })
    (record {
      geometry = refl;
      blocks = λ n data_zone_too other. ap (λ z. z.blocks) (not_reset i zone n (eqb-false n zone other));
      kept = λ n data_zone_too other. let same = ap (λ z. z.kept) (not_reset i zone n (eqb-false n zone other)) in omega (arith, same);
    })
    away

pub finish_moment_mounts : FinishMomentMounts
finish_moment_mounts i j zone log greatest es rest valid passed =
    ⊎_elim
    (λ before. (crash_at_rest_mounts i j log greatest es rest before).1)
    (λ after. (crash_at_rest_mounts (finished i zone) j log greatest es (finish_keeps_rest i zone log greatest es rest valid) after).1)
    passed

pub reset_moment_mounts : ResetMomentMounts
reset_moment_mounts i j zone log greatest es rest valid data_zone away passed =
    ⊎_elim
    (λ before. (crash_at_rest_mounts i j log greatest es rest before).1)
    (λ after. (crash_at_rest_mounts (emptied i zone) j log greatest es (reset_keeps_rest i zone log greatest es rest valid data_zone away) after).1)
    passed

-- a synced image after an append has the blocks behind those that were there
append_synced : (i : Image) (zone : ℕ) (added : List (List ℕ)) → zone < length i.zones → AppendsTo zone added i (synced (appended i zone added))
append_synced i zone added there = record {
  differs = record {
    geometry = refl;
    others = λ m less other. ap (λ z. z.blocks) (zone_of_synced (appended i zone added).zones m) ∙ ap (λ z. z.blocks) (changed_elsewhere zone m (zone_appended i.geometry.capacity added) i.zones other);
  };
  behind =
      ap (λ z. z.blocks) (zone_of_synced (appended i zone added).zones zone)
      ∙ ap (λ z. z.blocks) (changed_here zone (zone_appended i.geometry.capacity added) i.zones there);
}

pub record_is_at_rest : RecordIsAtRest
record_is_at_rest i log greatest payload r es next rest adds pinned valid =
    let blocks = record_blocks i.geometry.block payload in
    let zone : log.zone < 3 = (selected_is_of_its_zone i.geometry (scans_of i) log greatest rest.table.selected).0 in
    let there : log.zone < length i.zones = omega (arith, zone, three_zones i rest.valid) in
    let k = appended i log.zone blocks in
    let at = length (zone_at i log.zone).blocks in
    record {
      valid = valid_synced k valid;
      table = record {
        selected = record_behind_selected i (synced k) log greatest payload rest.table.selected adds.clean adds.fits (append_synced i log.zone blocks there);
        table =
            ap replay_log (behind_first log.scan.payloads (at, payload) (some_payload i log greatest es rest.table))
            ∙ added_record_is_replayed (drop 1 log.scan.payloads) at payload r es next rest.table.table (end_behind log.scan.payloads adds.goes_on) adds.reads adds.after;
      };
      metadata = λ m less. synced_durable k m;
      pinned =
          pinned_is_kept (λ _. false) k (synced k) next (synced_data k valid) (avoids_nothing k next)
          (pinned_is_kept (λ _. false) i k next (appended_data i log.zone blocks zone) (avoids_nothing i next) pinned);
    }
