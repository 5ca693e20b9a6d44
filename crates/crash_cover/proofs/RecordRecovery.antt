-- The tree that a crash leaves within the append of a record.
use Rattle.std.specs.Prelude.{◌≡◌, ℕ, zero, suc, ◌<◌, ◌≤◌, true, false, List, [], ◌∷◌, ◌++◌, length, take, drop, map, nat_le, nat_lt, ◌&&◌, refl}
use Rattle.std.proofs.Common.{◌∙◌, ap, sym, subst, ⊎_elim, inl, inr, arith}
use Rattle.std.proofs.lemmas.Bool.{leb-true, and_parts}
use Rattle.std.proofs.lemmas.List.{take_all}
use Rattle.std.specs.List.{AllByRecursion, AllZip, concat, list_all}
use Rattle.zone_image.specs.Image.{Zone, Image, IsCrash, SameBlocks, zone_at, zone_in, zone_of, offset_of}
use Rattle.zone_image.specs.Changes.{appended}
use Rattle.zone_image.specs.Infos.{IsValidImage}
use Rattle.zone_image.specs.Moments.{PassedByAppend}
use Rattle.zone_image.proofs.AppendLaws.{WithinAppend, crash-part}
use Rattle.zone_image.proofs.CrashLaws.{valid_crash}
use Rattle.record_model.specs.declared.types.Extent.{Extent}
use Rattle.log_model.specs.LogScan.{record_blocks}
use Rattle.log_model.specs.LogSelection.{scans_of}
use Rattle.log_model.specs.FileTable.{Table}
use Rattle.log_model.specs.FileTree.{RecoversTo, bytes_in}
use Rattle.log_model.specs.Frames.{extent_bytes, bytes_of, recovered_extents}
use Rattle.log_model.specs.Mounted.{all_extents, recovered_entry, file_in, tree_of, mounted_in}
use Rattle.log_model.specs.TableLaws.{IsTable}
use Rattle.log_model.proofs.AppendLaws.{selected_is_of_its_zone}
use Rattle.log_model.proofs.BlockLaws.{mount_reads_blocks}
use Rattle.log_model.proofs.DecodedNames.{replay_makes_table}
use Rattle.log_model.proofs.LogReplayLaws.{added_record_is_replayed}
use Rattle.crash_cover.specs.SameData.{HaveSameData}
use Rattle.crash_cover.specs.Pinned.{is_durable, IsPinned}
use Rattle.crash_cover.specs.FoundExtents.{IsWrittenIn}
use Rattle.crash_cover.specs.Recovery.{RecordMomentRecovers, standing_bytes}
use Rattle.crash_cover.proofs.SameData.{data_decides_table}
use Rattle.crash_cover.proofs.PinnedTables.{crash_keeps_durable, pinned_is_kept, split_durable}
use Rattle.crash_cover.proofs.RestLaws.{avoids_nothing, appended_data, record_moment_mounts}
use Rattle.log_model.proofs.MountedLogLaws.{end_behind}
use Rattle.crash_cover.proofs.FoundLaws.{found_is_written}
use Rattle.crash_cover.proofs.RecoveryLaws.{bytes_append, kept_recovers}

-- zones with the same blocks, by number
same_at : (ys zs : List Zone) (n : ℕ) → AllZip (λ y z. z.blocks ≡ y.blocks) ys zs → (zone_in ys n).blocks ≡ (zone_in zs n).blocks
same_at [] [] n all = refl
same_at [] (z ∷ zs) n all = absurd all
same_at (y ∷ ys) [] n all = absurd all
same_at (y ∷ ys) (z ∷ zs) zero all = sym all.0
same_at (y ∷ ys) (z ∷ zs) (suc n) all = same_at ys zs n all.1

-- images with the same blocks mount alike
mounts_alike : (whole j : Image) → SameBlocks whole j → mounted_in j ≡ mounted_in whole
mounts_alike whole j same = sym (mount_reads_blocks whole j (record { geometry = sym same.geometry; blocks = λ n. same_at whole.zones j.zones n same.zones })).tree

-- images with the same data zones have the same bytes in extents that lie there
module _ (i k : Image) (same : HaveSameData (λ _. false) i k) where
  bytes_there : (x : Extent) → 3 ≤ zone_of i.geometry x.start → extent_bytes k x ≡ extent_bytes i x
  bytes_there x data_zone =
      ap (λ g. take x.len (drop (offset_of g x.start) (concat (zone_at k (zone_of g x.start)).blocks))) same.geometry
      ∙ ap (λ bs. take x.len (drop (offset_of i.geometry x.start) (concat bs))) (same.blocks (zone_of i.geometry x.start) data_zone refl)

  all_there : (xs : List Extent) → AllByRecursion (λ x. 3 ≤ zone_of i.geometry x.start) xs → bytes_of k xs ≡ bytes_of i xs
  all_there [] h = refl
  all_there (x ∷ xs) h = ap (λ bs. bs ++ bytes_of k xs) (bytes_there x h.0) ∙ ap (λ bs. extent_bytes i x ++ bs) (all_there xs h.1)

  -- durable extents lie in data zones
  durable_there : (xs : List Extent) → list_all (is_durable i) xs ≡ true → AllByRecursion (λ x. 3 ≤ zone_of i.geometry x.start) xs
  durable_there [] h = tt
  durable_there (x ∷ xs) h =
      let parts = and_parts (is_durable i x) (list_all (is_durable i) xs) h in
      let n = zone_of i.geometry x.start in
      (leb-true 3 n (and_parts (nat_le 3 n) (nat_lt n i.geometry.zones) (and_parts (nat_le 3 n && nat_lt n i.geometry.zones) _ parts.0).0).0, durable_there xs parts.1)

  -- so do those that are found
  found_there : (m : ℕ) (xs : List Extent) → AllByRecursion (IsWrittenIn i m) xs → AllByRecursion (λ x. 3 ≤ zone_of i.geometry x.start) xs
  found_there m [] h = tt
  found_there m (x ∷ xs) h =
      let n = zone_of i.geometry x.start in
      (leb-true 3 n (and_parts (nat_le 3 n) (nat_lt n i.geometry.zones) (and_parts (nat_le 3 n && nat_lt n i.geometry.zones) _ h.0.written).0).0, found_there m xs h.1)

  -- a table has the same recorded bytes
  tree_there : (es : Table) → list_all (is_durable i) (all_extents es) ≡ true → tree_of k es ≡ tree_of i es
  tree_there [] h = refl
  tree_there (e ∷ es) h =
      let parts = split_durable i e es h in
      ap (λ bs. record { id = e.id; names = e.names; bytes = bs; hint = e.hint; time = e.time; sparse = e.sparse } ∷ tree_of k es) (all_there e.extents (durable_there e.extents parts.0))
      ∙ ap (λ files. file_in i e ∷ files) (tree_there es parts.1)

  -- and the same bytes with what is found
  found_tree : (es : Table) → IsValidImage i → list_all (is_durable i) (all_extents es) ≡ true → tree_of k (map (recovered_entry i) es) ≡ tree_of i (map (recovered_entry i) es)
  found_tree [] valid h = refl
  found_tree (e ∷ es) valid h =
      let parts = split_durable i e es h in
      let found = recovered_extents i e in
      let bytes : bytes_of k (e.extents ++ found) ≡ bytes_of i (e.extents ++ found) =
      bytes_append k e.extents found
      ∙ ap (λ bs. bs ++ bytes_of k found) (all_there e.extents (durable_there e.extents parts.0))
      ∙ ap (λ bs. bytes_of i e.extents ++ bs) (all_there found (found_there (zone_of i.geometry e.active) found (found_is_written i e valid)))
      ∙ sym (bytes_append i e.extents found) in
      ap (λ bs. record { id = e.id; names = e.names; bytes = bs; hint = e.hint; time = e.time; sparse = e.sparse } ∷ tree_of k (map (recovered_entry i) es)) bytes
      ∙ ap (λ files. file_in i (recovered_entry i e) ∷ files) (found_tree es valid parts.1)

-- what is left of a table after a crash within an append to a metadata zone
left_recovers : (i whole : Image) (zone : ℕ) (added : List (List ℕ)) (es : Table) → IsValidImage i → IsValidImage (appended i zone added) → zone < 3 → IsTable es → IsPinned i es
    → IsCrash (appended i zone added) whole → RecoversTo (tree_of whole (map (recovered_entry whole) es)) (tree_of i es) (standing_bytes i es)
left_recovers i whole zone added es was valid metadata table pinned crash =
    let k = appended i zone added in
    let same = appended_data i zone added metadata in
    let there : IsPinned k es = pinned_is_kept (λ _. false) i k es same (avoids_nothing i es) pinned in
    let recorded = tree_there i k same es pinned.extents in
    let found : map (recovered_entry k) es ≡ map (recovered_entry i) es = (data_decides_table (λ _. false) i k es same (avoids_nothing i es)).found in
    let standing : tree_of k (map (recovered_entry k) es) ≡ tree_of i (map (recovered_entry i) es) = ap (tree_of k) found ∙ found_tree i k same es was pinned.extents in
    subst (λ tree. RecoversTo (tree_of whole (map (recovered_entry whole) es)) (tree_of i es) (λ id. bytes_in id tree)) standing
    (subst (λ tree. RecoversTo (tree_of whole (map (recovered_entry whole) es)) tree (standing_bytes k es)) recorded
    (kept_recovers k whole es valid (valid_crash k whole valid crash) (crash_keeps_durable k whole crash) table there))

pub record_moment_recovers : RecordMomentRecovers
record_moment_recovers i j log greatest payload r es next rest adds pinned valid passed =
    let zone : log.zone < 3 = (selected_is_of_its_zone i.geometry (scans_of i) log greatest rest.table.selected).0 in
    let blocks = record_blocks i.geometry.block payload in
    let part : WithinAppend i log.zone blocks j = crash-part i j log.zone passed.count blocks passed.crash in
    let whole = part.whole in
    let all : PassedByAppend i log.zone blocks whole = record {
      count = length blocks;
      some = omega arith;
      crash = subst (λ bs. IsCrash (appended i log.zone bs) whole) (sym (take_all (length blocks) blocks (omega arith))) part.crash;
    } in
    let before : IsTable es = replay_makes_table (drop 1 log.scan.payloads) es rest.table.table in
    let after : IsTable next =
    replay_makes_table (drop 1 log.scan.payloads ++ (0, payload) ∷ []) next
    (added_record_is_replayed (drop 1 log.scan.payloads) 0 payload r es next rest.table.table (end_behind log.scan.payloads adds.goes_on) adds.reads adds.after) in
    ⊎_elim
    (λ mounts. inl (record {
      tree = tree_of whole (map (recovered_entry whole) es);
      mounts = mounts_alike whole j part.same ∙ mounts.tree;
      recovers = left_recovers i whole log.zone blocks es rest.valid valid zone before rest.pinned part.crash;
    }))
    (λ mounts. inr (record {
      tree = tree_of whole (map (recovered_entry whole) next);
      mounts = mounts_alike whole j part.same ∙ mounts.tree;
      recovers = left_recovers i whole log.zone blocks next rest.valid valid zone after pinned part.crash;
    }))
    (record_moment_mounts i whole log greatest payload r es next rest adds pinned all)
