-- The tree that a crash leaves of an image at rest.
use Rattle.std.specs.Prelude.{◌≡◌, ℕ, zero, suc, ◌<◌, ◌≤◌, Bool, true, false, ◌&&◌, ◌||◌, List, [], ◌∷◌, ◌++◌, length, drop, nat_le, nat_lt, ◌==◌, refl}
use Rattle.std.proofs.Common.{◌∙◌, sym, subst, ⊎_elim, inl, inr, arith}
use Rattle.std.proofs.lemmas.Bool.{leb-true, ne_eqb, and_parts}
use Rattle.std.proofs.lemmas.List.{take_all}
use Rattle.std.specs.List.{AllZip, list_all}
use Rattle.zone_image.specs.Image.{Zone, Image, IsCrash, SameBlocks, zone_in, zone_of}
use Rattle.zone_image.specs.Changes.{appended}
use Rattle.zone_image.specs.Infos.{IsValidImage}
use Rattle.zone_image.specs.Moments.{PassedByAppend}
use Rattle.zone_image.proofs.AppendLaws.{WithinAppend, crash-part}
use Rattle.zone_image.proofs.CrashLaws.{valid_crash, crashed_is_crash}
use Rattle.zone_image.proofs.InfoLaws.{some_block}
use Rattle.log_model.specs.LogScan.{record_blocks}
use Rattle.log_model.specs.LogSelection.{LogAt, scans_of}
use Rattle.log_model.specs.FileTable.{Table}
use Rattle.log_model.specs.FileTree.{RecoversTo, bytes_in}
use Rattle.log_model.specs.Frames.{no_active}
use Rattle.log_model.specs.Mounted.{mounted_in}
use Rattle.log_model.specs.TableLaws.{IsTable}
use Rattle.log_model.proofs.AppendLaws.{selected_is_of_its_zone}
use Rattle.log_model.proofs.BlockLaws.{mount_reads_blocks}
use Rattle.log_model.proofs.DecodedNames.{replay_makes_table}
use Rattle.log_model.proofs.LogReplayLaws.{added_record_is_replayed}
use Rattle.log_model.proofs.MountedLogLaws.{end_behind}
use Rattle.crash_cover.specs.Pinned.{is_durable_point, has_durable_point, IsPinned}
use Rattle.crash_cover.specs.AtRest.{IsAtRest}
use Rattle.crash_cover.specs.Recovery.{standing_bytes}
use Rattle.crash_cover.proofs.SameData.{}
use Rattle.crash_cover.proofs.PinnedTables.{crash_keeps_durable, pinned_is_kept}
use Rattle.crash_cover.proofs.RestLaws.{avoids_nothing, appended_data, crash_at_rest_mounts, record_moment_mounts}
use Rattle.crash_cover.proofs.RecoveryLaws.{kept_recovers}
use Rattle.least_crash.specs.Least.{least_crash}
use Rattle.least_crash.specs.Recovery.{found_tree, least_tree, CrashRecovers, RecordMomentRecovers}
use Rattle.least_crash.specs.DataSteps.{HasNoPoint}
use Rattle.least_crash.proofs.LeastLaws.{least_is_within}
use Rattle.least_crash.proofs.Fronts.{have_fronts, recovers_between}
use Rattle.least_crash.proofs.Appending.{append_standing, append_least}

-- what a crash leaves of a pinned table
pub crash_lies_between : (i j : Image) (es : Table) → IsValidImage i → IsCrash i j → IsTable es → IsPinned i es
    → RecoversTo (found_tree j es) (least_tree i es) (standing_bytes i es)
crash_lies_between i j es is crash table pinned =
    let valid = valid_crash i j is crash in
    let least : IsCrash i (least_crash i) = crashed_is_crash i [] is in
    let keeps = crash_keeps_durable i j crash in
    recovers_between j (least_crash i) i (standing_bytes i es) es
    (have_fronts i j (least_crash i) es keeps (crash_keeps_durable i (least_crash i) least) (least_is_within i j crash) (valid_crash i (least_crash i) is least)
    (some_block j.geometry valid.possible.valid) pinned.extents pinned.points pinned.sparse)
    (kept_recovers i j es is valid keeps table pinned)

-- the table of an image at rest
pub table_at_rest : (i : Image) (log : LogAt) (greatest : ℕ) (es : Table) → IsAtRest i log greatest es → IsTable es
table_at_rest i log greatest es rest = replay_makes_table (drop 1 log.scan.payloads) es rest.table.table

pub crash_recovers : CrashRecovers
crash_recovers i j log greatest es rest crash = record {
  tree = found_tree j es;
  mounts = (crash_at_rest_mounts i j log greatest es rest crash).1.tree;
  recovers = crash_lies_between i j es rest.valid crash (table_at_rest i log greatest es rest) rest.pinned;
}

-- zones with the same blocks, by number
same_at : (ys zs : List Zone) (n : ℕ) → AllZip (λ y z. z.blocks ≡ y.blocks) ys zs → (zone_in ys n).blocks ≡ (zone_in zs n).blocks
same_at [] [] n all = refl
same_at [] (z ∷ zs) n all = absurd all
same_at (y ∷ ys) [] n all = absurd all
same_at (y ∷ ys) (z ∷ zs) zero all = sym all.0
same_at (y ∷ ys) (z ∷ zs) (suc n) all = same_at ys zs n all.1

-- images with the same blocks mount alike
pub mounts_alike : (whole j : Image) → SameBlocks whole j → mounted_in j ≡ mounted_in whole
mounts_alike whole j same = sym (mount_reads_blocks whole j (record { geometry = sym same.geometry; blocks = λ n. same_at whole.zones j.zones n same.zones })).tree

-- a durable recovery point lies in a data zone
point_is_data : (i : Image) (start : ℕ) → is_durable_point i start ≡ true → 3 ≤ zone_of i.geometry start
point_is_data i start h =
    let z = zone_of i.geometry start in
    let upper = and_parts (nat_le 3 z && nat_lt z i.geometry.zones && _) _ h in
    let middle = and_parts (nat_le 3 z && nat_lt z i.geometry.zones) _ upper.0 in
    leb-true 3 z (and_parts (nat_le 3 z) _ middle.0).0

-- so a metadata zone has none
pub no_point_in_metadata : (i : Image) (zone : ℕ) (es : Table) → zone < 3 → list_all (has_durable_point i) es ≡ true → HasNoPoint i zone es
no_point_in_metadata i zone [] metadata h = tt
no_point_in_metadata i zone (e ∷ es) metadata h =
    let parts = and_parts (has_durable_point i e) (list_all (has_durable_point i) es) h in (
      (λ set.
          let low : 3 ≤ zone_of i.geometry e.active = point_is_data i e.active (set_point (e.active == no_active) (is_durable_point i e.active) (ne_eqb e.active no_active set) parts.0) in
          ne_eqb (zone_of i.geometry e.active) zone (λ same. omega (arith, low, metadata, same))),
      no_point_in_metadata i zone es metadata parts.1,
    )
  where
    set_point : (unset p : Bool) → unset ≡ false → unset || p ≡ true → p ≡ true
    set_point true p set h = cc
    set_point false p set h = h

-- what is left of a table after a crash within an append to a metadata zone
left_recovers : (i whole : Image) (zone : ℕ) (added : List (List ℕ)) (es : Table) → IsValidImage i → IsValidImage (appended i zone added) → zone < 3 → IsTable es → IsPinned i es
    → IsCrash (appended i zone added) whole → RecoversTo (found_tree whole es) (least_tree i es) (standing_bytes i es)
left_recovers i whole zone added es was valid metadata table pinned crash =
    let k = appended i zone added in
    let there : IsPinned k es = pinned_is_kept (λ _. false) i k es (appended_data i zone added metadata) (avoids_nothing i es) pinned in
    subst (λ tree. RecoversTo (found_tree whole es) (least_tree i es) (λ id. bytes_in id tree)) (append_standing i zone added es was pinned (no_point_in_metadata i zone es metadata pinned.points))
    (subst (λ tree. RecoversTo (found_tree whole es) tree (standing_bytes k es)) (append_least i zone added es was pinned)
    (crash_lies_between k whole es valid crash table there))

pub record_moment_recovers : RecordMomentRecovers
record_moment_recovers i j log greatest payload r es next rest adds pinned valid passed =
    let zone : log.zone < 3 = (selected_is_of_its_zone i.geometry (scans_of i) log greatest rest.table.selected).0 in
    let blocks = record_blocks i.geometry.block payload in
    let part : WithinAppend i log.zone blocks j = crash-part i j log.zone passed.count blocks passed.crash in
    let whole = part.whole in
    let all : PassedByAppend i log.zone blocks whole = record {
      count = length blocks;
      some = omega arith;
      crash = subst (λ bs. IsCrash (appended i log.zone bs) whole) (sym (take_all (length blocks) blocks (omega arith))) part.crash;
    } in
    let before : IsTable es = table_at_rest i log greatest es rest in
    let after : IsTable next =
    replay_makes_table (drop 1 log.scan.payloads ++ (0, payload) ∷ []) next
    (added_record_is_replayed (drop 1 log.scan.payloads) 0 payload r es next rest.table.table (end_behind log.scan.payloads adds.goes_on) adds.reads adds.after) in
    ⊎_elim
    (λ mounts. inl (record {
      tree = found_tree whole es;
      mounts = mounts_alike whole j part.same ∙ mounts.tree;
      recovers = left_recovers i whole log.zone blocks es rest.valid valid zone before rest.pinned part.crash;
    }))
    (λ mounts. inr (record {
      tree = found_tree whole next;
      mounts = mounts_alike whole j part.same ∙ mounts.tree;
      recovers = left_recovers i whole log.zone blocks next rest.valid valid zone after pinned part.crash;
    }))
    (record_moment_mounts i whole log greatest payload r es next rest adds pinned all)
