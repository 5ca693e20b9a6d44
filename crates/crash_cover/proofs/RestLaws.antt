-- What an image at rest mounts, after a crash too.
use Rattle.std.specs.Prelude.{◌≡◌, ℕ, zero, suc, ◌<◌, ◌≤◌, false, List, [], ◌∷◌, length, take, None, refl}
use Rattle.std.proofs.Common.{◌∙◌, ap, sym, ⊎_elim, inl, inr, arith}
use Rattle.std.specs.List.{All, AllByRecursion}
use Rattle.std.proofs.lemmas.List.Elements.{All-head, All-tail}
use Rattle.zone_image.specs.Image.{Zone, Image, IsCrash, zone_at, zone_in}
use Rattle.zone_image.specs.Changes.{zone_appended, appended}
use Rattle.zone_image.specs.Infos.{info_of, IsZone, IsValidImage}
use Rattle.zone_image.proofs.InfoLaws.{some_block}
use Rattle.std.proofs.lemmas.List.{length-map}
use Rattle.record_model.specs.declared.types.Extent.{Extent}
use Rattle.log_model.specs.LogScan.{record_blocks, scan}
use Rattle.log_model.specs.LogSelection.{LogAt, select_log, scans_of}
use Rattle.log_model.specs.FileTable.{Table}
use Rattle.log_model.specs.Mounted.{all_extents, broken_rule}
use Rattle.log_model.specs.AppendLaws.{IsSelectedOn}
use Rattle.log_model.specs.MountedLogLaws.{HasTable}
use Rattle.log_model.proofs.AppendLaws.{selected_is_of_its_zone}
use Rattle.log_model.proofs.CrashLaws.{durable_zone_stays, changed_elsewhere}
use Rattle.log_model.proofs.MountedLogLaws.{selected_table_mounts}
use Rattle.log_model.proofs.RecordCrash.{record_crash_mounts}
use Rattle.crash_cover.specs.SameData.{HaveSameData, Avoids, RecoversElsewhere}
use Rattle.crash_cover.specs.Pinned.{IsPinned}
use Rattle.crash_cover.specs.AtRest.{IsAtRest, RestMounts, CrashAtRestMounts, RecordMomentMounts}
use Rattle.crash_cover.proofs.PinnedTables.{crash_keeps_durable, pinned_table_stays, pinned_is_kept}

pub rest_mounts : RestMounts
rest_mounts i log greatest es rest = selected_table_mounts i log greatest es rest.table rest.pinned.unbroken

-- the same log is selected where the metadata zones have the same blocks
pub same_selected : (i j : Image) (log : LogAt) (greatest : ℕ) → j.geometry ≡ i.geometry → ((m : ℕ) → m < 3 → (zone_at j m).blocks ≡ (zone_at i m).blocks)
    → IsSelectedOn i log greatest → IsSelectedOn j log greatest
same_selected i j log greatest geometry blocks h =
    let b = i.geometry.block in
    let zero_th = ap (scan b) (blocks 0 (omega arith)) in
    let first = ap (scan b) (blocks 1 (omega arith)) in
    let second = ap (scan b) (blocks 2 (omega arith)) in
    ap (λ g. select_log g (scan g.block (zone_at j 0).blocks ∷ scan g.block (zone_at j 1).blocks ∷ scan g.block (zone_at j 2).blocks ∷ [])) geometry
    ∙ ap (λ s. select_log i.geometry (s ∷ scan b (zone_at j 1).blocks ∷ scan b (zone_at j 2).blocks ∷ [])) zero_th
    ∙ ap (λ s. select_log i.geometry (scan b (zone_at i 0).blocks ∷ s ∷ scan b (zone_at j 2).blocks ∷ [])) first
    ∙ ap (λ s. select_log i.geometry (scan b (zone_at i 0).blocks ∷ scan b (zone_at i 1).blocks ∷ s ∷ [])) second
    ∙ h

-- a block has a byte in an image at rest
pub block_is_some : (i : Image) (log : LogAt) (greatest : ℕ) (es : Table) → IsAtRest i log greatest es → 0 < i.geometry.block
block_is_some i log greatest es rest = some_block i.geometry rest.valid.possible.valid

pub crash_at_rest_mounts : CrashAtRestMounts
crash_at_rest_mounts i j log greatest es rest crash =
    let table : HasTable j log greatest es = record {
      selected = same_selected i j log greatest crash.geometry (λ m less. durable_zone_stays i j m crash (rest.metadata m less)) rest.table.selected;
      table = rest.table.table;
    } in (
      table,
      selected_table_mounts j log greatest es table
          (pinned_table_stays i j es (block_is_some i log greatest es rest) (crash_keeps_durable i j crash) rest.pinned),
    )

-- where nothing changed, a table avoids what changed
pub avoids_nothing : (i : Image) (es : Table) → Avoids (λ _. false) i.geometry es
avoids_nothing i es = record { extents = no_extent (all_extents es); points = no_point es }
  where
    no_extent : (xs : List Extent) → AllByRecursion (λ x. false ≡ false) xs
    no_extent [] = tt
    no_extent (x ∷ xs) = (refl, no_extent xs)

    no_point : (fs : Table) → AllByRecursion (RecoversElsewhere (λ _. false) i.geometry) fs
    no_point [] = tt
    no_point (f ∷ fs) = ((λ set. refl), no_point fs)

-- an append to a metadata zone leaves the data zones
pub appended_data : (i : Image) (zone : ℕ) (added : List (List ℕ)) → zone < 3 → HaveSameData (λ _. false) i (appended i zone added)
appended_data i zone added metadata = record {
  geometry = refl;
  blocks = λ n data_zone other. ap (λ z. z.blocks) (same n data_zone);
  kept = λ n data_zone other. let is = ap (λ z. z.kept) (same n data_zone) in omega (arith, is);
}
  where
    same : (n : ℕ) → 3 ≤ n → zone_at (appended i zone added) n ≡ zone_at i n
    same n data_zone = changed_elsewhere zone n (zone_appended i.geometry.capacity added) i.zones (λ is. omega (arith, is))

-- a table that is pinned breaks no rule after a crash within an append to a metadata zone
left_unbroken : (i j : Image) (zone : ℕ) (added : List (List ℕ)) (es : Table) → 0 < i.geometry.block → zone < 3 → IsPinned i es → IsCrash (appended i zone added) j
    → broken_rule j es ≡ None
left_unbroken i j zone added es pos metadata pinned crash =
    let k = appended i zone added in
    pinned_table_stays k j es pos (crash_keeps_durable k j crash)
    (pinned_is_kept (λ _. false) i k es (appended_data i zone added metadata) (avoids_nothing i es) pinned)

-- a device has zones for metadata
pub three_zones : (i : Image) → IsValidImage i → 3 ≤ length i.zones
three_zones i is =
    let count : length i.zones ≡ i.geometry.zones = sym (length-map i.zones info_of) ∙ is.possible.count in
    let many : 32 ≤ i.geometry.zones = grind (arith, is.possible.valid) in
    omega (arith, count, many)

pub record_moment_mounts : RecordMomentMounts
record_moment_mounts i j log greatest payload r es next rest adds pinned passed =
    let zone : log.zone < 3 = (selected_is_of_its_zone i.geometry (scans_of i) log greatest rest.table.selected).0 in
    let pos = block_is_some i log greatest es rest in
    let blocks = record_blocks i.geometry.block payload in
    let enough : 3 ≤ length i.zones = three_zones i rest.valid in
    ⊎_elim
    (λ before. inl (before (left_unbroken i j log.zone (take passed.count blocks) es pos zone rest.pinned passed.crash)))
    (λ after. inr (after (left_unbroken i j log.zone (take passed.count blocks) next pos zone pinned passed.crash)))
    (record_crash_mounts i j log greatest payload r es next rest.table adds.clean adds.goes_on adds.fits adds.reads adds.after rest.metadata enough passed)

-- no zone has more durable blocks than blocks
pub kept_within : (i : Image) (n : ℕ) → IsValidImage i → (zone_at i n).kept ≤ length (zone_at i n).blocks
kept_within i n is = each i.zones n is.zones
  where
    each : (zs : List Zone) (m : ℕ) → All (IsZone i.geometry) zs → (zone_in zs m).kept ≤ length (zone_in zs m).blocks
    each [] m all = omega arith
    each (z ∷ zs) zero all = (All-head (IsZone i.geometry) z zs all).kept
    each (z ∷ zs) (suc m) all = each zs m (All-tail (IsZone i.geometry) z zs all)
