-- An append: what it leaves of the zones, of the durable blocks, and of a table.
use Rattle.std.specs.Prelude.{◌≡◌, ℕ, zero, suc, ◌+◌, ◌≤◌, Bool, true, false, List, [], ◌∷◌, ◌++◌, length, take, ◌==◌, refl}
use Rattle.std.proofs.Common.{◌∙◌, ap, sym, append-nil, arith}
use Rattle.std.proofs.lemmas.Bool.{eqb-false}
use Rattle.std.proofs.lemmas.List.{take-append-le, length-append}
use Rattle.std.specs.List.{AllByRecursion, list_all}
use Rattle.zone_image.specs.Image.{Zone, Image, IsCrash, zone_at, zone_in}
use Rattle.zone_image.specs.Changes.{change_at, zone_appended, appended, zones_crashed, blocks_left}
use Rattle.zone_image.specs.Infos.{IsValidImage}
use Rattle.zone_image.proofs.CrashLaws.{valid_crash, crashed_is_crash}
use Rattle.record_model.specs.declared.types.Extent.{Extent}
use Rattle.record_model.specs.declared.types.FileEntry.{FileEntry}
use Rattle.log_model.specs.FileTable.{Table}
use Rattle.log_model.specs.Frames.{bytes_of, recovered_extents}
use Rattle.log_model.specs.Mounted.{all_extents, entry_with, recovered_entry, file_in}
use Rattle.log_model.specs.MountLaws.{KeepsFronts}
use Rattle.log_model.proofs.CrashLaws.{changed_elsewhere}
use Rattle.crash_cover.specs.SameData.{HaveSameData, RecoversElsewhere}
use Rattle.crash_cover.specs.Pinned.{is_durable, IsPinned, KeepsDurable}
use Rattle.crash_cover.proofs.SameData.{data_decides_table}
use Rattle.crash_cover.proofs.PinnedTables.{split_durable, crash_keeps_durable}
use Rattle.crash_cover.proofs.RestLaws.{kept_within}
use Rattle.crash_cover.proofs.RecoveryLaws.{bytes_append}
use Rattle.least_crash.specs.Least.{least_crash}
use Rattle.least_crash.specs.Recovery.{found_tree, least_tree}
use Rattle.least_crash.specs.DataSteps.{HasNoPoint}
use Rattle.least_crash.proofs.LeastLaws.{least_zone}
use Rattle.least_crash.proofs.Fronts.{AreWritten, all_same, durable_written, found_written}

-- an image keeps what it has
pub keeps_itself : (i : Image) → IsValidImage i → KeepsDurable i i
keeps_itself i is = record {
  fronts = record { geometry = refl; fronts = λ n. ([], append-nil (zone_at i n).blocks) };
  enough = λ n. kept_within i n is;
}

-- a zone with more blocks at its end, and as many durable ones
record Lengthened (z y : Zone) : Type 0 where
  rest : List (List ℕ)
  blocks : y.blocks ≡ z.blocks ++ rest
  kept : y.kept ≡ z.kept

same_length : (z : Zone) → Lengthened z z
same_length z = record { rest = []; blocks = sym (append-nil z.blocks); kept = refl }

-- each zone after an append
lengthened : (capacity n m : ℕ) (added : List (List ℕ)) (zs : List Zone) → Lengthened (zone_in zs m) (zone_in (change_at n (zone_appended capacity added) zs) m)
lengthened capacity n m added [] = same_length (zone_in [] m)
lengthened capacity zero zero added (z ∷ zs) = record { rest = added; blocks = refl; kept = refl }
lengthened capacity zero (suc m) added (z ∷ zs) = same_length (zone_in zs m)
lengthened capacity (suc n) zero added (z ∷ zs) = same_length z
lengthened capacity (suc n) (suc m) added (z ∷ zs) = lengthened capacity n m added zs

-- the image before an append has the first blocks of each zone after it
pub append_keeps_fronts : (i : Image) (zone : ℕ) (added : List (List ℕ)) → KeepsFronts (appended i zone added) i
append_keeps_fronts i zone added = record {
  geometry = refl;
  fronts = λ n. let it = lengthened i.geometry.capacity zone n added i.zones in (it.rest, sym it.blocks);
}

-- and the durable ones are the same
pub append_kept : (i : Image) (zone n : ℕ) (added : List (List ℕ)) → (zone_at (appended i zone added) n).kept ≡ (zone_at i n).kept
append_kept i zone n added = (lengthened i.geometry.capacity zone n added i.zones).kept

-- the other zones are the same
pub append_elsewhere : (i : Image) (zone : ℕ) (added : List (List ℕ)) → HaveSameData (λ n. n == zone) i (appended i zone added)
append_elsewhere i zone added = record {
  geometry = refl;
  blocks = λ n data_zone other. ap (λ z. z.blocks) (changed_elsewhere zone n (zone_appended i.geometry.capacity added) i.zones (eqb-false n zone other));
  kept = λ n data_zone other. let same = append_kept i zone n added in omega (arith, same);
}

-- the durable blocks of a zone with more blocks
least_front : (z y : Zone) → Lengthened z y → z.kept ≤ length z.blocks → take (blocks_left y 0) y.blocks ≡ take (blocks_left z 0) z.blocks
least_front z y more within =
    let longer : length y.blocks ≡ length z.blocks + length more.rest = ap length more.blocks ∙ length-append z.blocks more.rest in
    let count : blocks_left y 0 ≡ blocks_left z 0 = omega (arith, longer, more.kept, within) in
    ap (λ n. take n y.blocks) count ∙ ap (take (blocks_left z 0)) more.blocks
    ∙ take-append-le (blocks_left z 0) z.blocks more.rest (omega (arith, within))

-- where a crash loses the most, so many blocks are kept
least_kept : (zs : List Zone) (n : ℕ) → (zone_in (zones_crashed zs []) n).kept ≡ blocks_left (zone_in zs n) 0
least_kept [] n = refl
least_kept (z ∷ zs) zero = refl
least_kept (z ∷ zs) (suc n) = least_kept zs n

-- it leaves the same blocks after an append
pub least_blocks : (i : Image) (zone n : ℕ) (added : List (List ℕ)) → IsValidImage i → (zone_at (least_crash (appended i zone added)) n).blocks ≡ (zone_at (least_crash i) n).blocks
least_blocks i zone n added is =
    least_zone (appended i zone added).zones n
    ∙ least_front (zone_at i n) (zone_at (appended i zone added) n) (lengthened i.geometry.capacity zone n added i.zones) (kept_within i n is)
    ∙ sym (least_zone i.zones n)

least_data : (i : Image) (zone : ℕ) (added : List (List ℕ)) → IsValidImage i → HaveSameData (λ _. false) (least_crash i) (least_crash (appended i zone added))
least_data i zone added is = record {
  geometry = refl;
  blocks = λ n data_zone other. least_blocks i zone n added is;
  kept = λ n data_zone other.
      let more = lengthened i.geometry.capacity zone n added i.zones in
      let longer : length (zone_at (appended i zone added) n).blocks ≡ length (zone_at i n).blocks + length more.rest = ap length more.blocks ∙ length-append (zone_at i n).blocks more.rest in
      omega (arith, least_kept i.zones n, least_kept (appended i zone added).zones n, longer, more.kept, kept_within i n is);
}

least_fronts : (i : Image) (zone : ℕ) (added : List (List ℕ)) → IsValidImage i → KeepsFronts (least_crash (appended i zone added)) (least_crash i)
least_fronts i zone added is = record {
  geometry = refl;
  fronts = λ n. ([], append-nil (zone_at (least_crash i) n).blocks ∙ sym (least_blocks i zone n added is));
}

-- the same is found of a file whose recovery point lies elsewhere
pub found_same : (changed : ℕ → Bool) (i k : Image) (e : FileEntry) → HaveSameData changed i k → RecoversElsewhere changed i.geometry e → recovered_extents k e ≡ recovered_extents i e
found_same changed i k e same away =
    let bare : FileEntry = record e { extents = []; size = 0 } in
    let found = (data_decides_table changed i k (bare ∷ []) same (record { extents = tt; points = (away, tt) })).found in
    ap extents_of found
  where
    extents_of : Table → List Extent
    extents_of [] = []
    extents_of (f ∷ fs) = f.extents

-- a table whose extents are written, and of which the same is found, has the same bytes where blocks are added
same_tree : (changed : ℕ → Bool) (i k : Image) (es : Table) → KeepsFronts k i → IsValidImage i → HaveSameData changed i k
    → AllByRecursion (RecoversElsewhere changed i.geometry) es → AllByRecursion (λ e. AreWritten i e.extents) es → found_tree k es ≡ found_tree i es
same_tree changed i k [] fronts valid same away written = refl
same_tree changed i k (e ∷ es) fronts valid same away written =
    let found = recovered_extents i e in
    let again : recovered_extents k e ≡ found = found_same changed i k e same away.0 in
    let bytes : bytes_of k (e.extents ++ found) ≡ bytes_of i (e.extents ++ found) =
    bytes_append k e.extents found
    ∙ ap (λ bs. bs ++ bytes_of k found) (sym (all_same k i fronts valid e.extents written.0))
    ∙ ap (λ bs. bytes_of i e.extents ++ bs) (sym (all_same k i fronts valid found (found_written i e valid)))
    ∙ sym (bytes_append i e.extents found) in
    ap (λ xs. file_in k (entry_with e xs) ∷ found_tree k es) again
    ∙ ap (λ bs. record { id = e.id; names = e.names; bytes = bs; hint = e.hint; time = e.time; sparse = e.sparse } ∷ found_tree k es) bytes
    ∙ ap (λ files. file_in i (recovered_entry i e) ∷ files) (same_tree changed i k es fronts valid same away.1 written.1)

-- the extents of each file are written where what is durable is kept
all_written : (i j : Image) (es : Table) → KeepsDurable i j → list_all (is_durable i) (all_extents es) ≡ true → AllByRecursion (λ e. AreWritten j e.extents) es
all_written i j [] keeps durable = tt
all_written i j (e ∷ es) keeps durable =
    let parts = split_durable i e es durable in
    (durable_written i j keeps e.extents parts.0, all_written i j es keeps parts.1)

-- everything is elsewhere where nothing changed
nothing_changed : (i : Image) (es : Table) → AllByRecursion (RecoversElsewhere (λ _. false) i.geometry) es
nothing_changed i [] = tt
nothing_changed i (e ∷ es) = ((λ set. refl), nothing_changed i es)

-- the standing image has the same tree after an append to a zone without recovery points
pub append_standing : (i : Image) (zone : ℕ) (added : List (List ℕ)) (es : Table) → IsValidImage i → IsPinned i es → HasNoPoint i zone es
    → found_tree (appended i zone added) es ≡ found_tree i es
append_standing i zone added es is pinned away =
    same_tree (λ n. n == zone) i (appended i zone added) es (append_keeps_fronts i zone added) is (append_elsewhere i zone added) away
    (all_written i i es (keeps_itself i is) pinned.extents)

-- a crash that loses the most leaves the same tree after any append
pub append_least : (i : Image) (zone : ℕ) (added : List (List ℕ)) (es : Table) → IsValidImage i → IsPinned i es
    → least_tree (appended i zone added) es ≡ least_tree i es
append_least i zone added es is pinned =
    let crash : IsCrash i (least_crash i) = crashed_is_crash i [] is in
    same_tree (λ _. false) (least_crash i) (least_crash (appended i zone added)) es (least_fronts i zone added is) (valid_crash i (least_crash i) is crash)
    (least_data i zone added is) (nothing_changed (least_crash i) es) (all_written i (least_crash i) es (crash_keeps_durable i (least_crash i) crash) pinned.extents)
