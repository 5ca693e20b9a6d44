-- What is found again where the data zones of a crash stand.
use Rattle.std.specs.Prelude.{◌≡◌, ℕ, zero, suc, ◌≤◌, Bool, true, false, not, ◌||◌, cond, List, [], ◌∷◌, ◌++◌, take, drop, map, nat_le, nat_lt, ◌&&◌, ◌==◌, refl}
use Rattle.std.proofs.Common.{◌∙◌, ap, sym, subst, append-nil, arith}
use Rattle.std.proofs.lemmas.Bool.{leb-true, eqb-false, and_parts}
use Rattle.std.specs.List.{AllByRecursion, concat, list_all}
use Rattle.zone_image.specs.Image.{Zone, Image, IsCrash, zone_at, zone_in, zone_of, offset_of}
use Rattle.zone_image.specs.Infos.{IsValidImage}
use Rattle.zone_image.proofs.CrashLaws.{valid_crash}
use Rattle.zone_image.proofs.InfoLaws.{some_block}
use Rattle.record_model.specs.declared.types.Extent.{Extent}
use Rattle.record_model.specs.declared.types.FileEntry.{FileEntry}
use Rattle.log_model.specs.LogSelection.{LogAt}
use Rattle.log_model.specs.FileTable.{Table}
use Rattle.log_model.specs.FileTree.{RecoversTo, bytes_in}
use Rattle.log_model.specs.Frames.{no_active, extent_bytes, bytes_of, frames_at, rest_at, is_recovery_point, recovered_extents}
use Rattle.log_model.specs.Mounted.{is_written, all_extents, broken_rule, recovered_entry, file_in, tree_of}
use Rattle.log_model.specs.MountedLogLaws.{HasTable, MountsTable}
use Rattle.log_model.specs.TableLaws.{IsTable}
use Rattle.log_model.proofs.MountedLogLaws.{selected_table_mounts}
use Rattle.crash_cover.specs.SameData.{HaveSameData, Avoids, RecoversElsewhere}
use Rattle.crash_cover.specs.Pinned.{is_durable, IsPinned, KeepsDurable}
use Rattle.crash_cover.specs.FoundExtents.{IsWrittenIn}
use Rattle.crash_cover.specs.Recovery.{RecoversTable, standing_bytes}
use Rattle.crash_cover.proofs.SameData.{data_decides_table}
use Rattle.crash_cover.proofs.PinnedTables.{crash_keeps_durable, kept_written, pinned_table_stays}
use Rattle.crash_cover.proofs.RestLaws.{avoids_nothing, kept_within}
use Rattle.crash_cover.proofs.FoundLaws.{found_is_written}
use Rattle.crash_cover.proofs.RecoveryLaws.{kept_recovers}
use Rattle.log_roll.specs.FormatLeaves.{SameData}

-- a zone behind the first three
pub zone_behind : (zs : List Zone) (n : ℕ) → zone_in (drop 3 zs) n ≡ zone_in zs (suc (suc (suc n)))
zone_behind [] n = refl
zone_behind (a ∷ []) n = refl
zone_behind (a ∷ b ∷ []) n = refl
zone_behind (a ∷ b ∷ c ∷ zs) n = refl

-- images with the same list of data zones have the same data
pub same_data : (k j : Image) → SameData k j → HaveSameData (λ _. false) k j
same_data k j same = record {
  geometry = same.geometry;
  blocks = λ n data_zone other. ap (λ z. z.blocks) (at n data_zone);
  kept = λ n data_zone other. let is = ap (λ z. z.kept) (at n data_zone) in omega (arith, is);
}
  where
    at : (n : ℕ) → 3 ≤ n → zone_at j n ≡ zone_at k n
    at zero data_zone = absurd (omega arith)
    at (suc zero) data_zone = absurd (omega arith)
    at (suc (suc zero)) data_zone = absurd (omega arith)
    at (suc (suc (suc n))) data_zone = sym (zone_behind j.zones n) ∙ ap (λ zs. zone_in zs n) same.zones ∙ zone_behind k.zones n

-- a written extent lies in a data zone
written_there : (k : Image) (x : Extent) → is_written k x ≡ true → 3 ≤ zone_of k.geometry x.start
written_there k x written =
    let n = zone_of k.geometry x.start in
    leb-true 3 n (and_parts (nat_le 3 n) (nat_lt n k.geometry.zones) (and_parts (nat_le 3 n && nat_lt n k.geometry.zones) _ written).0).0

-- what holds of all of two lists holds of all of each
both_parts : (P : Extent → Type 0) (xs ys : List Extent) → AllByRecursion P (xs ++ ys) → AllByRecursion P xs × AllByRecursion P ys
both_parts P [] ys h = (tt, h)
both_parts P (x ∷ xs) ys h = let rest = both_parts P xs ys h.1 in ((h.0, rest.0), rest.1)

-- and the other way round
from_both : (P : Extent → Type 0) (xs ys : List Extent) → AllByRecursion P xs → AllByRecursion P ys → AllByRecursion P (xs ++ ys)
from_both P [] ys front back = back
from_both P (x ∷ xs) ys front back = (front.0, from_both P xs ys front.1 back)

-- written, and in a zone where nothing changed
pub record IsThere (changed : ℕ → Bool) (k : Image) (x : Extent) : Type 0 where
  pub written : is_written k x ≡ true
  pub away : changed (zone_of k.geometry x.start) ≡ false

-- durable extents away from what changed are there where the durable blocks are kept
durable_there : (changed : ℕ → Bool) (i k : Image) (xs : List Extent) → KeepsDurable i k → list_all (is_durable i) xs ≡ true
    → AllByRecursion (λ x. changed (zone_of k.geometry x.start) ≡ false) xs → AllByRecursion (IsThere changed k) xs
durable_there changed i k [] keeps h away = tt
durable_there changed i k (x ∷ xs) keeps h away =
    let parts = and_parts (is_durable i x) (list_all (is_durable i) xs) h in
    (record { written = kept_written i k x keeps parts.0; away = away.0 }, durable_there changed i k xs keeps parts.1 away.1)

-- what is found in a zone where nothing changed is there
found_in : (changed : ℕ → Bool) (k : Image) (n : ℕ) (xs : List Extent) → changed n ≡ false → AllByRecursion (IsWrittenIn k n) xs → AllByRecursion (IsThere changed k) xs
found_in changed k n [] away h = tt
found_in changed k n (x ∷ xs) away h = (record { written = h.0.written; away = ap changed h.0.zone ∙ away }, found_in changed k n xs away h.1)

-- so is what is found again of a file that recovers elsewhere
found_there : (changed : ℕ → Bool) (k : Image) (e : FileEntry) → IsValidImage k → RecoversElsewhere changed k.geometry e → AllByRecursion (IsThere changed k) (recovered_extents k e)
found_there changed k e valid away = by_point (e.active == no_active) refl
  where
    by_point : (unset : Bool) → (e.active == no_active) ≡ unset → AllByRecursion (IsThere changed k) (recovered_extents k e)
    by_point true is =
        subst (λ b. AllByRecursion (IsThere changed k) (cond (b || not (is_recovery_point k e.active)) [] (cond e.sparse (frames_at k e.active) (rest_at k e.active)))) (sym is) tt
    by_point false is = found_in changed k (zone_of k.geometry e.active) (recovered_extents k e) (away (eqb-false e.active no_active is)) (found_is_written k e valid)

-- and of all files
all_found_there : (changed : ℕ → Bool) (k : Image) (es : Table) → IsValidImage k → AllByRecursion (IsThere changed k) (all_extents es)
    → AllByRecursion (RecoversElsewhere changed k.geometry) es → AllByRecursion (IsThere changed k) (all_extents (map (recovered_entry k) es))
all_found_there changed k [] valid there away = tt
all_found_there changed k (e ∷ es) valid there away =
    let parts = both_parts (IsThere changed k) e.extents (all_extents es) there in
    let found = recovered_extents k e in
    from_both (IsThere changed k) (e.extents ++ found) (all_extents (map (recovered_entry k) es))
    (from_both (IsThere changed k) e.extents found parts.0 (found_there changed k e valid away.0))
    (all_found_there changed k es valid parts.1 away.1)

module _ (changed : ℕ → Bool) (k j : Image) (same : HaveSameData changed k j) where
  -- extents that are there have the same bytes in both
  bytes_there : (x : Extent) → IsThere changed k x → extent_bytes j x ≡ extent_bytes k x
  bytes_there x there =
      ap (λ g. take x.len (drop (offset_of g x.start) (concat (zone_at j (zone_of g x.start)).blocks))) same.geometry
      ∙ ap (λ bs. take x.len (drop (offset_of k.geometry x.start) (concat bs))) (same.blocks (zone_of k.geometry x.start) (written_there k x there.written) there.away)

  -- so have all of them
  all_there : (xs : List Extent) → AllByRecursion (IsThere changed k) xs → bytes_of j xs ≡ bytes_of k xs
  all_there [] h = refl
  all_there (x ∷ xs) h = ap (λ bs. bs ++ bytes_of j xs) (bytes_there x h.0) ∙ ap (λ bs. extent_bytes k x ++ bs) (all_there xs h.1)

  -- so a table has the same tree
  tree_there : (es : Table) → AllByRecursion (IsThere changed k) (all_extents es) → tree_of j es ≡ tree_of k es
  tree_there [] h = refl
  tree_there (e ∷ es) h =
      let parts = both_parts (IsThere changed k) e.extents (all_extents es) h in
      ap (λ bs. record { id = e.id; names = e.names; bytes = bs; hint = e.hint; time = e.time; sparse = e.sparse } ∷ tree_of j es) (all_there e.extents parts.0)
      ∙ ap (λ files. file_in k e ∷ files) (tree_there es parts.1)

  -- with what is found again, too
  pub found_tree : (es : Table) → IsValidImage k → Avoids changed k.geometry es → AllByRecursion (IsThere changed k) (all_extents es)
      → tree_of j (map (recovered_entry j) es) ≡ tree_of k (map (recovered_entry k) es)
  found_tree es valid away there =
      ap (tree_of j) (data_decides_table changed k j es same away).found
      ∙ tree_there (map (recovered_entry k) es) (all_found_there changed k es valid there away.points)

-- an image with the data zones of a crash, whose log has a table that was pinned
pub left_table : (i k j : Image) (log : LogAt) (greatest : ℕ) (es : Table) → IsValidImage i → IsCrash i k → HaveSameData (λ _. false) k j → IsTable es → IsPinned i es
    → HasTable j log greatest es → RecoversTable i es j × MountsTable j es
left_table i k j log greatest es was crash same table pinned has =
    let valid : IsValidImage k = valid_crash i k was crash in
    let keeps : KeepsDurable i k = crash_keeps_durable i k crash in
    let away = avoids_nothing k es in
    let rule : broken_rule j es ≡ broken_rule k es = (data_decides_table (λ _. false) k j es same away).rule in
    let mounts : MountsTable j es = selected_table_mounts j log greatest es has (rule ∙ pinned_table_stays i k es (some_block i.geometry was.possible.valid) keeps pinned) in
    let tree : tree_of j (map (recovered_entry j) es) ≡ tree_of k (map (recovered_entry k) es) =
    found_tree (λ _. false) k j same es valid away (durable_there (λ _. false) i k (all_extents es) keeps pinned.extents away.extents) in (
      record {
        tree = tree_of j (map (recovered_entry j) es);
        mounts = mounts.tree;
        recovers = subst (λ t. RecoversTo t (tree_of i es) (standing_bytes i es)) (sym tree) (kept_recovers i k es was valid keeps table pinned);
      },
      mounts,
    )

-- an image keeps what it has
keeps_itself : (i : Image) → IsValidImage i → KeepsDurable i i
keeps_itself i is = record {
  fronts = record { geometry = refl; fronts = λ n. ([], append-nil (zone_at i n).blocks) };
  enough = λ n. kept_within i n is;
}

-- what is left of a table of an image is left of it, too, where its data changed away from the table
pub recovers_before : (changed : ℕ → Bool) (i k j : Image) (es : Table) → HaveSameData changed i k → Avoids changed i.geometry es → IsValidImage i → IsPinned i es
    → RecoversTable k es j → RecoversTable i es j
recovers_before changed i k j es same away valid pinned left =
    let there = durable_there changed i i (all_extents es) (keeps_itself i valid) pinned.extents away.extents in
    record {
      tree = left.tree;
      mounts = left.mounts;
      recovers =
          subst (λ t. RecoversTo left.tree (tree_of i es) (λ id. bytes_in id t)) (found_tree changed i k same es valid away there)
          (subst (λ t. RecoversTo left.tree t (standing_bytes k es)) (tree_there changed i k same es there) left.recovers);
    }
