-- The tree that a crash leaves of an image at rest.
use Rattle.std.specs.Prelude.{◌≡◌, ℕ, zero, suc, ◌+◌, ◌<◌, ◌≤◌, Bool, true, false, not, ◌||◌, cond, List, [], ◌∷◌, ◌++◌, length, map, drop, ◌==◌, refl}
use Rattle.std.proofs.Common.{◌∙◌, ap, sym, subst, append_assoc, append-nil, arith}
use Rattle.std.proofs.lemmas.Bool.{and_parts, eq-eqb, ne_eqb}
use Rattle.std.proofs.lemmas.List.Elements.{All-head, All-tail}
use Rattle.std.specs.List.{All, AllByRecursion, AllZip, list_all}
use mathlib.Core.List.{IsPrefix}
use Rattle.zone_image.specs.Image.{Zone, Image, zone_at, zone_in, zone_of}
use Rattle.zone_image.specs.Infos.{IsZone, IsValidImage}
use Rattle.zone_image.proofs.CrashLaws.{valid_crash}
use Rattle.zone_image.proofs.InfoLaws.{some_block}
use Rattle.record_model.specs.declared.types.Extent.{Extent}
use Rattle.record_model.specs.declared.types.FileEntry.{FileEntry}
use Rattle.log_model.specs.FileTable.{Table}
use Rattle.log_model.specs.FileTree.{FileRecoversTo, RecoversTo}
use Rattle.log_model.specs.Frames.{no_active, extent_bytes, bytes_of, frames_at, rest_at, is_recovery_point, recovered_extents}
use Rattle.log_model.specs.Mounted.{is_written, all_extents, recovered_entry, file_in, tree_of, has_valid_recovery_point}
use Rattle.log_model.specs.MountLaws.{SparseAlone}
use Rattle.log_model.specs.TableLaws.{IdsRise, IsTable}
use Rattle.log_model.proofs.FrameLaws.{frames_stay_in_order}
use Rattle.log_model.proofs.KeptLaws.{kept_extent_stays}
use Rattle.log_model.proofs.DecodedNames.{replay_makes_table}
use Rattle.crash_cover.specs.Pinned.{is_durable, is_durable_point, has_durable_point, IsPinned, KeepsDurable}
use Rattle.crash_cover.specs.FoundExtents.{IsWrittenIn}
use Rattle.crash_cover.specs.Recovery.{standing_bytes, CrashRecovers}
use Rattle.crash_cover.proofs.PinnedTables.{crash_keeps_durable, kept_written, kept_point, split_durable}
use Rattle.crash_cover.proofs.RestLaws.{kept_within, crash_at_rest_mounts}
use Rattle.crash_cover.proofs.FoundLaws.{found_is_written}

-- of each zone all blocks have the size of a block
sized : (j : Image) (n : ℕ) → IsValidImage j → AllByRecursion (λ b. length b ≡ j.geometry.block) (zone_at j n).blocks
sized j n is = zone j.zones n is.zones
  where
    blocks : (bs : List (List ℕ)) → All (λ b. length b ≡ j.geometry.block) bs → AllByRecursion (λ b. length b ≡ j.geometry.block) bs
    blocks [] all = tt
    blocks (b ∷ bs) all = (All-head (λ c. length c ≡ j.geometry.block) b bs all, blocks bs (All-tail (λ c. length c ≡ j.geometry.block) b bs all))

    zone : (zs : List Zone) (m : ℕ) → All (IsZone j.geometry) zs → AllByRecursion (λ b. length b ≡ j.geometry.block) (zone_in zs m).blocks
    zone [] m all = tt
    zone (z ∷ zs) zero all = blocks z.blocks (All-head (IsZone j.geometry) z zs all).blocks
    zone (z ∷ zs) (suc m) all = zone zs m (All-tail (IsZone j.geometry) z zs all)

-- bytes of extents, one list behind another
pub bytes_append : (i : Image) (xs ys : List Extent) → bytes_of i (xs ++ ys) ≡ bytes_of i xs ++ bytes_of i ys
bytes_append i [] ys = refl
bytes_append i (x ∷ xs) ys = ap (λ bs. extent_bytes i x ++ bs) (bytes_append i xs ys) ∙ sym (append_assoc (extent_bytes i x) (bytes_of i xs) (bytes_of i ys))

-- the extents that are found, where the recovery point stays one
found_front : (unset p q sparse : Bool) (found all rest whole : List Extent) → (unset ≡ false → sparse ≡ true) → (unset || p ≡ true) → (unset || q ≡ true) → IsPrefix found all
    → IsPrefix (cond (unset || not p) [] (cond sparse found rest)) (cond (unset || not q) [] (cond sparse all whole))
found_front true p q sparse found all rest whole alone here there h = ([], refl)
found_front false false q sparse found all rest whole alone here there h = cc
found_front false true false sparse found all rest whole alone here there h = cc
found_front false true true true found all rest whole alone here there h = h
found_front false true true false found all rest whole alone here there h = let wrong : false ≡ true = alone refl in cc

-- nothing is found of a file that isn't sparse
none_found : (unset p sparse : Bool) (found rest : List Extent) → (unset ≡ false → sparse ≡ true) → sparse ≡ false → cond (unset || not p) [] (cond sparse found rest) ≡ []
none_found true p sparse found rest alone plain = refl
none_found false p true found rest alone plain = cc
none_found false p false found rest alone plain = let wrong : false ≡ true = alone refl in cc

module _ (i j : Image) (keeps : KeepsDurable i j) (valid : IsValidImage j) (pos : 0 < i.geometry.block) where
  -- an extent that is written in what is left has the bytes that it had
  bytes_same : (x : Extent) → is_written j x ≡ true → extent_bytes j x ≡ extent_bytes i x
  bytes_same x written =
      (kept_extent_stays i j x keeps.fronts
      (subst (λ g. AllByRecursion (λ b. length b ≡ g.block) (zone_at j (zone_of i.geometry x.start)).blocks) keeps.fronts.geometry (sized j (zone_of i.geometry x.start) valid)) written).1

  -- so have all of them
  all_same : (xs : List Extent) → AllByRecursion (λ x. is_written j x ≡ true) xs → bytes_of j xs ≡ bytes_of i xs
  all_same [] h = refl
  all_same (x ∷ xs) h = ap (λ bs. bs ++ bytes_of j xs) (bytes_same x h.0) ∙ ap (λ bs. extent_bytes i x ++ bs) (all_same xs h.1)

  -- durable extents are written in what is left
  durable_written : (xs : List Extent) → list_all (is_durable i) xs ≡ true → AllByRecursion (λ x. is_written j x ≡ true) xs
  durable_written [] h = tt
  durable_written (x ∷ xs) h =
      let parts = and_parts (is_durable i x) (list_all (is_durable i) xs) h in
      (kept_written i j x keeps parts.0, durable_written xs parts.1)

  -- what is found is written
  found_written : (n : ℕ) (xs : List Extent) → AllByRecursion (IsWrittenIn j n) xs → AllByRecursion (λ x. is_written j x ≡ true) xs
  found_written n [] h = tt
  found_written n (x ∷ xs) h = (h.0.written, found_written n xs h.1)

  -- what is found in what is left is the first of what was found
  found_prefix : (e : FileEntry) → SparseAlone e → has_valid_recovery_point j e ≡ true → has_valid_recovery_point i e ≡ true → IsPrefix (recovered_extents j e) (recovered_extents i e)
  found_prefix e alone here there =
      found_front (e.active == no_active) (is_recovery_point j e.active) (is_recovery_point i e.active) e.sparse (frames_at j e.active) (frames_at i e.active) (rest_at j e.active) (rest_at i e.active)
      alone here there (frames_stay_in_order i j e.active pos keeps.fronts.geometry (keeps.fronts.fronts (zone_of i.geometry e.active)))

  -- a file of what is left
  file_recovers : (accepted : ℕ → List ℕ) (e : FileEntry) → list_all (is_durable i) e.extents ≡ true → SparseAlone e → has_valid_recovery_point j e ≡ true → has_valid_recovery_point i e ≡ true
      → accepted e.id ≡ bytes_of i (recovered_entry i e).extents → FileRecoversTo accepted (file_in j (recovered_entry j e)) (file_in i e)
  file_recovers accepted e durable alone here there is =
      let found = recovered_extents j e in
      let prefix = found_prefix e alone here there in
      let recorded : bytes_of j e.extents ≡ bytes_of i e.extents = all_same e.extents (durable_written e.extents durable) in
      let again : bytes_of j found ≡ bytes_of i found = all_same found (found_written (zone_of j.geometry e.active) found (found_is_written j e valid)) in
      let bytes : bytes_of j (e.extents ++ found) ≡ bytes_of i e.extents ++ bytes_of i found =
      bytes_append j e.extents found ∙ ap (λ bs. bs ++ bytes_of j found) recorded ∙ ap (λ bs. bytes_of i e.extents ++ bs) again in
      let whole : bytes_of i (e.extents ++ recovered_extents i e) ≡ bytes_of i e.extents ++ (bytes_of i found ++ bytes_of i prefix.0) =
      bytes_append i e.extents (recovered_extents i e) ∙ ap (λ xs. bytes_of i e.extents ++ bytes_of i xs) (sym prefix.1) ∙ ap (λ bs. bytes_of i e.extents ++ bs) (bytes_append i found prefix.0) in
      record {
        id = refl;
        names = refl;
        hint = refl;
        sparse = refl;
        plain = λ plain.
            ap (λ xs. bytes_of j (e.extents ++ xs))
            (none_found (e.active == no_active) (is_recovery_point j e.active) e.sparse (frames_at j e.active) (rest_at j e.active) alone plain)
            ∙ bytes_append j e.extents [] ∙ append-nil (bytes_of j e.extents) ∙ recorded;
        synced = λ sparse. (bytes_of i found, sym bytes);
        within_accepted = λ sparse. (
          bytes_of i prefix.0,
          ap (λ bs. bs ++ bytes_of i prefix.0) bytes ∙ append_assoc (bytes_of i e.extents) (bytes_of i found) (bytes_of i prefix.0) ∙ sym whole ∙ sym is,
        );
      }

-- the recovery point of each file is kept
point_kept : (i j : Image) (e : FileEntry) → KeepsDurable i j → has_durable_point i e ≡ true → has_valid_recovery_point j e ≡ true
point_kept i j e keeps h = either (e.active == no_active) (is_durable_point i e.active) (is_recovery_point j e.active) (kept_point i j e.active keeps) h
  where
    either : (unset p q : Bool) → (p ≡ true → q ≡ true) → unset || p ≡ true → unset || q ≡ true
    either true p q f h = refl
    either false p q f h = f h

-- an image keeps what it has
keeps_itself : (i : Image) → IsValidImage i → KeepsDurable i i
keeps_itself i is = record {
  fronts = record { geometry = refl; fronts = λ n. ([], append-nil (zone_at i n).blocks) };
  enough = λ n. kept_within i n is;
}

-- the files of what is left, each of which has in the standing image the bytes that are accepted
files_recover : (i j : Image) (keeps : KeepsDurable i j) (valid : IsValidImage j) (was : IsValidImage i) (pos : 0 < i.geometry.block) (accepted : ℕ → List ℕ) (es : Table)
    → list_all (is_durable i) (all_extents es) ≡ true → list_all (has_durable_point i) es ≡ true → AllByRecursion SparseAlone es
    → AllByRecursion (λ e. accepted e.id ≡ bytes_of i (recovered_entry i e).extents) es
    → AllZip (FileRecoversTo accepted) (tree_of j (map (recovered_entry j) es)) (tree_of i es)
files_recover i j keeps valid was pos accepted [] durable points alone bytes = tt
files_recover i j keeps valid was pos accepted (e ∷ es) durable points alone bytes =
    let extents = split_durable i e es durable in
    let point = and_parts (has_durable_point i e) (list_all (has_durable_point i) es) points in (
      file_recovers i j keeps valid pos accepted e extents.0 alone.0 (point_kept i j e keeps point.0) (point_kept i i e (keeps_itself i was) point.0) bytes.0,
      files_recover i j keeps valid was pos accepted es extents.1 point.1 alone.1 bytes.1,
    )

-- ids that rise from a number are at least that
all_above : (from : ℕ) (es : Table) → IdsRise from es → AllByRecursion (λ e. from ≤ e.id) es
all_above from [] h = tt
all_above from (e ∷ es) h = (h.0, weaker (e.id + 1) es (omega (arith, h.0)) (all_above (e.id + 1) es h.1))
  where
    weaker : (high : ℕ) (fs : Table) → from ≤ high → AllByRecursion (λ f. high ≤ f.id) fs → AllByRecursion (λ f. from ≤ f.id) fs
    weaker high [] le all = tt
    weaker high (f ∷ fs) le all = (omega (arith, all.0), weaker high fs le all.1)

-- each file has its own bytes in a tree
own_bytes : (i : Image) (from : ℕ) (es : Table) → IdsRise from es → AllByRecursion (λ e. standing_bytes i es e.id ≡ bytes_of i (recovered_entry i e).extents) es
own_bytes i from [] h = tt
own_bytes i from (e ∷ es) h = (
  ap (λ b. cond b (bytes_of i (recovered_entry i e).extents) (standing_bytes i es e.id)) (eq-eqb e.id e.id refl),
  behind es (all_above (e.id + 1) es h.1) (own_bytes i (e.id + 1) es h.1),
)
  where
    behind : (fs : Table) → AllByRecursion (λ f. e.id + 1 ≤ f.id) fs → AllByRecursion (λ f. standing_bytes i es f.id ≡ bytes_of i (recovered_entry i f).extents) fs
        → AllByRecursion (λ f. standing_bytes i (e ∷ es) f.id ≡ bytes_of i (recovered_entry i f).extents) fs
    behind [] above own = tt
    behind (f ∷ fs) above own = (
      ap (λ b. cond b (bytes_of i (recovered_entry i e).extents) (standing_bytes i es f.id)) (ne_eqb e.id f.id (λ same. omega (arith, above.0, same))) ∙ own.0,
      behind fs above.1 own.1,
    )

-- a pinned table in an image that keeps what is durable
pub kept_recovers : (i j : Image) (es : Table) → IsValidImage i → IsValidImage j → KeepsDurable i j → IsTable es → IsPinned i es
    → RecoversTo (tree_of j (map (recovered_entry j) es)) (tree_of i es) (standing_bytes i es)
kept_recovers i j es was valid keeps table pinned =
    files_recover i j keeps valid was (some_block i.geometry was.possible.valid) (standing_bytes i es) es pinned.extents pinned.points pinned.sparse (own_bytes i 0 es table.ids)

pub crash_recovers : CrashRecovers
crash_recovers i j log greatest es rest crash = record {
  tree = tree_of j (map (recovered_entry j) es);
  mounts = (crash_at_rest_mounts i j log greatest es rest crash).1.tree;
  recovers =
      kept_recovers i j es rest.valid (valid_crash i j rest.valid crash) (crash_keeps_durable i j crash)
      (replay_makes_table (drop 1 log.scan.payloads) es rest.table.table) rest.pinned;
}
