-- The bytes of a file in an image, and in another that keeps the first blocks of each zone.
use Rattle.std.specs.Prelude.{◌≡◌, ℕ, zero, suc, ◌<◌, Bool, true, false, not, ◌||◌, cond, List, [], ◌∷◌, ◌++◌, length, ◌==◌, refl}
use Rattle.std.proofs.Common.{◌∙◌, ap, sym, subst, append_assoc, append-nil}
use Rattle.std.proofs.lemmas.Bool.{and_parts}
use Rattle.std.proofs.lemmas.List.Elements.{All-head, All-tail}
use Rattle.std.specs.List.{All, AllByRecursion, AllZip, list_all}
use mathlib.Core.List.{IsPrefix}
use Rattle.zone_image.specs.Image.{Zone, Image, zone_at, zone_in, zone_of}
use Rattle.zone_image.specs.Infos.{IsZone, IsValidImage}
use Rattle.record_model.specs.declared.types.Extent.{Extent}
use Rattle.record_model.specs.declared.types.FileEntry.{FileEntry}
use Rattle.log_model.specs.FileTable.{Table}
use Rattle.log_model.specs.FileTree.{FileRecoversTo, RecoversTo}
use Rattle.log_model.specs.Frames.{no_active, extent_bytes, bytes_of, frames_at, rest_at, is_recovery_point, recovered_extents}
use Rattle.log_model.specs.Mounted.{is_written, all_extents, recovered_entry, tree_of, has_valid_recovery_point}
use Rattle.log_model.specs.MountLaws.{KeepsFronts, SparseAlone}
use Rattle.log_model.proofs.KeptLaws.{kept_extent_stays}
use Rattle.log_model.proofs.KeptTable.{recovered_front}
use Rattle.crash_cover.specs.Pinned.{is_durable, is_durable_point, has_durable_point, KeepsDurable}
use Rattle.crash_cover.specs.FoundExtents.{IsWrittenIn}
use Rattle.crash_cover.proofs.PinnedTables.{kept_written, kept_point, split_durable}
use Rattle.crash_cover.proofs.FoundLaws.{found_is_written}
use Rattle.crash_cover.proofs.RecoveryLaws.{bytes_append}
use Rattle.least_crash.specs.Recovery.{found_tree}

-- of each zone all blocks have the size of a block
sized : (j : Image) (n : ℕ) → IsValidImage j → AllByRecursion (λ b. length b ≡ j.geometry.block) (zone_at j n).blocks
sized j n is = zone j.zones n is.zones
  where
    blocks : (bs : List (List ℕ)) → All (λ b. length b ≡ j.geometry.block) bs → AllByRecursion (λ b. length b ≡ j.geometry.block) bs
    blocks [] all = tt
    blocks (b ∷ bs) all = (All-head (λ c. length c ≡ j.geometry.block) b bs all, blocks bs (All-tail (λ c. length c ≡ j.geometry.block) b bs all))

    zone : (zs : List Zone) (m : ℕ) → All (IsZone j.geometry) zs → AllByRecursion (λ b. length b ≡ j.geometry.block) (zone_in zs m).blocks
    zone [] m all = tt
    zone (z ∷ zs) zero all = blocks z.blocks (All-head (IsZone j.geometry) z zs all).blocks
    zone (z ∷ zs) (suc m) all = zone zs m (All-tail (IsZone j.geometry) z zs all)

-- the extents are written
abbrev pub AreWritten : Image → List Extent → Type 0
AreWritten j xs = AllByRecursion (λ x. is_written j x ≡ true) xs

-- an extent that is written in what is left has the bytes that it had
bytes_same : (i j : Image) → KeepsFronts i j → IsValidImage j → (x : Extent) → is_written j x ≡ true → extent_bytes j x ≡ extent_bytes i x
bytes_same i j fronts valid x written =
    (kept_extent_stays i j x fronts
    (subst (λ g. AllByRecursion (λ b. length b ≡ g.block) (zone_at j (zone_of i.geometry x.start)).blocks) fronts.geometry (sized j (zone_of i.geometry x.start) valid)) written).1

-- so have all of them
pub all_same : (i j : Image) → KeepsFronts i j → IsValidImage j → (xs : List Extent) → AreWritten j xs → bytes_of j xs ≡ bytes_of i xs
all_same i j fronts valid [] h = refl
all_same i j fronts valid (x ∷ xs) h =
    ap (λ bs. bs ++ bytes_of j xs) (bytes_same i j fronts valid x h.0) ∙ ap (λ bs. extent_bytes i x ++ bs) (all_same i j fronts valid xs h.1)

-- durable extents are written where what is durable is kept
pub durable_written : (i j : Image) → KeepsDurable i j → (xs : List Extent) → list_all (is_durable i) xs ≡ true → AreWritten j xs
durable_written i j keeps [] h = tt
durable_written i j keeps (x ∷ xs) h =
    let parts = and_parts (is_durable i x) (list_all (is_durable i) xs) h in
    (kept_written i j x keeps parts.0, durable_written i j keeps xs parts.1)

-- what is found is written
pub found_written : (j : Image) (e : FileEntry) → IsValidImage j → AreWritten j (recovered_extents j e)
found_written j e valid = each (recovered_extents j e) (found_is_written j e valid)
  where
    each : (xs : List Extent) → AllByRecursion (IsWrittenIn j (zone_of j.geometry e.active)) xs → AllByRecursion (λ x. is_written j x ≡ true) xs
    each [] h = tt
    each (x ∷ xs) h = (h.0.written, each xs h.1)

-- nothing is found of a file that isn't sparse
none_found : (unset p sparse : Bool) (found rest : List Extent) → (unset ≡ false → sparse ≡ true) → sparse ≡ false → cond (unset || not p) [] (cond sparse found rest) ≡ []
none_found true p sparse found rest alone plain = refl
none_found false p true found rest alone plain = cc
none_found false p false found rest alone plain = let wrong : false ≡ true = alone refl in cc

-- a durable recovery point is one where what is durable is kept
pub point_kept : (i j : Image) (e : FileEntry) → KeepsDurable i j → has_durable_point i e ≡ true → has_valid_recovery_point j e ≡ true
point_kept i j e keeps h = either (e.active == no_active) (is_durable_point i e.active) (is_recovery_point j e.active) (kept_point i j e.active keeps) h
  where
    either : (unset p q : Bool) → (p ≡ true → q ≡ true) → unset || p ≡ true → unset || q ≡ true
    either true p q f h = refl
    either false p q f h = f h

-- the recorded bytes of a file, and those that are found again
whole_bytes : (i : Image) (e : FileEntry) (found : List Extent) → bytes_of i (e.extents ++ found) ≡ bytes_of i e.extents ++ bytes_of i found
whole_bytes i e found = bytes_append i e.extents found

-- in what is left a file has the first of its bytes, and all of them where it isn't sparse
pub record HasFront (i j : Image) (e : FileEntry) : Type 0 where
  pub plain : e.sparse ≡ false → bytes_of i (recovered_entry i e).extents ≡ bytes_of j (recovered_entry j e).extents
  pub first : IsPrefix (bytes_of j (recovered_entry j e).extents) (bytes_of i (recovered_entry i e).extents)

pub has_front : (i j : Image) (e : FileEntry) → KeepsFronts i j → IsValidImage j → 0 < i.geometry.block → AreWritten j e.extents → SparseAlone e
    → has_valid_recovery_point j e ≡ true → has_valid_recovery_point i e ≡ true → HasFront i j e
has_front i j e fronts valid pos written alone here there =
    let found = recovered_extents j e in
    let prefix = recovered_front i j e fronts pos alone here there in
    let recorded : bytes_of j e.extents ≡ bytes_of i e.extents = all_same i j fronts valid e.extents written in
    let again : bytes_of j found ≡ bytes_of i found = all_same i j fronts valid found (found_written j e valid) in
    let bytes : bytes_of j (e.extents ++ found) ≡ bytes_of i e.extents ++ bytes_of i found =
    whole_bytes j e found ∙ ap (λ bs. bs ++ bytes_of j found) recorded ∙ ap (λ bs. bytes_of i e.extents ++ bs) again in
    let whole : bytes_of i (e.extents ++ recovered_extents i e) ≡ bytes_of i e.extents ++ (bytes_of i found ++ bytes_of i prefix.0) =
    whole_bytes i e (recovered_extents i e) ∙ ap (λ xs. bytes_of i e.extents ++ bytes_of i xs) (sym prefix.1) ∙ ap (λ bs. bytes_of i e.extents ++ bs) (bytes_append i found prefix.0) in
    record {
      plain = λ plain.
          ap (λ xs. bytes_of i (e.extents ++ xs))
          (none_found (e.active == no_active) (is_recovery_point i e.active) e.sparse (frames_at i e.active) (rest_at i e.active) alone plain)
          ∙ whole_bytes i e [] ∙ append-nil (bytes_of i e.extents) ∙ sym recorded ∙ sym (append-nil (bytes_of j e.extents)) ∙ sym (whole_bytes j e [])
          ∙ sym (ap (λ xs. bytes_of j (e.extents ++ xs))
          (none_found (e.active == no_active) (is_recovery_point j e.active) e.sparse (frames_at j e.active) (rest_at j e.active) alone plain));
      first = (
        bytes_of i prefix.0,
        ap (λ bs. bs ++ bytes_of i prefix.0) bytes ∙ append_assoc (bytes_of i e.extents) (bytes_of i found) (bytes_of i prefix.0) ∙ sym whole,
      );
    }

-- so of all files of a table that is pinned in an image of which both keep what is durable
pub have_fronts : (h i j : Image) (es : Table) → KeepsDurable h i → KeepsDurable h j → KeepsFronts i j → IsValidImage j → 0 < i.geometry.block
    → list_all (is_durable h) (all_extents es) ≡ true → list_all (has_durable_point h) es ≡ true → AllByRecursion SparseAlone es
    → AllByRecursion (HasFront i j) es
have_fronts h i j [] there here fronts valid pos durable points alone = tt
have_fronts h i j (e ∷ es) there here fronts valid pos durable points alone =
    let extents = split_durable h e es durable in
    let point = and_parts (has_durable_point h e) (list_all (has_durable_point h) es) points in (
      has_front i j e fronts valid pos (durable_written h j here e.extents extents.0) alone.0 (point_kept h j e here point.0) (point_kept h i e there point.0),
      have_fronts h i j es there here fronts valid pos extents.1 point.1 alone.1,
    )

-- what is left lies between the least of it and what is accepted
pub recovers_between : (j least i : Image) (accepted : ℕ → List ℕ) (es : Table) → AllByRecursion (HasFront j least) es
    → AllZip (FileRecoversTo accepted) (found_tree j es) (tree_of i es) → RecoversTo (found_tree j es) (found_tree least es) accepted
recovers_between j least i accepted [] low high = tt
recovers_between j least i accepted (e ∷ es) low high = (
  record {
    id = refl;
    names = refl;
    hint = refl;
    sparse = refl;
    plain = low.0.plain;
    synced = λ sparse. low.0.first;
    within_accepted = high.0.within_accepted;
  },
  recovers_between j least i accepted es low.1 high.1,
)
