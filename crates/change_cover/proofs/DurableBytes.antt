-- Durable extents have the same bytes after a crash.
use Rattle.std.specs.Prelude.{◌≡◌, ℕ, zero, suc, true, List, [], ◌∷◌, ◌++◌, length, refl}
use Rattle.std.proofs.Common.{◌∙◌, ap, subst}
use Rattle.std.proofs.lemmas.Bool.{and_parts}
use Rattle.std.proofs.lemmas.List.Elements.{All-head, All-tail}
use Rattle.std.specs.List.{All, AllByRecursion, list_all}
use Rattle.zone_image.specs.Image.{Zone, Image, IsCrash, zone_at, zone_in, zone_of}
use Rattle.zone_image.specs.Infos.{IsZone, IsValidImage}
use Rattle.zone_image.proofs.CrashLaws.{valid_crash}
use Rattle.record_model.specs.declared.types.Extent.{Extent}
use Rattle.log_model.specs.FileTable.{Table}
use Rattle.log_model.specs.Frames.{bytes_of, extent_bytes}
use Rattle.log_model.specs.Mounted.{all_extents, file_in, tree_of}
use Rattle.log_model.proofs.KeptLaws.{kept_extent_stays}
use Rattle.crash_cover.specs.Pinned.{KeepsDurable, is_durable}
use Rattle.crash_cover.proofs.PinnedTables.{crash_keeps_durable, kept_written, split_durable}

-- what holds of each block of a list
blocks_each : (P : List ℕ → Type 0) (bs : List (List ℕ)) → All P bs → AllByRecursion P bs
blocks_each P [] all = tt
blocks_each P (b ∷ bs) all = (All-head P b bs all, blocks_each P bs (All-tail P b bs all))

-- the blocks of a zone have the size of a block
sized : (block : ℕ) (whole : Zone → Type 0) (zs : List Zone) (n : ℕ) → ((z : Zone) → whole z → All (λ b. length b ≡ block) z.blocks) → All whole zs
    → AllByRecursion (λ b. length b ≡ block) (zone_in zs n).blocks
sized block whole [] n each all = tt
sized block whole (z ∷ zs) zero each all = blocks_each (λ b. length b ≡ block) z.blocks (each z (All-head whole z zs all))
sized block whole (z ∷ zs) (suc n) each all = sized block whole zs n each (All-tail whole z zs all)

module _ (i j : Image) (keeps : KeepsDurable i j) (valid : IsValidImage j) where
  -- a durable extent
  durable_bytes : (x : Extent) → is_durable i x ≡ true → extent_bytes j x ≡ extent_bytes i x
  durable_bytes x durable =
      let n : ℕ = zone_of i.geometry x.start in
      let blocks = sized j.geometry.block (IsZone j.geometry) j.zones n (λ z is. is.blocks) valid.zones in
      (kept_extent_stays i j x keeps.fronts (subst (λ g. AllByRecursion (λ b. length b ≡ g.block) (zone_at j n).blocks) keeps.fronts.geometry blocks) (kept_written i j x keeps durable)).1

  -- durable extents
  all_bytes : (xs : List Extent) → list_all (is_durable i) xs ≡ true → bytes_of j xs ≡ bytes_of i xs
  all_bytes [] durable = refl
  all_bytes (x ∷ xs) durable =
      let parts = and_parts (is_durable i x) (list_all (is_durable i) xs) durable in
      ap (λ bs. bs ++ bytes_of j xs) (durable_bytes x parts.0) ∙ ap (λ bs. extent_bytes i x ++ bs) (all_bytes xs parts.1)

  -- a table of durable extents is the same tree
  pub durable_tree : (es : Table) → list_all (is_durable i) (all_extents es) ≡ true → tree_of j es ≡ tree_of i es
  durable_tree [] durable = refl
  durable_tree (e ∷ es) durable =
      let parts = split_durable i e es durable in
      ap (λ bs. record { id = e.id; names = e.names; bytes = bs; hint = e.hint; time = e.time; sparse = e.sparse } ∷ tree_of j es) (all_bytes e.extents parts.0)
      ∙ ap (λ files. file_in i e ∷ files) (durable_tree es parts.1)

-- after a crash
pub crash_tree : (i j : Image) (es : Table) → IsValidImage i → IsCrash i j → list_all (is_durable i) (all_extents es) ≡ true → tree_of j es ≡ tree_of i es
crash_tree i j es valid crash durable = durable_tree i j (crash_keeps_durable i j crash) (valid_crash i j valid crash) es durable
