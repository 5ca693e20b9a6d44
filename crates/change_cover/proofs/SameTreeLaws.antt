-- Images that mount to the same tree.
use Rattle.std.specs.Prelude.{◌≡◌, ℕ, Bool, true, false, List, [], ◌∷◌, ◌++◌, take, drop, refl}
use Rattle.std.proofs.Common.{◌∙◌, ap, sym, subst}
use Rattle.std.proofs.lemmas.Bool.{and_parts, leb-true}
use Rattle.std.specs.Prelude.{◌≤◌, ◌&&◌, nat_le, nat_lt}
use Rattle.std.specs.List.{AllByRecursion, concat, list_all}
use Rattle.zone_image.specs.Image.{Image, zone_at, zone_of, offset_of}
use Rattle.record_model.specs.declared.types.Extent.{Extent}
use Rattle.log_model.specs.FileTable.{Table}
use Rattle.log_model.specs.Frames.{bytes_of, extent_bytes}
use Rattle.log_model.specs.Mounted.{MountsTo, all_extents, file_in, is_written, tree_of}
use Rattle.fs_model.specs.FsState.{recorded}
use Rattle.fs_model.specs.CrashClauses.{shown_tree}
use Rattle.change_records.specs.Recorded.{entries}
use Rattle.change_cover.specs.SameTrees.{KeepsBlocks, CrashMountsTheSame, KeptBlocksShowTheSame, KeptBlocksMountTheSame}
use Rattle.change_cover.proofs.ByteCounts.{split_written, unbroken_written}
use Rattle.change_cover.proofs.LeftTrees.{one_tree}
use Rattle.change_cover.proofs.ShownTrees.{rest_shows_recorded, rest_mounts_shown, crash_mounts_shown}

-- a written extent lies in a data zone
in_data_zone : (i : Image) (x : Extent) → is_written i x ≡ true → 3 ≤ zone_of i.geometry x.start
in_data_zone i x written =
    let n = zone_of i.geometry x.start in
    leb-true 3 n (and_parts (nat_le 3 n) (nat_lt n i.geometry.zones) (and_parts (nat_le 3 n && nat_lt n i.geometry.zones) _ written).0).0

-- what holds of all of two lists holds of all of each
both_parts : (P : Extent → Type 0) (xs ys : List Extent) → AllByRecursion P (xs ++ ys) → AllByRecursion P xs × AllByRecursion P ys
both_parts P [] ys h = (tt, h)
both_parts P (x ∷ xs) ys h = let rest = both_parts P xs ys h.1 in ((h.0, rest.0), rest.1)

module _ (changed : ℕ → Bool) (i j : Image) (keeps : KeepsBlocks changed i j) where
  -- an extent away from what changed has the same bytes
  extent_kept : (x : Extent) → is_written i x ≡ true → changed (zone_of i.geometry x.start) ≡ false → extent_bytes j x ≡ extent_bytes i x
  extent_kept x written away =
      ap (λ g. take x.len (drop (offset_of g x.start) (concat (zone_at j (zone_of g x.start)).blocks))) keeps.geometry
      ∙ ap (λ bs. take x.len (drop (offset_of i.geometry x.start) (concat bs))) (keeps.blocks (zone_of i.geometry x.start) (in_data_zone i x written) away)

  -- so have extents together
  all_kept : (xs : List Extent) → list_all (is_written i) xs ≡ true → AllByRecursion (λ x. changed (zone_of i.geometry x.start) ≡ false) xs → bytes_of j xs ≡ bytes_of i xs
  all_kept [] written away = refl
  all_kept (x ∷ xs) written away =
      let parts = and_parts (is_written i x) (list_all (is_written i) xs) written in
      ap (λ bs. bs ++ bytes_of j xs) (extent_kept x parts.0 away.0) ∙ ap (λ bs. extent_bytes i x ++ bs) (all_kept xs parts.1 away.1)

  -- so a table has the same tree
  pub tree_kept : (es : Table) → list_all (is_written i) (all_extents es) ≡ true → AllByRecursion (λ x. changed (zone_of i.geometry x.start) ≡ false) (all_extents es)
      → tree_of j es ≡ tree_of i es
  tree_kept [] written away = refl
  tree_kept (e ∷ es) written away =
      let parts = split_written i e es written in
      let aways = both_parts (λ x. changed (zone_of i.geometry x.start) ≡ false) e.extents (all_extents es) away in
      ap (λ bs. record { id = e.id; names = e.names; bytes = bs; hint = e.hint; time = e.time; sparse = e.sparse } ∷ tree_of j es) (all_kept e.extents parts.0 aways.0)
      ∙ ap (λ files. file_in i e ∷ files) (tree_kept es parts.1 aways.1)

pub crash_mounts_the_same : CrashMountsTheSame
crash_mounts_the_same i j s stands crash t mounts =
    subst (MountsTo j) (one_tree i (shown_tree i s) t (rest_mounts_shown i s stands) mounts) (crash_mounts_shown i j s stands crash)

pub kept_blocks_show_the_same : KeptBlocksShowTheSame
kept_blocks_show_the_same changed i j s next here there rows keeps away =
    rest_shows_recorded j next there.rests there.shown
    ∙ (ap (λ rs. tree_of j (entries rs)) rows
    ∙ (tree_kept changed i j keeps (recorded s) (unbroken_written i (recorded s) here.rests.rest.pinned.unbroken) away.extents
    ∙ sym (rest_shows_recorded i s here.rests here.shown)))

pub kept_blocks_mount_the_same : KeptBlocksMountTheSame
kept_blocks_mount_the_same changed i j s next here there rows keeps away t mounts =
    subst (MountsTo j)
    (kept_blocks_show_the_same changed i j s next here there rows keeps away ∙ one_tree i (shown_tree i s) t (rest_mounts_shown i s here) mounts)
    (rest_mounts_shown j next there)
