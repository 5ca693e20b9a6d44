-- A mount reads the geometry and the blocks of zones, and nothing else.
use Rattle.std.specs.Prelude.{◌≡◌, ℕ, List, drop, Option, Some, None, Ok, map, refl}
use Rattle.std.proofs.Common.{◌∙◌, ap}
use mathlib.Core.Path.{fun_ext}
use Rattle.zone_image.specs.declared.Geometry.{Geometry}
use Rattle.zone_image.specs.Image.{Image, Zone, zone_in}
use Rattle.record_model.specs.declared.types.FileEntry.{FileEntry}
use Rattle.record_model.specs.FieldDecoding.{◌>>=◌}
use Rattle.log_model.specs.MountLaws.{MountReadsBlocks}
use Rattle.log_model.specs.LogSelection.{LogAt, select_log, selected_log, scans_of, chosen_of}
use Rattle.log_model.specs.FileTable.{Table, replay_log}
use Rattle.log_model.specs.Frames.{frames_at, recovered_extents, bytes_of, extent_bytes, blocks_from, rest_at, is_recovery_point}
use Rattle.log_model.specs.Mounted.{in_zone, table_of, table_in, mounted_in, tree_of, file_in, checked_table, broken_rule, recovered_entry, has_valid_recovery_point, is_written}

-- two lists of zones with the same blocks, on a device of this geometry
module _ (g : Geometry) (zs ys : List Zone) (same : (n : ℕ) → (zone_in zs n).blocks ≡ (zone_in ys n).blocks) where
  one : Image
  one = record { geometry = g; zones = zs }

  other : Image
  other = record { geometry = g; zones = ys }

  -- the same extents are found again
  entry_same : (e : FileEntry) → recovered_entry one e ≡ recovered_entry other e
  unfolding one other frames_at
  entry_same e = simp (same, recovered_entry, recovered_extents, is_recovery_point, frames_at, rest_at, blocks_from)

  -- the same rule is broken
  rule_same : (es : Table) → broken_rule one es ≡ broken_rule other es
  unfolding one other frames_at
  rule_same es = simp (same, broken_rule, is_written, recovered_entry, recovered_extents, has_valid_recovery_point, is_recovery_point, frames_at, rest_at, blocks_from)

  -- the same table is checked
  checked_same : (log : LogAt) (es : Table) (broken : Option ℕ) → checked_table one log es broken ≡ checked_table other log es broken
  checked_same log es None = ap (λ f. Ok (map f es)) (fun_ext entry_same)
  checked_same log es (Some rule) = refl

  -- a log has the same table
  table_same : (log : LogAt) → table_of one log ≡ table_of other log
  unfolding table_of
  table_same log =
      ap (λ next. in_zone log.zone (replay_log (drop 1 log.scan.payloads)) >>= next)
      (fun_ext (λ es. ap (checked_table one log es) (rule_same es) ∙ checked_same log es (broken_rule other es)))

  -- the zones have the same scans
  scans_same : scans_of one ≡ scans_of other
  unfolding one other
  scans_same = simp (same, scans_of)

  -- the same log is selected
  selected_same : selected_log one ≡ selected_log other
  unfolding one other
  selected_same = ap (λ scans. select_log g scans >>= (λ l. Ok (chosen_of l))) scans_same

  -- the image has the same table
  image_same : table_in one ≡ table_in other
  unfolding one other table_in
  image_same =
      ap (λ scans. select_log g scans >>= (λ log. table_of one log.0)) scans_same
      ∙ ap (λ next. select_log g (scans_of other) >>= next) (fun_ext (λ log. table_same log.0))

  -- a file has the same bytes
  file_same : (e : FileEntry) → file_in one e ≡ file_in other e
  unfolding one other
  file_same e = simp (same, file_in, bytes_of, extent_bytes)

  -- the image mounts to the same tree
  tree_same : mounted_in one ≡ mounted_in other
  unfolding mounted_in
  tree_same =
      ap (λ table. table >>= (λ es. Ok (tree_of one es))) image_same
      ∙ ap (λ f. table_in other >>= (λ es. Ok (map f es))) (fun_ext file_same)

-- the same of two images
pub mount_reads_blocks : MountReadsBlocks
unfolding one other
mount_reads_blocks i j h = record {
  log = selected_same i.geometry i.zones j.zones h.blocks ∙ ap (λ g. selected_log (record { geometry = g; zones = j.zones })) h.geometry;
  table = image_same i.geometry i.zones j.zones h.blocks ∙ ap (λ g. table_in (record { geometry = g; zones = j.zones })) h.geometry;
  tree = tree_same i.geometry i.zones j.zones h.blocks ∙ ap (λ g. mounted_in (record { geometry = g; zones = j.zones })) h.geometry;
}
