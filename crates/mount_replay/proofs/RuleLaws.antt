-- The rules on where files may lie, by an image and by the written numbers of its zones.
use Rattle.std.proofs.Common.{◌≡◌, ℕ, ◌+◌, ◌*◌, ◌<◌, Bool, true, false, not, cond, ◌&&◌, ◌||◌, List, [], ◌∷◌, length, map, Some, None, nat_lt, nat_le, refl, sym, ◌∙◌, ap, subst, arith}
use Rattle.std.specs.Prelude.{◌==◌}
use Rattle.std.specs.List.{list_all}
use Rattle.std.proofs.lemmas.Bool.Decides.{nat_tests}
use Rattle.std.proofs.lemmas.List.Folds.{list_all-append}
use Rattle.zone_image.specs.declared.Geometry.{Geometry}
use Rattle.zone_image.specs.declared.ZoneInfo.{ZoneInfo}
use Rattle.zone_image.specs.Image.{Image, zone_at, zone_of, offset_of}
use Rattle.zone_image.specs.Infos.{info_at, IsPossible, IsImage}
use Rattle.record_model.specs.declared.types.Extent.{Extent}
use Rattle.log_model.specs.FileTable.{Table}
use Rattle.log_model.specs.Frames.{no_active}
use Rattle.log_model.specs.Mounted.{is_written, overlap, all_extents, recovered_entry, has_valid_recovery_point, broken_rule}
use Rattle.mount_replay.specs.Rules.{is_written_in, has_point_in}
use Rattle.mount_replay.proofs.FrameWalks.{written_is}
use Rattle.mount_replay.proofs.RecoveryLaws.{point_is}

-- two tests that differ in their last part alone, where the second part holds
same_last : (a b d e : Bool) → (b ≡ true → d ≡ e) → ((a && b) && d) ≡ ((a && b) && e)
same_last false b d e h = refl
same_last true false d e h = refl
same_last true true d e h = h refl

below : (m n : ℕ) → nat_lt m n ≡ true → m < n
below m n h = grind (arith, nat_tests)

module _ (g : Geometry) (infos : List ZoneInfo) (i : Image) (possible : IsPossible g infos) (image : IsImage g infos i) where
  -- an extent
  written_test : (x : Extent) → is_written i x ≡ is_written_in g infos x
  written_test x =
      let zone = zone_of g x.start in
      subst (λ (h : Geometry). (nat_le 3 (zone_of h x.start) && nat_lt (zone_of h x.start) h.zones && nat_le (offset_of h x.start + x.len) (length (zone_at i (zone_of h x.start)).blocks * h.block)) ≡ is_written_in g infos x)
      (sym image.shape)
      (same_last (nat_le 3 zone) (nat_lt zone g.zones) (nat_le (offset_of g x.start + x.len) (length (zone_at i zone).blocks * g.block)) (nat_le (offset_of g x.start + x.len) ((info_at infos zone).written * g.block))
      (λ inside. ap (λ (n : ℕ). nat_le (offset_of g x.start + x.len) (n * g.block)) (sym (written_is g infos i zone possible image (below zone g.zones inside)))))

  -- extents
  written_tests : (xs : List Extent) → list_all (is_written i) xs ≡ list_all (is_written_in g infos) xs
  written_tests [] = refl
  written_tests (x ∷ xs) =
      ap (λ b. b && list_all (is_written i) xs) (written_test x) ∙ ap (λ b. is_written_in g infos x && b) (written_tests xs)

  -- file by file
  pub file_tests : (p : Extent → Bool) (es : Table) → list_all (λ e. list_all p e.extents) es ≡ list_all p (all_extents es)
  file_tests p [] = refl
  file_tests p (e ∷ es) = ap (λ b. list_all p e.extents && b) (file_tests p es) ∙ sym (list_all-append p e.extents (all_extents es))

  -- recovery points
  point_tests : (es : Table) → list_all (has_valid_recovery_point i) es ≡ list_all (has_point_in g infos) es
  point_tests [] = refl
  point_tests (e ∷ es) =
      ap (λ b. ((e.active == no_active) || b) && list_all (has_valid_recovery_point i) es) (point_is g infos i e.active possible image)
      ∙ ap (λ b. has_point_in g infos e && b) (point_tests es)

  -- the lowest rule that is broken, by the three tests
  pub broken_by : (es : Table) (a b c : Bool) → a ≡ list_all (λ e. list_all (is_written_in g infos) e.extents) es → b ≡ overlap (all_extents (map (recovered_entry i) es))
      → c ≡ list_all (has_point_in g infos) es → broken_rule i es ≡ cond (not a) (Some 8) (cond b (Some 9) (cond (not c) (Some 10) None))
  broken_by es a b c written shared points =
      ap (λ t. cond (not t) (Some 8) (cond (overlap (all_extents (map (recovered_entry i) es))) (Some 9) (cond (not (list_all (has_valid_recovery_point i) es)) (Some 10) None)))
      (written_tests (all_extents es) ∙ sym (file_tests (is_written_in g infos) es) ∙ sym written)
      ∙ ap (λ t. cond (not a) (Some 8) (cond t (Some 9) (cond (not (list_all (has_valid_recovery_point i) es)) (Some 10) None))) (sym shared)
      ∙ ap (λ t. cond (not a) (Some 8) (cond b (Some 9) (cond (not t) (Some 10) None))) (point_tests es ∙ sym points)
