-- A data zone without recovery points grows.
use Rattle.std.specs.Prelude.{◌≡◌, ℕ, ◌+◌, ◌*◌, ◌%◌, ◌<◌, ◌≤◌, Bool, true, false, ◌&&◌, ◌||◌, not, List, [], ◌∷◌, length, map, Option, Some, None, nat_le, nat_lt, ◌==◌, if◌then◌else◌, refl}
use Rattle.std.proofs.Common.{◌∙◌, ap, sym, subst, arith}
use Rattle.std.proofs.lemmas.Bool.{and_parts, and_from}
use Rattle.std.specs.List.{list_all}
use Rattle.zone_image.specs.Image.{Image, zone_at, zone_of, offset_of}
use Rattle.zone_image.specs.Changes.{zone_appended, appended}
use Rattle.zone_image.specs.Infos.{IsValidImage}
use Rattle.zone_image.proofs.AppendLaws.{WithinAppend, crash-part}
use Rattle.record_model.specs.declared.types.Extent.{Extent}
use Rattle.record_model.specs.declared.types.FileEntry.{FileEntry}
use Rattle.log_model.specs.LogSelection.{LogAt}
use Rattle.log_model.specs.FileTable.{Table}
use Rattle.log_model.specs.FileTree.{RecoversTo, bytes_in}
use Rattle.log_model.specs.Frames.{no_active}
use Rattle.log_model.specs.Mounted.{is_written, all_extents, entry_with, recovered_entry, has_valid_recovery_point, overlap, broken_rule}
use Rattle.log_model.proofs.CrashLaws.{changed_elsewhere}
use Rattle.crash_cover.specs.Pinned.{is_durable, has_durable_point, IsPinned, KeepsDurable}
use Rattle.crash_cover.specs.AtRest.{IsAtRest}
use Rattle.crash_cover.specs.Recovery.{standing_bytes}
use Rattle.crash_cover.proofs.PinnedTables.{kept_written}
use Rattle.crash_cover.proofs.RestLaws.{same_selected}
use Rattle.least_crash.specs.Recovery.{least_tree, RecoversTable}
use Rattle.least_crash.specs.DataSteps.{HasNoPoint, GrowsUnseen, AppendKeepsRest, AppendMomentRecovers}
use Rattle.least_crash.proofs.Fronts.{point_kept}
use Rattle.least_crash.proofs.Appending.{keeps_itself, append_kept, append_elsewhere, found_same, append_standing, append_least}
use Rattle.least_crash.proofs.RecoveryLaws.{crash_recovers, mounts_alike}

-- the first of three rules that is broken
first_broken : Bool → Bool → Bool → Option ℕ
first_broken written shared valid = if not written then Some 8 else if shared then Some 9 else if not valid then Some 10 else None

-- where none is, nothing is shared
not_shared : (written shared valid : Bool) → first_broken written shared valid ≡ None → shared ≡ false
unfolding first_broken
not_shared false shared valid h = cc
not_shared true true valid h = cc
not_shared true false valid h = refl

-- what passes one test passes another
all_pass : {A : Type 0} (p q : A → Bool) (xs : List A) → ((x : A) → p x ≡ true → q x ≡ true) → list_all p xs ≡ true → list_all q xs ≡ true
all_pass p q [] h g = refl
all_pass p q (x ∷ xs) h g =
    let parts = and_parts (p x) (list_all p xs) g in
    and_from (q x) (list_all q xs) (h x parts.0) (all_pass p q xs h parts.1)

-- what is durable is so after an append
extent_durable : (i : Image) (zone : ℕ) (added : List (List ℕ)) (x : Extent) → is_durable i x ≡ true → is_durable (appended i zone added) x ≡ true
extent_durable i zone added x h =
    let g = i.geometry in
    ap (λ n. nat_le 3 (zone_of g x.start) && nat_lt (zone_of g x.start) g.zones && nat_le (offset_of g x.start + x.len) (n * g.block)) (append_kept i zone (zone_of g x.start) added) ∙ h

point_durable : (i : Image) (zone : ℕ) (added : List (List ℕ)) (e : FileEntry) → has_durable_point i e ≡ true → has_durable_point (appended i zone added) e ≡ true
point_durable i zone added e h =
    let g = i.geometry in
    ap (λ n. (e.active == no_active) || (nat_le 3 (zone_of g e.active) && nat_lt (zone_of g e.active) g.zones && (offset_of g e.active % g.block == 0)
    && nat_le (offset_of g e.active) (n * g.block))) (append_kept i zone (zone_of g e.active) added) ∙ h

-- a pinned table is pinned after an append where its extents share no byte then
pub append_pinned : (i : Image) (zone : ℕ) (added : List (List ℕ)) (es : Table) → IsValidImage (appended i zone added) → IsPinned i es
    → overlap (all_extents (map (recovered_entry (appended i zone added)) es)) ≡ false → IsPinned (appended i zone added) es
unfolding first_broken
append_pinned i zone added es valid pinned apart =
    let k = appended i zone added in
    let keeps : KeepsDurable k k = keeps_itself k valid in
    let extents : list_all (is_durable k) (all_extents es) ≡ true = all_pass (is_durable i) (is_durable k) (all_extents es) (extent_durable i zone added) pinned.extents in
    let points : list_all (has_durable_point k) es ≡ true = all_pass (has_durable_point i) (has_durable_point k) es (point_durable i zone added) pinned.points in
    let written : list_all (is_written k) (all_extents es) ≡ true = all_pass (is_durable k) (is_written k) (all_extents es) (λ x. kept_written k k x keeps) extents in
    let there : list_all (has_valid_recovery_point k) es ≡ true = all_pass (has_durable_point k) (has_valid_recovery_point k) es (λ e. point_kept k k e keeps) points in
    record {
      extents = extents;
      points = points;
      sparse = pinned.sparse;
      unbroken =
          ap (λ b. first_broken b (overlap (all_extents (map (recovered_entry k) es))) (list_all (has_valid_recovery_point k) es)) written
          ∙ (ap (λ b. first_broken true b (list_all (has_valid_recovery_point k) es)) apart ∙ ap (first_broken true false) there);
    }

-- extents that share no byte, of a table that breaks no rule
pub share_nothing : (i : Image) (es : Table) → broken_rule i es ≡ None → overlap (all_extents (map (recovered_entry i) es)) ≡ false
unfolding first_broken
share_nothing i es h =
    not_shared (list_all (is_written i) (all_extents es)) (overlap (all_extents (map (recovered_entry i) es))) (list_all (has_valid_recovery_point i) es) h

-- an append to a data zone leaves an image at rest where the table is pinned still
pub append_rest : (i : Image) (zone : ℕ) (added : List (List ℕ)) (log : LogAt) (greatest : ℕ) (es : Table) → IsAtRest i log greatest es
    → IsValidImage (appended i zone added) → 3 ≤ zone → IsPinned (appended i zone added) es → IsAtRest (appended i zone added) log greatest es
append_rest i zone added log greatest es rest valid data_zone pinned =
    let k = appended i zone added in
    let metadata : (m : ℕ) → m < 3 → zone_at k m ≡ zone_at i m = λ m less. changed_elsewhere zone m (zone_appended i.geometry.capacity added) i.zones (λ is. omega (arith, is)) in
    record {
      valid = valid;
      table = record {
        selected = same_selected i k log greatest refl (λ m less. ap (λ z. z.blocks) (metadata m less)) rest.table.selected;
        table = rest.table.table;
      };
      metadata = λ m less. subst (λ z. length z.blocks ≤ z.kept) (sym (metadata m less)) (rest.metadata m less);
      pinned = pinned;
    }

-- the same is found of all files
pub found_alike : (i : Image) (zone : ℕ) (added : List (List ℕ)) (es : Table) → HasNoPoint i zone es → map (recovered_entry (appended i zone added)) es ≡ map (recovered_entry i) es
found_alike i zone added [] away = refl
found_alike i zone added (e ∷ es) away =
    let k = appended i zone added in
    ap (λ found. entry_with e found ∷ map (recovered_entry k) es) (found_same (λ n. n == zone) i k e (append_elsewhere i zone added) away.0)
    ∙ ap (λ rest. recovered_entry i e ∷ rest) (found_alike i zone added es away.1)

pub append_keeps_rest : AppendKeepsRest
append_keeps_rest i zone added log greatest es rest valid data_zone away = record {
  rest =
      append_rest i zone added log greatest es rest valid data_zone
      (append_pinned i zone added es valid rest.pinned (ap (λ fs. overlap (all_extents fs)) (found_alike i zone added es away) ∙ share_nothing i es rest.pinned.unbroken));
  standing = append_standing i zone added es rest.valid rest.pinned away;
  least = append_least i zone added es rest.valid rest.pinned;
}

pub append_moment_recovers : AppendMomentRecovers
append_moment_recovers i j zone added log greatest es rest valid data_zone away passed =
    let k = appended i zone added in
    let grows : GrowsUnseen i k log greatest es = append_keeps_rest i zone added log greatest es rest valid data_zone away in
    let part : WithinAppend i zone added j = crash-part i j zone passed.count added passed.crash in
    let left : RecoversTable k es part.whole = crash_recovers k part.whole log greatest es grows.rest part.crash in
    record {
      tree = left.tree;
      mounts = mounts_alike part.whole j part.same ∙ left.mounts;
      recovers =
          subst (λ tree. RecoversTo left.tree (least_tree i es) (λ id. bytes_in id tree)) grows.standing
          (subst (λ tree. RecoversTo left.tree tree (standing_bytes k es)) grows.least left.recovers);
    }
