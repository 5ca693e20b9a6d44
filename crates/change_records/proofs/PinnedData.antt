-- Commits, recovery points and replaced extents leave what is recorded pinned where their own extents are.
use Rattle.std.specs.Prelude.{◌≡◌, Bool, true, false, ◌||◌, List, [], ◌∷◌, map, Some, option_map, ◌==◌, refl}
use Rattle.std.proofs.Common.{◌∙◌, ap, sym, subst}
use Rattle.std.proofs.lemmas.Bool.{and_parts, and_from}
use Rattle.std.proofs.lemmas.List.{append-nil}
use Rattle.std.proofs.lemmas.List.Folds.{list_all-append}
use Rattle.std.specs.List.{AllByRecursion, list_all}
use Rattle.zone_image.specs.Image.{Image, zone_at}
use Rattle.zone_image.specs.Infos.{IsValidImage}
use Rattle.record_model.specs.declared.types.Extent.{Extent}
use Rattle.record_model.specs.declared.types.FileEntry.{FileEntry}
use Rattle.log_model.specs.FileTable.{Table}
use Rattle.log_model.specs.Frames.{no_active, is_recovery_point}
use Rattle.log_model.specs.Mounted.{is_written, all_extents, recovered_entry, has_valid_recovery_point, overlap}
use Rattle.log_model.specs.MountLaws.{SparseAlone}
use Rattle.log_model.proofs.ReplayLaws.{file_has, all_from}
use Rattle.fs_model.specs.FsState.{TableRow, row_of, on_row}
use Rattle.fs_model.specs.FileSteps.{committed, with_recovery_point, moved}
use Rattle.crash_cover.specs.Pinned.{is_durable, is_durable_point, has_durable_point, IsPinned, KeepsDurable}
use Rattle.crash_cover.proofs.PinnedTables.{kept_written, kept_point}
use Rattle.crash_cover.proofs.RestLaws.{kept_within}
use Rattle.fs_model.proofs.TreeLaws.{all_map}
use Rattle.change_records.specs.Recorded.{entries, AreValid}
use Rattle.change_records.specs.PinnedData.{ShareNoByte, CommitStaysPinned, RecoveryPointStaysPinned, ReplacementStaysPinned}
use Rattle.change_records.proofs.EntryLaws.{set_each, row_entry, only_row}
use Rattle.change_records.proofs.PinnedRows.{all_passed}

-- an image keeps its own durable blocks
keeps_itself : (i : Image) → IsValidImage i → KeepsDurable i i
keeps_itself i valid = record {
  fronts = record { geometry = refl; fronts = λ n. ([], append-nil (zone_at i n).blocks) };
  enough = λ n. kept_within i n valid;
}

-- an entry whose extents and whose recovery point are durable; only a sparse one has one
record IsDurableEntry (i : Image) (e : FileEntry) : Type 0 where
  pub extents : list_all (is_durable i) e.extents ≡ true
  pub point : has_durable_point i e ≡ true
  pub sparse : SparseAlone e

-- the entries of a table that is pinned
all_durable : (i : Image) (es : Table) → list_all (is_durable i) (all_extents es) ≡ true → list_all (has_durable_point i) es ≡ true → AllByRecursion SparseAlone es
    → AllByRecursion (IsDurableEntry i) es
all_durable i [] extents points sparse = tt
all_durable i (e ∷ es) extents points sparse =
    let parts = and_parts (list_all (is_durable i) e.extents) (list_all (is_durable i) (all_extents es)) (sym (list_all-append (is_durable i) e.extents (all_extents es)) ∙ extents) in
    let point = and_parts (has_durable_point i e) (list_all (has_durable_point i) es) points in
    (record { extents = parts.0; point = point.0; sparse = sparse.0 }, all_durable i es parts.1 point.1 sparse.1)

-- a test of each extent follows from one of each entry's
extents_pass : (p : Extent → Bool) (es : Table) → AllByRecursion (λ e. list_all p e.extents ≡ true) es → list_all p (all_extents es) ≡ true
extents_pass p [] h = refl
extents_pass p (e ∷ es) h =
    list_all-append p e.extents (all_extents es) ∙ and_from (list_all p e.extents) (list_all p (all_extents es)) h.0 (extents_pass p es h.1)

-- a test of each entry
entries_pass : (t : FileEntry → Bool) (es : Table) → AllByRecursion (λ e. t e ≡ true) es → list_all t es ≡ true
entries_pass t [] h = refl
entries_pass t (e ∷ es) h = and_from (t e) (list_all t es) h.0 (entries_pass t es h.1)

-- durable extents are written
written_too : (i : Image) (xs : List Extent) → IsValidImage i → list_all (is_durable i) xs ≡ true → list_all (is_written i) xs ≡ true
written_too i [] valid h = refl
written_too i (x ∷ xs) valid h =
    let parts = and_parts (is_durable i x) (list_all (is_durable i) xs) h in
    and_from (is_written i x) (list_all (is_written i) xs) (kept_written i i x (keeps_itself i valid) parts.0) (written_too i xs valid parts.1)

-- no recovery point, or one that is durable and so is one
either_point : (unset p q : Bool) → (p ≡ true → q ≡ true) → unset || p ≡ true → unset || q ≡ true
either_point true p q h g = refl
either_point false p q h g = h g

-- a durable recovery point is one
point_too : (i : Image) (e : FileEntry) → IsValidImage i → has_durable_point i e ≡ true → has_valid_recovery_point i e ≡ true
point_too i e valid h =
    either_point (e.active == no_active) (is_durable_point i e.active) (is_recovery_point i e.active) (kept_point i i e.active (keeps_itself i valid)) h

-- entries that are durable and share no byte are pinned
pinned_by : (i : Image) (es : Table) → IsValidImage i → AllByRecursion (IsDurableEntry i) es → overlap (all_extents (map (recovered_entry i) es)) ≡ false → IsPinned i es
pinned_by i es valid each apart =
    let extents : list_all (is_durable i) (all_extents es) ≡ true =
    extents_pass (is_durable i) es (all_from (IsDurableEntry i) (λ e. list_all (is_durable i) e.extents ≡ true) es (λ e d. d.extents) each) in record {
      extents = extents;
      points = entries_pass (has_durable_point i) es (all_from (IsDurableEntry i) (λ e. has_durable_point i e ≡ true) es (λ e d. d.point) each);
      sparse = all_from (IsDurableEntry i) SparseAlone es (λ e d. d.sparse) each;
      unbroken =
          all_passed (list_all (is_written i) (all_extents es)) (overlap (all_extents (map (recovered_entry i) es))) (list_all (has_valid_recovery_point i) es)
          (written_too i (all_extents es) valid extents) apart
          (entries_pass (has_valid_recovery_point i) es (all_from (IsDurableEntry i) (λ e. has_valid_recovery_point i e ≡ true) es (λ e d. point_too i e valid d.point) each));
    }

-- the entry of a row whose table is pinned
durable_row : (i : Image) (rows : List TableRow) (r : TableRow) → row_of r.entry.id rows ≡ Some r → IsPinned i (entries rows) → IsDurableEntry i r.entry
durable_row i rows r is pinned =
    file_has (IsDurableEntry i) r.entry.id (entries rows) r.entry (all_durable i (entries rows) pinned.extents pinned.points pinned.sparse)
    (sym (row_entry r.entry.id rows) ∙ ap (λ o. option_map (λ q. q.entry) o) is)

-- rows of which one is changed to what is durable
changed_pinned : (i : Image) (rows : List TableRow) (r : TableRow) (change : TableRow → TableRow) → IsValidImage i → AreValid rows → row_of r.entry.id rows ≡ Some r
    → IsPinned i (entries rows) → IsDurableEntry i (change r).entry → ShareNoByte i (on_row r.entry.id change rows) → IsPinned i (entries (on_row r.entry.id change rows))
changed_pinned i rows r change image valid is pinned durable apart =
    pinned_by i (entries (on_row r.entry.id change rows)) image
    (set_each (IsDurableEntry i) r.entry.id change rows
    (all_map (λ q. q.entry.id ≡ r.entry.id → q ≡ r) (λ q. q.entry.id ≡ r.entry.id → IsDurableEntry i (change q).entry) rows
    (λ q only at. subst (λ p. IsDurableEntry i (change p).entry) (sym (only at)) durable) (only_row 0 r.entry.id rows r valid.table.ids is))
    (all_durable i (entries rows) pinned.extents pinned.points pinned.sparse)) apart

pub commit_stays_pinned : CommitStaysPinned
commit_stays_pinned i rows r now image valid is pinned durable apart =
    let d = durable_row i rows r is pinned in
    changed_pinned i rows r (committed now) image valid is pinned
    (record {
      extents =
          list_all-append (is_durable i) r.entry.extents r.unrecorded
          ∙ and_from (list_all (is_durable i) r.entry.extents) (list_all (is_durable i) r.unrecorded) d.extents durable;
      point = refl;
      sparse = λ h. absurd cc;
    })
    apart

pub recovery_point_stays_pinned : RecoveryPointStaysPinned
recovery_point_stays_pinned i rows r start image valid is pinned durable sparse apart =
    let d = durable_row i rows r is pinned in
    changed_pinned i rows r (with_recovery_point start) image valid is pinned
    (record {
      extents = d.extents;
      point = either_second (start == no_active) (is_durable_point i start) durable;
      sparse = λ h. sparse;
    })
    apart
  where
    either_second : (a b : Bool) → b ≡ true → a || b ≡ true
    either_second true b h = refl
    either_second false b h = h

pub replacement_stays_pinned : ReplacementStaysPinned
replacement_stays_pinned i rows r moves image valid is pinned durable apart =
    let d = durable_row i rows r is pinned in
    changed_pinned i rows r (moved moves) image valid is pinned (record { extents = durable; point = d.point; sparse = d.sparse }) apart
