-- Tables without recovery points.
use Rattle.std.specs.Prelude.{◌≡◌, ◌+◌, ◌||◌, not, cond, [], ◌∷◌, map, refl}
use Rattle.std.proofs.Common.{◌∙◌, ap, append-nil, add-zero}
use Rattle.std.proofs.lemmas.Bool.{eq-eqb}
use Rattle.zone_image.specs.Image.{Image}
use Rattle.record_model.specs.declared.types.FileEntry.{FileEntry}
use Rattle.log_model.specs.FileTable.{Table, size_of}
use Rattle.log_model.specs.Frames.{no_active, frames_at, rest_at, is_recovery_point, recovered_extents}
use Rattle.log_model.specs.Mounted.{entry_with, recovered_entry}
use Rattle.change_cover.specs.Rests.{HaveNoPoints}

-- nothing is found again of a file without a recovery point
none_found : (i : Image) (e : FileEntry) → e.active ≡ no_active → recovered_extents i e ≡ []
none_found i e unset =
    ap (λ b. cond (b || not (is_recovery_point i e.active)) [] (cond e.sparse (frames_at i e.active) (rest_at i e.active))) (eq-eqb e.active no_active unset)

-- so its entry stays as it is
entry_itself : (i : Image) (e : FileEntry) → e.active ≡ no_active → recovered_entry i e ≡ e
entry_itself i e unset =
    ap (entry_with e) (none_found i e unset)
    ∙ (ap (λ xs. record e { extents = xs; size = e.size + size_of [] }) (append-nil e.extents) ∙ ap (λ n. record e { size = n }) (add-zero e.size))

-- and so does a table
pub table_itself : (i : Image) (es : Table) → HaveNoPoints es → map (recovered_entry i) es ≡ es
table_itself i [] h = refl
table_itself i (e ∷ es) h = ap (λ f. f ∷ map (recovered_entry i) es) (entry_itself i e h.0) ∙ ap (λ fs. e ∷ fs) (table_itself i es h.1)
