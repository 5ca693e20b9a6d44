-- Written extents have as many bytes as they state.
use Rattle.std.specs.Prelude.{◌≡◌, ℕ, zero, suc, ◌+◌, ◌*◌, ◌≤◌, Bool, true, false, not, ◌&&◌, List, [], ◌∷◌, length, take, drop, map, Option, Some, None, nat_lt, nat_le, if◌then◌else◌, refl}
use Rattle.std.proofs.Common.{◌∙◌, ap, sym, append-nil, arith}
use Rattle.std.proofs.lemmas.Bool.{leb-true, eqb-true, and_parts}
use Rattle.std.proofs.lemmas.List.{length-append, length-drop, length-take-le, take_all}
use Rattle.std.proofs.lemmas.List.Elements.{All-head, All-tail}
use Rattle.std.proofs.lemmas.List.Folds.{list_all-append}
use Rattle.std.proofs.lemmas.List.Sums.{sum_by-cons}
use Rattle.std.specs.List.{All, concat, list_all}
use Rattle.zone_image.specs.Image.{Zone, Image, zone_at, zone_in, zone_of, offset_of}
use Rattle.zone_image.specs.Infos.{IsZone, IsValidImage}
use Rattle.record_model.specs.declared.types.Extent.{Extent}
use Rattle.record_model.specs.declared.types.FileEntry.{FileEntry}
use Rattle.log_model.specs.FileTable.{Table, size_of}
use Rattle.log_model.specs.Frames.{bytes_of, extent_bytes}
use Rattle.log_model.specs.Mounted.{all_extents, broken_rule, file_in, has_valid_recovery_point, is_written, overlap, recovered_entry, tree_of}
use Rattle.log_model.specs.TableLaws.{AreSized}
use Rattle.fs_model.specs.FsState.{mounted_row}
use Rattle.fs_model.specs.CrashClauses.{shown_file}

-- joined blocks of one size
concat_length : (block : ℕ) (bs : List (List ℕ)) → All (λ b. length b ≡ block) bs → length (concat bs) ≡ length bs * block
concat_length block [] all = omega arith
concat_length block (b ∷ bs) all =
    omega (arith, length-append b (concat bs), concat_length block bs (All-tail (λ c. length c ≡ block) b bs all), All-head (λ c. length c ≡ block) b bs all)

-- the blocks of a zone of a device's image
zone_length : (block : ℕ) (sized : Zone → Type 0) (zs : List Zone) (n : ℕ) → ((z : Zone) → sized z → All (λ b. length b ≡ block) z.blocks) → All sized zs
    → length (concat (zone_in zs n).blocks) ≡ length (zone_in zs n).blocks * block
zone_length block sized [] n each all = omega arith
zone_length block sized (z ∷ zs) zero each all = concat_length block z.blocks (each z (All-head sized z zs all))
zone_length block sized (z ∷ zs) (suc n) each all = zone_length block sized zs n each (All-tail sized z zs all)

-- a written extent has as many bytes as it states
extent_length : (i : Image) (x : Extent) → IsValidImage i → is_written i x ≡ true → length (extent_bytes i x) ≡ x.len
extent_length i x valid written =
    let n : ℕ = zone_of i.geometry x.start in
    let all : List ℕ = concat (zone_at i n).blocks in
    let count : length all ≡ length (zone_at i n).blocks * i.geometry.block = zone_length i.geometry.block (IsZone i.geometry) i.zones n (λ z is. is.blocks) valid.zones in
    let end : offset_of i.geometry x.start + x.len ≤ length (zone_at i n).blocks * i.geometry.block =
    leb-true _ _ (and_parts (nat_le 3 n && nat_lt n i.geometry.zones) _ written).1 in
    length-take-le x.len (drop (offset_of i.geometry x.start) all) (omega (arith, length-drop (offset_of i.geometry x.start) all))

-- so have extents together
bytes_length : (i : Image) (xs : List Extent) → IsValidImage i → list_all (is_written i) xs ≡ true → length (bytes_of i xs) ≡ size_of xs
bytes_length i [] valid written = refl
bytes_length i (x ∷ xs) valid written =
    let parts = and_parts (is_written i x) (list_all (is_written i) xs) written in
    length-append (extent_bytes i x) (bytes_of i xs)
    ∙ omega (arith, extent_length i x valid parts.0, bytes_length i xs valid parts.1, sum_by-cons (λ (e : Extent). e.len) x xs)

-- a file whose bytes are all shown
shown_whole : (i : Image) (e : FileEntry) → IsValidImage i → list_all (is_written i) e.extents ≡ true → e.size ≡ size_of e.extents → shown_file i (mounted_row e) ≡ file_in i e
shown_whole i e valid written sized =
    ap (λ bs. record { id = e.id; names = e.names; bytes = bs; hint = e.hint; time = e.time; sparse = e.sparse })
    (ap (λ xs. take e.size (bytes_of i xs)) (append-nil e.extents)
    ∙ take_all e.size (bytes_of i e.extents) (omega (arith, bytes_length i e.extents valid written, sized)))

-- all extents of a table are written, those of a file among them
pub split_written : (i : Image) (e : FileEntry) (es : Table) → list_all (is_written i) (all_extents (e ∷ es)) ≡ true
    → (list_all (is_written i) e.extents ≡ true) × (list_all (is_written i) (all_extents es) ≡ true)
split_written i e es h =
    and_parts (list_all (is_written i) e.extents) (list_all (is_written i) (all_extents es)) (sym (list_all-append (is_written i) e.extents (all_extents es)) ∙ h)

-- what rows show in which all bytes are shown
pub shown_rows : (i : Image) (es : Table) → IsValidImage i → list_all (is_written i) (all_extents es) ≡ true → AreSized es
    → map (shown_file i) (map mounted_row es) ≡ tree_of i es
shown_rows i [] valid written sized = refl
shown_rows i (e ∷ es) valid written sized =
    let parts = split_written i e es written in
    ap (λ f. f ∷ map (shown_file i) (map mounted_row es)) (shown_whole i e valid parts.0 (eqb-true e.size (size_of e.extents) sized.0))
    ∙ ap (λ fs. file_in i e ∷ fs) (shown_rows i es valid parts.1 sized.1)

-- the first of three rules that is broken
first_rule : Bool → Bool → Bool → Option ℕ
first_rule written shared valid = if not written then Some 8 else if shared then Some 9 else if not valid then Some 10 else None

-- none of them is broken only where all is written
none_broken : (written shared valid : Bool) → first_rule written shared valid ≡ None → written ≡ true
unfolding first_rule
none_broken true shared valid h = refl
none_broken false shared valid h = absurd cc

-- all extents of a table that breaks no rule are written
pub unbroken_written : (i : Image) (es : Table) → broken_rule i es ≡ None → list_all (is_written i) (all_extents es) ≡ true
unfolding first_rule
unbroken_written i es h =
    none_broken (list_all (is_written i) (all_extents es)) (overlap (all_extents (map (recovered_entry i) es))) (list_all (has_valid_recovery_point i) es) h
