-- The zones of a device after the extents of all files were entered.
use Rattle.std.proofs.Common.{◌≡◌, ℕ, zero, suc, ◌+◌, ◌^◌, ◌<◌, ◌≤◌, Bool, List, [], ◌∷◌, ◌++◌, length, take, map, replicate, get_or, sum_by, Option, None, refl, sym, ◌∙◌, ap, subst, arith, zero-add}
use Rattle.std.specs.Prelude.{IsTrue}
use Rattle.std.specs.List.{All, enumerate_from}
use Rattle.std.proofs.lemmas.List.{length-map, get_or-map, length-replicate, get_or-replicate, get_or_default, same_lists}
use Rattle.std.proofs.lemmas.List.Elements.{All-head, All-tail, All-nil, All-cons, All-map}
use Rattle.std.proofs.lemmas.List.FromFn.{length-enumerate_from, get_or-enumerate_from}
use Rattle.std.proofs.lemmas.List.Sums.{sum_by-append}
use Rattle.zone_image.specs.declared.Geometry.{Geometry}
use Rattle.zone_image.specs.declared.ZoneInfo.{ZoneInfo}
use Rattle.zone_image.specs.Infos.{no_info}
use Rattle.record_model.specs.declared.types.Extent.{Extent}
use Rattle.record_model.specs.declared.types.FileEntry.{FileEntry}
use Rattle.log_model.specs.FileTable.{Table, size_of}
use Rattle.log_model.specs.Mounted.{all_extents}
use Rattle.fs_model.specs.declared.zones.ZoneState.{ZoneState}
use Rattle.fs_model.specs.FsState.{touched, hint_from}
use Rattle.fs_model.specs.ZonePolicy.{is_idle}
use Rattle.zone_alloc.specs.ZoneTableState.{ZoneTableState, no_state, unused_state}
use Rattle.mount_replay.specs.Filling.{extents_within, start_of, filled_zone, filled_zones, ZoneMark, mark_at, marked_files, AreMarks, Entered}
use Rattle.mount_replay.proofs.FillingLaws.{files_marked}

-- a device's zones before anything is entered
abbrev pub unused_table : Geometry → Bool → List ZoneInfo → ZoneTableState
unused_table g collect infos = record { geometry = g; collect = collect; zones = map unused_state infos }

pub unused_marks : (g : Geometry) (collect : Bool) (infos : List ZoneInfo) (s : List (Option ℕ)) (t : ZoneTableState) → length infos ≡ g.zones → s ≡ replicate g.zones None → t ≡ unused_table g collect infos → AreMarks g s t
unused_marks g collect infos s t count starts made = record {
  same = ap (λ (u : ZoneTableState). u.geometry) made;
  all_zones = ap (λ (u : ZoneTableState). length u.zones) made ∙ length-map infos unused_state ∙ count;
  all_starts = ap length starts ∙ length-replicate g.zones None;
  idle = subst (λ (u : ZoneTableState). All (λ (z : ZoneState). IsTrue (is_idle z)) u.zones) (sym made) (All-map (λ (z : ZoneState). IsTrue (is_idle z)) unused_state infos (λ k d lt. refl));
}

-- the zone of a number before
unused_mark : (g : Geometry) (collect : Bool) (infos : List ZoneInfo) (s : List (Option ℕ)) (t : ZoneTableState) (n : ℕ) → length infos ≡ g.zones → s ≡ replicate g.zones None → t ≡ unused_table g collect infos → n < g.zones
    → mark_at s t.zones n ≡ record { start = 2 ^ 64; state = unused_state (get_or infos n no_info) }
unused_mark g collect infos s t n count starts made below =
    let within : n < length infos = omega (arith, count, below) in
    let empty : get_or (replicate g.zones none) n none ≡ none = get_or-replicate g.zones n none none below in
    ap (λ (u : ZoneTableState). mark_at s u.zones n) made
    ∙ ap (λ (l : List (Option ℕ)). mark_at l (map unused_state infos) n) starts
    ∙ ap (λ (o : Option ℕ). mark_of (start_of o) (get_or (map unused_state infos) n no_state)) empty
    ∙ ap (mark_of (2 ^ 64)) (get_or-map unused_state infos n no_info no_state within)
  where
    none : Option ℕ
    none = None

    mark_of : ℕ → ZoneState → ZoneMark
    mark_of start state = record { start = start; state = state }

-- and afterwards
zone_filled : (g : Geometry) (infos : List ZoneInfo) (es : Table) (n : ℕ) (info : ZoneInfo) (m : ZoneMark) → m ≡ record { start = 2 ^ 64; state = unused_state info } → (marked_files g n es m).state ≡ filled_zone g es (n, info)
zone_filled g infos es n info m is =
    let t : Extent → ℕ = touched g.block in
    let xs : List Extent = extents_within g n (all_extents es) in
    ap (λ (k : ZoneMark). (marked_files g n es k).state) is
    ∙ files_marked g n es (record { start = 2 ^ 64; state = unused_state info }) (omega arith)
    ∙ ap (λ (k : ℕ). record (unused_state info) { hint = hint_from g n (2 ^ 64) 0 es; live = k; live_bytes = 0 + size_of xs }) (zero-add (sum_by t xs))
    ∙ ap (λ (k : ℕ). record (unused_state info) { hint = hint_from g n (2 ^ 64) 0 es; live = sum_by t xs; live_bytes = k }) (zero-add (size_of xs))

-- all zones
pub filled_is : (g : Geometry) (collect : Bool) (infos : List ZoneInfo) (es : Table) (a b : ℕ) (s0 s1 : List (Option ℕ)) (t0 t1 : ZoneTableState) → length infos ≡ g.zones → s0 ≡ replicate g.zones None → t0 ≡ unused_table g collect infos
    → Entered g (λ n. marked_files g n es) a b s0 t0 s1 t1 → t1 ≡ record { geometry = g; collect = collect; zones = filled_zones g es infos }
filled_is g collect infos es a b s0 s1 t0 t1 count starts made entered =
    ap (λ (h : Geometry). table_of h t1.collect t1.zones) entered.marks.same
    ∙ ap (λ (c : Bool). table_of g c t1.zones) (entered.collect ∙ ap (λ (u : ZoneTableState). u.collect) made)
    ∙ ap (λ (zs : List ZoneState). table_of g collect zs) (same_lists t1.zones (filled_zones g es infos) same_length each)
  where
    table_of : Geometry → Bool → List ZoneState → ZoneTableState
    table_of h c zs = record { geometry = h; collect = c; zones = zs }

    same_length : length t1.zones ≡ length (filled_zones g es infos)
    same_length = entered.marks.all_zones ∙ sym count ∙ sym (length-map (enumerate_from 0 infos) (filled_zone g es) ∙ length-enumerate_from 0 infos)

    each : (k : ℕ) (d : ZoneState) → k < length t1.zones → get_or t1.zones k d ≡ get_or (filled_zones g es infos) k d
    each k d lt =
        let below : k < g.zones = omega (arith, lt, entered.marks.all_zones) in
        let within : k < length infos = omega (arith, count, below) in
        let numbered : k < length (enumerate_from 0 infos) = omega (arith, within, length-enumerate_from 0 infos) in
        get_or_default t1.zones k d no_state lt
        ∙ ap (λ (m : ZoneMark). m.state) (entered.each k below)
        ∙ zone_filled g infos es k (get_or infos k no_info) (mark_at s0 t0.zones k) (unused_mark g collect infos s0 t0 k count starts made below)
        ∙ ap (λ (n : ℕ). filled_zone g es (n, get_or infos k no_info)) (sym (zero-add k))
        ∙ ap (filled_zone g es) (sym (get_or-enumerate_from 0 infos k (0, no_info) within))
        ∙ sym (get_or-map (filled_zone g es) (enumerate_from 0 infos) k (0, no_info) d numbered)

-- ---- one file of a table

pub all_first : (P : Extent → Type 0) (xs ys : List Extent) → All P (xs ++ ys) → All P xs
all_first P [] ys all = All-nil P
all_first P (x ∷ xs) ys all = All-cons P x xs (All-head P x (xs ++ ys) all) (all_first P xs ys (All-tail P x (xs ++ ys) all))

pub all_rest : (P : Extent → Type 0) (xs ys : List Extent) → All P (xs ++ ys) → All P ys
all_rest P [] ys all = all
all_rest P (x ∷ xs) ys all = all_rest P xs ys (All-tail P x (xs ++ ys) all)

-- what holds of all extents holds of those of each file
pub all_of_file : (P : Extent → Type 0) (es : Table) (i : ℕ) (d : FileEntry) → i < length es → All P (all_extents es) → All P (get_or es i d).extents
all_of_file P [] i d lt all = absurd (omega arith)
all_of_file P (e ∷ es) zero d lt all = all_first P e.extents (all_extents es) all
all_of_file P (e ∷ es) (suc i) d lt all = all_of_file P es i d (omega arith) (all_rest P e.extents (all_extents es) all)

-- the first files and the next have no more than all
pub file_fits : (w : Extent → ℕ) (es : Table) (i : ℕ) (d : FileEntry) → i < length es → sum_by w (all_extents (take i es)) + sum_by w (get_or es i d).extents ≤ sum_by w (all_extents es)
file_fits w [] i d lt = absurd (omega arith)
file_fits w (e ∷ es) zero d lt = omega (arith, sum_by-append w e.extents (all_extents es))
file_fits w (e ∷ es) (suc i) d lt =
    omega (arith, sum_by-append w e.extents (all_extents (take i es)), sum_by-append w e.extents (all_extents es), file_fits w es i d (omega arith))
