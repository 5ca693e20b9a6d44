-- The table of an image of which nothing is pending, settled.
use Rattle.std.specs.Prelude.{◌≡◌, ◌≢◌, ℕ, ◌+◌, ◌*◌, ◌≤◌, Bool, true, false, not, ◌&&◌, ◌||◌, cond, List, [], ◌∷◌, ◌++◌, length, map, drop, Option, Some, None, nat_le, nat_lt, ◌==◌, if◌then◌else◌, refl}
use Rattle.std.proofs.Common.{◌∙◌, ap, sym, subst, append-nil, arith}
use Rattle.std.proofs.Math.Nat.{mul-le-mul_right}
use Rattle.std.proofs.lemmas.Bool.{leb-true, le-leb, eq-eqb, eqb-true, and_parts, and_from}
use Rattle.std.proofs.lemmas.List.Folds.{list_all-append}
use Rattle.std.specs.List.{AllByRecursion, list_all}
use Rattle.zone_image.specs.Image.{Image, zone_at, zone_of, offset_of}
use Rattle.zone_image.specs.Infos.{IsValidImage}
use Rattle.record_model.specs.declared.types.Extent.{Extent}
use Rattle.record_model.specs.declared.types.FileEntry.{FileEntry}
use Rattle.log_model.specs.FileTable.{Table, file_of, is_named, shares_name, size_of}
use Rattle.log_model.specs.Frames.{no_active, bytes_of, frames_at, rest_at, is_recovery_point, recovered_extents}
use Rattle.log_model.specs.Mounted.{is_written, overlap, all_extents, has_valid_recovery_point, broken_rule, recovered_entry, file_in, tree_of}
use Rattle.log_model.specs.MountLaws.{SparseAlone}
use Rattle.log_model.specs.CrashLaws.{IsDurable}
use Rattle.log_model.specs.TableLaws.{IdsRise, IsTable, AreSized}
use Rattle.log_model.proofs.DecodedNames.{replay_makes_table}
use Rattle.log_model.proofs.ReplayedSizes.{replayed_sizes_are_right}
use Rattle.log_model.proofs.ReplayLaws.{size_append}
use Rattle.crash_cover.specs.Pinned.{is_durable, is_durable_point}
use Rattle.crash_cover.specs.FoundExtents.{IsWrittenIn}
use Rattle.crash_cover.proofs.FoundLaws.{found_is_written}
use Rattle.log_store.specs.Settled.{without_point, settled, IsSettled, SettledTable}

-- the entry of a file in the settled table
settled_entry : Image → FileEntry → FileEntry
settled_entry i e = without_point (recovered_entry i e)

-- nothing is found again where no recovery point is set
none_found : (i : Image) (e : FileEntry) → recovered_extents i (without_point e) ≡ []
none_found i e = ap (λ unset. cond (unset || not (is_recovery_point i no_active)) [] (cond e.sparse (frames_at i no_active) (rest_at i no_active))) (eq-eqb no_active no_active refl)

-- so a settled entry has its own extents
own_extents : (i : Image) (e : FileEntry) → (recovered_entry i (without_point e)).extents ≡ e.extents
own_extents i e = ap (λ xs. e.extents ++ xs) (none_found i e) ∙ append-nil e.extents

-- a settled table has the extents that are found
same_extents : (i : Image) (es : Table) → all_extents (map (recovered_entry i) (settled i es)) ≡ all_extents (map (recovered_entry i) es)
same_extents i [] = refl
same_extents i (e ∷ es) =
    ap (λ xs. xs ++ all_extents (map (recovered_entry i) (settled i es))) (own_extents i (recovered_entry i e))
    ∙ ap (λ xs. (recovered_entry i e).extents ++ xs) (same_extents i es)

-- and mounts to the same tree
same_tree : (i : Image) (es : Table) → tree_of i (map (recovered_entry i) (settled i es)) ≡ tree_of i (map (recovered_entry i) es)
same_tree i [] = refl
same_tree i (e ∷ es) =
    ap (λ xs. record { id = e.id; names = e.names; bytes = bytes_of i xs; hint = e.hint; time = e.time; sparse = e.sparse } ∷ tree_of i (map (recovered_entry i) (settled i es)))
    (own_extents i (recovered_entry i e))
    ∙ ap (λ files. file_in i (recovered_entry i e) ∷ files) (same_tree i es)

-- its recorded tree is that one
recorded_tree : (i : Image) (es : Table) → tree_of i (settled i es) ≡ tree_of i (map (recovered_entry i) es)
recorded_tree i [] = refl
recorded_tree i (e ∷ es) = ap (λ files. file_in i (recovered_entry i e) ∷ files) (recorded_tree i es)

-- both tests hold of two lists together
both_lists : (p : Extent → Bool) (xs ys : List Extent) → list_all p xs ≡ true → list_all p ys ≡ true → list_all p (xs ++ ys) ≡ true
both_lists p xs ys front back = list_all-append p xs ys ∙ and_from (list_all p xs) (list_all p ys) front back

-- written extents of all files are written of each
split_written : (i : Image) (xs ys : List Extent) → list_all (is_written i) (xs ++ ys) ≡ true → (list_all (is_written i) xs ≡ true) × (list_all (is_written i) ys ≡ true)
split_written i xs ys h = and_parts (list_all (is_written i) xs) (list_all (is_written i) ys) (sym (list_all-append (is_written i) xs ys) ∙ h)

-- what is found is written
found_written : (i : Image) (n : ℕ) (xs : List Extent) → AllByRecursion (IsWrittenIn i n) xs → list_all (is_written i) xs ≡ true
found_written i n [] h = refl
found_written i n (x ∷ xs) h = and_from (is_written i x) (list_all (is_written i) xs) h.0.written (found_written i n xs h.1)

-- where nothing is pending, what is written is durable
written_durable : (i : Image) (xs : List Extent) → ((n : ℕ) → IsDurable i n) → list_all (is_written i) xs ≡ true → list_all (is_durable i) xs ≡ true
written_durable i [] all h = refl
written_durable i (x ∷ xs) all h =
    let parts = and_parts (is_written i x) (list_all (is_written i) xs) h in
    let n = zone_of i.geometry x.start in
    let place = and_parts (nat_le 3 n && nat_lt n i.geometry.zones) _ parts.0 in
    let more : length (zone_at i n).blocks * i.geometry.block ≤ (zone_at i n).kept * i.geometry.block = mul-le-mul_right i.geometry.block (all n) in
    let within : offset_of i.geometry x.start + x.len ≤ length (zone_at i n).blocks * i.geometry.block = leb-true _ _ place.1 in
    and_from (is_durable i x) (list_all (is_durable i) xs)
    (and_from (nat_le 3 n && nat_lt n i.geometry.zones) _ place.0 (le-leb _ _ (omega (arith, more, within))))
    (written_durable i xs all parts.1)

-- all extents of a settled table are written
all_written : (i : Image) (es : Table) → IsValidImage i → list_all (is_written i) (all_extents es) ≡ true → list_all (is_written i) (all_extents (settled i es)) ≡ true
all_written i [] valid h = refl
all_written i (e ∷ es) valid h =
    let parts = split_written i e.extents (all_extents es) h in
    let found = recovered_extents i e in
    both_lists (is_written i) (e.extents ++ found) (all_extents (settled i es))
    (both_lists (is_written i) e.extents found parts.0 (found_written i (zone_of i.geometry e.active) found (found_is_written i e valid)))
    (all_written i es valid parts.1)

-- no entry of a settled table has a recovery point
no_points : (i : Image) (p : ℕ → Bool) (es : Table) → list_all (λ e. (e.active == no_active) || p e.active) (settled i es) ≡ true
no_points i p [] = refl
no_points i p (e ∷ es) = and_from _ (list_all (λ f. (f.active == no_active) || p f.active) (settled i es)) (ap (λ b. b || p no_active) (eq-eqb no_active no_active refl)) (no_points i p es)

-- so its files may all be sparse or not
all_alone : (i : Image) (es : Table) → AllByRecursion SparseAlone (settled i es)
all_alone i [] = tt
all_alone i (e ∷ es) = ((λ set. let wrong : true ≡ false = sym (eq-eqb no_active no_active refl) ∙ set in cc), all_alone i es)

-- the ids are the same
ids_rise : (i : Image) (from : ℕ) (es : Table) → IdsRise from es → IdsRise from (settled i es)
ids_rise i from [] h = tt
ids_rise i from (e ∷ es) h = (h.0, ids_rise i (e.id + 1) es h.1)

-- so are the names
all_named : (i : Image) (es : Table) → AllByRecursion (λ e. is_named e ≡ true) es → AllByRecursion (λ e. is_named e ≡ true) (settled i es)
all_named i [] h = tt
all_named i (e ∷ es) h = (h.0, all_named i es h.1)

-- an entry of a settled table is that of a file
record IsOf (i : Image) (id : ℕ) (found : FileEntry) (es : Table) : Type 0 where
  origin : FileEntry
  entry : file_of id es ≡ Some origin
  same : settled_entry i origin ≡ found

origin_at : (i : Image) (id : ℕ) (found e : FileEntry) (es : Table) (here : Bool) → (e.id == id) ≡ here → (file_of id (settled i es) ≡ Some found → IsOf i id found es)
    → cond here (Some (settled_entry i e)) (file_of id (settled i es)) ≡ Some found → IsOf i id found (e ∷ es)
unfolding settled_entry
origin_at i id found e es true is later h = record { origin = e; entry = ap (λ b. cond b (Some e) (file_of id es)) is; same = cc }
origin_at i id found e es false is later h =
    let o = later h in
    record { origin = o.origin; entry = ap (λ b. cond b (Some e) (file_of id es)) is ∙ o.entry; same = o.same }

origin_of : (i : Image) (id : ℕ) (found : FileEntry) (es : Table) → file_of id (settled i es) ≡ Some found → IsOf i id found es
unfolding settled_entry
origin_of i id found [] h = cc
origin_of i id found (e ∷ es) h = origin_at i id found e es (e.id == id) refl (origin_of i id found es) h

-- no file has a name of another one
all_apart : (i : Image) (o : FileEntry) (es : Table) → AllByRecursion (λ f. f.id ≢ o.id → shares_name o f ≡ false) es
    → AllByRecursion (λ f. f.id ≢ (settled_entry i o).id → shares_name (settled_entry i o) f ≡ false) (settled i es)
unfolding settled_entry
all_apart i o [] h = tt
all_apart i o (f ∷ fs) h = (h.0, all_apart i o fs h.1)

settled_apart : (i : Image) (es : Table) (table : IsTable es) (e : FileEntry) → file_of e.id (settled i es) ≡ Some e → AllByRecursion (λ f. f.id ≢ e.id → shares_name e f ≡ false) (settled i es)
unfolding settled_entry
settled_apart i es table e is =
    let o = origin_of i e.id e es is in
    let id : o.origin.id ≡ e.id = ap (λ (x : FileEntry). x.id) o.same in
    let own : file_of o.origin.id es ≡ Some o.origin = ap (λ n. file_of n es) id ∙ o.entry in
    subst (λ (x : FileEntry). AllByRecursion (λ f. f.id ≢ x.id → shares_name x f ≡ false) (settled i es)) o.same (all_apart i o.origin es (table.apart o.origin own))

-- the sizes are right
all_sized : (i : Image) (es : Table) → AreSized es → AreSized (settled i es)
all_sized i [] h = tt
all_sized i (e ∷ es) h =
    let found = recovered_extents i e in (
      eq-eqb (e.size + size_of found) (size_of (e.extents ++ found)) (omega (arith, eqb-true e.size (size_of e.extents) h.0, size_append e.extents found)),
      all_sized i es h.1,
    )

-- the first of three rules that is broken
abbrev first_rule : Bool → Bool → Bool → Option ℕ
first_rule written shared valid = if not written then Some 8 else if shared then Some 9 else if not valid then Some 10 else None

-- no rule is broken where the three tests say so
none_broken : (written shared valid : Bool) → written ≡ true → shared ≡ false → valid ≡ true → first_rule written shared valid ≡ None
none_broken true false true w s v = refl
none_broken false shared valid w s v = cc
none_broken true true valid w s v = cc
none_broken true false false w s v = cc

-- and nowhere else
unbroken : (written shared valid : Bool) → first_rule written shared valid ≡ None → (written ≡ true) × (shared ≡ false)
unbroken false shared valid h = cc
unbroken true true valid h = cc
unbroken true false valid h = (refl, refl)

-- where nothing is pending, a table that breaks no rule may be settled
pub settled_unbroken : (i : Image) (es : Table) → IsValidImage i → IsTable es → AreSized es → broken_rule i es ≡ None → ((n : ℕ) → IsDurable i n) → IsSettled i es
settled_unbroken i es valid table sized none all =
    let old = unbroken (list_all (is_written i) (all_extents es)) (overlap (all_extents (map (recovered_entry i) es))) (list_all (has_valid_recovery_point i) es) none in
    let written = all_written i es valid old.0 in
    let next : Table = settled i es in
    record {
      pinned = record {
        extents = written_durable i (all_extents next) all written;
        points = no_points i (is_durable_point i) es;
        sparse = all_alone i es;
        unbroken = none_broken (list_all (is_written i) (all_extents next)) (overlap (all_extents (map (recovered_entry i) next))) (list_all (has_valid_recovery_point i) next)
            written (ap overlap (same_extents i es) ∙ old.1) (no_points i (is_recovery_point i) es);
      };
      table = record { ids = ids_rise i 0 es table.ids; named = all_named i es table.named; apart = settled_apart i es table };
      sized = all_sized i es sized;
      tree = recorded_tree i es;
      mounts = same_tree i es;
    }

pub settled_table : SettledTable
settled_table i log greatest es rest all =
    settled_unbroken i es rest.valid (replay_makes_table (drop 1 log.scan.payloads) es rest.table.table) (replayed_sizes_are_right (drop 1 log.scan.payloads) es rest.table.table)
    rest.pinned.unbroken all

-- a table that breaks no rule has its extents written
pub unbroken_written : (i : Image) (es : Table) → broken_rule i es ≡ None → list_all (is_written i) (all_extents es) ≡ true
unbroken_written i es none =
    (unbroken (list_all (is_written i) (all_extents es)) (overlap (all_extents (map (recovered_entry i) es))) (list_all (has_valid_recovery_point i) es) none).0
