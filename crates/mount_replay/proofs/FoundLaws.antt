-- Files with what is found again of them.
use Rattle.std.proofs.Common.{◌≡◌, ◌≢◌, ℕ, zero, suc, ◌+◌, ◌^◌, ◌<◌, Bool, true, false, List, [], ◌∷◌, ◌++◌, length, take, drop, map, set, get_or, Option, Some, option_map, refl, sym, ◌∙◌, ap, subst, arith}
use Rattle.std.specs.Prelude.{◌==◌}
use Rattle.std.specs.List.{All, AllZip, AllByRecursion, list_all}
use Rattle.std.proofs.lemmas.Bool.{and_parts, eqb-true, eqb-false, eq-eqb}
use Rattle.std.proofs.Math.ListN.{length-set}
use Rattle.std.proofs.lemmas.List.{get_or-set_same, get_or-set_other, get_or_default}
use Rattle.std.proofs.lemmas.List.Elements.{recursion_from_All, All-nil, All-cons, All-append}
use Rattle.std.proofs.lemmas.List.Sums.{sum_by-append}
use Rattle.zone_image.specs.declared.Geometry.{Geometry}
use Rattle.zone_image.specs.declared.ZoneInfo.{ZoneInfo}
use Rattle.zone_image.specs.Image.{Image}
use Rattle.record_model.specs.declared.types.Extent.{Extent}
use Rattle.record_model.specs.declared.types.FileEntry.{FileEntry}
use Rattle.record_model.specs.Grammar.{IsExtent, IsWritable}
use Rattle.log_model.specs.FileTable.{Table, size_of, has_right_size}
use Rattle.log_model.specs.Frames.{recovered_extents}
use Rattle.log_model.specs.Mounted.{all_extents, recovered_entry}
use Rattle.log_model.specs.TableLaws.{AreSized}
use Rattle.log_model.proofs.ReplayLaws.{size_append}
use Rattle.mount_replay.specs.Rules.{is_written_in, IsWrittenExtent}
use Rattle.mount_replay.specs.Recovering.{IsFound, FoundSoFar, sized, damage_by, IsBrokenAs}
use Rattle.mount_replay.specs.declared.error.ReplayError.{ReplayError}
use Rattle.mount_replay.specs.declared.error.ReplayError.TheVariants.{Damaged, DevFault, NoMemory}
use Rattle.mount_replay.specs.Payloads.{IsNoDamage}
use Rattle.mount_replay.proofs.FilledLaws.{all_first, all_rest}

-- extents that pass the test, and each have a byte
written_extents : (g : Geometry) (infos : List ZoneInfo) (xs : List Extent) → list_all (is_written_in g infos) xs ≡ true → AllByRecursion IsExtent xs → All (IsWrittenExtent g infos) xs
written_extents g infos [] pass all = All-nil (IsWrittenExtent g infos)
written_extents g infos (x ∷ xs) pass all =
    let parts = and_parts (is_written_in g infos x) (list_all (is_written_in g infos) xs) pass in
    All-cons (IsWrittenExtent g infos) x xs (record { some = all.0.1; written = parts.0 }) (written_extents g infos xs parts.1 all.1)

-- those of all files
pub written_files : (g : Geometry) (infos : List ZoneInfo) (es : Table) → list_all (λ e. list_all (is_written_in g infos) e.extents) es ≡ true → AllByRecursion IsWritable es → All (IsWrittenExtent g infos) (all_extents es)
written_files g infos [] pass all = All-nil (IsWrittenExtent g infos)
written_files g infos (e ∷ es) pass all =
    let parts = and_parts (list_all (is_written_in g infos) e.extents) (list_all (λ f. list_all (is_written_in g infos) f.extents) es) pass in
    All-append (IsWrittenExtent g infos) e.extents (all_extents es) (written_extents g infos e.extents parts.0 all.0.extents) (written_files g infos es parts.1 all.1)

-- an entry of the size of its extents may be written
writable_sized : (e : FileEntry) (xs : List Extent) → IsWritable e → AllByRecursion IsExtent xs → size_of xs < 2 ^ 64 → IsWritable (sized (record e { extents = xs }))
writable_sized e xs w all fits = record {
  id = w.id;
  size = fits;
  hint = w.hint;
  time = w.time;
  active = w.active;
  extents = all;
  names = w.names;
  named = w.named;
  apart = w.apart;
}

-- the sizes have no part in the extents
pub sized_extents : (es : Table) → all_extents (map sized es) ≡ all_extents es
sized_extents [] = refl
sized_extents (e ∷ es) = ap (λ (xs : List Extent). e.extents ++ xs) (sized_extents es)

pub sized_right : (es : Table) → AreSized (map sized es)
sized_right [] = tt
sized_right (e ∷ es) = (eq-eqb (size_of e.extents) (size_of e.extents) refl, sized_right es)

module _ (told : Type 0) (g : Geometry) (infos : List ZoneInfo) (i : Image) where
  -- all extents
  pub found_extents : (xs ys : Table) → told → AllZip (IsFound told g infos i) xs ys → all_extents ys ≡ all_extents (map (recovered_entry i) xs)
  found_extents [] [] t all = refl
  found_extents [] (y ∷ ys) t all = absurd all
  found_extents (x ∷ xs) [] t all = absurd all
  found_extents (x ∷ xs) (y ∷ ys) t all =
      ap (λ (es : List Extent). es ++ all_extents ys) (all.0.found t) ∙ ap (λ (es : List Extent). (x.extents ++ recovered_extents i x) ++ es) (found_extents xs ys t all.1)

  -- they lie in data zones
  pub found_lie : (xs ys : Table) → AllZip (IsFound told g infos i) xs ys → All (IsWrittenExtent g infos) (all_extents xs) → All (IsWrittenExtent g infos) (all_extents ys)
  found_lie [] [] all lie = lie
  found_lie [] (y ∷ ys) all lie = absurd all
  found_lie (x ∷ xs) [] all lie = absurd all
  found_lie (x ∷ xs) (y ∷ ys) all lie =
      All-append (IsWrittenExtent g infos) y.extents (all_extents ys) (all.0.lie (all_first (IsWrittenExtent g infos) x.extents (all_extents xs) lie))
      (found_lie xs ys all.1 (all_rest (IsWrittenExtent g infos) x.extents (all_extents xs) lie))

  -- the files with their sizes are those of the image
  found_entry : (e f : FileEntry) → told → has_right_size e ≡ true → IsFound told g infos i e f → sized f ≡ recovered_entry i e
  found_entry e f t right found =
      let with_extents : List Extent → FileEntry = λ xs. sized (record e { extents = xs }) in
      ap sized found.same ∙ ap with_extents (found.found t)
      ∙ ap (λ (n : ℕ). record e { extents = e.extents ++ recovered_extents i e; size = n })
      (size_append e.extents (recovered_extents i e) ∙ ap (λ (n : ℕ). n + size_of (recovered_extents i e)) (sym (eqb-true e.size (size_of e.extents) right)))

  pub found_table : (xs ys : Table) → told → AreSized xs → AllZip (IsFound told g infos i) xs ys → map sized ys ≡ map (recovered_entry i) xs
  found_table [] [] t right all = refl
  found_table [] (y ∷ ys) t right all = absurd all
  found_table (x ∷ xs) [] t right all = absurd all
  found_table (x ∷ xs) (y ∷ ys) t right all =
      ap (λ (e : FileEntry). e ∷ map sized ys) (found_entry x y t right.0 all.0) ∙ ap (λ (es : Table). recovered_entry i x ∷ es) (found_table xs ys t right.1 all.1)

  -- each may be written
  pub found_writable : (xs ys : Table) → AllZip (IsFound told g infos i) xs ys → AllByRecursion IsWritable xs → All IsExtent (all_extents ys) → size_of (all_extents ys) < 2 ^ 64 → AllByRecursion IsWritable (map sized ys)
  found_writable [] [] all w lie fits = tt
  found_writable [] (y ∷ ys) all w lie fits = absurd all
  found_writable (x ∷ xs) [] all w lie fits = absurd all
  found_writable (x ∷ xs) (y ∷ ys) all w lie fits =
      let sum : size_of (y.extents ++ all_extents ys) ≡ size_of y.extents + size_of (all_extents ys) = sum_by-append (λ (z : Extent). z.len) y.extents (all_extents ys) in (
        subst (λ (f : FileEntry). IsWritable (sized f)) (sym all.0.same)
            (writable_sized x y.extents w.0 (recursion_from_All IsExtent y.extents (all_first IsExtent y.extents (all_extents ys) lie)) (omega (arith, sum, fits))),
        found_writable xs ys all.1 w.1 (all_rest IsExtent y.extents (all_extents ys) lie) (omega (arith, sum, fits)),
      )

-- ---- one file after another

pub none_found : (told : Type 0) (g : Geometry) (infos : List ZoneInfo) (i : Image) (xs : Table) → FoundSoFar told g infos i 0 xs xs
none_found told g infos i xs = record {
  first = λ k d e less below. absurd (omega arith);
  rest = λ k d past below. refl;
  same_length = refl;
}

-- the next file
pub found_more : (told : Type 0) (g : Geometry) (infos : List ZoneInfo) (i : Image) (n : ℕ) (xs ys : Table) (old new : FileEntry) → FoundSoFar told g infos i n xs ys → n < length ys → old ≡ get_or ys n old
    → IsFound told g infos i old new → FoundSoFar told g infos i (n + 1) xs (set ys n new)
found_more told g infos i n xs ys old new so_far lt is found = record {
  first = λ k d e less below. go k d e (k == n) refl less below;
  rest = λ k d past below. get_or-set_other ys n k new d (λ same. absurd (omega (arith, same, past))) ∙ so_far.rest k d (omega (arith, past)) below;
  same_length = length-set ys n new ∙ so_far.same_length;
}
  where
    here : (d : FileEntry) → old ≡ get_or xs n d
    here d = is ∙ get_or_default ys n old d lt ∙ so_far.rest n d (omega arith) (omega (arith, so_far.same_length, lt))

    lower : (k n : ℕ) → k < n + 1 → k ≢ n → k < n
    lower k n less other = omega (arith, less, other)

    go : (k : ℕ) (d e : FileEntry) (c : Bool) → (k == n) ≡ c → k < n + 1 → k < length xs → IsFound told g infos i (get_or xs k d) (get_or (set ys n new) k e)
    go k d e true same less below =
        let it : k ≡ n = eqb-true k n same in
        subst (λ (m : ℕ). IsFound told g infos i (get_or xs m d) (get_or (set ys n new) m e)) (sym it)
        (subst (λ (f : FileEntry). IsFound told g infos i f (get_or (set ys n new) n e)) (here d)
        (subst (λ (f : FileEntry). IsFound told g infos i old f) (sym (get_or-set_same ys n new e lt)) found))
    go k d e false same less below =
        let other : k ≢ n = eqb-false k n same in
        subst (λ (f : FileEntry). IsFound told g infos i (get_or xs k d) f) (sym (get_or-set_other ys n k new e other)) (so_far.first k d e (lower k n less other) below)

-- all files
pub all_found : (told : Type 0) (g : Geometry) (infos : List ZoneInfo) (i : Image) (xs ys : Table) → length ys ≡ length xs
    → ((k : ℕ) (d e : FileEntry) → k < length xs → IsFound told g infos i (get_or xs k d) (get_or ys k e)) → AllZip (IsFound told g infos i) xs ys
all_found told g infos i [] [] same each = tt
all_found told g infos i [] (y ∷ ys) same each = absurd (omega (arith, same))
all_found told g infos i (x ∷ xs) [] same each = absurd (omega (arith, same))
all_found told g infos i (x ∷ xs) (y ∷ ys) same each =
    (each 0 x y (omega arith), all_found told g infos i xs ys (omega (arith, same)) (λ k d e below. each (suc k) d e (omega (arith, below))))

-- damage by a rule, in other words
pub damaged_as : (zone block rule : ℕ) (o : Option ℕ) (e : ReplayError) → e ≡ Damaged (damage_by zone block rule) → o ≡ Some rule → IsBrokenAs zone block o e
damaged_as zone block rule o e answer is = subst (IsBrokenAs zone block o) (sym answer) (ap (option_map (damage_by zone block)) is)

pub undamaged_broken : (zone block : ℕ) (o : Option ℕ) (e : ReplayError) → IsNoDamage e → IsBrokenAs zone block o e
undamaged_broken zone block o (Damaged d) none = absurd none
undamaged_broken zone block o DevFault none = tt
undamaged_broken zone block o NoMemory none = tt

-- what was found on another device of the same image
pub found_on : (told : Type 0) (g : Geometry) (infos : List ZoneInfo) (i j : Image) (e f : FileEntry) → (told → j ≡ i) → IsFound told g infos j e f → IsFound told g infos i e f
found_on told g infos i j e f same found = record {
  same = found.same;
  found = λ t. found.found t ∙ ap (λ (k : Image). e.extents ++ recovered_extents k e) (same t);
  lie = found.lie;
}

-- the next file is as it was while those before it were changed
pub next_unchanged : (f : FileEntry → FileEntry) (xs : Table) (i : ℕ) (d : FileEntry) → i < length xs → get_or (map f (take i xs) ++ drop i xs) i d ≡ get_or xs i d
next_unchanged f [] i d lt = absurd (omega arith)
next_unchanged f (x ∷ xs) zero d lt = refl
next_unchanged f (x ∷ xs) (suc i) d lt = next_unchanged f xs i d (omega arith)
