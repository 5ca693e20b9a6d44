-- Changes of names leave pinned what was pinned.
use Rattle.std.specs.Prelude.{◌≡◌, ℕ, Bool, true, false, not, cond, List, [], ◌∷◌, ◌++◌, map, flat_map, Option, Some, None, ◌==◌, if◌then◌else◌, refl}
use Rattle.std.proofs.Common.{◌∙◌, ap, sym, subst, inl, inr}
use Rattle.std.proofs.lemmas.Bool.{and_parts, and_from}
use Rattle.std.proofs.lemmas.List.{map-append}
use Rattle.std.specs.List.{list_all}
use Rattle.zone_image.specs.Image.{Image}
use Rattle.record_model.specs.declared.types.Extent.{Extent}
use Rattle.record_model.specs.declared.types.FileEntry.{FileEntry}
use Rattle.log_model.specs.FileTable.{Table, is_named, names_left, without_names, take_names}
use Rattle.log_model.specs.FileTree.{renamed}
use Rattle.log_model.specs.Mounted.{is_written, all_extents, recovered_entry, has_valid_recovery_point, overlap}
use Rattle.log_model.specs.MountLaws.{SparseAlone}
use Rattle.fs_model.specs.FsState.{TableRow, row_named, on_row}
use Rattle.fs_model.specs.TreeSteps.{new_entry, new_row, with_names, drop_name, renamed_rows}
use Rattle.crash_cover.specs.Pinned.{is_durable, has_durable_point, IsPinned}
use Rattle.change_records.specs.Recorded.{entries}
use Rattle.change_records.specs.PinnedRows.{AreSomeOf, AddsNoExtent, CreateAddsNoExtent, NamesAddNoExtent, RenameAddsNoExtent, UnlinkAddsNoExtent}
use Rattle.change_records.proofs.EntryLaws.{entries_dropped}
use Rattle.change_records.proofs.FewerExtents.{same_extents, some_pass, some_apart, IsLess, labelled, some_of, tests_less, facts_less, extents_of}
use Rattle.change_records.proofs.WrittenNames.{all_push}

-- the lowest of three rules that is broken
abbrev lowest : Bool → Bool → Bool → Option ℕ
lowest written shared valid = if not written then Some 8 else if shared then Some 9 else if not valid then Some 10 else None

-- where none is broken, each test is passed
none_broken : (written shared valid : Bool) → lowest written shared valid ≡ None → (written ≡ true) × (shared ≡ false) × (valid ≡ true)
none_broken false shared valid h = absurd cc
none_broken true true valid h = absurd cc
none_broken true false false h = absurd cc
none_broken true false true h = (refl, refl, refl)

-- where each test is passed, none is broken
pub all_passed : (written shared valid : Bool) → written ≡ true → shared ≡ false → valid ≡ true → lowest written shared valid ≡ None
all_passed false shared valid a b c = absurd cc
all_passed true true valid a b c = absurd cc
all_passed true false false a b c = absurd cc
all_passed true false true a b c = refl

-- a table with fewer entries, or other names and times, is pinned where it was
pub pinned_less : (i : Image) (next es : Table) → IsLess next es → IsPinned i es → IsPinned i next
pinned_less i next es less pinned =
    let tests = none_broken (list_all (is_written i) (all_extents es)) (overlap (all_extents (map (recovered_entry i) es))) (list_all (has_valid_recovery_point i) es) pinned.unbroken in
    let own : AreSomeOf (all_extents next) (all_extents es) = some_of (λ e. e.extents) (λ e l. refl) next es less in
    let found = some_of (λ e. (recovered_entry i e).extents) (λ e l. refl) next es less in
    record {
      extents = some_pass (is_durable i) (all_extents es) (all_extents next) own pinned.extents;
      points = tests_less (has_durable_point i) (λ e l. refl) next es less pinned.points;
      sparse = facts_less SparseAlone (λ e l h. h) next es less pinned.sparse;
      unbroken =
          all_passed (list_all (is_written i) (all_extents next)) (overlap (all_extents (map (recovered_entry i) next))) (list_all (has_valid_recovery_point i) next)
          (some_pass (is_written i) (all_extents es) (all_extents next) own tests.0)
          (ap overlap (extents_of (recovered_entry i) next)
          ∙ some_apart (flat_map (λ e. (recovered_entry i e).extents) es) (flat_map (λ e. (recovered_entry i e).extents) next) found (sym (ap overlap (extents_of (recovered_entry i) es)) ∙ tests.1))
          (tests_less (has_valid_recovery_point i) (λ e l. refl) next es less tests.2);
    }

-- an entry that keeps a name, or not, in front of fewer
taken_choice : (b : Bool) (names : List (List ℕ)) (e : FileEntry) (rest es : Table) → IsLess rest es → IsLess (cond b (labelled e (names, e.time) ∷ rest) rest) (e ∷ es)
taken_choice true names e rest es less = inr ((names, e.time), rest, refl, less)
taken_choice false names e rest es less = inl less

-- a table of which names are taken
taken_less : (names : List (List ℕ)) (es : Table) → IsLess (take_names names es) es
taken_less names [] = refl
taken_less names (e ∷ es) =
    taken_choice (is_named (without_names names e)) (names_left names e.names) e (take_names names es) es (taken_less names es)

pub unlink_adds_no_extent : UnlinkAddsNoExtent
unlink_adds_no_extent rows name =
    let es : Table = entries rows in
    let next : Table = take_names (name ∷ []) es in
    let less : IsLess next es = taken_less (name ∷ []) es in record {
      extents = subst (λ t. AreSomeOf (all_extents t) (all_extents es)) (sym (entries_dropped name rows)) (some_of (λ e. e.extents) (λ e l. refl) next es less);
      pinned = λ i pinned. subst (IsPinned i) (sym (entries_dropped name rows)) (pinned_less i next es less pinned);
    }

-- an entry with other names, if it is the one
named_choice : (b : Bool) (names : List (List ℕ)) (q : TableRow) (rest es : Table) → IsLess rest es → IsLess ((if b then with_names names q else q).entry ∷ rest) (q.entry ∷ es)
named_choice true names q rest es less = inr ((names, q.entry.time), rest, refl, less)
named_choice false names q rest es less = inr ((q.entry.names, q.entry.time), rest, refl, less)

-- rows of which one gets other names
named_less : (id : ℕ) (names : List (List ℕ)) (rows : List TableRow) → IsLess (entries (on_row id (with_names names) rows)) (entries rows)
named_less id names [] = refl
named_less id names (q ∷ qs) =
    named_choice (q.entry.id == id) names q (entries (on_row id (with_names names) qs)) (entries qs) (named_less id names qs)

-- an entry under other names has its extents
named_extents : (b : Bool) (names : List (List ℕ)) (q : TableRow) → (if b then with_names names q else q).entry.extents ≡ q.entry.extents
named_extents true names q = refl
named_extents false names q = refl

-- rows of which one gets other names record the same extents
same_after_names : (id : ℕ) (names : List (List ℕ)) (rows : List TableRow) → all_extents (entries (on_row id (with_names names) rows)) ≡ all_extents (entries rows)
same_after_names id names [] = refl
same_after_names id names (q ∷ qs) =
    ap (λ xs. xs ++ all_extents (entries (on_row id (with_names names) qs))) (named_extents (q.entry.id == id) names q)
    ∙ ap (λ xs. q.entry.extents ++ xs) (same_after_names id names qs)

-- rows before, of which one gets other names
named_after : (rows before : List TableRow) (id : ℕ) (names : List (List ℕ)) → AddsNoExtent rows before → AddsNoExtent rows (on_row id (with_names names) before)
named_after rows before id names adds = record {
  extents = subst (λ xs. AreSomeOf xs (all_extents (entries rows))) (sym (same_after_names id names before)) adds.extents;
  pinned = λ i pinned. pinned_less i (entries (on_row id (with_names names) before)) (entries before) (named_less id names before) (adds.pinned i pinned);
}

-- the same rows
no_change : (rows : List TableRow) → AddsNoExtent rows rows
no_change rows = record { extents = same_extents (all_extents (entries rows)); pinned = λ i pinned. pinned }

pub names_add_no_extent : NamesAddNoExtent
names_add_no_extent rows id names = named_after rows rows id names (no_change rows)

-- a rename onto a name of another file, or of the file itself
rename_choice : (b : Bool) (id : ℕ) (names : List (List ℕ)) (new : List ℕ) (rows : List TableRow) → AddsNoExtent rows (if b then rows else on_row id (with_names names) (drop_name new rows))
rename_choice true id names new rows = no_change rows
rename_choice false id names new rows = named_after rows (drop_name new rows) id names (unlink_adds_no_extent rows new)

-- a rename, by who has the new name
rename_cases : (there : Option TableRow) (rows : List TableRow) (r : TableRow) (old new : List ℕ) → AddsNoExtent rows (renamed_rows r there old new rows)
rename_cases None rows r old new = names_add_no_extent rows r.entry.id (renamed old new r.entry.names)
rename_cases (Some other) rows r old new = rename_choice (other.entry.id == r.entry.id) r.entry.id (renamed old new r.entry.names) new rows

pub rename_adds_no_extent : RenameAddsNoExtent
rename_adds_no_extent rows r old new = rename_cases (row_named new rows) rows r old new

-- ---- new files

-- an entry without extents behind others adds none
nothing_added : (part : FileEntry → List Extent) (e : FileEntry) (es : Table) → part e ≡ [] → flat_map part (es ++ e ∷ []) ≡ flat_map part es
nothing_added part e [] none = ap (λ (xs : List Extent). xs ++ []) none
nothing_added part e (f ∷ fs) none = ap (λ xs. part f ++ xs) (nothing_added part e fs none)

-- a test that one more passes
one_more : (t : FileEntry → Bool) (e : FileEntry) (es : Table) → t e ≡ true → list_all t es ≡ true → list_all t (es ++ e ∷ []) ≡ true
one_more t e [] h each = and_from (t e) true h refl
one_more t e (f ∷ fs) h each = let parts = and_parts (t f) (list_all t fs) each in and_from (t f) (list_all t (fs ++ e ∷ [])) parts.0 (one_more t e fs h parts.1)

-- a table with a new file is pinned
pinned_new : (i : Image) (es : Table) (id : ℕ) (name : List ℕ) (hint : ℕ) (sparse : Bool) (now : ℕ) → IsPinned i es → IsPinned i (es ++ new_entry id name hint sparse now ∷ [])
pinned_new i es id name hint sparse now pinned =
    let e : FileEntry = new_entry id name hint sparse now in
    let next : Table = es ++ e ∷ [] in
    let tests = none_broken (list_all (is_written i) (all_extents es)) (overlap (all_extents (map (recovered_entry i) es))) (list_all (has_valid_recovery_point i) es) pinned.unbroken in
    let own : all_extents next ≡ all_extents es = nothing_added (λ f. f.extents) e es refl in
    let found : all_extents (map (recovered_entry i) next) ≡ all_extents (map (recovered_entry i) es) =
    extents_of (recovered_entry i) next ∙ nothing_added (λ f. (recovered_entry i f).extents) e es refl ∙ sym (extents_of (recovered_entry i) es) in
    record {
      extents = ap (list_all (is_durable i)) own ∙ pinned.extents;
      points = one_more (has_durable_point i) e es refl pinned.points;
      sparse = all_push SparseAlone es e pinned.sparse (λ h. absurd cc);
      unbroken =
          all_passed (list_all (is_written i) (all_extents next)) (overlap (all_extents (map (recovered_entry i) next))) (list_all (has_valid_recovery_point i) next)
          (ap (list_all (is_written i)) own ∙ tests.0) (ap overlap found ∙ tests.1) (one_more (has_valid_recovery_point i) e es refl tests.2);
    }

pub create_adds_no_extent : CreateAddsNoExtent
create_adds_no_extent rows id name hint sparse now =
    let e : FileEntry = new_entry id name hint sparse now in
    let same : entries (rows ++ new_row e ∷ []) ≡ entries rows ++ e ∷ [] = map-append (λ r. r.entry) rows (new_row e ∷ []) in record {
      extents =
          subst (λ xs. AreSomeOf xs (all_extents (entries rows))) (sym (ap all_extents same ∙ nothing_added (λ f. f.extents) e (entries rows) refl))
          (same_extents (all_extents (entries rows)));
      pinned = λ i pinned. subst (IsPinned i) (sym same) (pinned_new i (entries rows) id name hint sparse now pinned);
    }
