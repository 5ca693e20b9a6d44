-- The paths of a directory's entries, sorted and each once, are its listing.
use Rattle.std.proofs.Common.{◌≡◌, ℕ, Bool, true, false, cond, ◌&&◌, ◌||◌, List, [], ◌∷◌, filter, map, Option, None, Some, refl, ap, sym, ◌∙◌, subst}
use Rattle.std.specs.Prelude.{nat_eq, is_some}
use Rattle.std.specs.Option.{IsSome}
use Rattle.std.specs.List.{Contains, dedup, list_any}
use Rattle.std.specs.List.Retain.{DiffersFromLast, IsFiltered}
use Rattle.std.specs.List.Sorted.{IsPermutation, IsSorted, IsStrictlySortedBy}
use Rattle.std.specs.Str.{bytes_eq}
use Rattle.std.specs.Ordering.{nat_cmp}
use Rattle.std.specs.Cmp.Lexicographic.{pointwise, slice_cmp, nat_list_cmp_total, nat_list_eq_equiv, texts_ties}
use Rattle.std.proofs.lemmas.Slice.Eq.{bytes_eq-Decides}
use Rattle.std.proofs.lemmas.List.Filters.{dedup_is}
use Rattle.std.proofs.lemmas.List.Kept.{Contains-dedup, Contains-from_dedup, IsStrictlySortedBy-dedup}
use Rattle.std.proofs.lemmas.List.Sorted.{Contains-permutation, IsPermutation-sym}
use Rattle.std.proofs.lemmas.Map.Views.{list_any-from_Contains, Contains-from_any}
use Rattle.host_tree.specs.declared.host_file.HostFile.{HostFile}
use Rattle.host_tree.specs.HostFiles.{IsListing}
use Rattle.host_tree.specs.MemTreeState.{is_in, is_of, last_of, file_at, paths_in}

-- equal tests are of equal texts
same_texts : (x y : List ℕ) → bytes_eq x y ≡ true → x ≡ y
same_texts x y e = (bytes_eq-Decides x y).0 e

-- what an entry adds to what is found, and to what is listed
entry_counts : (p path bytes : List ℕ) (found : Option (List ℕ)) (listed b : Bool) → bytes_eq p path ≡ b
    → (listed || is_some (cond b (Some bytes) found)) ≡ ((bytes_eq p path || listed) || is_some found)
entry_counts p path bytes found listed true e =
    subst (λ (c : Bool). (listed || true) ≡ ((c || listed) || is_some found)) (sym e) (elim listed as (λ l. (l || true) ≡ true) [ true ↦ refl | false ↦ refl ])
entry_counts p path bytes found listed false e = subst (λ (c : Bool). (listed || is_some found) ≡ ((c || listed) || is_some found)) (sym e) refl

-- a file is found exactly where its path is listed, or one was found before
some_listed : (found : Option (List ℕ)) (fs : List HostFile) (dir p : List ℕ)
    → is_some (last_of found fs dir p) ≡ (list_any (bytes_eq p) (paths_in fs dir) || is_some found)
some_listed found [] dir p = refl
some_listed found (f ∷ fs) dir p =
    some_listed (cond (is_of dir p f) (Some f.bytes) found) fs dir p
    ∙ (elim (is_in dir f) as (λ (b : Bool). (list_any (bytes_eq p) (paths_in fs dir) || is_some (cond (b && bytes_eq f.path p) (Some f.bytes) found))
    ≡ (list_any (bytes_eq p) (map (λ (x : HostFile). x.path) (cond b (f ∷ filter (is_in dir) fs) (filter (is_in dir) fs))) || is_some found)) [
      | true ↦ entry_counts p f.path f.bytes found (list_any (bytes_eq p) (paths_in fs dir)) (bytes_eq f.path p) (nat_list_eq_equiv.symm p f.path)
      | false ↦ refl
    ])

-- with nothing found before
or_none : (b : Bool) → (b || false) ≡ b
or_none true = refl
or_none false = refl

listed_found : (files : List HostFile) (dir p : List ℕ) → is_some (file_at files dir p) ≡ list_any (bytes_eq p) (paths_in files dir)
listed_found files dir p = some_listed None files dir p ∙ or_none (list_any (bytes_eq p) (paths_in files dir))

module _ (files : List HostFile) (dir : List ℕ) (ps qs rs : List (List ℕ)) (paths : ps ≡ paths_in files dir) (moved : IsPermutation ps qs) (sorted : IsSorted (slice_cmp nat_cmp) qs) (kept : IsFiltered (DiffersFromLast (pointwise nat_eq)) [] qs rs) where
  once : rs ≡ dedup (pointwise nat_eq) qs
  once = dedup_is (pointwise nat_eq) qs rs kept

  listed_there : (p : List ℕ) → Contains rs p → IsSome (file_at files dir p)
  listed_there p c =
      let in_qs : Contains qs p = Contains-from_dedup (pointwise nat_eq) qs p (subst (λ l. Contains l p) once c) in
      let in_ps : Contains ps p = Contains-permutation qs ps p (IsPermutation-sym ps qs moved) in_qs in
      listed_found files dir p ∙ list_any-from_Contains nat_list_eq_equiv p (paths_in files dir) (subst (λ l. Contains l p) paths in_ps)

  there_listed : (p : List ℕ) → IsSome (file_at files dir p) → Contains rs p
  there_listed p some =
      let in_ps : Contains ps p = subst (λ l. Contains l p) (sym paths) (Contains-from_any same_texts p (paths_in files dir) (sym (listed_found files dir p) ∙ some)) in
      let in_qs : Contains qs p = Contains-permutation ps qs p moved in_ps in
      subst (λ l. Contains l p) (sym once) (Contains-dedup nat_list_eq_equiv same_texts qs p in_qs)

  pub listing_is : IsListing (file_at files) dir rs
  listing_is = record {
    in_order = subst (λ l. IsStrictlySortedBy (slice_cmp nat_cmp) l) (sym once) (IsStrictlySortedBy-dedup nat_list_cmp_total texts_ties qs sorted);
    each = λ p. (listed_there p, there_listed p);
  }
