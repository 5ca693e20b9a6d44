-- What a payload spells is in the grammar.
use Rattle.std.proofs.Common.{◌≡◌, ◌≢◌, ℕ, ◌-◌, ◌^◌, ◌<◌, ◌≤◌, true, false, not, eqb, List, [], ◌∷◌, ◌++◌, length, refl, sym, ap, subst, ◌∙◌, arith, inl, inr}
use Rattle.std.specs.Prelude.{IsTrue, IfOk, Result, Ok, Err, unwrap_or}
use Rattle.std.specs.List.{AllByRecursion, filter_map}
use Rattle.std.proofs.lemmas.Bool.{cases_Bool, both_ways, and_parts, eqb-false, or_left, or_right}
use Rattle.std.proofs.lemmas.List.Folds.{list_any-append}
use Rattle.std.proofs.lemmas.Slice.Eq.{bytes_eq-Decides}
use Rattle.record_model.specs.Name.{is_name}
use Rattle.record_model.specs.Encoding.{tag_of}
use Rattle.record_model.specs.FieldDecoding.{has_tag, has_name, is_linked}
use Rattle.record_model.specs.Decoding.{number_of, first_number, piece_of, name_of, entry_of}
use Rattle.record_model.specs.Grammar.{IsField, AreFields, IsEntry, AreEntries, IsExtent, AreApart, IsWritable, InGrammar, Spells}
use Rattle.record_model.specs.declared.types.FileEntry.{FileEntry}
use Rattle.record_model.specs.declared.types.Record.{Record}
use Rattle.record_model.specs.declared.types.Record.TheVariants.{Snapshot, Update, Deletion, End, Replace}
use Rattle.record_model.specs.declared.field.Field.{Field}
use Rattle.record_model.specs.declared.field.Field.TheVariants.{Id, Size, Hint, Piece, Time, Active, Sparse, Linked}
use Rattle.record_codec.specs.declared.error.DecodeError.{DecodeError}
use Rattle.record_codec.proofs.DraftedReading.{named}
use Rattle.record_codec.proofs.FieldLaws.{names_new}

are_in_range : (seen fs : List Field) → AreFields seen fs → AllByRecursion IsField fs
are_in_range seen [] h = tt
are_in_range seen (f ∷ fs) h = (h.0, are_in_range (seen ++ f ∷ []) fs h.2)

-- what holds of the number of each field with this tag holds of the first one
number_holds : (tag : ℕ) (P : ℕ → Type 0) → ((f : Field) → eqb (tag_of f) tag ≡ true → IsField f → P (unwrap_or (number_of f) 0))
    → (fs : List Field) → AllByRecursion IsField fs → has_tag tag fs ≡ true → P (first_number tag fs)
number_holds tag P each [] h there = absurd cc
number_holds tag P each (f ∷ fs) h there =
    elim (cases_Bool (eqb (tag_of f) tag)) [
      | inl hit ↦ rw hit (each f hit h.0)
      | inr miss ↦ rw miss (number_holds tag P each fs h.1 (rw miss at there))
    ]

id_bound : (f : Field) → eqb (tag_of f) 1 ≡ true → IsField f → unwrap_or (number_of f) 0 < 2 ^ 64 - 1
id_bound (Id n) e h = h
id_bound _ e h = absurd cc

size_bound : (f : Field) → eqb (tag_of f) 3 ≡ true → IsField f → unwrap_or (number_of f) 0 < 2 ^ 64
size_bound (Size n) e h = h
size_bound _ e h = absurd cc

hint_bound : (f : Field) → eqb (tag_of f) 4 ≡ true → IsField f → unwrap_or (number_of f) 0 ≤ 5
hint_bound (Hint n) e h = h
hint_bound _ e h = absurd cc

time_bound : (f : Field) → eqb (tag_of f) 6 ≡ true → IsField f → unwrap_or (number_of f) 0 < 2 ^ 64
time_bound (Time n) e h = h
time_bound _ e h = absurd cc

active_bound : (f : Field) → eqb (tag_of f) 7 ≡ true → IsField f → unwrap_or (number_of f) 0 < 2 ^ 64
active_bound (Active n) e h = h
active_bound _ e h = absurd cc

extents_hold : (fs : List Field) → AllByRecursion IsField fs → AllByRecursion IsExtent (filter_map piece_of fs)
extents_hold [] h = tt
extents_hold (Piece e ∷ fs) h = (h.0, extents_hold fs h.1)
extents_hold (Id n ∷ fs) h = extents_hold fs h.1
extents_hold (Size n ∷ fs) h = extents_hold fs h.1
extents_hold (Hint n ∷ fs) h = extents_hold fs h.1
extents_hold (Time n ∷ fs) h = extents_hold fs h.1
extents_hold (Active n ∷ fs) h = extents_hold fs h.1
extents_hold (Sparse ∷ fs) h = extents_hold fs h.1
extents_hold (Linked name ∷ fs) h = extents_hold fs h.1

names_hold : (fs : List Field) → AllByRecursion IsField fs → AllByRecursion (λ name. IsTrue (is_name name)) (filter_map name_of fs)
names_hold [] h = tt
names_hold (Linked name ∷ fs) h = (h.0, names_hold fs h.1)
names_hold (Id n ∷ fs) h = names_hold fs h.1
names_hold (Size n ∷ fs) h = names_hold fs h.1
names_hold (Hint n ∷ fs) h = names_hold fs h.1
names_hold (Piece e ∷ fs) h = names_hold fs h.1
names_hold (Time n ∷ fs) h = names_hold fs h.1
names_hold (Active n ∷ fs) h = names_hold fs h.1
names_hold (Sparse ∷ fs) h = names_hold fs h.1

-- ---- no name stands twice

still_there : (name : List ℕ) (seen : List Field) (f : Field) → has_name name seen ≡ true → has_name name (seen ++ f ∷ []) ≡ true
still_there name seen f h = list_any-append (is_linked name) seen (f ∷ []) ∙ or_left _ _ h

now_there : (name : List ℕ) (seen : List Field) → has_name name (seen ++ Linked name ∷ []) ≡ true
now_there name seen =
    list_any-append (is_linked name) seen (Linked name ∷ []) ∙ or_right _ _ (or_left _ _ ((bytes_eq-Decides name name).1 refl))

later_apart : (name : List ℕ) (seen fs : List Field) → has_name name seen ≡ true → AreFields seen fs → AllByRecursion (λ other. other ≢ name) (filter_map name_of fs)
later_apart name seen [] there h = tt
later_apart name seen (Linked other ∷ fs) there h =
    (λ same. both_ways (has_name other seen) (names_new other seen h.1) (subst (λ (n : List ℕ). has_name n seen ≡ true) (sym same) there), later_apart name (seen ++ Linked other ∷ []) fs (still_there name seen (Linked other) there) h.2)
later_apart name seen (Id n ∷ fs) there h = later_apart name (seen ++ Id n ∷ []) fs (still_there name seen (Id n) there) h.2
later_apart name seen (Size n ∷ fs) there h = later_apart name (seen ++ Size n ∷ []) fs (still_there name seen (Size n) there) h.2
later_apart name seen (Hint n ∷ fs) there h = later_apart name (seen ++ Hint n ∷ []) fs (still_there name seen (Hint n) there) h.2
later_apart name seen (Piece e ∷ fs) there h = later_apart name (seen ++ Piece e ∷ []) fs (still_there name seen (Piece e) there) h.2
later_apart name seen (Time n ∷ fs) there h = later_apart name (seen ++ Time n ∷ []) fs (still_there name seen (Time n) there) h.2
later_apart name seen (Active n ∷ fs) there h = later_apart name (seen ++ Active n ∷ []) fs (still_there name seen (Active n) there) h.2
later_apart name seen (Sparse ∷ fs) there h = later_apart name (seen ++ Sparse ∷ []) fs (still_there name seen Sparse there) h.2

names_apart : (seen fs : List Field) → AreFields seen fs → AreApart (filter_map name_of fs)
names_apart seen [] h = tt
names_apart seen (Linked name ∷ fs) h =
    (later_apart name (seen ++ Linked name ∷ []) fs (now_there name seen) h.2, names_apart (seen ++ Linked name ∷ []) fs h.2)
names_apart seen (Id n ∷ fs) h = names_apart (seen ++ Id n ∷ []) fs h.2
names_apart seen (Size n ∷ fs) h = names_apart (seen ++ Size n ∷ []) fs h.2
names_apart seen (Hint n ∷ fs) h = names_apart (seen ++ Hint n ∷ []) fs h.2
names_apart seen (Piece e ∷ fs) h = names_apart (seen ++ Piece e ∷ []) fs h.2
names_apart seen (Time n ∷ fs) h = names_apart (seen ++ Time n ∷ []) fs h.2
names_apart seen (Active n ∷ fs) h = names_apart (seen ++ Active n ∷ []) fs h.2
names_apart seen (Sparse ∷ fs) h = names_apart (seen ++ Sparse ∷ []) fs h.2

-- ---- records

some_name : (fs : List Field) → has_tag 9 fs ≡ true → 0 < length (filter_map name_of fs)
some_name fs there =
    let test : eqb (length (filter_map name_of fs)) 0 ≡ false = named fs ∙ ap not there in
    let some = eqb-false _ _ test in
    omega arith

entry_valid : (bytes : List ℕ) (e : FileEntry) → IsEntry bytes e → IsWritable e
entry_valid bytes e is =
    let fs = is.0 in
    let range = are_in_range [] is.0 is.2 in
    let t1 = and_parts _ _ is.3 in
    let t3 = and_parts _ _ t1.1 in
    let t4 = and_parts _ _ t3.1 in
    let t6 = and_parts _ _ t4.1 in
    let t7 = and_parts _ _ t6.1 in
    let t9 = and_parts _ _ t7.1 in
    let made : IsWritable (entry_of is.0) = record {
      id = number_holds 1 (λ n. n < 2 ^ 64 - 1) id_bound is.0 range t1.0;
      size = number_holds 3 (λ n. n < 2 ^ 64) size_bound is.0 range t3.0;
      hint = number_holds 4 (λ n. n ≤ 5) hint_bound is.0 range t4.0;
      time = number_holds 6 (λ n. n < 2 ^ 64) time_bound is.0 range t6.0;
      active = number_holds 7 (λ n. n < 2 ^ 64) active_bound is.0 range t7.0;
      extents = extents_hold is.0 range;
      names = names_hold is.0 range;
      named = some_name is.0 t9.0;
      apart = names_apart [] is.0 is.2;
    } in
    subst IsWritable (sym is.4) made

entries_valid : (bytes : List ℕ) (es : List FileEntry) → AreEntries bytes es → AllByRecursion IsWritable es
entries_valid bytes [] are = tt
entries_valid bytes (e ∷ es) are = (entry_valid are.0 e are.4, entries_valid are.1 es are.5)

pub spelled_valid : (payload : List ℕ) (r : Record) → Spells payload r → InGrammar r
spelled_valid payload (Snapshot files) s = entries_valid s.0 files s.3
spelled_valid payload (Update e) s = entry_valid s.0 e s.3
spelled_valid payload (Deletion id name) s = (s.0, s.1)
spelled_valid payload End s = tt
spelled_valid payload (Replace e) s = entry_valid s.0 e s.3

pub is_valid : (payload : List ℕ) (result : Result Record DecodeError) → IfOk result (Spells payload) → IfOk result InGrammar
is_valid payload (Ok r) h = spelled_valid payload r h
is_valid payload (Err e) h = tt
