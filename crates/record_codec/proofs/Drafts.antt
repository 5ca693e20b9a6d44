-- The fields kept by kind say what the list of fields says.
use Rattle.std.proofs.Common.{◌≡◌, ℕ, Bool, true, false, ◌||◌, cond, eqb, is_some, List, [], ◌∷◌, ◌++◌, Option, Some, None, refl, ap, ◌∙◌, inl, inr}
use Rattle.std.specs.Prelude.{⊤}
use Rattle.std.specs.List.{filter_map, list_any}
use Rattle.std.specs.Str.{bytes_eq}
use Rattle.std.proofs.lemmas.Bool.{cases_Bool}
use Rattle.std.proofs.lemmas.List.{append-nil}
use Rattle.std.proofs.lemmas.List.Elements.{filter_map-append}
use Rattle.std.proofs.lemmas.List.Folds.{list_any-append}
use Rattle.std.proofs.Math.Bool.{or-true, or-false}
use Rattle.record_model.specs.Encoding.{tag_of}
use Rattle.record_model.specs.FieldDecoding.{has_tag, has_name}
use Rattle.record_model.specs.Decoding.{number_of, number_in, piece_of, name_of}
use Rattle.record_model.specs.declared.field.Field.{Field}
use Rattle.record_model.specs.declared.field.Field.TheVariants.{Id, Size, Hint, Piece, Time, Active, Sparse, Linked}
use Rattle.record_codec.specs.Draft.{EntryDraft, with_field}

-- the fields of a list, kept by kind
abbrev pub draft_of : List Field → EntryDraft
draft_of fs = record {
  id = number_in 1 fs;
  size = number_in 3 fs;
  hint = number_in 4 fs;
  time = number_in 6 fs;
  active = number_in 7 fs;
  sparse = has_tag 8 fs;
  extents = filter_map piece_of fs;
  names = filter_map name_of fs;
}

-- a tag whose fields are numbers
abbrev IsNumbered : ℕ → Type 0
IsNumbered tag = (f : Field) → eqb (tag_of f) tag ≡ true → is_some (number_of f) ≡ true

pub numbered_1 : IsNumbered 1
numbered_1 (Id n) e = refl
numbered_1 _ e = absurd cc

pub numbered_3 : IsNumbered 3
numbered_3 (Size n) e = refl
numbered_3 _ e = absurd cc

pub numbered_4 : IsNumbered 4
numbered_4 (Hint n) e = refl
numbered_4 _ e = absurd cc

pub numbered_6 : IsNumbered 6
numbered_6 (Time n) e = refl
numbered_6 _ e = absurd cc

pub numbered_7 : IsNumbered 7
numbered_7 (Active n) e = refl
numbered_7 _ e = absurd cc

pub is_some-number_in : (tag : ℕ) → IsNumbered tag → (fs : List Field) → is_some (number_in tag fs) ≡ has_tag tag fs
is_some-number_in tag numbered [] = refl
is_some-number_in tag numbered (f ∷ fs) =
    elim (cases_Bool (eqb (tag_of f) tag)) [
      | inl hit ↦ rw hit (numbered f hit)
      | inr miss ↦ rw miss (is_some-number_in tag numbered fs)
    ]

pub has_drafted_name-of : (name : List ℕ) (fs : List Field) → list_any (bytes_eq name) (filter_map name_of fs) ≡ has_name name fs
has_drafted_name-of name [] = refl
has_drafted_name-of name (Linked other ∷ fs) = ap (λ (b : Bool). bytes_eq name other || b) (has_drafted_name-of name fs)
has_drafted_name-of name (Id n ∷ fs) = has_drafted_name-of name fs
has_drafted_name-of name (Size n ∷ fs) = has_drafted_name-of name fs
has_drafted_name-of name (Hint n ∷ fs) = has_drafted_name-of name fs
has_drafted_name-of name (Piece e ∷ fs) = has_drafted_name-of name fs
has_drafted_name-of name (Time n ∷ fs) = has_drafted_name-of name fs
has_drafted_name-of name (Active n ∷ fs) = has_drafted_name-of name fs
has_drafted_name-of name (Sparse ∷ fs) = has_drafted_name-of name fs

-- ---- one field more

number_in-other : (tag : ℕ) (fs : List Field) (f : Field) → eqb (tag_of f) tag ≡ false → number_in tag (fs ++ f ∷ []) ≡ number_in tag fs
number_in-other tag [] f miss = rw miss refl
number_in-other tag (g ∷ fs) f miss =
    ap (λ (o : Option ℕ). cond (eqb (tag_of g) tag) (number_of g) o) (number_in-other tag fs f miss)

number_in-same : (tag : ℕ) (fs : List Field) (f : Field) → eqb (tag_of f) tag ≡ true → has_tag tag fs ≡ false → number_in tag (fs ++ f ∷ []) ≡ number_of f
number_in-same tag [] f hit new = rw hit refl
number_in-same tag (g ∷ fs) f hit new =
    elim (cases_Bool (eqb (tag_of g) tag)) [
      | inl there ↦ absurd (apart (eqb (tag_of g) tag) (has_tag tag fs) there new)
      | inr miss ↦ rw miss (number_in-same tag fs f hit (rest (eqb (tag_of g) tag) (has_tag tag fs) miss new))
    ]
  where
    apart : (a b : Bool) → a ≡ true → (a || b) ≡ false → ⊥
    apart true b e f = cc
    apart false b e f = cc

    rest : (a b : Bool) → a ≡ false → (a || b) ≡ false → b ≡ false
    rest true b e f = absurd cc
    rest false b e f = f

has_tag-other : (tag : ℕ) (fs : List Field) (f : Field) → eqb (tag_of f) tag ≡ false → has_tag tag (fs ++ f ∷ []) ≡ has_tag tag fs
has_tag-other tag fs f miss =
    list_any-append (λ g. eqb (tag_of g) tag) fs (f ∷ []) ∙ rw miss (or-false (has_tag tag fs))

has_tag-same : (tag : ℕ) (fs : List Field) (f : Field) → eqb (tag_of f) tag ≡ true → has_tag tag (fs ++ f ∷ []) ≡ true
has_tag-same tag fs f hit =
    list_any-append (λ g. eqb (tag_of g) tag) fs (f ∷ []) ∙ rw hit (or-true (has_tag tag fs))

keeps : {A : Type 0} (h : Field → Option A) (fs : List Field) (f : Field) → h f ≡ None → filter_map h (fs ++ f ∷ []) ≡ filter_map h fs
keeps h fs f none = filter_map-append h fs (f ∷ []) ∙ rw none (append-nil (filter_map h fs))

adds : {A : Type 0} (h : Field → Option A) (fs : List Field) (f : Field) (x : A) → h f ≡ Some x → filter_map h (fs ++ f ∷ []) ≡ filter_map h fs ++ x ∷ []
adds h fs f x some = filter_map-append h fs (f ∷ []) ∙ rw some refl

-- a field that may stand once isn't there yet
abbrev pub IsFresh : Field → List Field → Type 0
IsFresh (Id n) fs = has_tag 1 fs ≡ false
IsFresh (Size n) fs = has_tag 3 fs ≡ false
IsFresh (Hint n) fs = has_tag 4 fs ≡ false
IsFresh (Piece e) fs = ⊤
IsFresh (Time n) fs = has_tag 6 fs ≡ false
IsFresh (Active n) fs = has_tag 7 fs ≡ false
IsFresh Sparse fs = has_tag 8 fs ≡ false
IsFresh (Linked name) fs = has_name name fs ≡ false

pub draft_of-push : (fs : List Field) (f : Field) → IsFresh f fs → with_field f (draft_of fs) ≡ draft_of (fs ++ f ∷ [])
draft_of-push fs (Id n) new =
    let f : Field = Id n in
    rw (number_in-same 1 fs f refl new, number_in-other 3 fs f refl, number_in-other 4 fs f refl, number_in-other 6 fs f refl, number_in-other 7 fs f refl, has_tag-other 8 fs f refl, keeps piece_of fs f refl, keeps name_of fs f refl) refl
draft_of-push fs (Size n) new =
    let f : Field = Size n in
    rw (number_in-same 3 fs f refl new, number_in-other 1 fs f refl, number_in-other 4 fs f refl, number_in-other 6 fs f refl, number_in-other 7 fs f refl, has_tag-other 8 fs f refl, keeps piece_of fs f refl, keeps name_of fs f refl) refl
draft_of-push fs (Hint n) new =
    let f : Field = Hint n in
    rw (number_in-same 4 fs f refl new, number_in-other 1 fs f refl, number_in-other 3 fs f refl, number_in-other 6 fs f refl, number_in-other 7 fs f refl, has_tag-other 8 fs f refl, keeps piece_of fs f refl, keeps name_of fs f refl) refl
draft_of-push fs (Piece e) new =
    let f : Field = Piece e in
    rw (number_in-other 1 fs f refl, number_in-other 3 fs f refl, number_in-other 4 fs f refl, number_in-other 6 fs f refl, number_in-other 7 fs f refl, has_tag-other 8 fs f refl, adds piece_of fs f e refl, keeps name_of fs f refl) refl
draft_of-push fs (Time n) new =
    let f : Field = Time n in
    rw (number_in-same 6 fs f refl new, number_in-other 1 fs f refl, number_in-other 3 fs f refl, number_in-other 4 fs f refl, number_in-other 7 fs f refl, has_tag-other 8 fs f refl, keeps piece_of fs f refl, keeps name_of fs f refl) refl
draft_of-push fs (Active n) new =
    let f : Field = Active n in
    rw (number_in-same 7 fs f refl new, number_in-other 1 fs f refl, number_in-other 3 fs f refl, number_in-other 4 fs f refl, number_in-other 6 fs f refl, has_tag-other 8 fs f refl, keeps piece_of fs f refl, keeps name_of fs f refl) refl
draft_of-push fs Sparse new =
    let f : Field = Sparse in
    rw (number_in-other 1 fs f refl, number_in-other 3 fs f refl, number_in-other 4 fs f refl, number_in-other 6 fs f refl, number_in-other 7 fs f refl, has_tag-same 8 fs f refl, keeps piece_of fs f refl, keeps name_of fs f refl) refl
draft_of-push fs (Linked name) new =
    let f : Field = Linked name in
    rw (number_in-other 1 fs f refl, number_in-other 3 fs f refl, number_in-other 4 fs f refl, number_in-other 6 fs f refl, number_in-other 7 fs f refl, has_tag-other 8 fs f refl, keeps piece_of fs f refl, adds name_of fs f name refl) refl
