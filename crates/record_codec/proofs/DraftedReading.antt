-- Reading beside the fields kept by kind is reading beside the list of fields.
use Rattle.std.proofs.Common.{◌≡◌, ℕ, zero, suc, ◌-◌, ◌^◌, ◌&&◌, Bool, true, false, not, eqb, ltb, leb, is_some, List, [], ◌∷◌, ◌++◌, length, drop, Option, Some, None, Result, Ok, Err, refl, sym, ap, subst, ◌∙◌, arith, inl, inr}
use Rattle.std.specs.Int.{Width, w32, w64, from_le_bytes}
use Rattle.std.specs.List.{filter_map}
use Rattle.std.proofs.lemmas.Bool.{cases_Bool, ne_eqb}
use Rattle.record_model.specs.FieldDecoding.{Cursor, Reads, at_place, number, once, single, ranged, extent_of, slice_at, name_at, has_tag, has_name, kind_of, value_at, known_value, field_at, fields_at, ◌>>=◌}
use Rattle.record_model.specs.Decoding.{number_in, name_of, missing_from, required_tags, complete, entry_at}
use Rattle.record_model.specs.Name.{is_name}
use Rattle.record_model.specs.declared.fault.DecodeFault.{DecodeFault}
use Rattle.record_model.specs.declared.field.Field.{Field}
use Rattle.record_model.specs.declared.field.Field.TheVariants.{Id, Size, Hint, Piece, Time, Active, Sparse, Linked}
use Rattle.record_model.specs.declared.field.FieldKind.{FieldKind}
use Rattle.record_model.specs.declared.field.FieldKind.TheVariants as kinds
use Rattle.record_codec.specs.Draft.{EntryDraft, with_field, finished, has_drafted_tag, has_drafted_name}
use Rattle.record_codec.specs.DraftedField.{drafted_field_at, drafted_step, drafted_fields_at, drafted_entry_at}
use Rattle.record_codec.proofs.Drafts.{draft_of, draft_of-push, IsFresh, is_some-number_in, numbered_1, numbered_3, numbered_4, numbered_6, numbered_7, has_drafted_name-of}

-- the value of a step that did not fail
pub bind_ok : {A B E : Type 0} (r : Result A E) (f : A → Result B E) (y : B) → (r >>= f) ≡ Ok y → (x : A) × (r ≡ Ok x) × (f x ≡ Ok y)
bind_ok (Ok x) f y e = (x, refl, e)
bind_ok (Err d) f y e = absurd cc

abbrev done : {A E : Type 0} → A → Result A E
done x = Ok x

pub ok_is : {A E : Type 0} (x y : A) → done {E = E} x ≡ done y → x ≡ y
ok_is x y e = cc

-- ---- the same value

-- the extent of a slice that was read
abbrev pub piece_with : List ℕ × Cursor → Reads Field
piece_with s = do
  bytes ← ranged (eqb (length s.0) 16 && ltb 0 (from_le_bytes w64 (drop 8 s.0))) s.0
  Ok (Piece (extent_of bytes), s.1)

-- the entry with a field that was read
abbrev add_to : List Field → Field × Cursor → Result (EntryDraft × Cursor) DecodeFault
add_to fs f = Ok (with_field f.0 (draft_of fs), f.1)

pub ranged_is : {A : Type 0} (b : Bool) (x y : A) → ranged b x ≡ Ok y → x ≡ y
ranged_is true x y e = ok_is x y e
ranged_is false x y e = absurd cc

-- the name of a slice that was read
abbrev pub linked_with : (List ℕ → Bool) → List ℕ × Cursor → Reads Field
linked_with there s = do
  t ← once 9 (there s.0)
  name ← ranged (is_name s.0) s.0
  Ok (Linked name, s.1)

name_at-same : (p q : List ℕ → Bool) → ((name : List ℕ) → p name ≡ q name) → (c : Cursor) → name_at p c ≡ name_at q c
name_at-same p q same c = behind (slice_at c)
  where
    behind : (read : Reads (List ℕ)) → (read >>= linked_with p) ≡ (read >>= linked_with q)
    behind (Ok s) = rw (same s.0) refl
    behind (Err e) = refl

-- the value of a field, where these fields stand before it
abbrev pub seen_value : FieldKind → List Field → Cursor → Reads Field
seen_value kind fs c = value_at kind (λ tag. has_tag tag fs) (λ name. has_name name fs) c

-- the value behind a tag, where these fields stand before it
abbrev pub seen_known : ℕ → Option FieldKind → List Field → Cursor → Reads Field
seen_known tag kind fs c = known_value tag kind (λ t. has_tag t fs) (λ name. has_name name fs) c

-- the same, where the fields of this draft do
abbrev drafted_value : FieldKind → EntryDraft → Cursor → Reads Field
drafted_value kind d c = value_at kind (λ tag. has_drafted_tag tag d) (λ name. has_drafted_name name d) c

abbrev drafted_known : ℕ → Option FieldKind → EntryDraft → Cursor → Reads Field
drafted_known tag kind d c = known_value tag kind (λ t. has_drafted_tag t d) (λ name. has_drafted_name name d) c

drafted_value-same : (kind : FieldKind) (fs : List Field) (c : Cursor) → drafted_value kind (draft_of fs) c ≡ seen_value kind fs c
drafted_value-same kinds.Id fs c = rw (is_some-number_in 1 numbered_1 fs) refl
drafted_value-same kinds.Size fs c = rw (is_some-number_in 3 numbered_3 fs) refl
drafted_value-same kinds.Hint fs c = rw (is_some-number_in 4 numbered_4 fs) refl
drafted_value-same kinds.Piece fs c = refl
drafted_value-same kinds.Time fs c = rw (is_some-number_in 6 numbered_6 fs) refl
drafted_value-same kinds.Active fs c = rw (is_some-number_in 7 numbered_7 fs) refl
drafted_value-same kinds.Sparse fs c = refl
drafted_value-same kinds.Linked fs c = name_at-same _ _ (λ name. has_drafted_name-of name fs) c

drafted_known-same : (tag : ℕ) (kind : Option FieldKind) (fs : List Field) (c : Cursor) → drafted_known tag kind (draft_of fs) c ≡ seen_known tag kind fs c
drafted_known-same tag None fs c = refl
drafted_known-same tag (Some kind) fs c = drafted_value-same kind fs c

pub drafted_field-same : (fs : List Field) (c : Cursor) → drafted_field_at (draft_of fs) c ≡ field_at fs c
unfolding drafted_field_at
drafted_field-same fs c = behind (number w32 c)
  where
    behind : (read : Reads ℕ) → (read >>= λ tag. drafted_known tag.0 (kind_of tag.0) (draft_of fs) tag.1) ≡ (read >>= λ tag. seen_known tag.0 (kind_of tag.0) fs tag.1)
    behind (Ok tag) = drafted_known-same tag.0 (kind_of tag.0) fs tag.1
    behind (Err e) = refl

-- ---- a field that was read is a new one

pub once_new : (tag : ℕ) (there : Bool) (y : ℕ) → once tag there ≡ Ok y → there ≡ false
once_new tag true y e = absurd cc
once_new tag false y e = refl

single_new : (w : Width) (tag : ℕ) (there : Bool) (c : Cursor) (x : ℕ × Cursor) → single w tag there c ≡ Ok x → there ≡ false
single_new w tag there c x e =
    let a = bind_ok (number w c) (λ n. once tag there >>= λ t. Ok n) x e in
    let b = bind_ok (once tag there) (λ t. Ok a.0) x a.2 in
    once_new tag there b.0 b.1

value_new : (kind : FieldKind) (fs : List Field) (c : Cursor) (x : Field × Cursor) → seen_value kind fs c ≡ Ok x → IsFresh x.0 fs
value_new kinds.Id fs c x e =
    let a = bind_ok (single w64 1 (has_tag 1 fs) c) (λ n. ranged (ltb n.0 (2 ^ 64 - 1)) n.0 >>= λ id. Ok (Id id, n.1)) x e in
    let b = bind_ok (ranged (ltb a.0.0 (2 ^ 64 - 1)) a.0.0) (λ id. Ok (Id id, a.0.1)) x a.2 in
    subst (λ (y : Field × Cursor). IsFresh y.0 fs) (ok_is (Id b.0, a.0.1) x b.2) (single_new w64 1 (has_tag 1 fs) c a.0 a.1)
value_new kinds.Size fs c x e =
    let a = bind_ok (single w64 3 (has_tag 3 fs) c) (λ n. Ok (Size n.0, n.1)) x e in
    subst (λ (y : Field × Cursor). IsFresh y.0 fs) (ok_is (Size a.0.0, a.0.1) x a.2) (single_new w64 3 (has_tag 3 fs) c a.0 a.1)
value_new kinds.Hint fs c x e =
    let a = bind_ok (single w32 4 (has_tag 4 fs) c) (λ n. ranged (leb n.0 5) n.0 >>= λ hint. Ok (Hint hint, n.1)) x e in
    let b = bind_ok (ranged (leb a.0.0 5) a.0.0) (λ hint. Ok (Hint hint, a.0.1)) x a.2 in
    subst (λ (y : Field × Cursor). IsFresh y.0 fs) (ok_is (Hint b.0, a.0.1) x b.2) (single_new w32 4 (has_tag 4 fs) c a.0 a.1)
value_new kinds.Piece fs c x e =
    let a = bind_ok (slice_at c) piece_with x e in
    let b = bind_ok (ranged (eqb (length a.0.0) 16 && ltb 0 (from_le_bytes w64 (drop 8 a.0.0))) a.0.0) (λ bytes. Ok (Piece (extent_of bytes), a.0.1)) x a.2 in
    subst (λ (y : Field × Cursor). IsFresh y.0 fs) (ok_is (Piece (extent_of b.0), a.0.1) x b.2) tt
value_new kinds.Time fs c x e =
    let a = bind_ok (single w64 6 (has_tag 6 fs) c) (λ n. Ok (Time n.0, n.1)) x e in
    subst (λ (y : Field × Cursor). IsFresh y.0 fs) (ok_is (Time a.0.0, a.0.1) x a.2) (single_new w64 6 (has_tag 6 fs) c a.0 a.1)
value_new kinds.Active fs c x e =
    let a = bind_ok (single w64 7 (has_tag 7 fs) c) (λ n. Ok (Active n.0, n.1)) x e in
    subst (λ (y : Field × Cursor). IsFresh y.0 fs) (ok_is (Active a.0.0, a.0.1) x a.2) (single_new w64 7 (has_tag 7 fs) c a.0 a.1)
value_new kinds.Sparse fs c x e =
    let a = bind_ok (once 8 (has_tag 8 fs)) (λ t. Ok (Sparse, c)) x e in
    subst (λ (y : Field × Cursor). IsFresh y.0 fs) (ok_is (Sparse, c) x a.2) (once_new 8 (has_tag 8 fs) a.0 a.1)
value_new kinds.Linked fs c x e =
    let a = bind_ok (slice_at c) (linked_with (λ name. has_name name fs)) x e in
    let b = bind_ok (once 9 (has_name a.0.0 fs)) (λ t. ranged (is_name a.0.0) a.0.0 >>= λ name. Ok (Linked name, a.0.1)) x a.2 in
    let named = bind_ok (ranged (is_name a.0.0) a.0.0) (λ name. Ok (Linked name, a.0.1)) x b.2 in
    let same : a.0.0 ≡ named.0 = ranged_is (is_name a.0.0) a.0.0 named.0 named.1 in
    let new : has_name named.0 fs ≡ false = subst (λ (name : List ℕ). has_name name fs ≡ false) same (once_new 9 (has_name a.0.0 fs) b.0 b.1) in
    subst (λ (y : Field × Cursor). IsFresh y.0 fs) (ok_is (Linked named.0, a.0.1) x named.2) new

known_new : (tag : ℕ) (kind : Option FieldKind) (fs : List Field) (c : Cursor) (x : Field × Cursor) → seen_known tag kind fs c ≡ Ok x → IsFresh x.0 fs
known_new tag None fs c x e = absurd cc
known_new tag (Some kind) fs c x e = value_new kind fs c x e

pub field_new : (fs : List Field) (c : Cursor) (x : Field × Cursor) → field_at fs c ≡ Ok x → IsFresh x.0 fs
field_new fs c x e =
    let a = bind_ok (number w32 c) (λ tag. seen_known tag.0 (kind_of tag.0) fs tag.1) x e in
    known_new a.0.0 (kind_of a.0.0) fs a.0.1 x a.2

-- ---- all the fields

abbrev drafted : List Field → Result EntryDraft DecodeFault
drafted fs = Ok (draft_of fs)

step-same : (k : ℕ) (fs : List Field) (c : Cursor) (read : Reads Field) → field_at fs c ≡ read
    → ((gs : List Field) (d : Cursor) → drafted_fields_at k (draft_of gs) d ≡ (fields_at k gs d >>= drafted))
    → ((at_place c.at read >>= add_to fs) >>= λ next. drafted_fields_at k next.0 next.1)
    ≡ ((at_place c.at read >>= λ f. fields_at k (fs ++ f.0 ∷ []) f.1) >>= drafted)
step-same k fs c (Ok f) e later = rw (draft_of-push fs f.0 (field_new fs c f e)) (later (fs ++ f.0 ∷ []) f.1)
step-same k fs c (Err why) e later = refl

fields-same : (k : ℕ) (fs : List Field) (c : Cursor) → drafted_fields_at k (draft_of fs) c ≡ (fields_at k fs c >>= drafted)
unfolding drafted_fields_at drafted_step
fields-same zero fs c = refl
fields-same (suc k) fs c =
    elim (cases_Bool (eqb (length c.rest) 0)) [
      | inl none ↦ rw none refl
      | inr some ↦ rw (some, drafted_field-same fs c) (step-same k fs c (field_at fs c) refl (λ gs d. fields-same k gs d))
    ]

-- ---- the entry

pub named : (fs : List Field) → eqb (length (filter_map name_of fs)) 0 ≡ not (has_tag 9 fs)
named [] = refl
named (Linked name ∷ fs) = ne_eqb _ _ (λ none. omega arith)
named (Id n ∷ fs) = named fs
named (Size n ∷ fs) = named fs
named (Hint n ∷ fs) = named fs
named (Piece e ∷ fs) = named fs
named (Time n ∷ fs) = named fs
named (Active n ∷ fs) = named fs
named (Sparse ∷ fs) = named fs

has_some : (tag : ℕ) (fs : List Field) (o : Option ℕ) → is_some (number_in tag fs) ≡ has_tag tag fs → number_in tag fs ≡ o → has_tag tag fs ≡ is_some o
has_some tag fs o h e = sym h ∙ ap is_some e

finished-from : (at : ℕ) (fs : List Field) (o1 o3 o4 o6 o7 : Option ℕ) (linked : Bool)
    → number_in 1 fs ≡ o1 → number_in 3 fs ≡ o3 → number_in 4 fs ≡ o4 → number_in 6 fs ≡ o6 → number_in 7 fs ≡ o7 → has_tag 9 fs ≡ linked
    → finished at (draft_of fs) ≡ complete at fs (missing_from required_tags fs)
unfolding finished
finished-from at fs None o3 o4 o6 o7 linked e1 e3 e4 e6 e7 e9 =
    let h1 = has_some 1 fs None (is_some-number_in 1 numbered_1 fs) e1 in
    rw (e1, h1) refl
finished-from at fs (Some id) None o4 o6 o7 linked e1 e3 e4 e6 e7 e9 =
    let h1 = has_some 1 fs (Some id) (is_some-number_in 1 numbered_1 fs) e1 in
    let h3 = has_some 3 fs None (is_some-number_in 3 numbered_3 fs) e3 in
    rw (e1, e3, h1, h3) refl
finished-from at fs (Some id) (Some size) None o6 o7 linked e1 e3 e4 e6 e7 e9 =
    let h1 = has_some 1 fs (Some id) (is_some-number_in 1 numbered_1 fs) e1 in
    let h3 = has_some 3 fs (Some size) (is_some-number_in 3 numbered_3 fs) e3 in
    let h4 = has_some 4 fs None (is_some-number_in 4 numbered_4 fs) e4 in
    rw (e1, e3, e4, h1, h3, h4) refl
finished-from at fs (Some id) (Some size) (Some hint) None o7 linked e1 e3 e4 e6 e7 e9 =
    let h1 = has_some 1 fs (Some id) (is_some-number_in 1 numbered_1 fs) e1 in
    let h3 = has_some 3 fs (Some size) (is_some-number_in 3 numbered_3 fs) e3 in
    let h4 = has_some 4 fs (Some hint) (is_some-number_in 4 numbered_4 fs) e4 in
    let h6 = has_some 6 fs None (is_some-number_in 6 numbered_6 fs) e6 in
    rw (e1, e3, e4, e6, h1, h3, h4, h6) refl
finished-from at fs (Some id) (Some size) (Some hint) (Some time) None linked e1 e3 e4 e6 e7 e9 =
    let h1 = has_some 1 fs (Some id) (is_some-number_in 1 numbered_1 fs) e1 in
    let h3 = has_some 3 fs (Some size) (is_some-number_in 3 numbered_3 fs) e3 in
    let h4 = has_some 4 fs (Some hint) (is_some-number_in 4 numbered_4 fs) e4 in
    let h6 = has_some 6 fs (Some time) (is_some-number_in 6 numbered_6 fs) e6 in
    let h7 = has_some 7 fs None (is_some-number_in 7 numbered_7 fs) e7 in
    rw (e1, e3, e4, e6, e7, h1, h3, h4, h6, h7) refl
finished-from at fs (Some id) (Some size) (Some hint) (Some time) (Some active) false e1 e3 e4 e6 e7 e9 =
    let h1 = has_some 1 fs (Some id) (is_some-number_in 1 numbered_1 fs) e1 in
    let h3 = has_some 3 fs (Some size) (is_some-number_in 3 numbered_3 fs) e3 in
    let h4 = has_some 4 fs (Some hint) (is_some-number_in 4 numbered_4 fs) e4 in
    let h6 = has_some 6 fs (Some time) (is_some-number_in 6 numbered_6 fs) e6 in
    let h7 = has_some 7 fs (Some active) (is_some-number_in 7 numbered_7 fs) e7 in
    rw (e1, e3, e4, e6, e7, named fs, h1, h3, h4, h6, h7, e9) refl
finished-from at fs (Some id) (Some size) (Some hint) (Some time) (Some active) true e1 e3 e4 e6 e7 e9 =
    let h1 = has_some 1 fs (Some id) (is_some-number_in 1 numbered_1 fs) e1 in
    let h3 = has_some 3 fs (Some size) (is_some-number_in 3 numbered_3 fs) e3 in
    let h4 = has_some 4 fs (Some hint) (is_some-number_in 4 numbered_4 fs) e4 in
    let h6 = has_some 6 fs (Some time) (is_some-number_in 6 numbered_6 fs) e6 in
    let h7 = has_some 7 fs (Some active) (is_some-number_in 7 numbered_7 fs) e7 in
    rw (named fs, h1, h3, h4, h6, h7, e9, e1, e3, e4, e6, e7) refl

finished-same : (at : ℕ) (fs : List Field) → finished at (draft_of fs) ≡ complete at fs (missing_from required_tags fs)
finished-same at fs = finished-from at fs _ _ _ _ _ _ refl refl refl refl refl refl

entry-finished : (at : ℕ) (read : Result (List Field) DecodeFault)
    → ((read >>= drafted) >>= finished at) ≡ (read >>= λ fs. complete at fs (missing_from required_tags fs))
entry-finished at (Ok fs) = finished-same at fs
entry-finished at (Err fault) = refl

pub drafted_entry-same : (c : Cursor) → drafted_entry_at c ≡ entry_at c
unfolding drafted_entry_at entry_at
drafted_entry-same c =
    ap (λ (read : Result EntryDraft DecodeFault). read >>= finished c.at) (fields-same (length c.rest) [] c) ∙ entry-finished c.at (fields_at (length c.rest) [] c)
