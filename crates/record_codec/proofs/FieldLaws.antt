-- A field that is read is spelled by the bytes that stand there, and one that was written is read again.
use Rattle.std.proofs.Common.{◌≡◌, ◌≢◌, ℕ, zero, suc, ◌+◌, ◌-◌, ◌^◌, ◌<◌, ◌≤◌, ◌⊎◌, Bool, true, false, ◌&&◌, cond, eqb, ltb, leb, List, [], ◌∷◌, ◌++◌, length, take, drop, Option, Some, None, Result, Ok, refl, sym, ap, subst, ◌∙◌, append_assoc, arith, inl, inr}
use Rattle.std.specs.Int.{Width, w32, w64, from_le_bytes}
use Rattle.std.specs.List.{AllByRecursion, flat_map}
use Rattle.std.specs.Str.{bytes_eq}
use Rattle.std.proofs.lemmas.Slice.Eq.{bytes_eq-Decides}
use Rattle.std.proofs.lemmas.Bool.{both_ways, false_from_ne_true, eqb-true, eqb-false, ne_eqb, lt-ltb, le-leb, ltb-true, leb-true, or_parts, or_from, and_parts}
use Rattle.std.proofs.lemmas.List.{append-nil, take-append-drop, length-append, length-take, length-drop}
use Rattle.record_model.specs.Name.{is_name}
use Rattle.record_model.specs.Numbers.{u32, u64}
use Rattle.record_model.specs.Encoding.{tag_of, kind_tag, slice, value_bytes, field_bytes}
use Rattle.record_model.specs.FieldDecoding.{Cursor, Reads, number, once, single, ranged, extent_of, slice_at, is_linked, has_tag, has_name, kind_of, field_at, fields_at, at_place, ◌>>=◌}
use Rattle.record_model.specs.Grammar.{IsField, MayFollow, AreFields}
use Rattle.record_model.specs.declared.types.Extent.{Extent}
use Rattle.record_model.specs.declared.fault.DecodeFault.{DecodeFault}
use Rattle.record_model.specs.declared.field.Field.{Field}
use Rattle.record_model.specs.declared.field.Field.TheVariants.{Id, Size, Hint, Piece, Time, Active, Sparse, Linked}
use Rattle.record_model.specs.declared.field.FieldKind.{FieldKind}
use Rattle.record_model.specs.declared.field.FieldKind.TheVariants as kinds
use Rattle.record_codec.proofs.Drafts.{IsFresh}
use Rattle.record_codec.proofs.DraftedReading.{seen_value, seen_known, bind_ok, ok_is, field_new, piece_with, linked_with}
use Rattle.record_codec.proofs.Numbers.{IsBytes, IsBytes-take, IsBytes-drop, Took, Took-then, wide32, wide64, number_takes, number_again}
use Rattle.record_codec.proofs.Slices.{slice_takes, slice_again}

-- ---- a fresh field may follow, and the other way round

tags_apart : (tag : ℕ) (fs : List Field) → has_tag tag fs ≡ false → AllByRecursion (λ g. tag_of g ≢ tag) fs
tags_apart tag [] e = tt
tags_apart tag (f ∷ fs) e =
    let tests = or_parts (eqb (tag_of f) tag) (has_tag tag fs) e in
    (eqb-false _ _ tests.0, tags_apart tag fs tests.1)

tags_new : (tag : ℕ) (fs : List Field) → AllByRecursion (λ g. tag_of g ≢ tag) fs → has_tag tag fs ≡ false
tags_new tag [] h = refl
tags_new tag (f ∷ fs) h = or_from (eqb (tag_of f) tag) (has_tag tag fs) (ne_eqb _ _ h.0) (tags_new tag fs h.1)

unlinked : (name : List ℕ) (f : Field) → is_linked name f ≡ false → f ≢ Linked name
unlinked name f e same =
    both_ways (is_linked name f) e (subst (λ (g : Field). is_linked name g ≡ true) (sym same) ((bytes_eq-Decides name name).1 refl))

unlike : (name : List ℕ) (f : Field) → f ≢ Linked name → is_linked name f ≡ false
unlike name (Linked other) h = false_from_ne_true (bytes_eq name other) (λ e. h (ap Linked (sym ((bytes_eq-Decides name other).0 e))))
unlike name _ h = refl

names_apart : (name : List ℕ) (fs : List Field) → has_name name fs ≡ false → AllByRecursion (λ f. f ≢ Linked name) fs
names_apart name [] e = tt
names_apart name (f ∷ fs) e =
    let tests = or_parts (is_linked name f) (has_name name fs) e in
    (unlinked name f tests.0, names_apart name fs tests.1)

pub names_new : (name : List ℕ) (fs : List Field) → AllByRecursion (λ f. f ≢ Linked name) fs → has_name name fs ≡ false
names_new name [] h = refl
names_new name (f ∷ fs) h = or_from (is_linked name f) (has_name name fs) (unlike name f h.0) (names_new name fs h.1)

fresh_follows : (f : Field) (fs : List Field) → IsFresh f fs → MayFollow fs f
fresh_follows (Id n) fs h = tags_apart 1 fs h
fresh_follows (Size n) fs h = tags_apart 3 fs h
fresh_follows (Hint n) fs h = tags_apart 4 fs h
fresh_follows (Piece e) fs h = tt
fresh_follows (Time n) fs h = tags_apart 6 fs h
fresh_follows (Active n) fs h = tags_apart 7 fs h
fresh_follows Sparse fs h = tags_apart 8 fs h
fresh_follows (Linked name) fs h = names_apart name fs h

-- ---- the kind of a tag

chosen : (b : Bool) (k kind : FieldKind) (others : Option FieldKind) → cond b (Some k) others ≡ Some kind → ((b ≡ true) × (k ≡ kind)) ⊎ (others ≡ Some kind)
chosen true k kind others e = inl (refl, cc)
chosen false k kind others e = inr e

tag_chosen : (tag n : ℕ) (k kind : FieldKind) (others : Option FieldKind) → kind_tag k ≡ n → (others ≡ Some kind → kind_tag kind ≡ tag)
    → cond (eqb tag n) (Some k) others ≡ Some kind → kind_tag kind ≡ tag
tag_chosen tag n k kind others is later e =
    elim (chosen (eqb tag n) k kind others e) [
      | inl hit ↦ ap kind_tag (sym hit.1) ∙ is ∙ sym (eqb-true tag n hit.0)
      | inr more ↦ later more
    ]

kind_tag-of : (tag : ℕ) (kind : FieldKind) → kind_of tag ≡ Some kind → kind_tag kind ≡ tag
kind_tag-of tag kind e =
    tag_chosen tag 1 kinds.Id kind _ refl (λ e3. tag_chosen tag 3 kinds.Size kind _ refl (λ e4. tag_chosen tag 4 kinds.Hint kind _ refl (λ e5. tag_chosen tag 5 kinds.Piece kind _ refl (λ e6. tag_chosen tag 6 kinds.Time kind _ refl (λ e7. tag_chosen tag 7 kinds.Active kind _ refl (λ e8. tag_chosen tag 8 kinds.Sparse kind _ refl (λ e9. tag_chosen tag 9 kinds.Linked kind None refl (λ none. absurd cc) e9) e8) e7) e6) e5) e4) e3) e

-- ---- a field that is read

pub ranged_true : {A : Type 0} (b : Bool) (x y : A) → ranged b x ≡ Ok y → (b ≡ true) × (x ≡ y)
ranged_true true x y e = (refl, ok_is x y e)
ranged_true false x y e = absurd cc

single_is : (w : Width) (tag : ℕ) (there : Bool) (c : Cursor) (x : ℕ × Cursor) → single w tag there c ≡ Ok x → number w c ≡ Ok x
single_is w tag there c x e =
    let a = bind_ok (number w c) (λ n. once tag there >>= λ t. Ok n) x e in
    let b = bind_ok (once tag there) (λ t. Ok a.0) x a.2 in
    a.1 ∙ b.2

-- the bytes before the rest spell the field, which is in its range
record IsRead (kind : FieldKind) (bytes : List ℕ) (f : Field) (rest : List ℕ) : Type 0 where
  took : Took bytes (value_bytes f) rest
  in_range : IsField f
  tag : tag_of f ≡ kind_tag kind

wide_is : (tag : ℕ) (there : Bool) (c : Cursor) (x : ℕ × Cursor) → IsBytes c.rest → single w64 tag there c ≡ Ok x → Took c.rest (u64 x.0) x.1.rest × (x.0 < 2 ^ 64)
wide_is tag there c x fits e = number_takes w64 (2 ^ 64) wide64 c x fits (single_is w64 tag there c x e)

piece_bytes : (bytes : List ℕ) → length bytes ≡ 16 → IsBytes bytes → u64 (from_le_bytes w64 (take 8 bytes)) ++ u64 (from_le_bytes w64 (drop 8 bytes)) ≡ bytes
piece_bytes bytes len fits =
    let front = wide64.back (take 8 bytes) (omega (arith, length-take 8 bytes)) (IsBytes-take 8 bytes fits) in
    let back = wide64.back (drop 8 bytes) (omega (arith, length-drop 8 bytes)) (IsBytes-drop 8 bytes fits) in
    ap (λ (x : List ℕ). x ++ u64 (from_le_bytes w64 (drop 8 bytes))) front ∙ ap (λ (x : List ℕ). take 8 bytes ++ x) back ∙ take-append-drop 8 bytes

value_takes : (kind : FieldKind) (fs : List Field) (c : Cursor) (x : Field × Cursor) → IsBytes c.rest → seen_value kind fs c ≡ Ok x → IsRead kind c.rest x.0 x.1.rest
value_takes kinds.Id fs c x fits e =
    let a = bind_ok (single w64 1 (has_tag 1 fs) c) (λ n. ranged (ltb n.0 (2 ^ 64 - 1)) n.0 >>= λ id. Ok (Id id, n.1)) x e in
    let b = bind_ok (ranged (ltb a.0.0 (2 ^ 64 - 1)) a.0.0) (λ id. Ok (Id id, a.0.1)) x a.2 in
    let r = ranged_true (ltb a.0.0 (2 ^ 64 - 1)) a.0.0 b.0 b.1 in
    let t = wide_is 1 (has_tag 1 fs) c a.0 fits a.1 in
    let same : Id a.0.0 ≡ Id b.0 = ap Id r.1 in
    subst (λ (y : Field × Cursor). IsRead kinds.Id c.rest y.0 y.1.rest) (ok_is (Id b.0, a.0.1) x b.2)
    (subst (λ (f : Field). IsRead kinds.Id c.rest f a.0.1.rest) same (record { took = t.0; in_range = ltb-true _ _ r.0; tag = refl }))
value_takes kinds.Size fs c x fits e =
    let a = bind_ok (single w64 3 (has_tag 3 fs) c) (λ n. Ok (Size n.0, n.1)) x e in
    let t = wide_is 3 (has_tag 3 fs) c a.0 fits a.1 in
    subst (λ (y : Field × Cursor). IsRead kinds.Size c.rest y.0 y.1.rest) (ok_is (Size a.0.0, a.0.1) x a.2) (record { took = t.0; in_range = t.1; tag = refl })
value_takes kinds.Hint fs c x fits e =
    let a = bind_ok (single w32 4 (has_tag 4 fs) c) (λ n. ranged (leb n.0 5) n.0 >>= λ hint. Ok (Hint hint, n.1)) x e in
    let b = bind_ok (ranged (leb a.0.0 5) a.0.0) (λ hint. Ok (Hint hint, a.0.1)) x a.2 in
    let r = ranged_true (leb a.0.0 5) a.0.0 b.0 b.1 in
    let t = number_takes w32 (2 ^ 32) wide32 c a.0 fits (single_is w32 4 (has_tag 4 fs) c a.0 a.1) in
    let same : Hint a.0.0 ≡ Hint b.0 = ap Hint r.1 in
    subst (λ (y : Field × Cursor). IsRead kinds.Hint c.rest y.0 y.1.rest) (ok_is (Hint b.0, a.0.1) x b.2)
    (subst (λ (f : Field). IsRead kinds.Hint c.rest f a.0.1.rest) same (record { took = t.0; in_range = leb-true _ _ r.0; tag = refl }))
value_takes kinds.Piece fs c x fits e =
    let a = bind_ok (slice_at c) piece_with x e in
    let bytes = a.0.0 in
    let ok = eqb (length a.0.0) 16 && ltb 0 (from_le_bytes w64 (drop 8 a.0.0)) in
    let b = bind_ok (ranged (eqb (length a.0.0) 16 && ltb 0 (from_le_bytes w64 (drop 8 a.0.0))) a.0.0) (λ bs. Ok (Piece (extent_of bs), a.0.1)) x a.2 in
    let r = ranged_true (eqb (length a.0.0) 16 && ltb 0 (from_le_bytes w64 (drop 8 a.0.0))) a.0.0 b.0 b.1 in
    let tests = and_parts (eqb (length a.0.0) 16) (ltb 0 (from_le_bytes w64 (drop 8 a.0.0))) r.0 in
    let s = slice_takes c a.0 fits a.1 in
    let spelled = piece_bytes a.0.0 (eqb-true _ _ tests.0) s.content_fits in
    let start_fits = wide64.below (take 8 a.0.0) (IsBytes-take 8 a.0.0 s.content_fits) in
    let len_fits = wide64.below (drop 8 a.0.0) (IsBytes-drop 8 a.0.0 s.content_fits) in
    let took : Took c.rest (value_bytes (Piece (extent_of a.0.0))) a.0.1.rest = subst (λ (content : List ℕ). Took c.rest (slice content) a.0.1.rest) (sym spelled) s.took in
    let same : Piece (extent_of a.0.0) ≡ Piece (extent_of b.0) = ap (λ (bs : List ℕ). Piece (extent_of bs)) r.1 in
    subst (λ (y : Field × Cursor). IsRead kinds.Piece c.rest y.0 y.1.rest) (ok_is (Piece (extent_of b.0), a.0.1) x b.2)
    (subst (λ (f : Field). IsRead kinds.Piece c.rest f a.0.1.rest) same (record { took = took; in_range = (start_fits, ltb-true _ _ tests.1, len_fits); tag = refl }))
value_takes kinds.Time fs c x fits e =
    let a = bind_ok (single w64 6 (has_tag 6 fs) c) (λ n. Ok (Time n.0, n.1)) x e in
    let t = wide_is 6 (has_tag 6 fs) c a.0 fits a.1 in
    subst (λ (y : Field × Cursor). IsRead kinds.Time c.rest y.0 y.1.rest) (ok_is (Time a.0.0, a.0.1) x a.2) (record { took = t.0; in_range = t.1; tag = refl })
value_takes kinds.Active fs c x fits e =
    let a = bind_ok (single w64 7 (has_tag 7 fs) c) (λ n. Ok (Active n.0, n.1)) x e in
    let t = wide_is 7 (has_tag 7 fs) c a.0 fits a.1 in
    subst (λ (y : Field × Cursor). IsRead kinds.Active c.rest y.0 y.1.rest) (ok_is (Active a.0.0, a.0.1) x a.2) (record { took = t.0; in_range = t.1; tag = refl })
value_takes kinds.Sparse fs c x fits e =
    let a = bind_ok (once 8 (has_tag 8 fs)) (λ t. Ok (Sparse, c)) x e in
    subst (λ (y : Field × Cursor). IsRead kinds.Sparse c.rest y.0 y.1.rest) (ok_is (Sparse, c) x a.2) (record { took = record { parts = refl; rest_fits = fits }; in_range = tt; tag = refl })
value_takes kinds.Linked fs c x fits e =
    let a = bind_ok (slice_at c) (linked_with (λ name. has_name name fs)) x e in
    let b = bind_ok (once 9 (has_name a.0.0 fs)) (λ t. ranged (is_name a.0.0) a.0.0 >>= λ name. Ok (Linked name, a.0.1)) x a.2 in
    let d = bind_ok (ranged (is_name a.0.0) a.0.0) (λ name. Ok (Linked name, a.0.1)) x b.2 in
    let r = ranged_true (is_name a.0.0) a.0.0 d.0 d.1 in
    let s = slice_takes c a.0 fits a.1 in
    let same : Linked a.0.0 ≡ Linked d.0 = ap Linked r.1 in
    subst (λ (y : Field × Cursor). IsRead kinds.Linked c.rest y.0 y.1.rest) (ok_is (Linked d.0, a.0.1) x d.2)
    (subst (λ (f : Field). IsRead kinds.Linked c.rest f a.0.1.rest) same (record { took = s.took; in_range = r.0; tag = refl }))

known_takes : (tag : ℕ) (kind : Option FieldKind) (fs : List Field) (c : Cursor) (x : Field × Cursor) → kind_of tag ≡ kind → IsBytes c.rest → seen_known tag kind fs c ≡ Ok x
    → Took c.rest (value_bytes x.0) x.1.rest × IsField x.0 × (tag_of x.0 ≡ tag)
known_takes tag None fs c x of_tag fits e = absurd cc
known_takes tag (Some kind) fs c x of_tag fits e =
    let r = value_takes kind fs c x fits e in
    (r.took, r.in_range, r.tag ∙ kind_tag-of tag kind of_tag)

-- a field that was read
pub record IsFieldRead (fs : List Field) (bytes : List ℕ) (f : Field) (rest : List ℕ) : Type 0 where
  pub took : Took bytes (field_bytes f) rest
  pub in_range : IsField f
  pub follows : MayFollow fs f

pub field_takes : (fs : List Field) (c : Cursor) (x : Field × Cursor) → IsBytes c.rest → field_at fs c ≡ Ok x → IsFieldRead fs c.rest x.0 x.1.rest
field_takes fs c x fits e =
    let a = bind_ok (number w32 c) (λ tag. seen_known tag.0 (kind_of tag.0) fs tag.1) x e in
    let t = number_takes w32 (2 ^ 32) wide32 c a.0 fits a.1 in
    let v = known_takes a.0.0 (kind_of a.0.0) fs a.0.1 x refl t.0.rest_fits a.2 in
    let both = Took-then c.rest (u32 a.0.0) a.0.1.rest (value_bytes x.0) x.1.rest t.0 v.0 in
    record {
      took = subst (λ (tag : ℕ). Took c.rest (u32 tag ++ value_bytes x.0) x.1.rest) (sym v.2) both;
      in_range = v.1;
      follows = fresh_follows x.0 fs (field_new fs c x e);
    }

-- ---- a field that was written

tag_again : (fs : List Field) (at tag : ℕ) (value rest : List ℕ) (kind : FieldKind) (x : Field × Cursor) → tag < 2 ^ 32 → kind_of tag ≡ Some kind
    → seen_value kind fs (record { at = at + 4; rest = value ++ rest }) ≡ Ok x → field_at fs (record { at = at; rest = (u32 tag ++ value) ++ rest }) ≡ Ok x
tag_again fs at tag value rest kind x lt of_tag read =
    let regrouped : (u32 tag ++ value) ++ rest ≡ u32 tag ++ (value ++ rest) = append_assoc (u32 tag) value rest in
    let number_read = number_again w32 (2 ^ 32) wide32 at tag (value ++ rest) lt in
    ap (λ (bytes : List ℕ). field_at fs (record { at = at; rest = bytes })) regrouped ∙ go_on (number w32 (record { at = at; rest = u32 tag ++ (value ++ rest) })) number_read
  where
    go_on : (r : Reads ℕ) → r ≡ Ok (tag, record { at = at + 4; rest = value ++ rest }) → (r >>= λ t. seen_known t.0 (kind_of t.0) fs t.1) ≡ Ok x
    go_on r e = rw (e, of_tag) read

-- the place behind is none that matters here
abbrev pub ReadsAgain : List Field → ℕ → Field → List ℕ → Type 0
ReadsAgain fs at f rest = (after : ℕ) × (field_at fs (record { at = at; rest = field_bytes f ++ rest }) ≡ Ok (f, record { at = after; rest = rest }))

wide_again : (tag at n : ℕ) (there : Bool) (rest : List ℕ) → n < 2 ^ 64 → there ≡ false
    → single w64 tag there (record { at = at; rest = u64 n ++ rest }) ≡ Ok (n, record { at = at + 8; rest = rest })
wide_again tag at n there rest lt new = go_on (number w64 (record { at = at; rest = u64 n ++ rest })) (number_again w64 (2 ^ 64) wide64 at n rest lt)
  where
    go_on : (r : Reads ℕ) → r ≡ Ok (n, record { at = at + 8; rest = rest }) → (r >>= λ m. once tag there >>= λ t. Ok m) ≡ Ok (n, record { at = at + 8; rest = rest })
    go_on r e = rw (e, new) refl

narrow_again : (tag at n : ℕ) (there : Bool) (rest : List ℕ) → n < 2 ^ 32 → there ≡ false
    → single w32 tag there (record { at = at; rest = u32 n ++ rest }) ≡ Ok (n, record { at = at + 4; rest = rest })
narrow_again tag at n there rest lt new = go_on (number w32 (record { at = at; rest = u32 n ++ rest })) (number_again w32 (2 ^ 32) wide32 at n rest lt)
  where
    go_on : (r : Reads ℕ) → r ≡ Ok (n, record { at = at + 4; rest = rest }) → (r >>= λ m. once tag there >>= λ t. Ok m) ≡ Ok (n, record { at = at + 4; rest = rest })
    go_on r e = rw (e, new) refl

pub bind_at : {A B E : Type 0} (r : Result A E) (f : A → Result B E) (x : A) → r ≡ Ok x → (r >>= f) ≡ f x
bind_at r f x e = rw e refl

extent_again : (e : Extent) → e.start < 2 ^ 64 → e.len < 2 ^ 64 → extent_of (u64 e.start ++ u64 e.len) ≡ e
extent_again e start len = rw (wide64.again e.start start, wide64.again e.len len) refl

piece_again : (bytes : List ℕ) (d : Cursor) (e : Extent) → (eqb (length bytes) 16 && ltb 0 (from_le_bytes w64 (drop 8 bytes))) ≡ true → extent_of bytes ≡ e → piece_with (bytes, d) ≡ Ok (Piece e, d)
piece_again bytes d e test same = rw (test, same) refl

linked_again : (there : List ℕ → Bool) (name : List ℕ) (d : Cursor) → there name ≡ false → is_name name ≡ true → linked_with there (name, d) ≡ Ok (Linked name, d)
linked_again there name d new is = rw (new, is) refl

pub name_short : (name : List ℕ) → is_name name ≡ true → length name ≤ 255
unfolding is_name
name_short name is =
    let a = and_parts _ _ is in
    let b = and_parts _ _ a.0 in
    let c = and_parts _ _ b.0 in
    leb-true (length name) 255 c.1

pub field_again : (fs : List Field) (at : ℕ) (f : Field) (rest : List ℕ) → IsField f → MayFollow fs f → ReadsAgain fs at f rest
field_again fs at (Id n) rest in_range follows =
    let read = wide_again 1 (at + 4) n (has_tag 1 fs) rest (omega arith) (tags_new 1 fs follows) in
    let test : ltb n (2 ^ 64 - 1) ≡ true = lt-ltb n (2 ^ 64 - 1) in_range in
    (at + 4 + 8, tag_again fs at 1 (u64 n) rest kinds.Id _ (omega arith) refl (bind_at _ (λ m. ranged (ltb m.0 (2 ^ 64 - 1)) m.0 >>= λ id. Ok (Id id, m.1)) _ read ∙ rw test refl))
field_again fs at (Size n) rest in_range follows =
    let read = wide_again 3 (at + 4) n (has_tag 3 fs) rest in_range (tags_new 3 fs follows) in
    (at + 4 + 8, tag_again fs at 3 (u64 n) rest kinds.Size _ (omega arith) refl (bind_at _ (λ m. Ok (Size m.0, m.1)) _ read))
field_again fs at (Hint n) rest in_range follows =
    let read = narrow_again 4 (at + 4) n (has_tag 4 fs) rest (omega arith) (tags_new 4 fs follows) in
    let test : leb n 5 ≡ true = le-leb n 5 in_range in
    (at + 4 + 4, tag_again fs at 4 (u32 n) rest kinds.Hint _ (omega arith) refl (bind_at _ (λ m. ranged (leb m.0 5) m.0 >>= λ hint. Ok (Hint hint, m.1)) _ read ∙ rw test refl))
field_again fs at (Piece e) rest in_range follows =
    let content = u64 e.start ++ u64 e.len in
    let read = slice_again (at + 4) (u64 e.start ++ u64 e.len) rest (omega arith) in
    let below : ltb 0 (from_le_bytes w64 (u64 e.len)) ≡ true = ap (ltb 0) (wide64.again e.len in_range.2) ∙ lt-ltb 0 e.len in_range.1 in
    let value = bind_at _ piece_with _ read ∙ piece_again (u64 e.start ++ u64 e.len) _ e below (extent_again e in_range.0 in_range.2) in
    (_, tag_again fs at 5 (slice (u64 e.start ++ u64 e.len)) rest kinds.Piece _ (omega arith) refl value)
field_again fs at (Time n) rest in_range follows =
    let read = wide_again 6 (at + 4) n (has_tag 6 fs) rest in_range (tags_new 6 fs follows) in
    (at + 4 + 8, tag_again fs at 6 (u64 n) rest kinds.Time _ (omega arith) refl (bind_at _ (λ m. Ok (Time m.0, m.1)) _ read))
field_again fs at (Active n) rest in_range follows =
    let read = wide_again 7 (at + 4) n (has_tag 7 fs) rest in_range (tags_new 7 fs follows) in
    (at + 4 + 8, tag_again fs at 7 (u64 n) rest kinds.Active _ (omega arith) refl (bind_at _ (λ m. Ok (Active m.0, m.1)) _ read))
field_again fs at Sparse rest in_range follows =
    let new = tags_new 8 fs follows in
    (at + 4, tag_again fs at 8 [] rest kinds.Sparse _ (omega arith) refl (rw new refl))
field_again fs at (Linked name) rest in_range follows =
    let read = slice_again (at + 4) name rest (omega (arith, name_short name in_range)) in
    let value = bind_at _ (linked_with (λ n. has_name n fs)) _ read ∙ linked_again (λ n. has_name n fs) name _ (names_new name fs follows) in_range in
    (_, tag_again fs at 9 (slice name) rest kinds.Linked _ (omega arith) refl value)

-- ---- the fields of an entry

abbrev done : List Field → Result (List Field) DecodeFault
done fs = Ok fs

pub field_len : (f : Field) → 4 ≤ length (field_bytes f)
field_len f = omega (arith, length-append (u32 (tag_of f)) (value_bytes f))

pub fields_len : (fs : List Field) → length fs ≤ length (flat_map field_bytes fs)
fields_len [] = omega arith
fields_len (f ∷ fs) =
    let whole = length-append (field_bytes f) (flat_map field_bytes fs) in
    omega (arith, whole, field_len f, fields_len fs)

pub fields_again-within : (k : ℕ) (fs : List Field) (at : ℕ) (gs : List Field) → AreFields fs gs → length gs ≤ k
    → fields_at k fs (record { at = at; rest = flat_map field_bytes gs }) ≡ Ok (fs ++ gs)
fields_again-within zero fs at [] are le = rw append-nil refl
fields_again-within zero fs at (g ∷ gs) are le = absurd (omega arith)
fields_again-within (suc k) fs at [] are le = rw append-nil refl
fields_again-within (suc k) fs at (g ∷ gs) are le =
    let whole = length-append (field_bytes g) (flat_map field_bytes gs) in
    let some : eqb (length (field_bytes g ++ flat_map field_bytes gs)) 0 ≡ false = ne_eqb _ _ (λ none. omega (arith, field_len g, whole)) in
    let read = field_again fs at g (flat_map field_bytes gs) are.0 are.1 in
    let later = fields_again-within k (fs ++ g ∷ []) read.0 gs are.2 (omega arith) in
    rw some (bind_at (at_place at (field_at fs (record { at = at; rest = field_bytes g ++ flat_map field_bytes gs }))) (λ f. fields_at k (fs ++ f.0 ∷ []) f.1) _ (ap (at_place at) read.1) ∙ later ∙ ap done (append_assoc fs (g ∷ []) gs))
