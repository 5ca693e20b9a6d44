-- A payload spells the record that is read from it, and a payload that spells a record is read as that record.
use Rattle.std.proofs.Common.{◌≡◌, ℕ, zero, suc, ◌+◌, ◌-◌, ◌^◌, ◌/◌, ◌%◌, ◌<◌, ◌≤◌, ◌⊎◌, Bool, true, false, cond, eqb, ltb, List, [], ◌∷◌, ◌++◌, length, Option, Some, None, Result, Ok, Err, refl, sym, ap, subst, ◌∙◌, append_assoc, arith, inl, inr}
use Rattle.std.specs.Prelude.{IfOk}
use Rattle.record_codec.specs.declared.error.DecodeError.{DecodeError}
use Rattle.record_codec.specs.Outcome.{Gives}
use Rattle.std.specs.Int.{w32, w64}
use Rattle.std.specs.List.{flat_map, list_all}
use Rattle.std.proofs.lemmas.Bool.{cases_Bool, cond_both, eqb-true, ne_eqb, lt-ltb, ltb-true, and_parts}
use Rattle.std.proofs.lemmas.List.{append-nil, nil_from_length, length-append}
use Rattle.record_model.specs.Name.{is_name}
use Rattle.record_model.specs.Numbers.{u32, u64, varint, varint_within}
use Rattle.record_model.specs.Encoding.{slice, field_bytes, record_tag}
use Rattle.record_model.specs.FieldDecoding.{Cursor, number, ranged, slice_at, has_tag, field_at, fields_at, at_place, ◌>>=◌}
use Rattle.record_model.specs.Decoding.{entry_of, missing_from, required_tags, complete, entry_at, inside_at, sliced_entry_at, entries_at, ended, deletion_at, record_kind_of, sliced, snapshot_at, update_at, replacement_at, record_with, record_of}
use Rattle.record_model.specs.Grammar.{AreFields, IsEntry, AreEntries, Spells}
use Rattle.record_model.specs.declared.types.FileEntry.{FileEntry}
use Rattle.record_model.specs.declared.types.Record.{Record}
use Rattle.record_model.specs.declared.types.Record.TheVariants.{Snapshot, Update, Deletion, End, Replace}
use Rattle.record_model.specs.declared.fault.DecodeFault.{DecodeFault}
use Rattle.record_model.specs.declared.fault.Why.{Why}
use Rattle.record_model.specs.declared.field.Field.{Field}
use Rattle.record_model.specs.declared.field.RecordKind.{RecordKind}
use Rattle.record_model.specs.declared.field.RecordKind.TheVariants as kinds
use Rattle.record_codec.proofs.DraftedReading.{bind_ok, ok_is}
use Rattle.record_codec.proofs.Numbers.{IsBytes, Took, wide32, wide64, number_takes, number_again}
use Rattle.record_codec.proofs.Slices.{slice_takes, slice_again}
use Rattle.record_codec.proofs.Varints.{len_within}
use Rattle.record_codec.proofs.FieldLaws.{field_takes, fields_again-within, field_len, fields_len, bind_at, ranged_true, name_short}

abbrev some_tag : ℕ → Option ℕ
some_tag tag = Some tag

abbrev ok_entry : FileEntry → Result FileEntry DecodeFault
ok_entry e = Ok e

abbrev ok_entries : List FileEntry → Result (List FileEntry) DecodeFault
ok_entries es = Ok es

abbrev ok_inside : List ℕ × Cursor → Result (Cursor × Cursor) DecodeFault
ok_inside s = Ok (record { at = s.1.at - length s.0; rest = s.0 }, s.1)

abbrev ok_record : Record → Result Record DecodeFault
ok_record r = Ok r

placed_ok : {A : Type 0} (at : ℕ) (r : Result A Why) (x : A) → at_place at r ≡ Ok x → r ≡ Ok x
placed_ok at (Ok y) x e = ap (λ z. Ok z) (ok_is y x e)
placed_ok at (Err why) x e = absurd cc

-- ---- the fields of an entry

-- the fields behind those that were seen
abbrev AreRead : List Field → List ℕ → List Field → Type 0
AreRead seen bytes all = (more : List Field) × (all ≡ seen ++ more) × (bytes ≡ flat_map field_bytes more) × AreFields seen more

none_left : (seen : List Field) (bytes : List ℕ) (all : List Field) → length bytes ≡ 0 → seen ≡ all → AreRead seen bytes all
none_left seen bytes all none same = ([], sym same ∙ sym (append-nil seen), nil_from_length bytes none, tt)

fields_take : (k : ℕ) (seen : List Field) (c : Cursor) (all : List Field) → IsBytes c.rest → length c.rest ≤ k → fields_at k seen c ≡ Ok all → AreRead seen c.rest all
fields_take zero seen c all fits le e = none_left seen c.rest all (omega arith) (ok_is seen all e)
fields_take (suc k) seen c all fits le e =
    elim (cases_Bool (eqb (length c.rest) 0)) [
      | inl none ↦ none_left seen c.rest all (eqb-true _ _ none) (ok_is seen all (rw none at e))
      | inr some ↦
          let a = bind_ok (at_place c.at (field_at seen c)) (λ f. fields_at k (seen ++ f.0 ∷ []) f.1) all (rw some at e) in
          let read = field_takes seen c a.0 fits (placed_ok c.at (field_at seen c) a.0 a.1) in
          let sizes = ap length read.took.parts ∙ length-append (field_bytes a.0.0) a.0.1.rest in
          let later = fields_take k (seen ++ a.0.0 ∷ []) a.0.1 all read.took.rest_fits (omega (arith, sizes, field_len a.0.0)) a.2 in
          (a.0.0 ∷ later.0, later.1 ∙ append_assoc seen (a.0.0 ∷ []) later.0, read.took.parts ∙ ap (λ (r : List ℕ). field_bytes a.0.0 ++ r) later.2, (read.in_range, read.follows, later.3))
    ]

missing_none : (tags : List ℕ) (fs : List Field) → list_all (λ tag. has_tag tag fs) tags ≡ true → missing_from tags fs ≡ None
missing_none [] fs e = refl
missing_none (tag ∷ tags) fs e =
    let tests = and_parts (has_tag tag fs) (list_all (λ t. has_tag t fs) tags) e in
    rw tests.0 (missing_none tags fs tests.1)

none_missing : (tags : List ℕ) (fs : List Field) → missing_from tags fs ≡ None → list_all (λ tag. has_tag tag fs) tags ≡ true
none_missing [] fs e = refl
none_missing (tag ∷ tags) fs e =
    elim (cases_Bool (has_tag tag fs)) [
      | inl there ↦ rw there (none_missing tags fs (rw there at e))
      | inr wanting ↦ let same : some_tag tag ≡ None = sym (rw wanting refl) ∙ e in absurd cc
    ]

-- an entry that misses nothing
record IsComplete (fs : List Field) (e : FileEntry) : Type 0 where
  whole : missing_from required_tags fs ≡ None
  entry : entry_of fs ≡ e

complete_is : (at : ℕ) (fs : List Field) (o : Option ℕ) (e : FileEntry) → missing_from required_tags fs ≡ o → complete at fs o ≡ Ok e → IsComplete fs e
complete_is at fs None e is read = record { whole = is; entry = ok_is (entry_of fs) e read }
complete_is at fs (Some tag) e is read = absurd cc

pub entry_takes : (c : Cursor) (e : FileEntry) → IsBytes c.rest → entry_at c ≡ Ok e → IsEntry c.rest e
unfolding entry_at
entry_takes c e fits read =
    let a = bind_ok (fields_at (length c.rest) [] c) (λ fs. complete c.at fs (missing_from required_tags fs)) e read in
    let fields = fields_take (length c.rest) [] c a.0 fits (omega arith) a.1 in
    let whole = complete_is c.at a.0 (missing_from required_tags a.0) e refl a.2 in
    subst (λ (all : List Field). IsComplete all e → IsEntry c.rest e) (sym fields.1) (λ done. (fields.0, fields.2, fields.3, none_missing required_tags fields.0 done.whole, sym done.entry)) whole

pub entry_again : (at : ℕ) (bytes : List ℕ) (e : FileEntry) → IsEntry bytes e → entry_at (record { at = at; rest = bytes }) ≡ Ok e
unfolding entry_at
entry_again at bytes e is =
    let le : length is.0 ≤ length bytes = omega (arith, fields_len is.0, ap length is.1) in
    let read : fields_at (length bytes) [] (record { at = at; rest = bytes }) ≡ Ok is.0 = ap (λ (r : List ℕ). fields_at (length bytes) [] (record { at = at; rest = r })) is.1 ∙ fields_again-within (length bytes) [] at is.0 is.2 le in
    bind_at (fields_at (length bytes) [] (record { at = at; rest = bytes })) (λ fs. complete at fs (missing_from required_tags fs)) is.0 read
    ∙ rw (missing_none required_tags is.0 is.3) (ap (λ (x : FileEntry). ok_entry x) (sym is.4))

-- ---- slices of entries

-- the inside of a slice that was read
record IsInside (c : Cursor) (x : Cursor × Cursor) : Type 0 where
  took : Took c.rest (slice x.0.rest) x.1.rest
  below : length x.0.rest < 2 ^ 32
  content_fits : IsBytes x.0.rest

inside_takes : (c : Cursor) (x : Cursor × Cursor) → IsBytes c.rest → inside_at c ≡ Ok x → IsInside c x
inside_takes c x fits e =
    let a = bind_ok (at_place c.at (slice_at c)) ok_inside x e in
    let s = slice_takes c a.0 fits (placed_ok c.at (slice_at c) a.0 a.1) in
    subst (IsInside c) (ok_is (record { at = a.0.1.at - length a.0.0; rest = a.0.0 }, a.0.1) x a.2) (record { took = s.took; below = s.below; content_fits = s.content_fits })

inside_again : (at : ℕ) (content rest : List ℕ) → length content < 2 ^ 32
    → inside_at (record { at = at; rest = slice content ++ rest }) ≡ Ok (record { at = at + length (slice content) - length content; rest = content }, record { at = at + length (slice content); rest = rest })
inside_again at content rest lt =
    bind_at (at_place at (slice_at (record { at = at; rest = slice content ++ rest }))) ok_inside _ (ap (at_place at) (slice_again at content rest lt))

varint_some : (n : ℕ) → 0 < length (varint n)
unfolding varint
varint_some n = cond_both (ltb n 128) (n ∷ []) ((n % 128 + 128) ∷ varint_within 4 (n / 128)) (λ bytes. 0 < length bytes) (λ _. omega arith) (λ _. omega arith)

slice_some : (content : List ℕ) → 0 < length (slice content)
slice_some content = omega (arith, length-append (varint (length content)) content, varint_some (length content))

-- the entries behind those that were seen
abbrev EntriesRead : List FileEntry → List ℕ → List FileEntry → Type 0
EntriesRead seen bytes all = (more : List FileEntry) × (all ≡ seen ++ more) × AreEntries bytes more

no_entries : (seen : List FileEntry) (bytes : List ℕ) (all : List FileEntry) → length bytes ≡ 0 → seen ≡ all → EntriesRead seen bytes all
no_entries seen bytes all none same = ([], sym same ∙ sym (append-nil seen), nil_from_length bytes none)

entries_take : (k : ℕ) (seen : List FileEntry) (c : Cursor) (all : List FileEntry) → IsBytes c.rest → length c.rest ≤ k → entries_at k seen c ≡ Ok all → EntriesRead seen c.rest all
entries_take zero seen c all fits le e = no_entries seen c.rest all (omega arith) (ok_is seen all e)
entries_take (suc k) seen c all fits le e =
    elim (cases_Bool (eqb (length c.rest) 0)) [
      | inl none ↦ no_entries seen c.rest all (eqb-true _ _ none) (ok_is seen all (rw none at e))
      | inr some ↦
          let a = bind_ok (sliced_entry_at c) (λ x. entries_at k (seen ++ x.0 ∷ []) x.1) all (rw some at e) in
          let i = bind_ok (inside_at c) (λ s. entry_at s.0 >>= λ x. Ok (x, s.1)) a.0 a.1 in
          let x = bind_ok (entry_at i.0.0) (λ x. Ok (x, i.0.1)) a.0 i.2 in
          let inside = inside_takes c i.0 fits i.1 in
          let entry = entry_takes i.0.0 x.0 inside.content_fits x.1 in
          let same : a.0 ≡ (x.0, i.0.1) = sym (ok_is (x.0, i.0.1) a.0 x.2) in
          let first : a.0.0 ≡ x.0 = ap (λ (y : FileEntry × Cursor). y.0) same in
          let rest : entries_at k (seen ++ x.0 ∷ []) i.0.1 ≡ Ok all = subst (λ (y : FileEntry × Cursor). entries_at k (seen ++ y.0 ∷ []) y.1 ≡ Ok all) same a.2 in
          let sizes = ap length inside.took.parts ∙ length-append (slice i.0.0.rest) i.0.1.rest in
          let later = entries_take k (seen ++ x.0 ∷ []) i.0.1 all inside.took.rest_fits (omega (arith, sizes, slice_some i.0.0.rest)) rest in
          (x.0 ∷ later.0, later.1 ∙ append_assoc seen (x.0 ∷ []) later.0, (i.0.0.rest, i.0.1.rest, inside.below, inside.took.parts, entry, later.2))
    ]

entries_again : (k : ℕ) (seen : List FileEntry) (at : ℕ) (bytes : List ℕ) (es : List FileEntry) → AreEntries bytes es → length bytes ≤ k
    → entries_at k seen (record { at = at; rest = bytes }) ≡ Ok (seen ++ es)
entries_again zero seen at bytes [] are le = rw append-nil refl
entries_again zero seen at bytes (e ∷ es) are le =
    absurd (omega (arith, ap length are.3 ∙ length-append (slice are.0) are.1, slice_some are.0))
entries_again (suc k) seen at bytes [] are le = rw (append-nil, are) refl
entries_again (suc k) seen at bytes (e ∷ es) are le =
    let sizes = ap length are.3 ∙ length-append (slice are.0) are.1 in
    let some : eqb (length (slice are.0 ++ are.1)) 0 ≡ false = ne_eqb _ _ (λ none. omega (arith, length-append (slice are.0) are.1, slice_some are.0)) in
    let inside = inside_again at are.0 are.1 are.2 in
    let entry = entry_again (at + length (slice are.0) - length are.0) are.0 e are.4 in
    let first : sliced_entry_at (record { at = at; rest = slice are.0 ++ are.1 }) ≡ Ok (e, record { at = at + length (slice are.0); rest = are.1 }) = bind_at (inside_at (record { at = at; rest = slice are.0 ++ are.1 })) (λ s. entry_at s.0 >>= λ x. Ok (x, s.1)) _ inside ∙ bind_at (entry_at (record { at = at + length (slice are.0) - length are.0; rest = are.0 })) (λ x. Ok (x, record { at = at + length (slice are.0); rest = are.1 })) e entry in
    let later = entries_again k (seen ++ e ∷ []) (at + length (slice are.0)) are.1 es are.5 (omega (arith, sizes, slice_some are.0)) in
    ap (λ (r : List ℕ). entries_at (suc k) seen (record { at = at; rest = r })) are.3
    ∙ rw some (bind_at (sliced_entry_at (record { at = at; rest = slice are.0 ++ are.1 })) (λ x. entries_at k (seen ++ x.0 ∷ []) x.1) _ first ∙ later ∙ ap ok_entries (append_assoc seen (e ∷ []) es))

-- ---- a record that is read

record IsEnded (c : Cursor) (x y : Record) : Type 0 where
  none : c.rest ≡ []
  same : x ≡ y

ended_is : (x y : Record) (c : Cursor) → ended x c ≡ Ok y → IsEnded c x y
ended_is x y c e =
    elim (cases_Bool (eqb (length c.rest) 0)) [
      | inl none ↦ record { none = nil_from_length c.rest (eqb-true _ _ none); same = ok_is x y (rw none at e) }
      | inr some ↦ let stopped : Err _ ≡ ok_record y = rw some at e in absurd cc
    ]

-- a slice that is all that is left, and what is read inside it
record IsSliced (f : Cursor → Result Record DecodeFault) (c : Cursor) (r : Record) : Type 0 where
  inside : Cursor
  whole : c.rest ≡ slice inside.rest
  below : length inside.rest < 2 ^ 32
  fits : IsBytes inside.rest
  read : f inside ≡ Ok r

sliced_takes : (f : Cursor → Result Record DecodeFault) (c : Cursor) (r : Record) → IsBytes c.rest → sliced f c ≡ Ok r → IsSliced f c r
sliced_takes f c r fits e =
    let a = bind_ok (inside_at c) (λ s. f s.0 >>= λ x. ended x s.1) r e in
    let b = bind_ok (f a.0.0) (λ x. ended x a.0.1) r a.2 in
    let last = ended_is b.0 r a.0.1 b.2 in
    let i = inside_takes c a.0 fits a.1 in
    record {
      inside = a.0.0;
      whole = i.took.parts ∙ ap (λ (rest : List ℕ). slice a.0.0.rest ++ rest) last.none ∙ append-nil (slice a.0.0.rest);
      below = i.below;
      fits = i.content_fits;
      read = b.1 ∙ ap ok_record last.same;
    }

-- what an entry of its own makes
entry_made : (make : FileEntry → Record) (c : Cursor) (r : Record) → IsBytes c.rest → (entry_at c >>= λ e. ok_record (make e)) ≡ Ok r → (e : FileEntry) × IsEntry c.rest e × (make e ≡ r)
entry_made make c r fits read =
    let a = bind_ok (entry_at c) (λ e. ok_record (make e)) r read in
    (a.0, entry_takes c a.0 fits a.1, ok_is (make a.0) r a.2)

abbrev named_read : ℕ → ℕ → List ℕ × Cursor → Result Record DecodeFault
named_read at known s = do
  name ← at_place at (ranged (is_name s.0) s.0)
  ended (Deletion known name) s.1

abbrev known_read : Cursor → ℕ → Result Record DecodeFault
known_read c known = do
  s ← at_place c.at (slice_at c)
  named_read c.at known s

abbrev id_from : ℕ → ℕ × Cursor → Result Record DecodeFault
id_from at id = do
  known ← at_place at (ranged (ltb id.0 (2 ^ 64 - 1)) id.0)
  known_read id.1 known

deletion_takes : (c : Cursor) (r : Record) → IsBytes c.rest → deletion_at c ≡ Ok r
    → (id : ℕ) × (name : List ℕ) × (id < 2 ^ 64 - 1) × (is_name name ≡ true) × (c.rest ≡ u64 id ++ slice name) × (Deletion id name ≡ r)
deletion_takes c r fits read =
    let a = bind_ok (at_place c.at (number w64 c)) (id_from c.at) r read in
    let b = bind_ok (at_place c.at (ranged (ltb a.0.0 (2 ^ 64 - 1)) a.0.0)) (known_read a.0.1) r a.2 in
    let d = bind_ok (at_place a.0.1.at (slice_at a.0.1)) (named_read a.0.1.at b.0) r b.2 in
    let n = bind_ok (at_place a.0.1.at (ranged (is_name d.0.0) d.0.0)) (λ name. ended (Deletion b.0 name) d.0.1) r d.2 in
    let last = ended_is (Deletion b.0 n.0) r d.0.1 n.2 in
    let number_read = number_takes w64 (2 ^ 64) wide64 c a.0 fits (placed_ok c.at (number w64 c) a.0 a.1) in
    let id = ranged_true (ltb a.0.0 (2 ^ 64 - 1)) a.0.0 b.0 (placed_ok c.at (ranged (ltb a.0.0 (2 ^ 64 - 1)) a.0.0) b.0 b.1) in
    let s = slice_takes a.0.1 d.0 number_read.0.rest_fits (placed_ok a.0.1.at (slice_at a.0.1) d.0 d.1) in
    let name = ranged_true (is_name d.0.0) d.0.0 n.0 (placed_ok a.0.1.at (ranged (is_name d.0.0) d.0.0) n.0 n.1) in
    let end : a.0.1.rest ≡ slice d.0.0 = s.took.parts ∙ ap (λ (rest : List ℕ). slice d.0.0 ++ rest) last.none ∙ append-nil (slice d.0.0) in
    let whole : c.rest ≡ u64 a.0.0 ++ slice d.0.0 = number_read.0.parts ∙ ap (λ (rest : List ℕ). u64 a.0.0 ++ rest) end in
    let same : Deletion a.0.0 d.0.0 ≡ r = ap (λ (i : ℕ). Deletion i d.0.0) id.1 ∙ ap (λ (m : List ℕ). Deletion b.0 m) name.1 ∙ last.same in
    (a.0.0, d.0.0, ltb-true _ _ id.0, name.0, whole, same)

-- ---- the kind of a tag

record_chosen : (b : Bool) (k kind : RecordKind) (others : Option RecordKind) → cond b (Some k) others ≡ Some kind → ((b ≡ true) × (k ≡ kind)) ⊎ (others ≡ Some kind)
record_chosen true k kind others e = inl (refl, cc)
record_chosen false k kind others e = inr e

record_tag_chosen : (tag n : ℕ) (k kind : RecordKind) (others : Option RecordKind) → record_tag k ≡ n → (others ≡ Some kind → record_tag kind ≡ tag)
    → cond (eqb tag n) (Some k) others ≡ Some kind → record_tag kind ≡ tag
record_tag_chosen tag n k kind others is later e =
    elim (record_chosen (eqb tag n) k kind others e) [
      | inl hit ↦ ap record_tag (sym hit.1) ∙ is ∙ sym (eqb-true tag n hit.0)
      | inr more ↦ later more
    ]

record_tag-of : (tag : ℕ) (kind : RecordKind) → record_kind_of tag ≡ Some kind → record_tag kind ≡ tag
record_tag-of tag kind e =
    record_tag_chosen tag 1 kinds.Snapshot kind _ refl (λ e2. record_tag_chosen tag 2 kinds.Update kind _ refl (λ e3. record_tag_chosen tag 3 kinds.Deletion kind _ refl (λ e4. record_tag_chosen tag 4 kinds.End kind _ refl (λ e5. record_tag_chosen tag 5 kinds.Replace kind None refl (λ none. absurd cc) e5) e4) e3) e2) e

tagged : (tag n : ℕ) (payload rest content : List ℕ) → n ≡ tag → payload ≡ u32 tag ++ rest → rest ≡ content → payload ≡ u32 n ++ content
tagged tag n payload rest content of_tag parts same =
    parts ∙ ap (λ (t : ℕ). u32 t ++ rest) (sym of_tag) ∙ ap (λ (r : List ℕ). u32 n ++ r) same

kind_takes : (kind : RecordKind) (tag : ℕ) (payload : List ℕ) (c : Cursor) (r : Record) → record_tag kind ≡ tag → payload ≡ u32 tag ++ c.rest → IsBytes c.rest
    → record_with tag (Some kind) c ≡ Ok r → Spells payload r
kind_takes kinds.Snapshot tag payload c r of_tag parts fits read =
    let s = sliced_takes snapshot_at c r fits read in
    let a = bind_ok (entries_at (length s.inside.rest) [] s.inside) (λ files. ok_record (Snapshot files)) r s.read in
    let es = entries_take (length s.inside.rest) [] s.inside a.0 s.fits (omega arith) a.1 in
    let whole : payload ≡ u32 1 ++ slice s.inside.rest = tagged tag 1 payload c.rest (slice s.inside.rest) of_tag parts s.whole in
    let same : Snapshot es.0 ≡ r = ap Snapshot (sym es.1) ∙ ok_is (Snapshot a.0) r a.2 in
    subst (Spells payload) same (s.inside.rest, s.below, whole, es.2)
kind_takes kinds.Update tag payload c r of_tag parts fits read =
    let s = sliced_takes update_at c r fits read in
    let m = entry_made Update s.inside r s.fits s.read in
    let whole : payload ≡ u32 2 ++ slice s.inside.rest = tagged tag 2 payload c.rest (slice s.inside.rest) of_tag parts s.whole in
    subst (Spells payload) m.2 (s.inside.rest, s.below, whole, m.1)
kind_takes kinds.Deletion tag payload c r of_tag parts fits read =
    let s = sliced_takes deletion_at c r fits read in
    let d = deletion_takes s.inside r s.fits s.read in
    let whole : payload ≡ u32 3 ++ slice (u64 d.0 ++ slice d.1) = tagged tag 3 payload c.rest (slice (u64 d.0 ++ slice d.1)) of_tag parts (s.whole ∙ ap slice d.4) in
    subst (Spells payload) d.5 (d.2, d.3, whole)
kind_takes kinds.End tag payload c r of_tag parts fits read =
    let last = ended_is End r c read in
    let whole : payload ≡ u32 4 = tagged tag 4 payload c.rest [] of_tag parts last.none ∙ append-nil (u32 4) in
    subst (Spells payload) last.same whole
kind_takes kinds.Replace tag payload c r of_tag parts fits read =
    let s = sliced_takes replacement_at c r fits read in
    let m = entry_made Replace s.inside r s.fits s.read in
    let whole : payload ≡ u32 5 ++ slice s.inside.rest = tagged tag 5 payload c.rest (slice s.inside.rest) of_tag parts s.whole in
    subst (Spells payload) m.2 (s.inside.rest, s.below, whole, m.1)

with_takes : (tag : ℕ) (kind : Option RecordKind) (payload : List ℕ) (c : Cursor) (r : Record) → record_kind_of tag ≡ kind → payload ≡ u32 tag ++ c.rest → IsBytes c.rest
    → record_with tag kind c ≡ Ok r → Spells payload r
with_takes tag None payload c r of_tag parts fits read = absurd cc
with_takes tag (Some kind) payload c r of_tag parts fits read = kind_takes kind tag payload c r (record_tag-of tag kind of_tag) parts fits read

pub record_takes : (payload : List ℕ) (r : Record) → IsBytes payload → record_of payload ≡ Ok r → Spells payload r
unfolding record_of
record_takes payload r fits read =
    let a = bind_ok (at_place 0 (number w32 (record { at = 0; rest = payload }))) (λ tag. record_with tag.0 (record_kind_of tag.0) tag.1) r read in
    let t = number_takes w32 (2 ^ 32) wide32 (record { at = 0; rest = payload }) a.0 fits (placed_ok 0 _ a.0 a.1) in
    with_takes a.0.0 (record_kind_of a.0.0) payload a.0.1 r refl t.0.parts t.0.rest_fits a.2

-- ---- a record that was written

tag_read : (tag : ℕ) (rest : List ℕ) (kind : RecordKind) (r : Record) → tag < 2 ^ 32 → record_kind_of tag ≡ Some kind
    → record_with tag (Some kind) (record { at = 4; rest = rest }) ≡ Ok r → record_of (u32 tag ++ rest) ≡ Ok r
unfolding record_of
tag_read tag rest kind r lt of_tag read =
    bind_at (at_place 0 (number w32 (record { at = 0; rest = u32 tag ++ rest }))) (λ t. record_with t.0 (record_kind_of t.0) t.1) _ (ap (at_place 0) (number_again w32 (2 ^ 32) wide32 0 tag rest lt))
    ∙ rw of_tag read

sliced_again : (f : Cursor → Result Record DecodeFault) (at : ℕ) (body : List ℕ) (r : Record) → length body < 2 ^ 32
    → ((place : ℕ) → f (record { at = place; rest = body }) ≡ Ok r) → sliced f (record { at = at; rest = slice body }) ≡ Ok r
sliced_again f at body r lt read =
    let inside = inside_again at body [] lt in
    ap (λ (rest : List ℕ). sliced f (record { at = at; rest = rest })) (sym (append-nil (slice body)))
    ∙ bind_at (inside_at (record { at = at; rest = slice body ++ [] })) (λ s. f s.0 >>= λ x. ended x s.1) _ inside
    ∙ bind_at (f (record { at = at + length (slice body) - length body; rest = body })) (λ x. ended x (record { at = at + length (slice body); rest = [] })) r (read _)

deletion_short : (id : ℕ) (name : List ℕ) → is_name name ≡ true → length (u64 id ++ slice name) < 2 ^ 32
deletion_short id name is =
    let few : length (varint (length name)) ≤ 5 = unfold varint in len_within 5 (length name) in
    omega (arith, length-append (u64 id) (slice name), length-append (varint (length name)) name, name_short name is, few)

deletion_again : (id : ℕ) (name : List ℕ) (at : ℕ) → id < 2 ^ 64 - 1 → is_name name ≡ true → deletion_at (record { at = at; rest = u64 id ++ slice name }) ≡ Ok (Deletion id name)
deletion_again id name at lt is =
    let number_read = number_again w64 (2 ^ 64) wide64 at id (slice name) (omega arith) in
    let slice_read = slice_again (at + 8) name [] (omega (arith, name_short name is)) in
    let test : ltb id (2 ^ 64 - 1) ≡ true = lt-ltb id (2 ^ 64 - 1) lt in
    let cut : slice_at (record { at = at + 8; rest = slice name }) ≡ Ok (name, record { at = at + 8 + length (slice name); rest = [] }) = ap (λ (rest : List ℕ). slice_at (record { at = at + 8; rest = rest })) (sym (append-nil (slice name))) ∙ slice_read in
    bind_at (at_place at (number w64 (record { at = at; rest = u64 id ++ slice name }))) (id_from at) _ (ap (at_place at) number_read)
    ∙ rw test (bind_at (at_place (at + 8) (slice_at (record { at = at + 8; rest = slice name }))) (named_read (at + 8) id) _ (ap (at_place (at + 8)) cut) ∙ rw is refl)

snapshot_again : (at : ℕ) (body : List ℕ) (files : List FileEntry) → AreEntries body files → snapshot_at (record { at = at; rest = body }) ≡ Ok (Snapshot files)
snapshot_again at body files are =
    bind_at (entries_at (length body) [] (record { at = at; rest = body })) (λ es. ok_record (Snapshot es)) files (entries_again (length body) [] at body files are (omega arith))

pub record_again : (payload : List ℕ) (r : Record) → Spells payload r → record_of payload ≡ Ok r
record_again payload (Snapshot files) s =
    ap record_of s.2 ∙ tag_read 1 (slice s.0) kinds.Snapshot (Snapshot files) (omega arith) refl (sliced_again snapshot_at 4 s.0 (Snapshot files) s.1 (λ at. snapshot_again at s.0 files s.3))
record_again payload (Update e) s =
    ap record_of s.2 ∙ tag_read 2 (slice s.0) kinds.Update (Update e) (omega arith) refl (sliced_again update_at 4 s.0 (Update e) s.1 (λ at. bind_at (entry_at (record { at = at; rest = s.0 })) (λ x. ok_record (Update x)) e (entry_again at s.0 e s.3)))
record_again payload (Deletion id name) s =
    let body = u64 id ++ slice name in
    ap record_of s.2 ∙ tag_read 3 (slice (u64 id ++ slice name)) kinds.Deletion (Deletion id name) (omega arith) refl (sliced_again deletion_at 4 (u64 id ++ slice name) (Deletion id name) (deletion_short id name s.1) (λ at. deletion_again id name at s.0 s.1))
record_again payload End s = ap record_of (s ∙ sym (append-nil (u32 4))) ∙ tag_read 4 [] kinds.End End (omega arith) refl refl
record_again payload (Replace e) s =
    ap record_of s.2 ∙ tag_read 5 (slice s.0) kinds.Replace (Replace e) (omega arith) refl (sliced_again replacement_at 4 s.0 (Replace e) s.1 (λ at. bind_at (entry_at (record { at = at; rest = s.0 })) (λ x. ok_record (Replace x)) e (entry_again at s.0 e s.3)))

-- ---- what a decoder answers

pub is_found : (payload : List ℕ) (result : Result Record DecodeError) → IsBytes payload → Gives result (record_of payload) → IfOk result (Spells payload)
is_found payload (Ok r) fits given = record_takes payload r fits given
is_found payload (Err e) fits given = tt

pub is_only : (payload : List ℕ) (result : Result Record DecodeError) (r : Record) → Gives result (record_of payload) → Spells payload r → Gives result (Ok r)
is_only payload result r given spelled = subst (Gives result) (record_again payload r spelled) given
