-- What was written from a record in the grammar spells it.
use Rattle.std.proofs.Common.{◌≡◌, ◌≢◌, ℕ, ◌^◌, ◌<◌, Bool, true, false, cond, eqb, List, [], ◌∷◌, ◌++◌, map, length, refl, sym, ap, subst, append_assoc, arith, length-append}
use Rattle.std.specs.Prelude.{IsTrue}
use Rattle.std.specs.List.{AllByRecursion, flat_map, filter_map, list_all}
use Rattle.std.proofs.lemmas.Bool.{eqb-false}
use Rattle.std.proofs.lemmas.List.{append-nil}
use Rattle.record_model.specs.Name.{is_name}
use Rattle.record_model.specs.Numbers.{u32, varint}
use Rattle.record_model.specs.Encoding.{tag_of, field_bytes, fields_of, entry_bytes, slice, payload_of}
use Rattle.record_model.specs.FieldDecoding.{has_tag}
use Rattle.record_model.specs.Decoding.{number_in, piece_of, name_of, entry_of, required_tags}
use Rattle.record_model.specs.Grammar.{AreFields, IsEntry, AreEntries, IsExtent, AreApart, IsWritable, InGrammar, Spells}
use Rattle.record_model.specs.declared.types.Extent.{Extent}
use Rattle.record_model.specs.declared.types.FileEntry.{FileEntry}
use Rattle.record_model.specs.declared.types.Record.{Record}
use Rattle.record_model.specs.declared.types.Record.TheVariants.{Snapshot, Update, Deletion, End, Replace}
use Rattle.record_model.specs.declared.field.Field.{Field}
use Rattle.record_model.specs.declared.field.Field.TheVariants.{Id, Size, Hint, Piece, Time, Active, Sparse, Linked}

-- the mark of a sparse file
abbrev mark : Bool → List Field
mark sparse = cond sparse (Sparse ∷ []) []

-- the fields of an entry, one behind the other
abbrev in_order : FileEntry → List Field
in_order e = Id e.id ∷ Size e.size ∷ Hint e.hint ∷ (map Piece e.extents ++ Time e.time ∷ Active e.active ∷ (mark e.sparse ++ map Linked e.names))

shape : {A : Type 0} (a b c t u : A) (ps ss ns : List A) → ((((a ∷ b ∷ c ∷ []) ++ ps) ++ t ∷ u ∷ []) ++ ss) ++ ns ≡ a ∷ b ∷ c ∷ (ps ++ t ∷ u ∷ (ss ++ ns))
shape a b c t u ps ss ns = simp append_assoc

fields_in_order : (e : FileEntry) → fields_of e ≡ in_order e
fields_in_order e = shape (Id e.id) (Size e.size) (Hint e.hint) (Time e.time) (Active e.active) (map Piece e.extents) (mark e.sparse) (map Linked e.names)

-- ---- the entry that the fields say

number_behind_pieces : (tag : ℕ) (es : List Extent) (fs : List Field) → eqb 5 tag ≡ false → number_in tag (map Piece es ++ fs) ≡ number_in tag fs
number_behind_pieces tag [] fs apart = refl
number_behind_pieces tag (e ∷ es) fs apart = rw apart (number_behind_pieces tag es fs apart)

tag_behind_pieces : (tag : ℕ) (es : List Extent) (fs : List Field) → eqb 5 tag ≡ false → has_tag tag (map Piece es ++ fs) ≡ has_tag tag fs
tag_behind_pieces tag [] fs apart = refl
tag_behind_pieces tag (e ∷ es) fs apart = rw apart (tag_behind_pieces tag es fs apart)

no_mark : (ns : List (List ℕ)) → has_tag 8 (map Linked ns) ≡ false
no_mark [] = refl
no_mark (n ∷ ns) = no_mark ns

marked : (sparse : Bool) (ns : List (List ℕ)) → has_tag 8 (mark sparse ++ map Linked ns) ≡ sparse
marked true ns = refl
marked false ns = no_mark ns

no_pieces : (ns : List (List ℕ)) → filter_map piece_of (map Linked ns) ≡ []
no_pieces [] = refl
no_pieces (n ∷ ns) = no_pieces ns

unmarked_pieces : (sparse : Bool) (ns : List (List ℕ)) → filter_map piece_of (mark sparse ++ map Linked ns) ≡ []
unmarked_pieces true ns = no_pieces ns
unmarked_pieces false ns = no_pieces ns

pieces_are : (es : List Extent) (fs : List Field) → filter_map piece_of fs ≡ [] → filter_map piece_of (map Piece es ++ fs) ≡ es
pieces_are [] fs none = none
pieces_are (e ∷ es) fs none = ap (λ (xs : List Extent). e ∷ xs) (pieces_are es fs none)

names_are : (ns : List (List ℕ)) → filter_map name_of (map Linked ns) ≡ ns
names_are [] = refl
names_are (n ∷ ns) = ap (λ (xs : List (List ℕ)). n ∷ xs) (names_are ns)

marked_names : (sparse : Bool) (ns : List (List ℕ)) → filter_map name_of (mark sparse ++ map Linked ns) ≡ ns
marked_names true ns = names_are ns
marked_names false ns = names_are ns

names_behind_pieces : (es : List Extent) (fs : List Field) → filter_map name_of (map Piece es ++ fs) ≡ filter_map name_of fs
names_behind_pieces [] fs = refl
names_behind_pieces (e ∷ es) fs = names_behind_pieces es fs

entry_of-in_order : (e : FileEntry) → entry_of (in_order e) ≡ e
entry_of-in_order e =
    rw (
      number_behind_pieces 6 e.extents (Time e.time ∷ Active e.active ∷ (mark e.sparse ++ map Linked e.names)) refl,
      number_behind_pieces 7 e.extents (Time e.time ∷ Active e.active ∷ (mark e.sparse ++ map Linked e.names)) refl,
      tag_behind_pieces 8 e.extents (Time e.time ∷ Active e.active ∷ (mark e.sparse ++ map Linked e.names)) refl,
      marked e.sparse e.names,
      pieces_are e.extents (Time e.time ∷ Active e.active ∷ (mark e.sparse ++ map Linked e.names)) (unmarked_pieces e.sparse e.names),
      names_behind_pieces e.extents (Time e.time ∷ Active e.active ∷ (mark e.sparse ++ map Linked e.names)),
      marked_names e.sparse e.names,
    ) refl

linked_there : (ns : List (List ℕ)) → 0 < length ns → has_tag 9 (map Linked ns) ≡ true
linked_there [] some = absurd (omega arith)
linked_there (n ∷ ns) some = refl

marked_there : (sparse : Bool) (ns : List (List ℕ)) → 0 < length ns → has_tag 9 (mark sparse ++ map Linked ns) ≡ true
marked_there true ns some = linked_there ns some
marked_there false ns some = linked_there ns some

whole_in_order : (e : FileEntry) → 0 < length e.names → list_all (λ tag. has_tag tag (in_order e)) required_tags ≡ true
whole_in_order e some =
    rw (
      tag_behind_pieces 6 e.extents (Time e.time ∷ Active e.active ∷ (mark e.sparse ++ map Linked e.names)) refl,
      tag_behind_pieces 7 e.extents (Time e.time ∷ Active e.active ∷ (mark e.sparse ++ map Linked e.names)) refl,
      tag_behind_pieces 9 e.extents (Time e.time ∷ Active e.active ∷ (mark e.sparse ++ map Linked e.names)) refl,
      marked_there e.sparse e.names some,
    ) refl

-- ---- the fields may stand in this order

all_push : {X : Type 0} (P : X → Type 0) (xs : List X) (y : X) → AllByRecursion P xs → P y → AllByRecursion P (xs ++ y ∷ [])
all_push P [] y h p = (p, tt)
all_push P (x ∷ xs) y h p = (h.0, all_push P xs y h.1 p)

all_more : {X : Type 0} (P : X → Type 0) (xs ys : List X) → AllByRecursion P xs → AllByRecursion P ys → AllByRecursion P (xs ++ ys)
all_more P [] ys h k = k
all_more P (x ∷ xs) ys h k = (h.0, all_more P xs ys h.1 k)

fields_more : (seen xs ys : List Field) → AreFields seen xs → AreFields (seen ++ xs) ys → AreFields seen (xs ++ ys)
fields_more seen [] ys a b = subst (λ (s : List Field). AreFields s ys) (append-nil seen) b
fields_more seen (x ∷ xs) ys a b =
    (a.0, a.1, fields_more (seen ++ x ∷ []) xs ys a.2 (subst (λ (s : List Field). AreFields s ys) (sym (append_assoc seen (x ∷ []) xs)) b))

pieces_stand : (seen : List Field) (es : List Extent) → AllByRecursion IsExtent es → AreFields seen (map Piece es)
pieces_stand seen [] h = tt
pieces_stand seen (e ∷ es) h = (h.0, tt, pieces_stand (seen ++ Piece e ∷ []) es h.1)

-- a name that none of these fields has
abbrev IsNewName : List Field → List ℕ → Type 0
IsNewName seen name = AllByRecursion (λ f. f ≢ Linked name) seen

new_push : (seen : List Field) (name : List ℕ) (ns : List (List ℕ)) → AllByRecursion (IsNewName seen) ns → AllByRecursion (λ other. other ≢ name) ns → AllByRecursion (IsNewName (seen ++ Linked name ∷ [])) ns
new_push seen name [] h apart = tt
new_push seen name (other ∷ ns) h apart =
    (all_push (λ f. f ≢ Linked other) seen (Linked name) h.0 (λ same. apart.0 (cc)), new_push seen name ns h.1 apart.1)

names_stand : (seen : List Field) (ns : List (List ℕ)) → AllByRecursion (λ name. IsTrue (is_name name)) ns → AreApart ns → AllByRecursion (IsNewName seen) ns → AreFields seen (map Linked ns)
names_stand seen [] names apart new = tt
names_stand seen (n ∷ ns) names apart new =
    (names.0, new.0, names_stand (seen ++ Linked n ∷ []) ns names.1 apart.1 (new_push seen n ns new.1 apart.0))

-- none of these fields has this tag
abbrev Lack : ℕ → List Field → Type 0
Lack tag fs = AllByRecursion (λ g. tag_of g ≢ tag) fs

-- the fields in front of the time
abbrev front : FileEntry → List Field
front e = Id e.id ∷ Size e.size ∷ Hint e.hint ∷ map Piece e.extents

pieces_lack : (tag : ℕ) (es : List Extent) → eqb 5 tag ≡ false → Lack tag (map Piece es)
pieces_lack tag [] apart = tt
pieces_lack tag (e ∷ es) apart = (eqb-false 5 tag apart, pieces_lack tag es apart)

front_lacks : (tag : ℕ) (e : FileEntry) → eqb 1 tag ≡ false → eqb 3 tag ≡ false → eqb 4 tag ≡ false → eqb 5 tag ≡ false → Lack tag (front e)
front_lacks tag e a b c d = (eqb-false 1 tag a, (eqb-false 3 tag b, (eqb-false 4 tag c, pieces_lack tag e.extents d)))

lacked_name : (seen : List Field) (name : List ℕ) → Lack 9 seen → IsNewName seen name
lacked_name [] name h = tt
lacked_name (f ∷ seen) name h = (λ same. h.0 (ap tag_of same), lacked_name seen name h.1)

all_new : (seen : List Field) (ns : List (List ℕ)) → Lack 9 seen → AllByRecursion (IsNewName seen) ns
all_new seen [] h = tt
all_new seen (n ∷ ns) h = (lacked_name seen n h, all_new seen ns h)

back_stands : (seen : List Field) (sparse : Bool) (ns : List (List ℕ)) → Lack 8 seen → Lack 9 seen → AllByRecursion (λ name. IsTrue (is_name name)) ns → AreApart ns
    → AreFields seen (mark sparse ++ map Linked ns)
back_stands seen true ns no_mark no_name names apart =
    (tt, no_mark, names_stand (seen ++ Sparse ∷ []) ns names apart (all_new (seen ++ Sparse ∷ []) ns (all_push (λ g. tag_of g ≢ 9) seen Sparse no_name (eqb-false 8 9 refl))))
back_stands seen false ns no_mark no_name names apart = names_stand seen ns names apart (all_new seen ns no_name)

fields_stand : (e : FileEntry) → IsWritable e → AreFields [] (in_order e)
fields_stand e w =
    let lacks = λ (tag : ℕ) (a : eqb 1 tag ≡ false) (b : eqb 3 tag ≡ false) (c : eqb 4 tag ≡ false) (d : eqb 5 tag ≡ false) (t : eqb 6 tag ≡ false). all_push (λ g. tag_of g ≢ tag) (front e) (Time e.time) (front_lacks tag e a b c d) (eqb-false 6 tag t) in
    let acted = λ (tag : ℕ) (a : eqb 1 tag ≡ false) (b : eqb 3 tag ≡ false) (c : eqb 4 tag ≡ false) (d : eqb 5 tag ≡ false) (t : eqb 6 tag ≡ false) (u : eqb 7 tag ≡ false). all_push (λ g. tag_of g ≢ tag) (front e ++ Time e.time ∷ []) (Active e.active) (lacks tag a b c d t) (eqb-false 7 tag u) in
    let back = back_stands ((front e ++ Time e.time ∷ []) ++ Active e.active ∷ []) e.sparse e.names (acted 8 refl refl refl refl refl refl) (acted 9 refl refl refl refl refl refl) w.names w.apart in
    let behind : AreFields (front e) (Time e.time ∷ Active e.active ∷ (mark e.sparse ++ map Linked e.names)) = (w.time, front_lacks 6 e refl refl refl refl, (w.active, lacks 7 refl refl refl refl refl, back)) in
    let rest = fields_more (Id e.id ∷ Size e.size ∷ Hint e.hint ∷ []) (map Piece e.extents) (Time e.time ∷ Active e.active ∷ (mark e.sparse ++ map Linked e.names)) (pieces_stand (Id e.id ∷ Size e.size ∷ Hint e.hint ∷ []) e.extents w.extents) behind in
    (w.id, tt, (w.size, (eqb-false 1 3 refl, tt), (w.hint, (eqb-false 1 4 refl, (eqb-false 3 4 refl, tt)), rest)))

entry_spelled : (e : FileEntry) → IsWritable e → IsEntry (entry_bytes e) e
unfolding entry_bytes
entry_spelled e w =
    (in_order e, ap (λ (fs : List Field). flat_map field_bytes fs) (fields_in_order e), fields_stand e w, whole_in_order e w.named, sym (entry_of-in_order e))

files_spelled : (es : List FileEntry) → AllByRecursion IsWritable es → length (flat_map (λ e. slice (entry_bytes e)) es) < 2 ^ 32 → AreEntries (flat_map (λ e. slice (entry_bytes e)) es) es
files_spelled [] h lt = refl
files_spelled (e ∷ es) h lt =
    let whole = length-append (slice (entry_bytes e)) (flat_map (λ x. slice (entry_bytes x)) es) in
    let first = length-append (varint (length (entry_bytes e))) (entry_bytes e) in
    (entry_bytes e, flat_map (λ x. slice (entry_bytes x)) es, omega (arith, whole, first), refl, entry_spelled e h.0, files_spelled es h.1 (omega (arith, whole)))

body_short : (tag : ℕ) (body : List ℕ) → length (u32 tag ++ slice body) < 2 ^ 32 → length body < 2 ^ 32
body_short tag body lt =
    omega (arith, length-append (u32 tag) (slice body), length-append (varint (length body)) body)

pub written_spells : (r : Record) → InGrammar r → length (payload_of r) < 2 ^ 32 → Spells (payload_of r) r
unfolding payload_of
written_spells (Snapshot files) h lt =
    let short = body_short 1 (flat_map (λ e. slice (entry_bytes e)) files) lt in
    (flat_map (λ e. slice (entry_bytes e)) files, short, refl, files_spelled files h short)
written_spells (Update e) h lt = (entry_bytes e, body_short 2 (entry_bytes e) lt, refl, entry_spelled e h)
written_spells (Deletion id name) h lt = (h.0, h.1, refl)
written_spells End h lt = refl
written_spells (Replace e) h lt = (entry_bytes e, body_short 5 (entry_bytes e) lt, refl, entry_spelled e h)

pub payload_spells : (payload : List ℕ) (r : Record) → payload ≡ payload_of r → InGrammar r → length (payload_of r) < 2 ^ 32 → Spells payload r
payload_spells payload r written h lt = subst (λ (bytes : List ℕ). Spells bytes r) (sym written) (written_spells r h lt)
