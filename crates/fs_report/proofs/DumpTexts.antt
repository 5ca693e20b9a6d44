-- The texts of a dump's values are those that the definition of the dump has.
use Rattle.std.specs.Prelude.{◌≡◌, ℕ, ◌<◌, ◌≤◌, Bool, true, false, not, ◌||◌, ◌&&◌, ◌==◌, nat_lt, nat_le, List, [], ◌∷◌, ◌++◌, map, flat_map, codes, decimal, ⊤, refl}
use Rattle.std.proofs.Common.{◌∙◌, ap, sym, append_assoc, arith}
use Rattle.std.proofs.lemmas.Bool.{and_parts, eqb-true, false_from_ne_true, leb-true, ltb-false, ltb-true, or_from, or_parts, true_from_ne_false}
use Rattle.std.specs.List.{list_all}
use Rattle.json.specs.Print.{escape_byte, quoted}
use Rattle.serde_json.specs.Data.{Data, string, boolean, object, Members, member, no_members}
use Rattle.serde_json.specs.View.{view, items_of}
use Rattle.serde_json.specs.Written.{compact_text, has_float, items_have_float, items_text, members_text}
use Rattle.serde_json.specs.declared.value.Value.{Value}
use Rattle.record_model.specs.Name.{is_name, is_printable, is_text, are_parts}
use Rattle.std.specs.Prelude.{length, IsTrue}
use Rattle.std.specs.Str.{is_utf8}
use Rattle.record_model.specs.declared.types.Extent.{Extent}
use Rattle.record_model.specs.declared.types.FileEntry.{FileEntry}
use Rattle.fs_model.specs.declared.zones.ZoneState.{ZoneState}
use Rattle.command_model.specs.DumpText.{dump_extent, dump_file, dump_zone, json_array, json_bool, json_byte, json_field, json_object, json_string, with_commas}
use Rattle.fs_report.specs.DumpValues.{HaveNoFloat, array_data, extent_data, file_data, is_plain, number_data, texts_of, whole_data, zone_data}

-- ---- strings

-- a byte from 32 on is none below
not_control : (b k : ℕ) → 32 ≤ b → k < 32 → (b == k) ≡ false
not_control b k printable below =
    false_from_ne_true (b == k) (λ same. let is : b ≡ k = eqb-true b k same in absurd (omega (arith, is, printable, below)))

-- such a byte is written alike
byte_from_32 : (b : ℕ) (t : Bool) → ((b == 34) || (b == 92)) ≡ t → 32 ≤ b → escape_byte b ≡ json_byte b
unfolding escape_byte
byte_from_32 b true is printable =
    let positive : nat_lt 0 b ≡ true = true_from_ne_false (nat_lt 0 b) (λ h. let none : b ≤ 0 = ltb-false 0 b h in absurd (omega (arith, none, printable))) in
    rw (is, positive)
byte_from_32 b false is printable =
    let not_less : nat_lt b 32 ≡ false = false_from_ne_true (nat_lt b 32) (λ h. let less : b < 32 = ltb-true b 32 h in absurd (omega (arith, less, printable))) in
    rw (
      is,
      not_control b 8 printable (omega arith),
      not_control b 12 printable (omega arith),
      not_control b 10 printable (omega arith),
      not_control b 13 printable (omega arith),
      not_control b 9 printable (omega arith),
      not_less,
    )

byte_alike : (b : ℕ) → is_printable b ≡ true → escape_byte b ≡ json_byte b
byte_alike b printable =
    let low : nat_le 32 b ≡ true = (and_parts (nat_le 32 b) (not (b == 127)) printable).0 in
    byte_from_32 b ((b == 34) || (b == 92)) refl (leb-true 32 b low)

escapes_alike : (text : List ℕ) → list_all is_printable text ≡ true → flat_map escape_byte text ≡ flat_map json_byte text
escapes_alike [] plain = refl
escapes_alike (b ∷ bs) plain =
    let parts = and_parts (is_printable b) (list_all is_printable bs) plain in
    ap (λ t. t ++ flat_map escape_byte bs) (byte_alike b parts.0) ∙ ap (λ t. json_byte b ++ t) (escapes_alike bs parts.1)

-- a text without control characters is quoted alike
quoted_alike : (text : List ℕ) → list_all is_printable text ≡ true → quoted text ≡ json_string text
quoted_alike text plain = ap (λ t. 34 ∷ (t ++ 34 ∷ [])) (escapes_alike text plain)

-- a name has none
pub name_is_plain : (name : List ℕ) → IsTrue (is_name name) → is_plain name ≡ true
unfolding is_name is_plain
name_is_plain name rule =
    let bounded = nat_le 1 (length name) && nat_le (length name) 255 in
    let front : (bounded && is_text name) ≡ true = (and_parts (bounded && is_text name) (are_parts name) rule).0 in
    let text : is_text name ≡ true = (and_parts bounded (is_text name) front).1 in
    (and_parts (is_utf8 name) (list_all is_printable name) text).1

pub name_is_utf8 : (name : List ℕ) → IsTrue (is_name name) → is_utf8 name ≡ true
unfolding is_name
name_is_utf8 name rule =
    let bounded = nat_le 1 (length name) && nat_le (length name) 255 in
    let front : (bounded && is_text name) ≡ true = (and_parts (bounded && is_text name) (are_parts name) rule).0 in
    let text : is_text name ≡ true = (and_parts bounded (is_text name) front).1 in
    (and_parts (is_utf8 name) (list_all is_printable name) text).0

-- ---- arrays and objects

items_alike : (ds : List Data) → items_text false (items_of ds) ≡ with_commas (map compact_text ds) ++ 93 ∷ []
items_alike [] = refl
items_alike (d ∷ []) = refl
items_alike (d ∷ e ∷ es) =
    ap (λ t. compact_text d ++ 44 ∷ t) (items_alike (e ∷ es))
    ∙ sym (append_assoc (compact_text d) (44 ∷ with_commas (map compact_text (e ∷ es))) (93 ∷ []))

-- an array
array_alike : (ds : List Data) → compact_text (array_data ds) ≡ json_array (map compact_text ds)
array_alike ds = ap (λ t. 91 ∷ t) (items_alike ds)

-- a key with its value
abbrev Member : Type 0
Member = List ℕ × Data

-- such members
abbrev members_from : List Member → Members
members_from [] = no_members
members_from (m ∷ ms) = member m.0 m.1 (members_from ms)

-- their texts
abbrev field_of : Member → List ℕ
field_of m = json_field m.0 (compact_text m.1)

-- their keys are written alike
abbrev KeysAlike : List Member → Type 0
KeysAlike [] = ⊤
KeysAlike (m ∷ ms) = (quoted m.0 ≡ json_string m.0) × KeysAlike ms

fields_alike : (ms : List Member) → KeysAlike ms → members_text false (members_from ms) ≡ with_commas (map field_of ms) ++ 125 ∷ []
fields_alike [] keys = refl
fields_alike (m ∷ []) keys =
    ap (λ q. q ++ 58 ∷ (compact_text m.1 ++ 125 ∷ [])) keys.0 ∙ sym (append_assoc (json_string m.0) (58 ∷ compact_text m.1) (125 ∷ []))
fields_alike (m ∷ n ∷ ms) keys =
    let rest : List ℕ = with_commas (map field_of (n ∷ ms)) in
    ap (λ q. q ++ 58 ∷ (compact_text m.1 ++ 44 ∷ members_text false (members_from (n ∷ ms)))) keys.0
    ∙ ap (λ t. json_string m.0 ++ 58 ∷ (compact_text m.1 ++ 44 ∷ t)) (fields_alike (n ∷ ms) keys.1)
    ∙ sym (append_assoc (json_string m.0 ++ 58 ∷ compact_text m.1) (44 ∷ rest) (125 ∷ [])
    ∙ append_assoc (json_string m.0) (58 ∷ compact_text m.1) (44 ∷ (rest ++ 125 ∷ [])))

-- an object
object_alike : (ms : List Member) → KeysAlike ms → compact_text (object (members_from ms)) ≡ json_object (map field_of ms)
object_alike ms keys = ap (λ t. 123 ∷ t) (fields_alike ms keys)

bool_alike : (b : Bool) → compact_text (boolean b) ≡ json_bool b
bool_alike true = refl
bool_alike false = refl

-- ---- extents, files, zones

extent_alike : (x : Extent) → compact_text (extent_data x) ≡ dump_extent x
unfolding escape_byte
extent_alike x = object_alike ((codes "len", number_data x.len) ∷ (codes "start", number_data x.start) ∷ []) (refl, (refl, tt))

extents_alike : (xs : List Extent) → map compact_text (map extent_data xs) ≡ map dump_extent xs
extents_alike [] = refl
extents_alike (x ∷ xs) =
    ap (λ t. t ∷ map compact_text (map extent_data xs)) (extent_alike x) ∙ ap (λ ts. dump_extent x ∷ ts) (extents_alike xs)

names_alike : (ns : List (List ℕ)) → list_all is_plain ns ≡ true → map compact_text (map string ns) ≡ map json_string ns
unfolding is_plain
names_alike [] plain = refl
names_alike (n ∷ ns) plain =
    let parts = and_parts (is_plain n) (list_all is_plain ns) plain in
    ap (λ t. t ∷ map compact_text (map string ns)) (quoted_alike n parts.0) ∙ ap (λ ts. json_string n ∷ ts) (names_alike ns parts.1)

-- a file's text, with these texts of its extents, its names and its kind
abbrev text_with : FileEntry → List ℕ → List ℕ → List ℕ → List ℕ
text_with e extents names sparse = json_object (
    json_field (codes "extents") extents
    ∷ json_field (codes "hint") (decimal e.hint)
    ∷ json_field (codes "id") (decimal e.id)
    ∷ json_field (codes "names") names
    ∷ json_field (codes "size") (decimal e.size)
    ∷ json_field (codes "sparse") sparse
    ∷ json_field (codes "time") (decimal e.time) ∷ [])

-- a file
pub file_alike : (e : FileEntry) → list_all is_plain e.names ≡ true → compact_text (file_data e) ≡ dump_file e
unfolding escape_byte
file_alike e plain =
    let extents : Data = array_data (map extent_data e.extents) in
    let names : Data = array_data (map string e.names) in
    object_alike (
    (codes "extents", extents) ∷ (codes "hint", number_data e.hint) ∷ (codes "id", number_data e.id) ∷ (codes "names", names)
    ∷ (codes "size", number_data e.size) ∷ (codes "sparse", boolean e.sparse) ∷ (codes "time", number_data e.time) ∷ [])
    (refl, (refl, (refl, (refl, (refl, (refl, (refl, tt)))))))
    ∙ ap (λ t. text_with e t (compact_text names) (compact_text (boolean e.sparse))) (array_alike (map extent_data e.extents) ∙ ap json_array (extents_alike e.extents))
    ∙ ap (λ t. text_with e (json_array (map dump_extent e.extents)) t (compact_text (boolean e.sparse))) (array_alike (map string e.names) ∙ ap json_array (names_alike e.names plain))
    ∙ ap (λ t. text_with e (json_array (map dump_extent e.extents)) (json_array (map json_string e.names)) t) (bool_alike e.sparse)

-- a zone
pub zone_alike : (z : ℕ × ZoneState) → compact_text (zone_data z) ≡ dump_zone z
unfolding escape_byte
zone_alike z =
    object_alike (
    (codes "live", number_data z.1.live) ∷ (codes "sealed", boolean z.1.info.sealed) ∷ (codes "written", number_data z.1.info.written) ∷ (codes "zone", number_data z.0) ∷ [])
    (refl, (refl, (refl, (refl, tt))))
    ∙ ap (λ sealed. json_object (
    json_field (codes "live") (decimal z.1.live) ∷ json_field (codes "sealed") sealed ∷ json_field (codes "written") (decimal z.1.info.written)
    ∷ json_field (codes "zone") (decimal z.0) ∷ [])) (bool_alike z.1.info.sealed)

-- ---- none of them has a float

extents_whole : (xs : List Extent) → items_have_float (items_of (map extent_data xs)) ≡ false
extents_whole [] = refl
extents_whole (x ∷ xs) = extents_whole xs

names_whole : (ns : List (List ℕ)) → items_have_float (items_of (map string ns)) ≡ false
names_whole [] = refl
names_whole (n ∷ ns) = names_whole ns

pub file_whole : (e : FileEntry) → has_float (file_data e) ≡ false
file_whole e =
    or_from (items_have_float (items_of (map extent_data e.extents))) (items_have_float (items_of (map string e.names)) || false) (extents_whole e.extents)
    (or_from (items_have_float (items_of (map string e.names))) false (names_whole e.names) refl)

pub zone_whole : (z : ℕ × ZoneState) → has_float (zone_data z) ≡ false
zone_whole z = refl

-- ---- a value more

pub texts_pushed : (vs : List Value) (v : Value) → texts_of (vs ++ v ∷ []) ≡ texts_of vs ++ compact_text (view v) ∷ []
texts_pushed [] v = refl
texts_pushed (x ∷ xs) v = ap (λ ts. compact_text (view x) ∷ ts) (texts_pushed xs v)

pub whole_pushed : (vs : List Value) (v : Value) → has_float (view v) ≡ false → HaveNoFloat vs → HaveNoFloat (vs ++ v ∷ [])
whole_pushed [] v whole h = or_from (has_float (view v)) false whole refl
whole_pushed (x ∷ xs) v whole h =
    let parts = or_parts (has_float (view x)) (items_have_float (items_of (map view xs))) h in
    or_from (has_float (view x)) (items_have_float (items_of (map view (xs ++ v ∷ [])))) parts.0 (whole_pushed xs v whole parts.1)

-- ---- the whole

pub whole_alike : (fs zs : List Data) → compact_text (whole_data fs zs)
    ≡ json_object (json_field (codes "files") (json_array (map compact_text fs)) ∷ json_field (codes "zones") (json_array (map compact_text zs)) ∷ [])
unfolding escape_byte
whole_alike fs zs =
    object_alike ((codes "files", array_data fs) ∷ (codes "zones", array_data zs) ∷ []) (refl, (refl, tt))
    ∙ ap (λ t. json_object (json_field (codes "files") t ∷ json_field (codes "zones") (compact_text (array_data zs)) ∷ [])) (array_alike fs)
    ∙ ap (λ t. json_object (json_field (codes "files") (json_array (map compact_text fs)) ∷ json_field (codes "zones") t ∷ [])) (array_alike zs)

pub whole_without_floats : (fs zs : List Data) → items_have_float (items_of fs) ≡ false → items_have_float (items_of zs) ≡ false → has_float (whole_data fs zs) ≡ false
whole_without_floats fs zs files zones =
    or_from (items_have_float (items_of fs)) (items_have_float (items_of zs) || false) files (or_from (items_have_float (items_of zs)) false zones refl)
