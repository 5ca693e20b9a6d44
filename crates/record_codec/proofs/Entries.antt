-- The parts of an entry's bytes, and their lengths.
use Rattle.std.proofs.Common.{◌≡◌, ℕ, ◌+◌, ◌*◌, ◌<◌, Bool, true, false, cond, List, [], ◌∷◌, ◌++◌, map, length, get_or, take, Result, Ok, Err, refl, sym, ap, ◌∙◌, append_assoc, arith, length-append}
use Rattle.std.specs.Prelude.{OnOk}
use Rattle.std.specs.List.{flat_map}
use Rattle.std.specs.declared.alloc.AllocError.{AllocError}
use Rattle.std.proofs.lemmas.Grind.{flat_map-append}
use Rattle.std.proofs.lemmas.List.{append-nil}
use Rattle.std.proofs.lemmas.List.Folds.{flat_map-map, length-flat_map-take}
use Rattle.record_model.specs.Numbers.{u32, u64, varint}
use Rattle.record_model.specs.Encoding.{field_bytes, slice, entry_bytes}
use Rattle.record_model.specs.declared.types.Extent.{Extent}
use Rattle.record_model.specs.declared.types.FileEntry.{FileEntry}
use Rattle.record_model.specs.declared.field.Field.TheVariants.{Id, Size, Hint, Piece, Time, Active, Sparse, Linked}

-- where the pieces of all elements fit, those so far and the next one do
pub part_fits : {X : Type 0} (f : X → List ℕ) (xs : List X) (i : ℕ) (x : X) (limit : ℕ) → i < length xs → x ≡ get_or xs i x → length (flat_map f xs) < limit
    → length (flat_map f (take i xs)) + length (f x) < limit
part_fits f xs i x limit lt is fits =
    let at : length (f x) ≡ length (f (get_or xs i x)) = ap (λ y. length (f y)) is in
    omega (arith, length-flat_map-take f xs i x lt, at)

pub slice_len : (bytes : List ℕ) → length (slice bytes) ≡ length (varint (length bytes)) + length bytes
slice_len bytes = length-append (varint (length bytes)) bytes

pub name_len : (name : List ℕ) → length (field_bytes (Linked name)) ≡ 4 + (length (varint (length name)) + length name)
name_len name = length-append (u32 9) (slice name) ∙ ap (λ n. 4 + n) (slice_len name)

piece_len : (e : Extent) → length (field_bytes (Piece e)) ≡ 21
unfolding varint
piece_len e = refl

pieces_len : (es : List Extent) → length (flat_map (λ e. field_bytes (Piece e)) es) ≡ 21 * length es
pieces_len [] = refl
pieces_len (e ∷ es) =
    let whole = length-append (field_bytes (Piece e)) (flat_map (λ x. field_bytes (Piece x)) es) in
    omega (arith, whole, piece_len e, pieces_len es)

-- ---- the parts

-- the mark of a sparse file
abbrev pub sparse_bytes : Bool → List ℕ
sparse_bytes sparse = cond sparse (u32 8) []

-- the bytes of a list of five parts
parts : {F : Type 0} (f : F → List ℕ) (a b c t u : F) (ps ss ns : List F)
    → flat_map f (((((a ∷ b ∷ c ∷ []) ++ ps) ++ t ∷ u ∷ []) ++ ss) ++ ns)
    ≡ ((((((f a ++ f b) ++ f c) ++ flat_map f ps) ++ f t) ++ f u) ++ flat_map f ss) ++ flat_map f ns
parts f a b c t u ps ss ns = simp (flat_map-append, append_assoc, append-nil)

sparse_part : (sparse : Bool) → flat_map field_bytes (cond sparse (Sparse ∷ []) []) ≡ sparse_bytes sparse
sparse_part true = refl
sparse_part false = refl

pub entry_parts : (e : FileEntry)
    → entry_bytes e
    ≡ ((((((field_bytes (Id e.id) ++ field_bytes (Size e.size)) ++ field_bytes (Hint e.hint)) ++ flat_map (λ x. field_bytes (Piece x)) e.extents) ++ field_bytes (Time e.time)) ++ field_bytes (Active e.active)) ++ sparse_bytes e.sparse) ++ flat_map (λ name. field_bytes (Linked name)) e.names
unfolding entry_bytes
entry_parts e =
    parts field_bytes (Id e.id) (Size e.size) (Hint e.hint) (Time e.time) (Active e.active) (map Piece e.extents) (cond e.sparse (Sparse ∷ []) []) (map Linked e.names)
    ∙ rw (flat_map-map field_bytes Piece e.extents, flat_map-map field_bytes Linked e.names, sparse_part e.sparse) refl

lengths : (a b c d e f g h : List ℕ) → length (((((((a ++ b) ++ c) ++ d) ++ e) ++ f) ++ g) ++ h) ≡ length a + length b + length c + length d + length e + length f + length g + length h
lengths a b c d e f g h = simp length-append

sparse_len : (sparse : Bool) → length (sparse_bytes sparse) ≡ cond sparse 4 0
sparse_len true = refl
sparse_len false = refl

pub entry_len : (e : FileEntry)
    → length (entry_bytes e) ≡ 56 + 21 * length e.extents + cond e.sparse 4 0 + length (flat_map (λ name. field_bytes (Linked name)) e.names)
entry_len e =
    let whole = lengths (field_bytes (Id e.id)) (field_bytes (Size e.size)) (field_bytes (Hint e.hint)) (flat_map (λ x. field_bytes (Piece x)) e.extents) (field_bytes (Time e.time)) (field_bytes (Active e.active)) (sparse_bytes e.sparse) (flat_map (λ name. field_bytes (Linked name)) e.names) in
    ap length (entry_parts e) ∙ omega (arith, whole, pieces_len e.extents, sparse_len e.sparse)

-- ---- appending

appended : (old a b c d e f g h m1 m2 m3 m4 m5 m6 m7 new : List ℕ)
    → m1 ≡ old ++ a → m2 ≡ m1 ++ b → m3 ≡ m2 ++ c → m4 ≡ m3 ++ d → m5 ≡ m4 ++ e → m6 ≡ m5 ++ f → m7 ≡ m6 ++ g → new ≡ m7 ++ h
    → new ≡ old ++ (((((((a ++ b) ++ c) ++ d) ++ e) ++ f) ++ g) ++ h)
appended old a b c d e f g h m1 m2 m3 m4 m5 m6 m7 new e1 e2 e3 e4 e5 e6 e7 e8 =
    e8 ∙ rw (e7, e6, e5, e4, e3, e2, e1) (simp append_assoc)

pub entry_appended : (r : Result (Unit {0}) AllocError) (old m1 m2 m3 m4 m5 m6 m7 new : List ℕ) (e : FileEntry)
    → m1 ≡ old ++ (u32 1 ++ u64 e.id) → m2 ≡ m1 ++ (u32 3 ++ u64 e.size) → m3 ≡ m2 ++ (u32 4 ++ u32 e.hint)
    → m4 ≡ m3 ++ flat_map (λ x. field_bytes (Piece x)) e.extents
    → m5 ≡ m4 ++ (u32 6 ++ u64 e.time) → m6 ≡ m5 ++ (u32 7 ++ u64 e.active) → m7 ≡ m6 ++ cond e.sparse (u32 8) []
    → OnOk r (new ≡ m7 ++ flat_map (λ name. field_bytes (Linked name)) e.names) → OnOk r (new ≡ old ++ entry_bytes e)
entry_appended (Ok x) old m1 m2 m3 m4 m5 m6 m7 new e e1 e2 e3 e4 e5 e6 e7 e8 =
    appended old (field_bytes (Id e.id)) (field_bytes (Size e.size)) (field_bytes (Hint e.hint)) (flat_map (λ x. field_bytes (Piece x)) e.extents) (field_bytes (Time e.time)) (field_bytes (Active e.active)) (sparse_bytes e.sparse) (flat_map (λ name. field_bytes (Linked name)) e.names) m1 m2 m3 m4 m5 m6 m7 new e1 e2 e3 e4 e5 e6 e7 e8
    ∙ ap (λ (bytes : List ℕ). old ++ bytes) (sym (entry_parts e))
entry_appended (Err x) old m1 m2 m3 m4 m5 m6 m7 new e e1 e2 e3 e4 e5 e6 e7 e8 = tt
