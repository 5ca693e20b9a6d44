-- The lengths of records grow with what they hold.
use Rattle.std.specs.Prelude.{◌≡◌, ℕ, zero, suc, ◌+◌, ◌*◌, ◌/◌, ◌%◌, ◌<◌, ◌≤◌, Bool, true, false, cond, List, [], ◌∷◌, ◌++◌, length, map, filter, nat_lt, sum_by, if◌then◌else◌, refl}
use Rattle.std.proofs.Common.{◌∙◌, ap, ⊎_elim, arith}
use Rattle.std.proofs.Math.Nat.{mul-le-mul_right}
use Rattle.std.proofs.lemmas.Bool.{ltb-true, ltb-false, cases_lt}
use Rattle.std.proofs.lemmas.List.{length-append}
use Rattle.std.proofs.lemmas.List.Concat.{length-flat_map}
use Rattle.std.proofs.lemmas.List.Sums.{sum_by_from, sum_by-cons, sum_by-append}
use Rattle.std.proofs.lemmas.Grind.{div_ceil_times}
use Rattle.record_model.specs.Numbers.{varint, varint_within}
use Rattle.record_model.specs.Encoding.{field_bytes, fields_of, entry_bytes, slice}
use Rattle.record_model.specs.declared.field.Field.{Field}
use Rattle.record_model.specs.declared.field.Field.TheVariants.{Piece, Time, Active, Sparse, Linked}
use Rattle.record_model.specs.declared.types.Extent.{Extent}
use Rattle.record_model.specs.declared.types.FileEntry.{FileEntry}
use Rattle.log_model.specs.LogScan.{blocks_of}

-- the one step of a varint
varint_step : (small big : Bool) (a b : ℕ) (xs ys : List ℕ) (m n : ℕ) → nat_lt m 128 ≡ small → nat_lt n 128 ≡ big → m ≤ n → length xs ≤ length ys
    → length (cond small (m ∷ []) (a ∷ xs)) ≤ length (cond big (n ∷ []) (b ∷ ys))
varint_step true true a b xs ys m n h g less le = omega arith
varint_step true false a b xs ys m n h g less le = omega arith
varint_step false true a b xs ys m n h g less le = absurd (omega (arith, ltb-false m 128 h, ltb-true n 128 g))
varint_step false false a b xs ys m n h g less le = omega arith

-- a greater number has no shorter varint
varint_within_grows : (k m n : ℕ) → m ≤ n → length (varint_within k m) ≤ length (varint_within k n)
varint_within_grows zero m n less = omega arith
varint_within_grows (suc k) m n less =
    varint_step (nat_lt m 128) (nat_lt n 128) (m % 128 + 128) (n % 128 + 128) (varint_within k (m / 128)) (varint_within k (n / 128)) m n refl refl less
    (varint_within_grows k (m / 128) (n / 128) (omega arith))

-- longer bytes make no shorter slice
pub slice_grows : (xs ys : List ℕ) → length xs ≤ length ys → length (slice xs) ≤ length (slice ys)
unfolding varint
slice_grows xs ys less =
    omega (arith, length-append (varint (length xs)) xs, length-append (varint (length ys)) ys, varint_within_grows 5 (length xs) (length ys) less)

-- one block more
times_more : (n block : ℕ) → (n + 1) * block ≡ n * block + block
times_more n block = omega arith

-- a longer payload takes no fewer blocks
pub blocks_grow : (block m n : ℕ) → 0 < block → m ≤ n → blocks_of block m ≤ blocks_of block n
blocks_grow block m n pos less =
    ⊎_elim
    (λ above.
    let low : 8 + n ≤ blocks_of block n * block = (div_ceil_times (8 + n) block pos).0 in
    let high : blocks_of block m * block < 8 + m + block = (div_ceil_times (8 + m) block pos).1 in
    let more : (blocks_of block n + 1) * block ≤ blocks_of block m * block = mul-le-mul_right block (omega arith) in
    let split : (blocks_of block n + 1) * block ≡ blocks_of block n * block + block = times_more (blocks_of block n) block in
    absurd (omega arith))
    (λ le. le)
    (cases_lt (blocks_of block n) (blocks_of block m))

-- the bytes of the fields together
field_lengths : (e : FileEntry) → length (entry_bytes e) ≡ sum_by (λ f. length (field_bytes f)) (fields_of e)
unfolding entry_bytes
field_lengths e = length-flat_map field_bytes (fields_of e)

-- each extent takes 21 bytes
extent_lengths : (xs : List Extent) → sum_by (λ f. length (field_bytes f)) (map Piece xs) ≡ 21 * length xs
unfolding varint
extent_lengths [] = refl
extent_lengths (x ∷ xs) = sum_by-cons (λ f. length (field_bytes f)) (Piece x) (map Piece xs) ∙ omega (arith, extent_lengths xs)

-- the bytes of a mark, and of names
mark_length : Bool → ℕ
mark_length sparse = sum_by (λ f. length (field_bytes f)) (if sparse then Sparse ∷ [] else [])

pub name_lengths : List (List ℕ) → ℕ
name_lengths names = sum_by (λ f. length (field_bytes f)) (map Linked names)

-- the bytes of a field
abbrev width : Field → ℕ
width f = length (field_bytes f)

-- the bytes of an entry
entry_length : (e : FileEntry) → length (entry_bytes e) ≡ ((56 + 21 * length e.extents) + mark_length e.sparse) + name_lengths e.names
unfolding mark_length name_lengths
entry_length e =
    let pieces : List Field = map Piece e.extents in
    let times : List Field = Time e.time ∷ Active e.active ∷ [] in
    let marks : List Field = if e.sparse then Sparse ∷ [] else [] in
    let names : List Field = map Linked e.names in
    let a : sum_by width (((pieces ++ times) ++ marks) ++ names) ≡ sum_by width ((pieces ++ times) ++ marks) + sum_by width names = sum_by-append width ((pieces ++ times) ++ marks) names in
    let b : sum_by width ((pieces ++ times) ++ marks) ≡ sum_by width (pieces ++ times) + sum_by width marks = sum_by-append width (pieces ++ times) marks in
    let c : sum_by width (pieces ++ times) ≡ sum_by width pieces + 24 = sum_by-append width pieces times in
    let d : sum_by width pieces ≡ 21 * length e.extents = extent_lengths e.extents in
    field_lengths e ∙ (sum_by_from width 32 (((pieces ++ times) ++ marks) ++ names) ∙ omega arith)

-- an entry with no more extents and no longer names is no longer
pub entry_grows : (e f : FileEntry) → length e.extents ≤ length f.extents → e.sparse ≡ f.sparse → name_lengths e.names ≤ name_lengths f.names
    → length (entry_bytes e) ≤ length (entry_bytes f)
entry_grows e f extents sparse names =
    let same : mark_length e.sparse ≡ mark_length f.sparse = ap mark_length sparse in
    omega (arith, entry_length e, entry_length f)

-- a name, or none, in front of others
names_either : (b : Bool) (name : List ℕ) (kept names : List (List ℕ)) → name_lengths kept ≤ name_lengths names
    → name_lengths (cond b (name ∷ kept) kept) ≤ name_lengths (name ∷ names)
unfolding name_lengths
names_either true name kept names less =
    omega (arith, sum_by-cons width (Linked name) (map Linked kept), sum_by-cons width (Linked name) (map Linked names))
names_either false name kept names less = omega (arith, sum_by-cons width (Linked name) (map Linked names))

-- fewer names are no longer
pub names_shrink : (p : List ℕ → Bool) (names : List (List ℕ)) → name_lengths (filter p names) ≤ name_lengths names
names_shrink p [] = omega arith
names_shrink p (n ∷ ns) = names_either (p n) n (filter p ns) ns (names_shrink p ns)
