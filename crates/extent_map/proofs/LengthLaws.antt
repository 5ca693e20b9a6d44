-- The lengths of records of a table.
use Rattle.std.proofs.Math.Nat.{mul-le-mul_right}
use Rattle.std.proofs.lemmas.Bool.{cases_lt}
use Rattle.std.proofs.lemmas.Grind.{div_ceil_times}
use Rattle.log_model.specs.LogScan.{blocks_of}
use Rattle.log_model.specs.Headroom.{greatest_blocks}
use Rattle.log_model.proofs.LengthLaws.{blocks_grow}
use Rattle.std.proofs.Common.{⊎_elim, ◌∙◌, ◌≡◌, ℕ, ◌+◌, ◌*◌, ◌<◌, ◌≤◌, cond, List, [], ◌∷◌, ◌++◌, drop, get_or, length, map, max, refl, ap, arith, add-one, drop-cons, length-append}
use Rattle.std.specs.List.{flat_map}
use Rattle.record_model.specs.Numbers.{u32, varint}
use Rattle.record_model.specs.Encoding.{field_bytes, entry_bytes, payload_of, slice}
use Rattle.record_model.specs.declared.field.Field.TheVariants.{Linked}
use Rattle.record_model.specs.declared.types.FileEntry.{FileEntry}
use Rattle.record_model.specs.declared.types.Record.TheVariants.{Snapshot, Update}
use Rattle.record_codec.specs.Length.{told}
use Rattle.record_codec.proofs.Entries.{entry_len, slice_len}
use Rattle.record_codec.proofs.Lengths.{told_payload}
use Rattle.log_model.specs.FileTable.{Table}
use Rattle.fs_model.specs.FsState.{TableRow, working_entry, working_of}
use Rattle.extent_map.specs.Records.{greatest_len}

-- an entry with all extents of its file
pub working_entry_len : (r : TableRow)
    → length (entry_bytes (working_entry r))
    ≡ 56 + 21 * (length r.entry.extents + length r.unrecorded) + cond r.entry.sparse 4 0 + length (flat_map (λ name. field_bytes (Linked name)) r.entry.names)
working_entry_len r = omega (arith, entry_len (working_entry r), length-append r.entry.extents r.unrecorded)

-- the length of an update
pub told_update : (e : FileEntry) (inside len : ℕ) → inside ≡ told (length (entry_bytes e)) → len ≡ told (4 + (length (varint inside) + inside)) → len ≡ told (length (payload_of (Update e)))
unfolding payload_of
told_update e inside len is whole = told_payload 2 inside len (entry_bytes e) is whole

-- the length of a snapshot
pub told_snapshot : (es : Table) (inside len : ℕ) → inside ≡ told (length (flat_map (λ e. slice (entry_bytes e)) es)) → len ≡ told (4 + (length (varint inside) + inside)) → len ≡ told (length (payload_of (Snapshot es)))
unfolding payload_of
told_snapshot es inside len is whole = told_payload 1 inside len (flat_map (λ e. slice (entry_bytes e)) es) is whole

-- the longest of so many, and of one more
pub longest_more : (i : ℕ) (rows : List TableRow) (r : TableRow) (longest next all : ℕ) → i < length rows → r ≡ get_or rows i r → next ≡ told (length (payload_of (Update (working_entry r))))
    → max longest (told (greatest_len (working_of (drop i rows)))) ≡ all → max (max longest next) (told (greatest_len (working_of (drop (i + 1) rows)))) ≡ all
longest_more i rows r longest next all lt is next_is h =
    let split : drop i rows ≡ r ∷ drop (i + 1) rows = rw (drop-cons rows i r lt, ← is, add-one) refl in
    let rest = ap (λ (rs : List TableRow). greatest_len (working_of rs)) split in
    omega (arith, rest, next_is, h)

-- the same of rows that are changed each
pub longest_changed : (g : TableRow → TableRow) (i : ℕ) (rows : List TableRow) (r : TableRow) (longest next all : ℕ) → i < length rows → r ≡ get_or rows i r
    → next ≡ told (length (payload_of (Update (working_entry (g r)))))
    → max longest (told (greatest_len (working_of (map g (drop i rows))))) ≡ all → max (max longest next) (told (greatest_len (working_of (map g (drop (i + 1) rows))))) ≡ all
longest_changed g i rows r longest next all lt is next_is h =
    let split : drop i rows ≡ r ∷ drop (i + 1) rows = rw (drop-cons rows i r lt, ← is, add-one) refl in
    let rest = ap (λ (rs : List TableRow). greatest_len (working_of (map g rs))) split in
    omega (arith, rest, next_is, h)

-- no update is longer than the entries in their slices
longest_in : (es : Table) → greatest_len es ≤ 4 + length (flat_map (λ e. slice (entry_bytes e)) es)
unfolding payload_of
longest_in [] = omega arith
longest_in (e ∷ es) =
    let one : length (u32 2 ++ slice (entry_bytes e)) ≡ 4 + length (slice (entry_bytes e)) = length-append (u32 2) (slice (entry_bytes e)) in
    let all : length (slice (entry_bytes e) ++ flat_map (λ f. slice (entry_bytes f)) es) ≡ length (slice (entry_bytes e)) + length (flat_map (λ f. slice (entry_bytes f)) es) =
    length-append (slice (entry_bytes e)) (flat_map (λ f. slice (entry_bytes f)) es) in
    omega (arith, longest_in es, one, all)

-- no update is longer than the snapshot
pub longest_within : (es : Table) → greatest_len es ≤ length (payload_of (Snapshot es))
unfolding payload_of
longest_within es =
    let body : List ℕ = flat_map (λ e. slice (entry_bytes e)) es in
    omega (arith, longest_in es, length-append (u32 1) (slice body), slice_len body)

-- ---- in blocks

-- a payload of no bytes takes one block at most
no_bytes : (block : ℕ) → 8 ≤ block → blocks_of block 0 ≤ 1
no_bytes block enough =
    ⊎_elim
    (λ above.
    let high : blocks_of block 0 * block < 8 + 0 + block = (div_ceil_times (8 + 0) block (omega arith)).1 in
    let more : 2 * block ≤ blocks_of block 0 * block = mul-le-mul_right block (omega arith) in
    absurd (omega arith))
    (λ le. le)
    (cases_lt 1 (blocks_of block 0))

-- the blocks of the longer of two payloads
blocks_of_longer : (block a b : ℕ) → 0 < block → blocks_of block (max a b) ≡ max (blocks_of block a) (blocks_of block b)
blocks_of_longer block a b pos =
    ⊎_elim
    (λ less.
    let longer : max a b ≡ b = omega arith in
    let grows = blocks_grow block a b pos (omega arith) in
    ap (blocks_of block) longer ∙ omega (arith, grows))
    (λ le.
    let longer : max a b ≡ a = omega arith in
    let grows = blocks_grow block b a pos le in
    ap (blocks_of block) longer ∙ omega (arith, grows))
    (cases_lt a b)

-- the blocks of the greatest record are those of the longest
pub greatest_in_blocks : (block : ℕ) (es : Table) → 8 ≤ block → greatest_blocks block es ≡ max 1 (blocks_of block (greatest_len es))
greatest_in_blocks block [] enough = omega (arith, no_bytes block enough)
greatest_in_blocks block (e ∷ es) enough =
    let both = blocks_of_longer block (length (payload_of (Update e))) (greatest_len es) (omega arith) in
    omega (arith, both, greatest_in_blocks block es enough)
