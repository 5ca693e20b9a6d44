-- The blocks of a record are found again as its payload.
use Rattle.std.specs.Prelude.{◌≡◌, ℕ, zero, suc, ◌+◌, ◌-◌, ◌*◌, ◌^◌, ◌<◌, ◌≤◌, Bool, true, false, cond, List, [], ◌∷◌, ◌++◌, length, take, drop, replicate, nat_lt, ◌==◌, refl}
use Rattle.std.proofs.Common.{◌∙◌, ap, sym, subst, arith}
use Rattle.std.proofs.Math.Nat.{mul_comm}
use Rattle.std.proofs.lemmas.Bool.{le-ltb, lt-ltb, ne_eqb, eq-eqb}
use Rattle.std.proofs.lemmas.List.{take-append-drop, take_at, drop_at, length-take-le, drop-take, take-take, length-append, length-drop, length-replicate, append-nil}
use Rattle.std.proofs.lemmas.Nat.{from_le_bytes-to_le_bytes_4}
use Rattle.std.proofs.lemmas.Grind.{div_ceil_times}
use Rattle.std.specs.Int.{w32, from_le_bytes}
use Rattle.std.specs.List.{concat}
use Rattle.zone_image.specs.Changes.{chunks}
use Rattle.crc32c_core.specs.Checksum.{masked}
use Rattle.superblock_core.specs.Superblock.{u32_at}
use Rattle.log_model.specs.LogScan.{Item, Scan, first_item, sized_item, whole_item, item_of, blocks_of, padded_blocks, record_bytes, record_sum, record_blocks, scan, scan_from, scan_within, scan_after, with_payload}
use Rattle.log_model.specs.LogScan.Item.{NoMore, Unfinished, Wrong, Whole}
use Rattle.log_model.specs.LogScan.ScanEnd.{Clean, Torn}
use Rattle.log_model.specs.ScanLaws.{IsRecordOf, RecordIsFound, AppendAddsPayload, PartIsTorn, followed_by}
use Rattle.log_model.proofs.LogScanLaws.{same_bound, clean_scan_goes_on}

-- a checksum is stored in four bytes
sum_fits : (payload : List ℕ) → record_sum payload < 2 ^ 32
unfolding masked
sum_fits payload = omega arith

-- so many blocks are made
length_chunks : (block k : ℕ) (bytes : List ℕ) → length (chunks block k bytes) ≡ k
length_chunks block zero bytes = refl
length_chunks block (suc k) bytes = ap suc (length_chunks block k (drop block bytes))

-- the blocks hold the bytes
concat_chunks : (block k : ℕ) (bytes : List ℕ) → length bytes ≤ k * block → concat (chunks block k bytes) ≡ bytes
concat_chunks block zero [] h = refl
concat_chunks block zero (b ∷ bs) h = absurd (omega arith)
concat_chunks block (suc k) bytes h =
    let left : length (drop block bytes) ≤ k * block = omega (arith, length-drop block bytes) in
    ap (λ rest. take block bytes ++ rest) (concat_chunks block k (drop block bytes) left) ∙ take-append-drop block bytes

-- the length in the head of a record is read in its first block
read_in_block : (block : ℕ) (bytes : List ℕ) → 8 ≤ block → u32_at 4 (take block bytes) ≡ u32_at 4 bytes
read_in_block block bytes h =
    let whole : 4 + (block - 4) ≡ block = omega arith in
    let behind : drop 4 (take block bytes) ≡ take (block - 4) (drop 4 bytes) =
    subst (λ n. drop 4 (take n bytes) ≡ take (block - 4) (drop 4 bytes)) whole (drop-take 4 (block - 4) bytes) in
    let four : take 4 (take (block - 4) (drop 4 bytes)) ≡ take 4 (drop 4 bytes) = take-take 4 (block - 4) (drop 4 bytes) (omega arith) in
    ap (λ bs. u32_at 0 bs) behind ∙ ap (λ bs. from_le_bytes w32 bs) four

-- the bytes of a record, and so many zeros
padded_bytes : ℕ → List ℕ → List ℕ
padded_bytes zeros payload = record_bytes payload ++ replicate zeros 0

-- they are as many as their blocks hold
length_padded : (zeros : ℕ) (payload : List ℕ) → length (padded_bytes zeros payload) ≡ 8 + (length payload + zeros)
unfolding padded_bytes
length_padded zeros payload = omega (arith, length-append payload (replicate zeros 0), length-replicate {A = ℕ} zeros 0)

-- a record that states a length and matches its checksum is whole
chosen_whole : (empty right : Bool) (count len stored computed : ℕ) (payload : List ℕ) → empty ≡ false → right ≡ true
    → cond empty (Wrong 0 stored computed) (cond right (Whole count payload) (Wrong len stored computed)) ≡ Whole count payload
chosen_whole true right count len stored computed payload h g = cc
chosen_whole false true count len stored computed payload h g = refl
chosen_whole false false count len stored computed payload h g = cc

-- the head and the payload are read again
whole_found : (count zeros : ℕ) (payload : List ℕ) → 0 < length payload → length payload < 2 ^ 32
    → whole_item count (length payload) (padded_bytes zeros payload) ≡ Whole count payload
unfolding padded_bytes
whole_found count zeros payload some fits =
    let back : take (length payload) (payload ++ replicate zeros 0) ≡ payload = take_at payload (replicate zeros 0) (length payload) refl in
    let stored : u32_at 0 (record_bytes payload ++ replicate zeros 0) ≡ record_sum payload = from_le_bytes-to_le_bytes_4 (record_sum payload) (sum_fits payload) in
    ap (λ p. item_of count (length payload) (record_bytes payload ++ replicate zeros 0) (record_sum p)) back
    ∙ (chosen_whole (length payload == 0) (u32_at 0 (record_bytes payload ++ replicate zeros 0) == record_sum payload) count (length payload) _ (record_sum payload) _
    (ne_eqb (length payload) 0 (λ e. omega arith)) (eq-eqb _ _ stored)
    ∙ ap (λ p. Whole count p) back)

-- zeros that fill the blocks of a record up
fill : ℕ → ℕ → List ℕ → ℕ
fill count block payload = block * count - (8 + length payload)

-- the record of a stated length is whole in its blocks
sized_found : (count block : ℕ) (payload : List ℕ) (rest : List (List ℕ)) → 8 + length payload ≤ count * block → 0 < length payload → length payload < 2 ^ 32
    → sized_item count (length payload) (padded_blocks count block payload ++ rest) ≡ Whole count payload
unfolding fill padded_bytes
sized_found count block payload rest enough some fits =
    let blocks : List (List ℕ) = padded_blocks count block payload in
    let made : length blocks ≡ count = length_chunks block count (padded_bytes (fill count block payload) payload) in
    let there : nat_lt (length (blocks ++ rest)) count ≡ false = le-ltb (length (blocks ++ rest)) count (omega (arith, length-append blocks rest)) in
    let as_product : block * count ≡ count * block = mul_comm block count in
    let all : length (padded_bytes (fill count block payload) payload) ≤ count * block = omega (arith, length_padded (fill count block payload) payload) in
    ap (λ short. cond short Unfinished (whole_item count (length payload) (concat (take count (blocks ++ rest))))) there
    ∙ (ap (λ bs. whole_item count (length payload) (concat bs)) (take_at blocks rest count made)
    ∙ (ap (λ bs. whole_item count (length payload) bs) (concat_chunks block count (padded_bytes (fill count block payload) payload) all)
    ∙ whole_found count (fill count block payload) payload some fits))

-- the first block of a record states its length
length_stated : (block zeros : ℕ) (payload : List ℕ) → 8 ≤ block → length payload < 2 ^ 32 → u32_at 4 (take block (padded_bytes zeros payload)) ≡ length payload
unfolding padded_bytes
length_stated block zeros payload h fits =
    read_in_block block (record_bytes payload ++ replicate zeros 0) h ∙ from_le_bytes-to_le_bytes_4 (length payload) fits

-- the bytes of a record are no more than its blocks hold
record_fits : (block : ℕ) (payload : List ℕ) → 8 ≤ block → 8 + length payload ≤ blocks_of block (length payload) * block
record_fits block payload h = (div_ceil_times (8 + length payload) block (omega arith)).0

-- blocks that begin with such a first block hold a record of the stated length
first_sized : (k block : ℕ) (payload : List ℕ) (rest : List (List ℕ)) → 8 ≤ block → length payload < 2 ^ 32
    → first_item block (padded_blocks (suc k) block payload ++ rest)
    ≡ sized_item (blocks_of block (length payload)) (length payload) (padded_blocks (suc k) block payload ++ rest)
unfolding first_item fill padded_bytes
first_sized k block payload rest h fits =
    ap (λ len. sized_item (blocks_of block len) len (padded_blocks (suc k) block payload ++ rest)) (length_stated block (fill (suc k) block payload) payload h fits)

-- the record is found in its blocks
found_in : (count block : ℕ) (payload : List ℕ) (rest : List (List ℕ)) → IsRecordOf block payload → blocks_of block (length payload) ≡ count
    → first_item block (padded_blocks count block payload ++ rest) ≡ Whole count payload
found_in zero block payload rest h is =
    let enough : 8 + length payload ≤ 0 * block = subst (λ n. 8 + length payload ≤ n * block) is (record_fits block payload h.0) in
    absurd (omega arith)
found_in (suc k) block payload rest h is =
    let enough : 8 + length payload ≤ suc k * block = subst (λ n. 8 + length payload ≤ n * block) is (record_fits block payload h.0) in
    first_sized k block payload rest h.0 h.2
    ∙ (ap (λ n. sized_item n (length payload) (padded_blocks (suc k) block payload ++ rest)) is
    ∙ sized_found (suc k) block payload rest enough h.1 h.2)

-- the record is found in its blocks
pub record_found : (block : ℕ) (payload : List ℕ) (rest : List (List ℕ)) → IsRecordOf block payload
    → first_item block (record_blocks block payload ++ rest) ≡ Whole (blocks_of block (length payload)) payload
unfolding record_blocks
record_found block payload rest h = found_in (blocks_of block (length payload)) block payload rest h refl

-- the blocks of a record are as many as its length asks for
pub length_record : (block : ℕ) (payload : List ℕ) → length (record_blocks block payload) ≡ blocks_of block (length payload)
unfolding record_blocks fill padded_bytes
length_record block payload = length_chunks block (blocks_of block (length payload)) (padded_bytes (fill (blocks_of block (length payload)) block payload) payload)

-- what stands behind blocks of which the first hold a record
scan_behind : (block at n : ℕ) (payload : List ℕ) (front rest : List (List ℕ)) → 0 < block → length front ≡ n
    → first_item block (front ++ rest) ≡ Whole n payload
    → scan_from block at (front ++ rest) ≡ with_payload at payload (scan_from block (at + n) rest)
unfolding scan_within
scan_behind block at n payload front rest pos is item =
    let all : List (List ℕ) = front ++ rest in
    let behind : drop n all ≡ rest = drop_at front rest n is in
    let left : length rest ≤ length all = omega (arith, length-append front rest) in
    same_bound (length all) (suc (length all)) block at all pos (omega arith) (omega arith)
    ∙ (ap (λ i. scan_after at i (λ count. scan_within (length all) block (at + count) (drop count all))) item
    ∙ (ap (λ zs. with_payload at payload (scan_within (length all) block (at + n) zs)) behind
    ∙ ap (with_payload at payload) (same_bound (length all) (length rest) block (at + n) rest pos left (omega arith))))

pub record_is_found : RecordIsFound
record_is_found block at payload rest h =
    scan_behind block at (blocks_of block (length payload)) payload (record_blocks block payload) rest (omega (arith, h.0))
    (length_record block payload) (record_found block payload rest h)

-- a record alone
pub scan_record : (block at : ℕ) (payload : List ℕ) → IsRecordOf block payload
    → scan_from block at (record_blocks block payload) ≡ record { payloads = (at, payload) ∷ []; end = Clean }
unfolding scan_within
scan_record block at payload h =
    ap (scan_from block at) (sym (append-nil (record_blocks block payload))) ∙ record_is_found block at payload [] h

pub append_adds_payload : AppendAddsPayload
append_adds_payload block blocks payload h clean =
    clean_scan_goes_on block blocks (record_blocks block payload) (omega (arith, h.0)) clean
    ∙ ap (followed_by (scan block blocks)) (scan_record block (length blocks) payload h)

-- the first blocks of a record are unfinished
part_unfinished : (j k block : ℕ) (payload : List ℕ) → IsRecordOf block payload → j < k → blocks_of block (length payload) ≡ suc k
    → first_item block (take (suc j) (padded_blocks (suc k) block payload)) ≡ Unfinished
unfolding first_item fill padded_bytes
part_unfinished j k block payload h less is =
    let head : List ℕ = take block (padded_bytes (fill (suc k) block payload) payload) in
    let others : List (List ℕ) = take j (chunks block k (drop block (padded_bytes (fill (suc k) block payload) payload))) in
    let made : length (chunks block k (drop block (padded_bytes (fill (suc k) block payload) payload))) ≡ k = length_chunks block k _ in
    let few : length (head ∷ others) < suc k = omega (arith, length-take-le j (chunks block k (drop block (padded_bytes (fill (suc k) block payload) payload))) (omega arith)) in
    ap (λ len. sized_item (blocks_of block len) len (head ∷ others)) (length_stated block (fill (suc k) block payload) payload h.0 h.2)
    ∙ (ap (λ n. sized_item n (length payload) (head ∷ others)) is
    ∙ ap (λ short. cond short Unfinished (whole_item (suc k) (length payload) (concat (take (suc k) (head ∷ others))))) (lt-ltb (length (head ∷ others)) (suc k) few))

-- behind an unfinished item there is nothing
torn_after : (at : ℕ) (i : Item) (f : ℕ → Scan) → i ≡ Unfinished → scan_after at i f ≡ record { payloads = []; end = Torn at }
torn_after at NoMore f h = cc
torn_after at Unfinished f h = refl
torn_after at (Wrong len stored computed) f h = cc
torn_after at (Whole n p) f h = cc

-- a part of a record is torn
scan_part : (n k block at : ℕ) (payload : List ℕ) → IsRecordOf block payload → 0 < n → n < k → blocks_of block (length payload) ≡ k
    → scan_from block at (take n (padded_blocks k block payload)) ≡ record { payloads = []; end = Torn at }
unfolding scan_within
scan_part zero k block at payload h some less is = absurd (omega arith)
scan_part (suc j) zero block at payload h some less is = absurd (omega arith)
scan_part (suc j) (suc k) block at payload h some less is =
    torn_after at (first_item block (take (suc j) (padded_blocks (suc k) block payload))) _ (part_unfinished j k block payload h (omega arith) is)

pub part_is_torn : PartIsTorn
unfolding record_blocks
part_is_torn block k blocks payload h clean some less =
    clean_scan_goes_on block blocks (take k (record_blocks block payload)) (omega (arith, h.0)) clean
    ∙ (ap (followed_by (scan block blocks)) (scan_part k (blocks_of block (length payload)) block (length blocks) payload h some less refl)
    ∙ ap (λ ps. record { payloads = ps; end = Torn (length blocks) }) (append-nil (scan block blocks).payloads))

-- the first blocks of a record, alone
pub scan_first_blocks : (k block at : ℕ) (payload : List ℕ) → IsRecordOf block payload → 0 < k → k < blocks_of block (length payload)
    → scan_from block at (take k (record_blocks block payload)) ≡ record { payloads = []; end = Torn at }
unfolding record_blocks
scan_first_blocks k block at payload h some less = scan_part k (blocks_of block (length payload)) block at payload h some less refl
