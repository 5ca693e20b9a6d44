-- What the first blocks of a list say of its first record.
use Rattle.std.proofs.Common.{◌≡◌, ℕ, zero, suc, ◌+◌, ◌-◌, ◌*◌, ◌<◌, ◌≤◌, List, [], ◌∷◌, ◌++◌, length, take, drop, sym, ap, ◌∙◌, arith, append-nil, add-one, length-drop}
use Rattle.std.specs.Prelude.{IsTrue, cond}
use Rattle.std.specs.List.{concat}
use Rattle.std.proofs.lemmas.List.Folds.{concat-append}
use Rattle.std.proofs.Math.Seq.{take-add}
use Rattle.std.proofs.lemmas.List.{drop-drop, length-map, nil_from_length}
use Rattle.std.proofs.lemmas.Bool.{lt-ltb, le-ltb}
use Rattle.std.proofs.lemmas.Grind.{common_steps, div_ceil_times}
use Rattle.zone_image.specs.declared.Geometry.{Geometry}
use Rattle.zone_image.specs.declared.ZoneInfo.{ZoneInfo}
use Rattle.zone_image.specs.Image.{Image, is_valid, zone_at}
use Rattle.zone_image.specs.Infos.{info_at, info_of, IsPossible, IsImage}
use Rattle.zone_image.proofs.InfoLaws.{info_at_is}
use Rattle.superblock_core.specs.Superblock.{u32_at}
use Rattle.log_model.specs.LogScan.{blocks_of, first_item, sized_item, whole_item}
use Rattle.log_model.specs.LogScan.Item.{NoMore, Unfinished}

-- a zone's written number is the number of its blocks
pub written_is : (g : Geometry) (infos : List ZoneInfo) (i : Image) (zone : ℕ) → IsPossible g infos → IsImage g infos i → zone < g.zones
    → (info_at infos zone).written ≡ length (zone_at i zone).blocks
written_is g infos i zone possible image within =
    let count : length i.zones ≡ g.zones = sym (length-map i.zones info_of) ∙ ap length image.told ∙ possible.count in
    ap (λ all. (info_at all zone).written) (sym image.told) ∙ ap (λ info. info.written) (info_at_is i zone (omega (arith, count, within)))

-- behind the last block stands nothing
pub none_left : (block_size next : ℕ) (blocks : List (List ℕ)) → length blocks ≤ next → first_item block_size (drop next blocks) ≡ NoMore
unfolding first_item
none_left block_size next blocks past =
    let none : length (drop next blocks) ≡ 0 = length-drop next blocks ∙ omega arith in
    ap (λ xs. first_item block_size xs) (nil_from_length (drop next blocks) none)

-- the first block states the record's length
first_sized : (block_size : ℕ) (xs : List (List ℕ)) (first : List ℕ) → 0 < length xs → first ≡ concat (take 1 xs)
    → first_item block_size xs ≡ sized_item (blocks_of block_size (u32_at 4 first)) (u32_at 4 first) xs
unfolding first_item
first_sized block_size [] first some is = absurd (omega arith)
first_sized block_size (x ∷ xs) first some is =
    let same : x ≡ first = sym (is ∙ append-nil x) in
    ap (λ b. sized_item (blocks_of block_size (u32_at 4 b)) (u32_at 4 b) (x ∷ xs)) same

-- a record that states more blocks than are left is unfinished
pub unfinished : (block_size : ℕ) (xs : List (List ℕ)) (first : List ℕ) → 0 < length xs → first ≡ concat (take 1 xs) → length xs < blocks_of block_size (u32_at 4 first)
    → first_item block_size xs ≡ Unfinished
unfinished block_size xs first some is more =
    let len = u32_at 4 first in
    let count = blocks_of block_size len in
    first_sized block_size xs first some is ∙ ap (λ short. cond short Unfinished (whole_item count len (concat (take count xs)))) (lt-ltb (length xs) count more)

-- a record whose blocks are there is what these say
pub whole : (block_size : ℕ) (xs : List (List ℕ)) (first bytes : List ℕ) (len count : ℕ) → 0 < length xs → first ≡ concat (take 1 xs) → len ≡ u32_at 4 first
    → count ≡ blocks_of block_size (u32_at 4 first) → count ≤ length xs → bytes ≡ concat (take count xs) → first_item block_size xs ≡ whole_item count len bytes
whole block_size xs first bytes len count some is len_is count_is there all =
    first_sized block_size xs first some is
    ∙ ap (λ n. sized_item n (u32_at 4 first) xs) (sym count_is)
    ∙ ap (λ n. sized_item count n xs) (sym len_is)
    ∙ ap (λ short. cond short Unfinished (whole_item count len (concat (take count xs)))) (le-ltb (length xs) count there)
    ∙ ap (whole_item count len) (sym all)

-- a device of a valid geometry has blocks of some bytes
pub block_positive : (g : Geometry) → IsTrue (is_valid g) → 0 < g.block
block_positive g valid = grind (arith, common_steps)

-- some bytes are more than none
positive_from : (n block_size len : ℕ) → 8 + len ≤ n * block_size → 0 < n
positive_from zero block_size len h = omega arith
positive_from (suc n) block_size len h = omega arith

-- a record has a block
pub blocks_positive : (block_size len : ℕ) → 0 < block_size → 0 < blocks_of block_size len
blocks_positive block_size len positive = positive_from (blocks_of block_size len) block_size len (div_ceil_times (8 + len) block_size positive).0

-- so many times a block, and once more
pub one_and_rest : (count block_size : ℕ) → 0 < count → block_size + (count - 1) * block_size ≡ count * block_size
one_and_rest zero block_size some = absurd (omega arith)
one_and_rest (suc n) block_size some = let rest : suc n - 1 ≡ n = omega arith in rw rest (omega (arith, add-one n))

-- the first block and the others are all of them
pub joined : (blocks : List (List ℕ)) (next count : ℕ) → 0 < count → concat (take 1 (drop next blocks)) ++ concat (take (count - 1) (drop (next + 1) blocks)) ≡ concat (take count (drop next blocks))
joined blocks next count some =
    let xs = drop next blocks in
    let sum : 1 + (count - 1) ≡ count = omega arith in
    ap (λ ys. concat (take 1 xs) ++ concat (take (count - 1) ys)) (sym (drop-drop 1 next blocks))
    ∙ sym (concat-append (take 1 xs) (take (count - 1) (drop 1 xs)))
    ∙ ap concat (sym (take-add 1 (count - 1) xs) ∙ ap (λ n. take n xs) sum)
