-- Bytes of whole blocks, and of parts of them.
use Rattle.std.specs.Prelude.{◌≡◌, ℕ, zero, suc, ◌+◌, ◌-◌, ◌*◌, ◌/◌, ◌%◌, ◌<◌, ◌≤◌, List, [], ◌∷◌, ◌++◌, length, take, drop, refl}
use Rattle.std.specs.List.{All, concat}
use Rattle.std.proofs.Common.{◌∙◌, ap, sym, arith, take-add, drop-drop, div-add-mod'}
use Rattle.std.proofs.Math.Nat.{zero-mul, suc-mul, div_self, mul-mod_left, mod-lt}
use Rattle.std.proofs.Math.Seq.{drop-append_seam, take-append-add}
use Rattle.std.proofs.lemmas.List.{drop-take}
use Rattle.std.proofs.lemmas.List.Elements.{All-head, All-tail, All-nil, All-drop}
use Rattle.zone_image.specs.declared.Geometry.{Geometry}
use Rattle.zone_image.specs.declared.ZoneInfo.{ZoneInfo}
use Rattle.zone_image.specs.Image.{Zone, Image, zone_at, zone_in}
use Rattle.zone_image.specs.Changes.{bytes_at}
use Rattle.zone_image.specs.Infos.{IsZone, IsImage}
use Rattle.zone_image.proofs.BlockLaws.{whole_bytes}
use Rattle.log_model.proofs.RecordCrash.{take_twice}
use Rattle.extent_reader.specs.ZoneParts.{zone_part}

-- each has so many bytes
abbrev AreWhole : ℕ → List (List ℕ) → Type 0
AreWhole block bs = All (λ b. length b ≡ block) bs

-- nothing is behind nothing
drop_none : (n : ℕ) → drop {A = ℕ} n [] ≡ []
drop_none zero = refl
drop_none (suc n) = refl

-- nothing is of nothing
take_none : (n : ℕ) → take {A = ℕ} n [] ≡ []
take_none zero = refl
take_none (suc n) = refl

-- one block and so many more
one_more : (block k : ℕ) (b : List ℕ) → length b ≡ block → suc k * block ≡ length b + k * block
one_more block k b first = suc-mul k block ∙ omega (arith, first)

-- the bytes behind the first blocks
drop_blocks : (block k : ℕ) (bs : List (List ℕ)) → AreWhole block bs → concat (drop k bs) ≡ drop (k * block) (concat bs)
drop_blocks block zero bs whole = ap (λ n. drop n (concat bs)) (sym (zero-mul block))
drop_blocks block (suc k) [] whole = sym (drop_none (suc k * block))
drop_blocks block (suc k) (b ∷ bs) whole =
    drop_blocks block k bs (All-tail (λ b. length b ≡ block) b bs whole)
    ∙ ap (drop (k * block)) (sym (drop-append_seam b (concat bs)))
    ∙ drop-drop (k * block) (length b) (b ++ concat bs)
    ∙ ap (λ n. drop n (b ++ concat bs)) (omega (arith, one_more block k b (All-head (λ b. length b ≡ block) b bs whole)))

-- the bytes of the first blocks
take_blocks : (block k : ℕ) (bs : List (List ℕ)) → AreWhole block bs → concat (take k bs) ≡ take (k * block) (concat bs)
take_blocks block zero bs whole = ap (λ n. take n (concat bs)) (sym (zero-mul block))
take_blocks block (suc k) [] whole = sym (take_none (suc k * block))
take_blocks block (suc k) (b ∷ bs) whole =
    ap (λ xs. b ++ xs) (take_blocks block k bs (All-tail (λ b. length b ≡ block) b bs whole))
    ∙ sym (take-append-add b (concat bs) (k * block))
    ∙ ap (λ n. take n (b ++ concat bs)) (sym (one_more block k b (All-head (λ b. length b ≡ block) b bs whole)))

-- blocks of a zone are its bytes
blocks_are : (block k count : ℕ) (bs : List (List ℕ)) → AreWhole block bs → concat (take count (drop k bs)) ≡ take (count * block) (drop (k * block) (concat bs))
blocks_are block k count bs whole =
    take_blocks block count (drop k bs) (All-drop (λ b. length b ≡ block) k bs whole) ∙ ap (take (count * block)) (drop_blocks block k bs whole)

-- a zone of a list has whole blocks
zone_whole : (g : Geometry) (zs : List Zone) (n : ℕ) → All (IsZone g) zs → AreWhole g.block (zone_in zs n).blocks
zone_whole g [] n each = All-nil (λ b. length b ≡ g.block)
zone_whole g (z ∷ zs) zero each = (All-head (IsZone g) z zs each).blocks
zone_whole g (z ∷ zs) (suc n) each = zone_whole g zs n (All-tail (IsZone g) z zs each)

-- blocks that are read are the bytes of the zone
pub whole_read : (g : Geometry) (infos : List ZoneInfo) (i : Image) (zone offset len block count : ℕ) → IsImage g infos i → offset % g.block ≡ 0 → len % g.block ≡ 0
    → block ≡ offset / g.block → count ≡ len / g.block → bytes_at i zone block count ≡ zone_part i zone offset len
whole_read g infos i zone offset len block count is starts whole at many =
    let first : block * g.block ≡ offset = ap (λ n. n * g.block) at ∙ whole_bytes offset g.block starts in
    let size : count * g.block ≡ len = ap (λ n. n * g.block) many ∙ whole_bytes len g.block whole in
    blocks_are g.block block count (zone_at i zone).blocks (zone_whole g i.zones zone is.zones)
    ∙ ap (λ n. take n (drop (block * g.block) (concat (zone_at i zone).blocks))) size
    ∙ ap (λ n. take len (drop n (concat (zone_at i zone).blocks))) first

-- the first of the first are the first
first_of_more : (m n : ℕ) (xs : List ℕ) → m ≤ n → take m (take n xs) ≡ take m xs
first_of_more m n xs le = take_twice m n xs ∙ ap (λ k. take k xs) (omega (arith, le))

-- a part of what was taken
part_taken : (skip len size : ℕ) (xs : List ℕ) → skip + len ≤ size → take len (drop skip (take size xs)) ≡ take len (drop skip xs)
part_taken skip len size xs le =
    let split : size ≡ skip + (size - skip) = omega (arith, le) in
    ap (λ n. take len (drop skip (take n xs))) split
    ∙ ap (take len) (drop-take skip (size - skip) xs)
    ∙ first_of_more len (size - skip) (drop skip xs) (omega (arith, le))

-- whole blocks and the rest
whole_and_rest : (offset block : ℕ) → offset % block + offset / block * block ≡ offset
whole_and_rest offset block = omega (arith, div-add-mod' offset block)

-- a part of one block is part of the zone
pub part_read : (g : Geometry) (infos : List ZoneInfo) (i : Image) (zone offset len block : ℕ) (bytes : List ℕ) → IsImage g infos i → offset % g.block + len ≤ g.block
    → block ≡ offset / g.block → bytes ≡ bytes_at i zone block 1 → take len (drop (offset % g.block) bytes) ≡ zone_part i zone offset len
part_read g infos i zone offset len block bytes is within at read =
    let all = concat (zone_at i zone).blocks in
    let skip = offset % g.block in
    let one : 1 * g.block ≡ g.block = omega arith in
    let sum : block * g.block + skip ≡ offset = ap (λ n. n * g.block + skip) at ∙ omega (arith, whole_and_rest offset g.block) in
    ap (λ bs. take len (drop skip bs)) (read ∙ blocks_are g.block block 1 (zone_at i zone).blocks (zone_whole g i.zones zone is.zones)
    ∙ ap (λ n. take n (drop (block * g.block) all)) one)
    ∙ part_taken skip len g.block (drop (block * g.block) all) within
    ∙ ap (take len) (drop-drop skip (block * g.block) all ∙ ap (λ n. drop n all) sum)

-- two parts one behind the other
pub parts_join : (i : Image) (zone offset front back len : ℕ) → front + back ≡ len
    → zone_part i zone offset front ++ zone_part i zone (offset + front) back ≡ zone_part i zone offset len
parts_join i zone offset front back len sum =
    let all = concat (zone_at i zone).blocks in
    ap (λ xs. take front (drop offset all) ++ take back xs) (ap (λ n. drop n all) (omega arith) ∙ sym (drop-drop front offset all))
    ∙ sym (take-add front back (drop offset all))
    ∙ ap (λ n. take n (drop offset all)) sum

-- a buffer of one block
pub one_block : (g : Geometry) (len : ℕ) → 0 < g.block → len ≡ g.block → len / g.block ≡ 1
one_block g len some is = ap (λ n. n / g.block) is ∙ div_self some

-- what is left of a block ends it
pub to_the_end : (offset block : ℕ) → 0 < block → (offset + (block - offset % block)) % block ≡ 0
to_the_end offset block some =
    let q : ℕ = offset / block in
    let next : offset + (block - offset % block) ≡ suc q * block = omega (arith, whole_and_rest offset block, suc-mul q block, mod-lt offset some) in
    ap (λ n. n % block) next ∙ mul-mod_left (suc q) block
