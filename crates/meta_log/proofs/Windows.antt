-- Bytes of whole blocks, and of parts of them.
use Rattle.std.proofs.Common.{◌≡◌, ℕ, zero, suc, ◌+◌, ◌-◌, ◌*◌, ◌<◌, ◌≤◌, ⊎_elim, List, [], ◌∷◌, ◌++◌, length, take, drop, refl, sym, ap, ◌∙◌, subst, arith, drop-drop, length-drop}
use Rattle.std.specs.List.{All, concat}
use Rattle.std.specs.Prelude.{min}
use Rattle.std.proofs.Math.Nat.{add-mul, zero-mul, suc-mul, mul-le-mul_right}
use Rattle.std.proofs.lemmas.Bool.{cases_lt}
use Rattle.std.proofs.Math.Seq.{drop-append_seam, take-append-add}
use Rattle.std.proofs.lemmas.List.{nil_from_length, take-take}
use Rattle.std.proofs.lemmas.List.Elements.{All-head, All-tail, All-nil, All-drop}
use Rattle.zone_image.specs.declared.Geometry.{Geometry}
use Rattle.zone_image.specs.declared.ZoneInfo.{ZoneInfo}
use Rattle.zone_image.specs.Image.{Zone, Image, zone_at, zone_in}
use Rattle.zone_image.specs.Infos.{IsZone, IsImage}
use Rattle.meta_log.specs.Reader.{last_blocks}

-- each has so many bytes
abbrev pub AreWhole : ℕ → List (List ℕ) → Type 0
AreWhole block bs = All (λ b. length b ≡ block) bs

-- nothing is behind nothing
drop_none : (n : ℕ) → drop {A = ℕ} n [] ≡ []
drop_none zero = refl
drop_none (suc n) = refl

-- nothing is of nothing
take_none : (n : ℕ) → take {A = ℕ} n [] ≡ []
take_none zero = refl
take_none (suc n) = refl

-- one block and so many more
one_more : (block k : ℕ) (b : List ℕ) → length b ≡ block → suc k * block ≡ length b + k * block
one_more block k b first = suc-mul k block ∙ omega (arith, first)

-- the bytes behind the first blocks
pub drop_blocks : (block k : ℕ) (bs : List (List ℕ)) → AreWhole block bs → concat (drop k bs) ≡ drop (k * block) (concat bs)
drop_blocks block zero bs whole = ap (λ n. drop n (concat bs)) (sym (zero-mul block))
drop_blocks block (suc k) [] whole = sym (drop_none (suc k * block))
drop_blocks block (suc k) (b ∷ bs) whole =
    drop_blocks block k bs (All-tail (λ b. length b ≡ block) b bs whole)
    ∙ ap (drop (k * block)) (sym (drop-append_seam b (concat bs)))
    ∙ drop-drop (k * block) (length b) (b ++ concat bs)
    ∙ ap (λ n. drop n (b ++ concat bs)) (omega (arith, one_more block k b (All-head (λ b. length b ≡ block) b bs whole)))

-- the bytes of the first blocks
pub take_blocks : (block k : ℕ) (bs : List (List ℕ)) → AreWhole block bs → concat (take k bs) ≡ take (k * block) (concat bs)
take_blocks block zero bs whole = ap (λ n. take n (concat bs)) (sym (zero-mul block))
take_blocks block (suc k) [] whole = sym (take_none (suc k * block))
take_blocks block (suc k) (b ∷ bs) whole =
    ap (λ xs. b ++ xs) (take_blocks block k bs (All-tail (λ b. length b ≡ block) b bs whole))
    ∙ sym (take-append-add b (concat bs) (k * block))
    ∙ ap (λ n. take n (b ++ concat bs)) (sym (one_more block k b (All-head (λ b. length b ≡ block) b bs whole)))

-- a zone of a list has whole blocks
zones_whole : (g : Geometry) (zs : List Zone) (n : ℕ) → All (IsZone g) zs → AreWhole g.block (zone_in zs n).blocks
zones_whole g [] n each = All-nil (λ b. length b ≡ g.block)
zones_whole g (z ∷ zs) zero each = (All-head (IsZone g) z zs each).blocks
zones_whole g (z ∷ zs) (suc n) each = zones_whole g zs n (All-tail (IsZone g) z zs each)

-- a zone of an image has whole blocks
pub zone_whole : (g : Geometry) (infos : List ZoneInfo) (i : Image) (zone block : ℕ) → IsImage g infos i → block ≡ g.block → AreWhole block (zone_at i zone).blocks
zone_whole g infos i zone block is same = subst (λ b. AreWhole b (zone_at i zone).blocks) (sym same) (zones_whole g i.zones zone is.zones)

-- behind what was taken the rest is taken
drop_taken : (k m : ℕ) (xs : List ℕ) → drop k (take m xs) ≡ take (m - k) (drop k xs)
drop_taken zero m xs = let all : m ≡ m - zero = omega arith in ap (λ n. take n xs) all
drop_taken (suc k) zero xs = let none : zero ≡ zero - suc k = omega arith in drop_none (suc k) ∙ ap (λ n. take n (drop (suc k) xs)) none
drop_taken (suc k) (suc m) [] = sym (take_none (suc m - suc k))
drop_taken (suc k) (suc m) (x ∷ xs) = let less : m - k ≡ suc m - suc k = omega arith in drop_taken k m xs ∙ ap (λ n. take n (drop k xs)) less

-- what is held behind some blocks, where what is held are first bytes
pub held_behind : (block next count : ℕ) (held : List ℕ) (blocks : List (List ℕ)) → AreWhole block blocks → held ≡ take (length held) (concat (drop next blocks))
    → drop (count * block) held ≡ take (length (drop (count * block) held)) (concat (drop (next + count) blocks))
held_behind block next count held blocks whole is =
    let k = count * block in
    let behind : concat (drop (next + count) blocks) ≡ drop k (concat (drop next blocks)) =
    ap concat (sym (drop-drop count next blocks ∙ ap (λ n. drop n blocks) (omega arith)))
    ∙ drop_blocks block count (drop next blocks) (All-drop (λ b. length b ≡ block) next blocks whole) in
    ap (drop k) is ∙ drop_taken k (length held) (concat (drop next blocks))
    ∙ ap (λ n. take n (drop k (concat (drop next blocks)))) (sym (length-drop k held))
    ∙ ap (take (length (drop k held))) (sym behind)

-- the first blocks of what is held are read ones
pub held_blocks : (block next count : ℕ) (held : List ℕ) (blocks : List (List ℕ)) → AreWhole block blocks → held ≡ take (length held) (concat (drop next blocks)) → count * block ≤ length held
    → take (count * block) held ≡ concat (take count (drop next blocks))
held_blocks block next count held blocks whole is enough =
    ap (take (count * block)) is ∙ take-take (count * block) (length held) (concat (drop next blocks)) enough
    ∙ sym (take_blocks block count (drop next blocks) (All-drop (λ b. length b ≡ block) next blocks whole))

-- blocks that were read are held
pub read_held : (block next count : ℕ) (held : List ℕ) (blocks : List (List ℕ)) → AreWhole block blocks → held ≡ concat (take count (drop next blocks)) → length held ≡ count * block
    → held ≡ take (length held) (concat (drop next blocks))
read_held block next count held blocks whole is long =
    is ∙ take_blocks block count (drop next blocks) (All-drop (λ b. length b ≡ block) next blocks whole) ∙ ap (λ n. take n (concat (drop next blocks))) (sym long)

-- so many bytes are in the last blocks
pub length-last : (block kept : ℕ) (buffer : List ℕ) → kept * block ≤ length buffer → length (last_blocks block kept buffer) ≡ kept * block
length-last block kept buffer there = length-drop (length buffer - kept * block) buffer ∙ omega (arith, there)

-- none are in no blocks
pub last_none : (block : ℕ) (buffer : List ℕ) → last_blocks block 0 buffer ≡ []
last_none block buffer = nil_from_length (last_blocks block 0 buffer) (length-last block 0 buffer (omega (arith, zero-mul block)) ∙ zero-mul block)

-- all of them
pub last_all : (block kept : ℕ) (buffer : List ℕ) → length buffer ≡ kept * block → last_blocks block kept buffer ≡ buffer
last_all block kept buffer long = let none : length buffer - kept * block ≡ 0 = omega (arith, long) in ap (λ n. drop n buffer) none

-- so many blocks fewer
fewer : (block kept count : ℕ) → count ≤ kept → (kept - count) * block + count * block ≡ kept * block
fewer block kept count le = sym (add-mul (kept - count) count block) ∙ ap (λ n. n * block) (omega (arith, le))

-- the last blocks but for the first of them
pub last_behind : (block kept count passed : ℕ) (buffer : List ℕ) → kept * block ≤ length buffer → passed ≡ min count kept
    → last_blocks block (kept - passed) buffer ≡ drop (count * block) (last_blocks block kept buffer)
last_behind block kept count passed buffer there is = ⊎_elim all some (cases_lt kept count)
  where
    all : kept < count → last_blocks block (kept - passed) buffer ≡ drop (count * block) (last_blocks block kept buffer)
    all more =
        let none : kept - passed ≡ 0 = omega (arith, is, more) in
        let past : kept * block ≤ count * block = mul-le-mul_right block (omega (arith, more)) in
        ap (λ n. last_blocks block n buffer) none ∙ last_none block buffer
        ∙ sym (nil_from_length (drop (count * block) (last_blocks block kept buffer)) (length-drop (count * block) (last_blocks block kept buffer) ∙ omega (arith, length-last block kept buffer there, past)))

    some : count ≤ kept → last_blocks block (kept - passed) buffer ≡ drop (count * block) (last_blocks block kept buffer)
    some le =
        let same : kept - passed ≡ kept - count = omega (arith, is, le) in
        let less : length buffer - (kept - count) * block ≡ length buffer - kept * block + count * block = omega (arith, fewer block kept count le, there) in
        ap (λ n. last_blocks block n buffer) same ∙ ap (λ n. drop n buffer) less ∙ sym (drop-drop (count * block) (length buffer - kept * block) buffer)

-- a part of what was taken
pub part_taken : (skip len size : ℕ) (xs : List ℕ) → skip + len ≤ size → take len (drop skip (take size xs)) ≡ take len (drop skip xs)
part_taken skip len size xs le = ap (take len) (drop_taken skip size xs) ∙ take-take len (size - skip) (drop skip xs) (omega (arith, le))
