-- Bytes as blocks: all arithmetic with the size of a block stands here.
use Rattle.std.proofs.Common.{◌≡◌, ℕ, zero, suc, ◌+◌, ◌-◌, ◌*◌, ◌/◌, ◌%◌, ◌<◌, ◌≤◌, ⊎_elim, List, [], ◌∷◌, ◌++◌, length, take, drop, refl, sym, ◌∙◌, ap, arith, length-drop}
use Rattle.std.specs.List.{All, concat}
use Rattle.std.proofs.lemmas.List.{take_all, nil_from_length, take-append-le, drop-append-le, take-take, drop-take, length-take-le, drop-drop}
use Rattle.std.proofs.lemmas.List.Elements.{All-nil, All-cons}
use Rattle.std.proofs.Math.Seq.{take-add}
use Rattle.std.proofs.lemmas.Bool.{cases_lt}
use Rattle.std.proofs.Math.Nat.{mul-le-mul_right, mul-div_left}
use Rattle.std.proofs.lemmas.Nat.{div-add-mod'}
use Rattle.zone_image.specs.declared.Geometry.{Geometry}
use Rattle.zone_image.specs.Changes.{chunks, blocks_in}

more : (n block : ℕ) → suc n * block ≡ block + n * block
more n block = omega arith

pub length-chunks : (block n : ℕ) (xs : List ℕ) → length (chunks block n xs) ≡ n
length-chunks block zero xs = refl
length-chunks block (suc n) xs = ap suc (length-chunks block n (drop block xs))

-- whole blocks and further blocks behind them
pub chunks-append : (block n m : ℕ) (xs ys : List ℕ) → length xs ≡ n * block → chunks block (n + m) (xs ++ ys) ≡ chunks block n xs ++ chunks block m ys
chunks-append block zero m xs ys long =
    let none : xs ≡ [] = nil_from_length xs (omega (arith, long)) in
    let count : zero + m ≡ m = omega arith in
    ap (λ k. chunks block k (xs ++ ys)) count ∙ ap (λ (l : List ℕ). chunks block m (l ++ ys)) none
chunks-append block (suc n) m xs ys long =
    let enough : block ≤ length xs = omega (arith, long, more n block) in
    let rest : length (drop block xs) ≡ n * block = omega (arith, length-drop block xs, long, more n block) in
    let count : suc n + m ≡ suc (n + m) = omega arith in
    ap (λ k. chunks block k (xs ++ ys)) count
    ∙ ap (λ (l : List ℕ). l ∷ chunks block (n + m) (drop block (xs ++ ys))) (take-append-le block xs ys enough)
    ∙ ap (λ (l : List ℕ). take block xs ∷ chunks block (n + m) l) (drop-append-le block xs ys enough)
    ∙ ap (λ (l : List (List ℕ)). take block xs ∷ l) (chunks-append block n m (drop block xs) ys rest)

-- the first blocks are those of the same bytes
pub take-chunks : (block j n : ℕ) (xs : List ℕ) → j ≤ n → take j (chunks block n xs) ≡ chunks block j xs
take-chunks block zero n xs le = refl
take-chunks block (suc j) zero xs le = absurd (omega arith)
take-chunks block (suc j) (suc n) xs le = ap (λ (l : List (List ℕ)). take block xs ∷ l) (take-chunks block j n (drop block xs) (omega arith))

-- they need no bytes behind them
pub chunks-take : (block j : ℕ) (xs : List ℕ) → chunks block j (take (j * block) xs) ≡ chunks block j xs
chunks-take block zero xs = refl
chunks-take block (suc j) xs =
    ap (λ k. chunks block (suc j) (take k xs)) (more j block)
    ∙ ap (λ (l : List ℕ). l ∷ chunks block j (drop block (take (block + j * block) xs))) (take-take block (block + j * block) xs (omega arith))
    ∙ ap (λ (l : List ℕ). take block xs ∷ chunks block j l) (drop-take block (j * block) xs)
    ∙ ap (λ (l : List (List ℕ)). take block xs ∷ l) (chunks-take block j (drop block xs))

-- the blocks behind the first ones
pub drop-chunks : (block j n : ℕ) (xs : List ℕ) → j ≤ n → drop j (chunks block n xs) ≡ chunks block (n - j) (drop (j * block) xs)
drop-chunks block zero n xs le =
    let none : zero * block ≡ 0 = omega arith in
    let all : n - zero ≡ n = omega arith in
    sym (ap (λ k. chunks block k (drop (zero * block) xs)) all ∙ ap (λ k. chunks block n (drop k xs)) none)
drop-chunks block (suc j) zero xs le = absurd (omega arith)
drop-chunks block (suc j) (suc n) xs le =
    let left : suc n - suc j ≡ n - j = omega arith in
    drop-chunks block j n (drop block xs) (omega arith)
    ∙ ap (λ (l : List ℕ). chunks block (n - j) l) (drop-drop (j * block) block xs)
    ∙ ap (λ k. chunks block (n - j) (drop k xs)) (sym (more j block))
    ∙ ap (λ k. chunks block k (drop (suc j * block) xs)) (sym left)

-- joined again
pub concat-chunks : (block n : ℕ) (xs : List ℕ) → concat (chunks block n xs) ≡ take (n * block) xs
concat-chunks block zero xs =
    let none : zero * block ≡ 0 = omega arith in
    sym (ap (λ k. take k xs) none)
concat-chunks block (suc n) xs =
    ap (λ (l : List ℕ). take block xs ++ l) (concat-chunks block n (drop block xs))
    ∙ sym (take-add block (n * block) xs)
    ∙ ap (λ k. take k xs) (sym (more n block))

-- the bytes of some blocks behind others
pub concat_part : (block j count n : ℕ) (xs : List ℕ) → j + count ≤ n → concat (take count (drop j (chunks block n xs))) ≡ take (count * block) (drop (j * block) xs)
concat_part block j count n xs le =
    ap (λ (l : List (List ℕ)). concat (take count l)) (drop-chunks block j n xs (omega arith))
    ∙ ap concat (take-chunks block count (n - j) (drop (j * block) xs) (omega arith))
    ∙ concat-chunks block count (drop (j * block) xs)

-- each block is whole
pub All-chunks : (block n : ℕ) (xs : List ℕ) → n * block ≤ length xs → All (λ b. length b ≡ block) (chunks block n xs)
All-chunks block zero xs long = All-nil (λ (b : List ℕ). length b ≡ block)
All-chunks block (suc n) xs long =
    All-cons (λ (b : List ℕ). length b ≡ block) (take block xs) (chunks block n (drop block xs)) (length-take-le block xs (omega (arith, long, more n block))) (All-chunks block n (drop block xs) (omega (arith, length-drop block xs, long, more n block)))

-- bytes of whole blocks
pub whole_bytes : (bytes block : ℕ) → bytes % block ≡ 0 → bytes / block * block ≡ bytes
whole_bytes bytes block whole = omega (arith, div-add-mod' bytes block, whole)

-- so many blocks are in the bytes, each of them whole
pub length-blocks_in : (g : Geometry) (bytes : List ℕ) → length (blocks_in g bytes) ≡ length bytes / g.block
length-blocks_in g bytes = length-chunks g.block (length bytes / g.block) bytes

pub All-blocks_in : (g : Geometry) (bytes : List ℕ) → length bytes % g.block ≡ 0 → All (λ b. length b ≡ g.block) (blocks_in g bytes)
All-blocks_in g bytes whole = All-chunks g.block (length bytes / g.block) bytes (omega (arith, whole_bytes (length bytes) g.block whole))

-- the first bytes of whole blocks are the first blocks
pub blocks_in-take : (g : Geometry) (n : ℕ) (bytes : List ℕ) → 0 < g.block → length bytes % g.block ≡ 0 → blocks_in g (take (n * g.block) bytes) ≡ take n (blocks_in g bytes)
blocks_in-take g n bytes some whole = ⊎_elim
    (λ beyond. all (omega (arith, beyond)))
    (λ within. part within)
    (cases_lt (length bytes / g.block) n)
  where
    size : length bytes / g.block * g.block ≡ length bytes
    size = whole_bytes (length bytes) g.block whole

    all : length bytes / g.block ≤ n → blocks_in g (take (n * g.block) bytes) ≡ take n (blocks_in g bytes)
    all le =
        let long : length bytes ≤ n * g.block = omega (arith, size, mul-le-mul_right g.block le) in
        ap (blocks_in g) (take_all (n * g.block) bytes long) ∙ sym (take_all n (blocks_in g bytes) (omega (arith, length-blocks_in g bytes, le)))

    part : n ≤ length bytes / g.block → blocks_in g (take (n * g.block) bytes) ≡ take n (blocks_in g bytes)
    part le =
        let fits : n * g.block ≤ length bytes = omega (arith, size, mul-le-mul_right g.block le) in
        let number : length (take (n * g.block) bytes) / g.block ≡ n = ap (λ k. k / g.block) (length-take-le (n * g.block) bytes fits) ∙ mul-div_left n some in
        ap (λ k. chunks g.block k (take (n * g.block) bytes)) number
        ∙ chunks-take g.block n bytes
        ∙ sym (take-chunks g.block n (length bytes / g.block) bytes le)
