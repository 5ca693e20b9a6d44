-- An extent that is noted in pieces is noted as one.
use Rattle.std.specs.Prelude.{◌≡◌, ℕ, suc, ◌+◌, Bool, true, false, ◌==◌, List, [], ◌∷◌, length, refl, if◌then◌else◌}
use Rattle.std.proofs.Common.{◌∙◌, ap, arith}
use Rattle.std.proofs.lemmas.Bool.{eqb-true, eq-eqb}
use Rattle.record_model.specs.declared.types.Extent.{Extent}
use Rattle.fs_model.specs.FileSteps.{extents_with}

-- an extent of some bytes
abbrev pub extent : ℕ → ℕ → Extent
extent start len = record { start = start; len = len }

-- the number of extents doesn't depend on the length, one of two
same_count_choice : (b : Bool) (y : Extent) (a n m : ℕ)
    → length (if b then (record y { len = y.len + n }) ∷ [] else y ∷ extent a n ∷ []) ≡ length (if b then (record y { len = y.len + m }) ∷ [] else y ∷ extent a m ∷ [])
same_count_choice true y a n m = refl
same_count_choice false y a n m = refl

-- the number of extents doesn't depend on the length of the new one
pub same_count : (xs : List Extent) (a n m : ℕ) → length (extents_with xs (extent a n)) ≡ length (extents_with xs (extent a m))
same_count [] a n m = refl
same_count (y ∷ []) a n m = same_count_choice (y.start + y.len == a) y a n m
same_count (y ∷ z ∷ zs) a n m = ap (λ k. suc k) (same_count (z ∷ zs) a n m)

-- the last extent is made longer, and not the ones before it
tail_choice : (b : Bool) (y z u x : Extent) (w : Extent)
    → extents_with (y ∷ (if b then z ∷ [] else u ∷ w ∷ [])) x ≡ y ∷ extents_with (if b then z ∷ [] else u ∷ w ∷ []) x
tail_choice true y z u x w = refl
tail_choice false y z u x w = refl

-- an extent after others
tail_last : (y z : Extent) (zs : List Extent) (w x : Extent) → extents_with (y ∷ extents_with (z ∷ zs) w) x ≡ y ∷ extents_with (extents_with (z ∷ zs) w) x
tail_last y z [] w x = tail_choice (z.start + z.len == w.start) y (record z { len = z.len + w.len }) z x w
tail_last y z (v ∷ vs) w x = refl

-- a piece that follows a new one
follows_new : (a n k : ℕ) → extents_with (extent a n ∷ []) (extent (a + n) k) ≡ extent a (n + k) ∷ []
follows_new a n k = ap (λ b. if b then extent a (n + k) ∷ [] else extent a n ∷ extent (a + n) k ∷ []) (eq-eqb (a + n) (a + n) refl)

-- a piece that follows one that made the last longer
follows_longer : (b : Bool) (y : Extent) (a n k : ℕ) → (y.start + y.len == a) ≡ b
    → extents_with (if b then (record y { len = y.len + n }) ∷ [] else y ∷ extent a n ∷ []) (extent (a + n) k)
    ≡ (if b then (record y { len = y.len + (n + k) }) ∷ [] else y ∷ extent a (n + k) ∷ [])
follows_longer true y a n k is =
    let same = eqb-true (y.start + y.len) a is in
    let ends : y.start + (y.len + n) ≡ a + n = omega arith in
    let sum : y.len + n + k ≡ y.len + (n + k) = omega arith in
    ap (λ b. if b then (record y { len = y.len + n + k }) ∷ [] else (record y { len = y.len + n }) ∷ extent (a + n) k ∷ []) (eq-eqb (y.start + (y.len + n)) (a + n) ends)
    ∙ ap (λ l. (record y { len = l }) ∷ []) sum
follows_longer false y a n k is = ap (λ xs. y ∷ xs) (follows_new a n k)

-- two pieces, one after the other, are one
pub pieces_join : (xs : List Extent) (a n k : ℕ) → extents_with (extents_with xs (extent a n)) (extent (a + n) k) ≡ extents_with xs (extent a (n + k))
pieces_join [] a n k = follows_new a n k
pieces_join (y ∷ []) a n k = follows_longer (y.start + y.len == a) y a n k refl
pieces_join (y ∷ z ∷ zs) a n k = tail_last y z zs (extent a n) (extent (a + n) k) ∙ ap (λ ws. y ∷ ws) (pieces_join (z ∷ zs) a n k)
