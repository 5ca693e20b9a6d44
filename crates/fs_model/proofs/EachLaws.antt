-- Operations that are done several times, in pieces.
use Rattle.std.specs.Prelude.{◌≡◌, ◌≢◌, ◌⊎◌, ℕ, zero, suc, ◌+◌, List, [], ◌∷◌, ◌++◌, Contains, Result, Ok, Err, refl}
use Rattle.std.proofs.Common.{sym, ◌∙◌, subst, append_assoc, inl, inr, ⊎_elim, arith}
use Rattle.std.proofs.lemmas.List.Elements.{Contains-append_left, Contains-append_right, Contains-append_cases, Contains-push, Contains-push_cases}
use Rattle.fs_model.specs.Trace.{Action, done, continue, each, repeat, ◌>>=◌, Refines, RefinesErr, intermediate_states}
use Rattle.fs_model.specs.declared.error.FsError.{FsError}
use Rattle.fs_model.specs.declared.error.FsError.TheVariants.{Stopped, Gone, InUse, NotFound, Exists, IdsEnd, SequenceEnd, MetaFull, NoSpace, Busy, NoMemory, DevFault}
use Rattle.fs_model.proofs.TraceLaws.{refines_then}

-- where two operations answer Ok, so did the first of them
pub split : {S A B : Type 0} → (passed : List S) (last : S) (answer : Result A FsError) (f : A → Action S B) (y : B) (s : S)
    → ((continue passed last answer f).answer ≡ Ok y) × (s ≡ (continue passed last answer f).last)
    → (x : A) × (answer ≡ Ok x) × ((f x last).answer ≡ Ok y) × (s ≡ (f x last).last)
split passed last (Ok x) f y s h = (x, refl, h.0, h.1)
split passed last (Err e) f y s h = cc

-- elements of a list in order, and then those of another
pub each_then : {S X : Type 0} → (f : X → Action S (Unit {0})) (xs ys : List X) (s0 s1 s2 : S) (r : Result (Unit {0}) FsError)
    → Refines (each f xs) s0 (Ok tt) s1 → Refines (each f ys) s1 r s2 → r ≢ Err Stopped → Refines (each f (xs ++ ys)) s0 r s2
each_then {S = S} f [] ys s0 s1 s2 r a b away =
    let P : S → Type 0 = λ s. Refines (each f ys) s r s2 in subst P a.1 b
each_then f (x ∷ xs) ys s0 s1 s2 r a b away =
    let parts = split (f x s0).passed (f x s0).last (f x s0).answer (λ _. each f xs) tt s1 a in
    refines_then (f x) (λ _. each f (xs ++ ys)) s0 (f x s0).last s2 parts.0 r (parts.1, refl)
    (each_then f xs ys (f x s0).last s1 s2 r (parts.2, parts.3) b away) away

-- so many times, and then so many more
pub repeat_then : {S : Type 0} → (m : Action S (Unit {0})) (n k : ℕ) (s0 s1 s2 : S) (r : Result (Unit {0}) FsError)
    → Refines (repeat n m) s0 (Ok tt) s1 → Refines (repeat k m) s1 r s2 → r ≢ Err Stopped → Refines (repeat (n + k) m) s0 r s2
repeat_then {S = S} m zero k s0 s1 s2 r a b away =
    let P : S → Type 0 = λ s. Refines (repeat k m) s r s2 in
    let Q : ℕ → Type 0 = λ i. Refines (repeat i m) s0 r s2 in
    subst Q (omega arith) (subst P a.1 b)
repeat_then m (suc n) k s0 s1 s2 r a b away =
    let parts = split (m s0).passed (m s0).last (m s0).answer (λ _. repeat n m) tt s1 a in
    let Q : ℕ → Type 0 = λ i. Refines (repeat i m) s0 r s2 in
    let more : suc (n + k) ≡ suc n + k = omega arith in
    subst Q more
    (refines_then m (λ _. repeat (n + k) m) s0 (m s0).last s2 parts.0 r (parts.1, refl)
    (repeat_then m n k (m s0).last s1 s2 r (parts.2, parts.3) b away) away)

-- where m is refused, n is so too; and what m passes, n passes
abbrev Extends : {S A : Type 0} → Action S A → Action S A → S → Type 0
Extends {S} m n s =
    ((e : FsError) → (m s).answer ≡ Err e → ((n s).answer ≡ Err e) × ((n s).last ≡ (m s).last))
    × ((t : S) → Contains (intermediate_states (m s)) t → Contains (intermediate_states (n s)) t)

-- the same, but that n may leave out the state at which m begins
abbrev ExtendsAfter : {S A : Type 0} → Action S A → Action S A → S → Type 0
ExtendsAfter {S} m n s =
    ((e : FsError) → (m s).answer ≡ Err e → ((n s).answer ≡ Err e) × ((n s).last ≡ (m s).last))
    × ((t : S) → Contains (intermediate_states (m s)) t → (s ≡ t) ⊎ Contains (intermediate_states (n s)) t)

-- what is done after the same first operation
extends_states : {S A B : Type 0} → (passed : List S) (last : S) (answer : Result A FsError) (f g : A → Action S B) (t : S)
    → ((x : A) → ExtendsAfter (f x) (g x) last) → Contains (intermediate_states (continue passed last answer f)) t → Contains (intermediate_states (continue passed last answer g)) t
extends_states passed last (Err e) f g t more h = h
extends_states {S = S} passed last (Ok x) f g t more h =
    let P : List S → Type 0 = λ xs. Contains xs t in
    let front : List S = passed ++ last ∷ [] in
    let back = subst P (append_assoc front (f x last).passed ((f x last).last ∷ [])) h in
    subst P (sym (append_assoc front (g x last).passed ((g x last).last ∷ [])))
    (⊎_elim (λ l. Contains-append_left front (intermediate_states (g x last)) t l)
    (λ r. ⊎_elim
    (λ same. let Q : S → Type 0 = λ u. Contains front u in Contains-append_left front (intermediate_states (g x last)) t (subst Q same (Contains-push passed last)))
    (λ i. Contains-append_right front (intermediate_states (g x last)) t i) ((more x).1 t r))
    (Contains-append_cases front (intermediate_states (f x last)) t back))

-- and how it is refused
extends_answer : {S A B : Type 0} → (passed : List S) (last : S) (answer : Result A FsError) (f g : A → Action S B) (e : FsError)
    → ((x : A) → ExtendsAfter (f x) (g x) last) → (continue passed last answer f).answer ≡ Err e
    → ((continue passed last answer g).answer ≡ Err e) × ((continue passed last answer g).last ≡ (continue passed last answer f).last)
extends_answer passed last (Err e') f g e more h = (h, refl)
extends_answer passed last (Ok x) f g e more h = (more x).0 e h

-- after the same first operation
extends_then : {S A B : Type 0} → (m : Action S A) (f g : A → Action S B) (s : S)
    → ((x : A) → ExtendsAfter (f x) (g x) (m s).last) → Extends (m >>= f) (m >>= g) s
extends_then m f g s more =
    (λ e h. extends_answer (m s).passed (m s).last (m s).answer f g e more h, λ t h. extends_states (m s).passed (m s).last (m s).answer f g t more h)

-- one that extends another also does so but for the first state
weaker : {S A : Type 0} → (m n : Action S A) (s : S) → Extends m n s → ExtendsAfter m n s
weaker m n s h = (h.0, λ t i. inr (h.1 t i))

-- nothing is extended by anything
nothing_extends : {S : Type 0} → (n : Action S (Unit {0})) (s : S) → ExtendsAfter (done tt) n s
nothing_extends n s = (λ e h. cc, λ t h. ⊎_elim (λ none. absurd (omega (arith, none.1))) (λ same. inl same) (Contains-push_cases [] s t h))

-- elements of a list are extended by more of them
each_extends : {S X : Type 0} → (f : X → Action S (Unit {0})) (xs ys : List X) (s : S) → ExtendsAfter (each f xs) (each f (xs ++ ys)) s
each_extends f [] ys s = nothing_extends (each f ys) s
each_extends f (x ∷ xs) ys s =
    weaker (each f (x ∷ xs)) (each f (x ∷ xs ++ ys)) s
    (extends_then (f x) (λ _. each f xs) (λ _. each f (xs ++ ys)) s (λ _. each_extends f xs ys (f x s).last))

-- so many times are extended by more
repeat_extends : {S : Type 0} → (m : Action S (Unit {0})) (n k : ℕ) (s : S) → ExtendsAfter (repeat n m) (repeat (n + k) m) s
repeat_extends m zero k s = nothing_extends (repeat (0 + k) m) s
repeat_extends {S = S} m (suc n) k s =
    let Q : ℕ → Type 0 = λ i. ExtendsAfter (repeat (suc n) m) (repeat i m) s in
    let more : suc (n + k) ≡ suc n + k = omega arith in
    subst Q more
    (weaker (repeat (suc n) m) (repeat (suc (n + k)) m) s
    (extends_then m (λ _. repeat n m) (λ _. repeat (n + k) m) s (λ _. repeat_extends m n k (m s).last)))

-- a refused call of m is one of n
err_extends : {S A : Type 0} → (m n : Action S A) (s t : S) (e : FsError) → Extends m n s → RefinesErr s (m s) e t → RefinesErr s (n s) e t
err_extends m n s t Stopped more h = h
err_extends m n s t NoMemory more h = more.1 t h
err_extends m n s t DevFault more h = more.1 t h
err_extends m n s t Gone more h = let is = more.0 Gone h.0 in (is.0, h.1 ∙ sym is.1)
err_extends m n s t InUse more h = let is = more.0 InUse h.0 in (is.0, h.1 ∙ sym is.1)
err_extends m n s t NotFound more h = let is = more.0 NotFound h.0 in (is.0, h.1 ∙ sym is.1)
err_extends m n s t Exists more h = let is = more.0 Exists h.0 in (is.0, h.1 ∙ sym is.1)
err_extends m n s t IdsEnd more h = let is = more.0 IdsEnd h.0 in (is.0, h.1 ∙ sym is.1)
err_extends m n s t SequenceEnd more h = let is = more.0 SequenceEnd h.0 in (is.0, h.1 ∙ sym is.1)
err_extends m n s t (MetaFull need c) more h = let is = more.0 (MetaFull need c) h.0 in (is.0, h.1 ∙ sym is.1)
err_extends m n s t NoSpace more h = let is = more.0 NoSpace h.0 in (is.0, h.1 ∙ sym is.1)
err_extends m n s t Busy more h = let is = more.0 Busy h.0 in (is.0, h.1 ∙ sym is.1)

-- where one of a list is refused, so is the whole list
pub each_stops : {S X : Type 0} → (f : X → Action S (Unit {0})) (x : X) (xs ys : List X) (s t : S) (e : FsError)
    → Refines (each f (x ∷ xs)) s (Err e) t → Refines (each f (x ∷ xs ++ ys)) s (Err e) t
each_stops f x xs ys s t e h =
    err_extends (each f (x ∷ xs)) (each f (x ∷ xs ++ ys)) s t e
    (extends_then (f x) (λ _. each f xs) (λ _. each f (xs ++ ys)) s (λ _. each_extends f xs ys (f x s).last)) h

-- where one of the first is refused, so are all
repeat_stops : {S : Type 0} → (m : Action S (Unit {0})) (n k : ℕ) (s t : S) (e : FsError)
    → Refines (repeat (suc n) m) s (Err e) t → Refines (repeat (suc (n + k)) m) s (Err e) t
repeat_stops m n k s t e h =
    err_extends (repeat (suc n) m) (repeat (suc (n + k)) m) s t e
    (extends_then m (λ _. repeat n m) (λ _. repeat (n + k) m) s (λ _. repeat_extends m n k (m s).last)) h

-- the same, with the numbers as they are written
pub repeat_stops_at : {S : Type 0} → (m : Action S (Unit {0})) (n k i j : ℕ) (s t : S) (e : FsError) → suc n ≡ i → suc (n + k) ≡ j
    → Refines (repeat i m) s (Err e) t → Refines (repeat j m) s (Err e) t
repeat_stops_at m n k i j s t e is more h =
    let P : ℕ → Type 0 = λ x. Refines (repeat x m) s (Err e) t in
    subst P more (repeat_stops m n k s t e (subst P (sym is) h))
