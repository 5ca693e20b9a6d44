-- Facts of a state that an operation keeps, in every state that it passes.
use Rattle.std.specs.Prelude.{Bool, true, false, List, [], ◌∷◌, ◌++◌, Contains, Result, Ok, Err}
use Rattle.std.proofs.Common.{subst, append_assoc, ⊎_elim, arith}
use Rattle.std.proofs.lemmas.List.Elements.{Contains-append_cases, Contains-push, Contains-push_cases}
use Rattle.fs_model.specs.declared.error.FsError.{FsError}
use Rattle.fs_model.specs.Trace.{Action, done, refuse, step, continue, ◌>>=◌, ◌>>◌, from_state, refuse_if, when, each, intermediate_states}

-- what holds of the first state holds of every state that it passes
pub record Stays {S A : Type 0} (P : S → Type 0) (m : Action S A) : Type 0 where
  pub every : (s t : S) → P s → Contains (intermediate_states (m s)) t → P t

-- the only state is the first
only : {S : Type 0} → (P : S → Type 0) (s t : S) → P s → Contains (s ∷ []) t → P t
only P s t h i = ⊎_elim (λ none. absurd (omega (arith, none.1))) (λ same. subst P same h) (Contains-push_cases [] s t i)

-- nothing
pub stays_done : {S A : Type 0} {P : S → Type 0} → (x : A) → Stays P (done {S = S} x)
stays_done {P = P} x = record { every = λ s t h i. only P s t h i }

-- a refusal
pub stays_refuse : {S A : Type 0} {P : S → Type 0} → (e : FsError) → Stays {A = A} P (refuse e)
stays_refuse {P = P} e = record { every = λ s t h i. only P s t h i }

-- a step
pub stays_step : {S : Type 0} {P : S → Type 0} → (f : S → S) → ((s : S) → P s → P (f s)) → Stays P (step f)
stays_step {P = P} f next = record {
  every = λ s t h i. ⊎_elim (λ first. only P s t h first) (λ same. subst P same (next s h)) (Contains-push_cases (s ∷ []) (f s) t i);
}

-- what goes on after a trace
goes_on : {S A B : Type 0} → (P : S → Type 0) (passed : List S) (last : S) (answer : Result A FsError) (f : A → Action S B) (t : S)
    → ((u : S) → Contains (passed ++ last ∷ []) u → P u) → ((x : A) → Stays P (f x)) → Contains (intermediate_states (continue passed last answer f)) t → P t
goes_on P passed last (Err e) f t first second i = first t i
goes_on {S = S} P passed last (Ok x) f t first second i =
    let Q : List S → Type 0 = λ xs. Contains xs t in
    let front : List S = passed ++ last ∷ [] in
    ⊎_elim (λ l. first t l) (λ r. (second x).every last t (first last (Contains-push passed last)) r)
    (Contains-append_cases front (intermediate_states (f x last)) t (subst Q (append_assoc front (f x last).passed ((f x last).last ∷ [])) i))

-- one after another
pub stays_bind : {S A B : Type 0} {P : S → Type 0} {m : Action S A} {f : A → Action S B} → Stays P m → ((x : A) → Stays P (f x)) → Stays P (m >>= f)
stays_bind {P = P} {m = m} {f = f} a b =
    record { every = λ s t h i. goes_on P (m s).passed (m s).last (m s).answer f t (λ u k. a.every s u h k) b i }

-- the same without a value
pub stays_then : {S A B : Type 0} {P : S → Type 0} {m : Action S A} {n : Action S B} → Stays P m → Stays P n → Stays P (m >> n)
stays_then a b = stays_bind a (λ _. b)

-- one that looks at the state
pub stays_from : {S A : Type 0} {P : S → Type 0} → (f : S → Action S A) → ((s : S) → Stays P (f s)) → Stays P (from_state f)
stays_from f a = record { every = λ s t h i. (a s).every s t h i }

-- only where a test says so
pub stays_when : {S : Type 0} {P : S → Type 0} {m : Action S (Unit {0})} → (b : Bool) → Stays P m → Stays P (when b m)
stays_when true a = a
stays_when false a = stays_done tt

-- a test
pub stays_refuse_if : {S : Type 0} {P : S → Type 0} → (b : Bool) (e : FsError) → Stays {S = S} P (refuse_if b e)
stays_refuse_if true e = stays_refuse e
stays_refuse_if false e = stays_done tt

-- for each of a list
pub stays_each : {S X : Type 0} {P : S → Type 0} {f : X → Action S (Unit {0})} → (xs : List X) → ((x : X) → Stays P (f x)) → Stays P (each f xs)
stays_each [] a = stays_done tt
stays_each (x ∷ xs) a = stays_then (a x) (stays_each xs a)
