-- Ends of traces, and of two actions one after another.
use Rattle.std.specs.Prelude.{◌≡◌, Bool, true, false, Contains, Ok, Err, refl}
use Rattle.std.proofs.Common.{sym, subst}
use Rattle.std.proofs.lemmas.List.Elements.{Contains-push}
use Rattle.fs_model.specs.Trace.{Trace, Action, ◌>>◌, refuse_if, Refines, intermediate_states}
use Rattle.fs_model.specs.declared.error.FsError.{FsError}
use Rattle.fs_model.specs.declared.error.FsError.TheVariants.{NoMemory, DevFault}
use Rattle.fs_model.proofs.TraceLaws.{refines_then}

-- the last state is one of a trace
pub last_is_passed : {S A : Type 0} → (r : Trace S A) (t : S) → t ≡ r.last → Contains (intermediate_states r) t
last_is_passed {S = S} r t h =
    let P : S → Type 0 = λ u. Contains (intermediate_states r) u in
    subst P (sym h) (Contains-push r.passed r.last)

-- what has answered Ok may also fail in its last state
pub fault_at_last : {S A : Type 0} → (m : Action S A) (s t : S) (x : A) → Refines m s (Ok x) t → Refines m s (Err DevFault) t
fault_at_last m s t x h = last_is_passed (m s) t h.1

-- or for want of memory
pub memory_at_last : {S A : Type 0} → (m : Action S A) (s t : S) (x : A) → Refines m s (Ok x) t → Refines m s (Err NoMemory) t
memory_at_last m s t x h = last_is_passed (m s) t h.1

-- two actions that answer Ok one after another
pub ok_then : {S A : Type 0} → (m : Action S (Unit {0})) (n : Action S A) (s t u : S) (x : A)
    → Refines m s (Ok tt) t → Refines n t (Ok x) u → Refines (m >> n) s (Ok x) u
ok_then m n s t u x a b = refines_then m (λ _. n) s t u tt (Ok x) a b (λ is. cc)

-- a fault of the second one
pub fault_then : {S A : Type 0} → (m : Action S (Unit {0})) (n : Action S A) (s t u : S)
    → Refines m s (Ok tt) t → Refines n t (Err DevFault) u → Refines (m >> n) s (Err DevFault) u
fault_then m n s t u a b = refines_then m (λ _. n) s t u tt (Err DevFault) a b (λ is. cc)

-- a want of memory in the second one
pub memory_then : {S A : Type 0} → (m : Action S (Unit {0})) (n : Action S A) (s t u : S)
    → Refines m s (Ok tt) t → Refines n t (Err NoMemory) u → Refines (m >> n) s (Err NoMemory) u
memory_then m n s t u a b = refines_then m (λ _. n) s t u tt (Err NoMemory) a b (λ is. cc)

-- a test that doesn't refuse
pub passes : {S : Type 0} → (broken : Bool) (e : FsError) (s : S) → broken ≡ false → Refines (refuse_if broken e) s (Ok tt) s
passes true e s h = absurd cc
passes false e s h = (refl, refl)

-- a test that refuses answers its error
pub refuses : {S : Type 0} → (broken : Bool) (e : FsError) (s : S) → broken ≡ true → (refuse_if broken e s).answer ≡ Err e
refuses true e s h = refl
refuses false e s h = absurd cc

-- and keeps the state
pub test_keeps : {S : Type 0} → (broken : Bool) (e : FsError) (s : S) → s ≡ (refuse_if broken e s).last
test_keeps true e s = refl
test_keeps false e s = refl
