-- Traces of a part of the state, and the grouping of operations.
use Rattle.std.specs.Prelude.{◌≡◌, List, [], ◌∷◌, ◌++◌, map, Contains, Result, Ok, Err, refl}
use Rattle.std.proofs.Common.{◌∙◌, ap, subst, append_assoc, arith}
use Rattle.std.proofs.lemmas.List.{map-append, length-map, get_or-map}
use Rattle.fs_model.specs.Trace.{Trace, Action, continue, preceded_by, resume, on_part, ◌>>=◌, Refines, RefinesErr, intermediate_states}
use Rattle.fs_model.specs.declared.error.FsError.{FsError}
use Rattle.fs_model.specs.declared.error.FsError.TheVariants.{Stopped, Gone, InUse, NotFound, Exists, IdsEnd, SequenceEnd, MetaFull, NoSpace, Busy, NoMemory, DevFault}

-- an element of a list is one of its image
contains_map : {P S : Type 0} → (f : P → S) (ps : List P) (p : P) → Contains ps p → Contains (map f ps) (f p)
contains_map f ps p h = (h.0, omega (arith, length-map ps f, h.1), get_or-map f ps h.0 p (f p) h.1 ∙ ap f h.2)

-- an intermediate state of a part is one of the whole
intermediate_part : {S P A : Type 0} → (put : P → S) (r : Trace P A) (p : P) → Contains (intermediate_states r) p
    → Contains (map put r.passed ++ put r.last ∷ []) (put p)
intermediate_part {S = S} put r p h =
    let C : List S → Type 0 = λ xs. Contains xs (put p) in
    subst C (map-append put r.passed (r.last ∷ [])) (contains_map put (intermediate_states r) p h)

-- a refusal of a part is one of the whole
err_part : {S P A : Type 0} → (put : P → S) (old : P) (s : S) (r : Trace P A) (e : FsError) (p : P) → put old ≡ s
    → RefinesErr old r e p → RefinesErr s (record { passed = map put r.passed; last = put r.last; answer = r.answer }) e (put p)
err_part put old s r Stopped p law h = ap put h ∙ law
err_part put old s r NoMemory p law h = intermediate_part put r p h
err_part put old s r DevFault p law h = intermediate_part put r p h
err_part put old s r Gone p law h = (h.0, ap put h.1)
err_part put old s r InUse p law h = (h.0, ap put h.1)
err_part put old s r NotFound p law h = (h.0, ap put h.1)
err_part put old s r Exists p law h = (h.0, ap put h.1)
err_part put old s r IdsEnd p law h = (h.0, ap put h.1)
err_part put old s r SequenceEnd p law h = (h.0, ap put h.1)
err_part put old s r (MetaFull n c) p law h = (h.0, ap put h.1)
err_part put old s r NoSpace p law h = (h.0, ap put h.1)
err_part put old s r Busy p law h = (h.0, ap put h.1)

-- a call on a part of the state, as one on the whole state that leaves the other parts alone
pub refines_on_part : {S P A : Type 0} → (get : S → P) (put : S → P → S) (m : Action P A) (s : S) (r : Result A FsError) (p : P)
    → put s (get s) ≡ s → Refines m (get s) r p → Refines (on_part get put m) s r (put s p)
refines_on_part get put m s (Ok x) p law h = (h.0, ap (put s) h.1)
refines_on_part get put m s (Err e) p law h = err_part (put s) (get s) s (m (get s)) e p law h

-- states in front of a trace that goes on
continue_preceded : {S A B : Type 0} → (p passed : List S) (last : S) (answer : Result A FsError) (g : A → Action S B)
    → continue (p ++ passed) last answer g ≡ preceded_by p (continue passed last answer g)
continue_preceded p passed last (Err e) g = refl
continue_preceded {S = S} {B = B} p passed last (Ok y) g =
    let f : List S → Trace S B = λ xs. record { passed = xs; last = (g y last).last; answer = (g y last).answer } in
    ap f (ap (λ xs. xs ++ (g y last).passed) (append_assoc p passed (last ∷ [])) ∙ append_assoc p (passed ++ last ∷ []) (g y last).passed)

-- how three operations are grouped, on the trace of the first
grouped : {S A B C : Type 0} → (passed : List S) (last : S) (answer : Result A FsError) (f : A → Action S B) (g : B → Action S C)
    → resume (continue passed last answer f) g ≡ continue passed last answer (λ x. f x >>= g)
grouped passed last (Err e) f g = refl
grouped passed last (Ok x) f g = continue_preceded (passed ++ last ∷ []) (f x last).passed (f x last).last (f x last).answer g

-- how operations are grouped doesn't matter
pub then_assoc : {S A B C : Type 0} → (m : Action S A) (f : A → Action S B) (g : B → Action S C) (s : S)
    → ((m >>= f) >>= g) s ≡ (m >>= (λ x. f x >>= g)) s
then_assoc m f g s = grouped (m s).passed (m s).last (m s).answer f g
