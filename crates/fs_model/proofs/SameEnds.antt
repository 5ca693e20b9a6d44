-- Operations that end alike: with the same answer, in the same state.
use Rattle.std.specs.Prelude.{◌≡◌, Bool, true, false, List, [], Result, Ok, Err, refl}
use Rattle.std.proofs.Common.{sym, ◌∙◌, ap, subst}
use Rattle.fs_model.specs.declared.error.FsError.{FsError}
use Rattle.fs_model.specs.Trace.{Action, done, continue, ◌>>=◌, ◌>>◌, refuse_if, when, on_part, EndsAlike}

-- as it ends
pub ends_as_it_does : {S A : Type 0} → (m : Action S A) (s : S) → EndsAlike m m s
ends_as_it_does m s = record { answer = refl; last = refl }

-- alike and alike
pub alike_then : {S A : Type 0} {m n o : Action S A} {s : S} → EndsAlike m n s → EndsAlike n o s → EndsAlike m o s
alike_then a b = record { answer = a.answer ∙ b.answer; last = a.last ∙ b.last }

-- what goes on after two traces that end alike
continued : {S A B : Type 0} → (p q : List S) (u v : S) (x y : Result A FsError) (f g : A → Action S B) → u ≡ v → x ≡ y
    → ((a : A) → x ≡ Ok a → EndsAlike (f a) (g a) u)
    → ((continue p u x f).answer ≡ (continue q v y g).answer) × ((continue p u x f).last ≡ (continue q v y g).last)
continued {S = S} {A = A} {B = B} p q u v x y f g states answers more =
    let P : S → Type 0 = λ w. ((continue p u x f).answer ≡ (continue q w y g).answer) × ((continue p u x f).last ≡ (continue q w y g).last) in
    let Q : Result A FsError → Type 0 = λ r. ((continue p u x f).answer ≡ (continue q u r g).answer) × ((continue p u x f).last ≡ (continue q u r g).last) in
    subst P states (subst Q answers (at x more))
  where
    at : (r : Result A FsError) → ((a : A) → r ≡ Ok a → EndsAlike (f a) (g a) u)
        → ((continue p u r f).answer ≡ (continue q u r g).answer) × ((continue p u r f).last ≡ (continue q u r g).last)
    at (Err e) h = (refl, refl)
    at (Ok a) h = ((h a refl).answer, (h a refl).last)

-- one after another
pub alike_bind : {S A B : Type 0} {m n : Action S A} {f g : A → Action S B} {s : S} → EndsAlike m n s
    → ((a : A) → (m s).answer ≡ Ok a → EndsAlike (f a) (g a) (m s).last) → EndsAlike (m >>= f) (n >>= g) s
alike_bind {m = m} {n = n} {f = f} {g = g} {s = s} a more =
    let ends = continued (m s).passed (n s).passed (m s).last (n s).last (m s).answer (n s).answer f g a.last a.answer more in
    record { answer = ends.0; last = ends.1 }

-- nothing
abbrev pub nothing : {S : Type 0} → Action S (Unit {0})
nothing = done tt

-- nothing, and then this
pub nothing_first : {S : Type 0} → (n : Action S (Unit {0})) (s : S) → EndsAlike (nothing >> n) n s
nothing_first n s = record { answer = refl; last = refl }

-- nothing that goes on after a trace
then_nothing : {S : Type 0} → (p : List S) (u : S) (x : Result (Unit {0}) FsError) → ((continue p u x (λ _. nothing)).answer ≡ x) × ((continue p u x (λ _. nothing)).last ≡ u)
then_nothing p u (Err e) = (refl, refl)
then_nothing p u (Ok a) = (refl, refl)

-- this, and then nothing
pub nothing_last : {S : Type 0} → (m : Action S (Unit {0})) (s : S) → EndsAlike (m >> nothing) m s
nothing_last m s = let ends = then_nothing (m s).passed (m s).last (m s).answer in record { answer = ends.0; last = ends.1 }

-- where a test doesn't say so
pub when_not : {S : Type 0} → (b : Bool) (m : Action S (Unit {0})) (s : S) → b ≡ false → EndsAlike (when b m) nothing s
when_not true m s h = absurd cc
when_not false m s h = ends_as_it_does nothing s

-- a test that holds nothing back
pub not_refused : {S : Type 0} → (b : Bool) (e : FsError) (s : S) → b ≡ false → EndsAlike (refuse_if b e) nothing s
not_refused true e s h = absurd cc
not_refused false e s h = ends_as_it_does nothing s

-- what does nothing may be left out before
pub skip : {S B : Type 0} {m : Action S (Unit {0})} {n : Action S B} {s : S} → EndsAlike m nothing s → EndsAlike (m >> n) n s
skip {m = m} {n = n} {s = s} a =
    let ends = continued (m s).passed [] (m s).last s (m s).answer (Ok tt) (λ _. n) (λ _. n) a.last a.answer (λ x ok. ends_as_it_does n (m s).last) in
    record { answer = ends.0; last = ends.1 }

-- and after
pub then_skip : {S : Type 0} {m n rest : Action S (Unit {0})} {s : S} → EndsAlike m n s → ((n s).answer ≡ Ok tt → EndsAlike rest nothing (n s).last) → EndsAlike (m >> rest) n s
then_skip {S = S} {m = m} {n = n} {rest = rest} {s = s} a more =
    let P : S → Type 0 = λ u. EndsAlike rest nothing u in
    alike_then (alike_bind {m = m} {n = n} {f = λ _. rest} {g = λ _. nothing} a (λ x ok. subst P (sym a.last) (more (sym a.answer ∙ ok)))) (nothing_last n s)

-- one after another, where what goes on is looked at where the other leaves off
pub then_alike : {S : Type 0} {m n rest other : Action S (Unit {0})} {s : S} → EndsAlike m n s → ((n s).answer ≡ Ok tt → EndsAlike rest other (n s).last)
    → EndsAlike (m >> rest) (n >> other) s
then_alike {S = S} {m = m} {n = n} {rest = rest} {other = other} {s = s} a more =
    let P : S → Type 0 = λ u. EndsAlike rest other u in
    alike_bind {m = m} {n = n} {f = λ _. rest} {g = λ _. other} a (λ x ok. subst P (sym a.last) (more (sym a.answer ∙ ok)))

-- the other way round
pub alike_back : {S A : Type 0} {m n : Action S A} {s : S} → EndsAlike m n s → EndsAlike n m s
alike_back a = record { answer = sym a.answer; last = sym a.last }

-- on a part of the state
pub alike_on_part : {S P A : Type 0} → (get : S → P) (put : S → P → S) (m n : Action P A) (s : S) → EndsAlike m n (get s) → EndsAlike (on_part get put m) (on_part get put n) s
alike_on_part get put m n s a = record { answer = a.answer; last = ap (put s) a.last }
