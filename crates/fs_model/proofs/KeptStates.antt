-- How operations that leave other zones and files alone go together.
use Rattle.std.specs.Prelude.{◌≡◌, ℕ, ◌<◌, Bool, true, false, List, [], ◌∷◌, ◌++◌, Contains, Result, Ok, Err, refl}
use Rattle.std.proofs.Common.{sym, ◌∙◌, ap, subst, append_assoc, inl, inr, ⊎_elim, arith}
use Rattle.std.proofs.lemmas.List.Elements.{Contains-append_cases, Contains-push, Contains-push_cases}
use Rattle.fs_model.specs.declared.error.FsError.{FsError}
use Rattle.fs_model.specs.ZonePolicy.{is_idle_owner}
use Rattle.fs_model.specs.FsState.{FsState, TableRow}
use Rattle.fs_model.specs.Trace.{done, refuse, step, continue, ◌>>=◌, ◌>>◌, from_state, refuse_if, when, each, intermediate_states}
use Rattle.fs_model.specs.LogSteps.{FsAction, NoValue}
use Rattle.fs_model.specs.Untouched.{SameFile, WasThere, KeepsFiles, LeavesAlone, OnlyTouches, is_one_of}

-- ---- files

-- a file is as it is
pub same_file : (r : TableRow) → SameFile r r
same_file r = record { id = refl; recorded = refl; unrecorded = refl; shown = refl; recovery_point = refl }

-- a file that is as it was when it was as it had been
pub same_file_then : {r q p : TableRow} → SameFile r q → SameFile q p → SameFile r p
same_file_then a b = record {
  id = a.id ∙ b.id;
  recorded = a.recorded ∙ b.recorded;
  unrecorded = a.unrecorded ∙ b.unrecorded;
  shown = a.shown ∙ b.shown;
  recovery_point = a.recovery_point ∙ b.recovery_point;
}

-- a file of a longer list
pub files_more : (ids : List ℕ) (q : TableRow) (before rs : List TableRow) → KeepsFiles ids before rs → KeepsFiles ids (q ∷ before) rs
files_more ids q before [] h = tt
files_more ids q before (r ∷ rs) h = (λ out. inr (h.0 out), files_more ids q before rs h.1)

-- files are as they are
pub files_stay : (ids : List ℕ) (rows : List TableRow) → KeepsFiles ids rows rows
files_stay ids [] = tt
files_stay ids (r ∷ rs) = (λ out. inl (same_file r), files_more ids r rs rs (files_stay ids rs))

-- a file that was there is there still, or was there before
was_there : (ids : List ℕ) (a b : List TableRow) (r : TableRow) → KeepsFiles ids a b → is_one_of ids r.entry.id ≡ false → WasThere b r → WasThere a r
was_there ids a [] r h out there = absurd there
was_there ids a (q ∷ qs) r h out there =
    ⊎_elim (λ same. earlier a (h.0 (ap (λ n. is_one_of ids n) (sym same.id) ∙ out)) same) (λ later. was_there ids a qs r h.1 out later) there
  where
    earlier : (a : List TableRow) → WasThere a q → SameFile r q → WasThere a r
    earlier [] w same = absurd w
    earlier (p ∷ ps) w same = ⊎_elim (λ is. inl (same_file_then same is)) (λ later. inr (earlier ps later same)) w

-- kept twice is kept
pub files_then : (ids : List ℕ) (a b c : List TableRow) → KeepsFiles ids a b → KeepsFiles ids b c → KeepsFiles ids a c
files_then ids a b [] h k = tt
files_then ids a b (r ∷ rs) h k = (λ out. was_there ids a b r h out (k.0 out), files_then ids a b rs h k.1)

-- ---- states

-- a state leaves itself alone
stays : (zones ids : List ℕ) (s : FsState) → s.log.zone < 3 → LeavesAlone zones ids s s
stays zones ids s low = record { log = low; zones = λ n data_zone out held. refl; files = files_stay ids s.rows }

-- left alone twice is left alone
pub alone_then : {zones ids : List ℕ} {s t u : FsState} → LeavesAlone zones ids s t → LeavesAlone zones ids t u → LeavesAlone zones ids s u
alone_then {zones = zones} {ids = ids} {s = s} {t = t} {u = u} a b = record {
  log = b.log;
  zones = λ n data_zone out held.
      let same = a.zones n data_zone out held in
      b.zones n data_zone out (ap (λ z. is_idle_owner z.owner) same ∙ held) ∙ same;
  files = files_then ids s.rows t.rows u.rows a.files b.files;
}

-- ---- operations

-- every state that it passes leaves alone all but these zones and files
pub record Keeps {A : Type 0} (named_zones named_ids : List ℕ) (m : FsAction A) (s : FsState) : Type 0 where
  pub every : OnlyTouches named_zones named_ids m s

-- one that ends at once
ends_here : {A : Type 0} → (zones ids : List ℕ) (m : FsAction A) (s : FsState) → intermediate_states (m s) ≡ s ∷ [] → Keeps zones ids m s
ends_here zones ids m s is = record {
  every = λ low t h.
      let P : List FsState → Type 0 = λ xs. Contains xs t in
      let Q : FsState → Type 0 = λ u. LeavesAlone zones ids s u in
      ⊎_elim (λ none. absurd (omega (arith, none.1))) (λ same. subst Q same (stays zones ids s low)) (Contains-push_cases [] s t (subst P is h));
}

-- nothing
pub keeps_done : {A : Type 0} {zones ids : List ℕ} {s : FsState} → (x : A) → Keeps zones ids (done x) s
keeps_done {zones = zones} {ids = ids} {s = s} x = ends_here zones ids (done x) s refl

-- a refusal
pub keeps_refuse : {A : Type 0} {zones ids : List ℕ} {s : FsState} → (e : FsError) → Keeps {A = A} zones ids (refuse e) s
keeps_refuse {A = A} {zones = zones} {ids = ids} {s = s} e = ends_here {A = A} zones ids (refuse e) s refl

-- a step
pub keeps_step : {zones ids : List ℕ} {s : FsState} → (f : FsState → FsState) → (s.log.zone < 3 → LeavesAlone zones ids s (f s)) → Keeps zones ids (step f) s
keeps_step {zones = zones} {ids = ids} {s = s} f next = record {
  every = λ low t h.
      let Q : FsState → Type 0 = λ u. LeavesAlone zones ids s u in
      ⊎_elim
      (λ first. ⊎_elim (λ none. absurd (omega (arith, none.1))) (λ same. subst Q same (stays zones ids s low)) (Contains-push_cases [] s t first))
      (λ same. subst Q same (next low)) (Contains-push_cases (s ∷ []) (f s) t h);
}

-- one that looks at the state
pub keeps_from : {A : Type 0} {zones ids : List ℕ} {s : FsState} → (f : FsState → FsAction A) → Keeps zones ids (f s) s → Keeps zones ids (from_state f) s
keeps_from f k = record { every = λ low t h. k.every low t h }

-- one that is only judged where the log's zone is one of metadata
pub keeps_given : {A : Type 0} {zones ids : List ℕ} {m : FsAction A} {s : FsState} → (s.log.zone < 3 → Keeps zones ids m s) → Keeps zones ids m s
keeps_given k = record { every = λ low t h. (k low).every low t h }

-- a test
pub keeps_refuse_if : {zones ids : List ℕ} {s : FsState} → (broken : Bool) (e : FsError) → Keeps zones ids (refuse_if broken e) s
keeps_refuse_if true e = keeps_refuse e
keeps_refuse_if false e = keeps_done tt

-- only where a test says so
pub keeps_when : {zones ids : List ℕ} {m : FsAction NoValue} {s : FsState} → (b : Bool) → (b ≡ true → Keeps zones ids m s) → Keeps zones ids (when b m) s
keeps_when true k = k refl
keeps_when false k = keeps_done tt

-- what goes on after a trace
continues : {A B : Type 0} → (zones ids : List ℕ) (s : FsState) (passed : List FsState) (last : FsState) (answer : Result A FsError) (f : A → FsAction B) (t : FsState)
    → ((u : FsState) → Contains (passed ++ last ∷ []) u → LeavesAlone zones ids s u)
    → ((x : A) → Keeps zones ids (f x) last) → Contains (intermediate_states (continue passed last answer f)) t → LeavesAlone zones ids s t
continues zones ids s passed last (Err e) f t first second h = first t h
continues zones ids s passed last (Ok x) f t first second h =
    let P : List FsState → Type 0 = λ xs. Contains xs t in
    let front : List FsState = passed ++ last ∷ [] in
    let mid = first last (Contains-push passed last) in
    ⊎_elim (λ l. first t l) (λ r. alone_then mid ((second x).every mid.log t r))
    (Contains-append_cases front (intermediate_states (f x last)) t (subst P (append_assoc front (f x last).passed ((f x last).last ∷ [])) h))

-- one after another
pub keeps_bind : {A B : Type 0} {zones ids : List ℕ} {m : FsAction A} {f : A → FsAction B} {s : FsState}
    → Keeps zones ids m s → ((x : A) → Keeps zones ids (f x) (m s).last) → Keeps zones ids (m >>= f) s
keeps_bind {zones = zones} {ids = ids} {m = m} {f = f} {s = s} a b =
    record { every = λ low t h. continues zones ids s (m s).passed (m s).last (m s).answer f t (λ u i. a.every low u i) b h }

-- the same without a value
pub keeps_then : {A B : Type 0} {zones ids : List ℕ} {m : FsAction A} {n : FsAction B} {s : FsState}
    → Keeps zones ids m s → Keeps zones ids n (m s).last → Keeps zones ids (m >> n) s
keeps_then a b = keeps_bind a (λ _. b)

-- for each of a list
pub keeps_each : {X : Type 0} {zones ids : List ℕ} {f : X → FsAction NoValue} → (xs : List X) (s : FsState)
    → ((x : X) (t : FsState) → Keeps zones ids (f x) t) → Keeps zones ids (each f xs) s
keeps_each [] s k = keeps_done tt
keeps_each {f = f} (x ∷ xs) s k = keeps_then (k x s) (keeps_each xs (f x s).last k)
