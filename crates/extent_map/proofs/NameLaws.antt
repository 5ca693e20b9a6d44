-- Lists of names that change.
use Rattle.std.specs.Prelude.{◌≡◌, ◌≢◌, ℕ, zero, suc, ◌<◌, Bool, true, false, not, ◌&&◌, cond, List, [], ◌∷◌, ◌++◌, length, nat_lt, refl}
use Rattle.std.specs.List.{AllByRecursion, list_all}
use Rattle.std.specs.Str.{bytes_eq}
use Rattle.std.specs.Cmp.Lexicographic.{same_text, other_text}
use Rattle.std.proofs.Common.{set, get_or, ap, sym, subst, ◌∙◌, arith}
use Rattle.std.proofs.lemmas.Bool.{or_parts, lt-ltb}
use Rattle.record_model.specs.Grammar.{AreApart}
use Rattle.log_model.specs.FileTable.{is_among, names_left}
use Rattle.log_model.specs.FileTree.{renamed}
use Rattle.fs_model.proofs.TreeLaws.{not_true}

-- ---- a name in the place of another

-- names that are all others stay
pub renamed_others : (old new : List ℕ) (ns : List (List ℕ)) → AllByRecursion (λ n. n ≢ old) ns → renamed old new ns ≡ ns
renamed_others old new [] h = refl
renamed_others old new (n ∷ ns) h =
    ap (λ b. cond b new n ∷ renamed old new ns) (not_true (bytes_eq n old) (λ is. h.0 (same_text n old (sym is)))) ∙ ap (λ (ms : List (List ℕ)). n ∷ ms) (renamed_others old new ns h.1)

-- names among which the old one isn't stay
pub renamed_absent : (old new : List ℕ) (ns : List (List ℕ)) → is_among ns old ≡ false → renamed old new ns ≡ ns
renamed_absent old new [] h = refl
renamed_absent old new (n ∷ ns) h =
    let parts = or_parts (bytes_eq n old) (is_among ns old) h in
    ap (λ b. cond b new n ∷ renamed old new ns) parts.0 ∙ ap (λ (ms : List (List ℕ)). n ∷ ms) (renamed_absent old new ns parts.1)

-- equal texts
same_bytes : (n m : List ℕ) → n ≡ m → bytes_eq n m ≡ true
same_bytes n m same = choice (bytes_eq n m) refl
  where
    choice : (b : Bool) → bytes_eq n m ≡ b → b ≡ true
    choice true is = refl
    choice false is = absurd (other_text n m (sym is) same)

-- the old name is replaced at its place
pub renamed_at : (old new d : List ℕ) (ns : List (List ℕ)) (k : ℕ) → AreApart ns → k < length ns → get_or ns k d ≡ old → set ns k new ≡ renamed old new ns
renamed_at old new d [] k apart lt is = absurd (omega arith)
renamed_at old new d (n ∷ ns) zero apart lt is =
    sym (ap (λ b. cond b new n ∷ renamed old new ns) (same_bytes n old is)
    ∙ ap (λ (ms : List (List ℕ)). new ∷ ms) (renamed_others old new ns (subst (λ (o : List ℕ). AllByRecursion (λ m. m ≢ o) ns) is apart.0)))
renamed_at old new d (n ∷ ns) (suc k) apart lt is =
    let rest = renamed_at old new d ns k apart.1 (omega arith) is in
    ap (λ (ms : List (List ℕ)). n ∷ ms) rest ∙ sym (ap (λ b. cond b new n ∷ renamed old new ns) (away ns k n apart.0 (omega arith) is))
  where
    away : (ms : List (List ℕ)) (j : ℕ) (m : List ℕ) → AllByRecursion (λ other. other ≢ m) ms → j < length ms → get_or ms j d ≡ old → bytes_eq m old ≡ false
    away [] j m h in' there = absurd (omega arith)
    away (o ∷ os) zero m h in' there = not_true (bytes_eq m old) (λ same. h.0 (there ∙ sym (same_text m old (sym same))))
    away (o ∷ os) (suc j) m h in' there = away os j m h.1 (omega arith) there

-- ---- names stay apart

-- what holds of each name holds of those that are left
all_left : (P : List ℕ → Type 0) (taken ns : List (List ℕ)) → AllByRecursion P ns → AllByRecursion P (names_left taken ns)
all_left P taken [] h = tt
all_left P taken (n ∷ ns) h = choice (not (is_among taken n)) (all_left P taken ns h.1)
  where
    choice : (b : Bool) → AllByRecursion P (names_left taken ns) → AllByRecursion P (cond b (n ∷ names_left taken ns) (names_left taken ns))
    choice true rest = (h.0, rest)
    choice false rest = rest

-- names that are left
pub left_apart : (taken ns : List (List ℕ)) → AreApart ns → AreApart (names_left taken ns)
left_apart taken [] h = tt
left_apart taken (n ∷ ns) h = choice (not (is_among taken n)) (left_apart taken ns h.1)
  where
    choice : (b : Bool) → AreApart (names_left taken ns) → AreApart (cond b (n ∷ names_left taken ns) (names_left taken ns))
    choice true rest = (all_left (λ other. other ≢ n) taken ns h.0, rest)
    choice false rest = rest

-- what holds of each and of one more
all_more : (P : List ℕ → Type 0) (ns : List (List ℕ)) (new : List ℕ) → AllByRecursion P ns → P new → AllByRecursion P (ns ++ new ∷ [])
all_more P [] new h k = (k, tt)
all_more P (n ∷ ns) new h k = (h.0, all_more P ns new h.1 k)

-- a name that differs in its bytes
differs : (n m : List ℕ) → bytes_eq n m ≡ false → m ≢ n
differs n m h = λ same. other_text n m (sym h) (sym same)

-- names with a new one
pub more_apart : (ns : List (List ℕ)) (new : List ℕ) → AreApart ns → is_among ns new ≡ false → AreApart (ns ++ new ∷ [])
more_apart [] new h unused = (tt, tt)
more_apart (n ∷ ns) new h unused =
    let parts = or_parts (bytes_eq n new) (is_among ns new) unused in
    (all_more (λ other. other ≢ n) ns new h.0 (differs n new parts.0), more_apart ns new h.1 parts.1)

-- what holds of each and of the new name holds where that one stands for another
all_renamed : (P : List ℕ → Type 0) (old new : List ℕ) (ns : List (List ℕ)) → AllByRecursion P ns → P new → AllByRecursion P (renamed old new ns)
all_renamed P old new [] h k = tt
all_renamed P old new (n ∷ ns) h k = (choice (bytes_eq n old), all_renamed P old new ns h.1 k)
  where
    choice : (b : Bool) → P (cond b new n)
    choice true = k
    choice false = h.0

-- none of some names is the new one
others_all : (ns : List (List ℕ)) (new : List ℕ) → is_among ns new ≡ false → AllByRecursion (λ n. n ≢ new) ns
others_all [] new h = tt
others_all (n ∷ ns) new h =
    let parts = or_parts (bytes_eq n new) (is_among ns new) h in
    ((λ same. other_text n new (sym parts.0) same), others_all ns new parts.1)

-- names with a new one in the place of another
pub renamed_apart : (old new : List ℕ) (ns : List (List ℕ)) → AreApart ns → is_among ns new ≡ false → AreApart (renamed old new ns)
renamed_apart old new [] h unused = tt
renamed_apart old new (n ∷ ns) h unused =
    let parts = or_parts (bytes_eq n new) (is_among ns new) unused in
    choice (bytes_eq n old) refl parts.0 parts.1 (renamed_apart old new ns h.1 parts.1)
  where
    choice : (b : Bool) → bytes_eq n old ≡ b → bytes_eq n new ≡ false → is_among ns new ≡ false → AreApart (renamed old new ns) → AreApart (cond b new n ∷ renamed old new ns)
    choice true is other rest behind =
        let same = renamed_others old new ns (subst (λ (o : List ℕ). AllByRecursion (λ m. m ≢ o) ns) (same_text n old (sym is)) h.0) in
        subst (λ (ms : List (List ℕ)). AreApart (new ∷ ms)) (sym same) (others_all ns new rest, h.1)
    choice false is other rest behind = (all_renamed (λ m. m ≢ n) old new ns h.0 (differs n new other), behind)

-- ---- how many names

-- as many names as before
pub renamed_length : (old new : List ℕ) (ns : List (List ℕ)) → length (renamed old new ns) ≡ length ns
renamed_length old new [] = refl
renamed_length old new (n ∷ ns) = ap suc (renamed_length old new ns)

-- a name is left where not all are taken
pub some_left : (taken ns : List (List ℕ)) → not (list_all (is_among taken) ns) ≡ nat_lt 0 (length (names_left taken ns))
some_left taken [] = refl
some_left taken (n ∷ ns) = choice (is_among taken n) (some_left taken ns)
  where
    choice : (b : Bool) → not (list_all (is_among taken) ns) ≡ nat_lt 0 (length (names_left taken ns))
        → not (b && list_all (is_among taken) ns) ≡ nat_lt 0 (length (cond (not b) (n ∷ names_left taken ns) (names_left taken ns)))
    choice true rest = rest
    choice false rest = sym (lt-ltb 0 (length (n ∷ names_left taken ns)) (omega arith))
