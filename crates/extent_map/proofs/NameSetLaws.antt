-- A name stands in two entries where one of an entry's names is among those of the entries behind it.
use Rattle.std.specs.Prelude.{◌≡◌, ℕ, zero, suc, ◌+◌, ◌-◌, ◌<◌, Bool, true, false, ◌||◌, List, [], ◌∷◌, length, refl}
use Rattle.std.proofs.Common.{sym, ◌∙◌, ap, arith, Bor, take, drop, get_or, drop-cons}
use Rattle.std.specs.BTreeSet.{BTreeSet, Updates}
use Rattle.std.specs.Cmp.Lexicographic.{slice_cmp}
use Rattle.std.specs.Ordering.{nat_cmp}
use Rattle.std.specs.List.{list_any}
use Rattle.std.specs.Str.{bytes_eq}
use Rattle.std.proofs.lemmas.List.Folds.{list_any_more}
use Rattle.record_model.specs.declared.types.FileEntry.{FileEntry}
use Rattle.log_model.specs.FileTable.{Table, is_among, shares_name, repeats_name}
use Rattle.log_model.proofs.ReplayLaws.{bytes_eq_sym}
use Rattle.record_codec.specs.NameSets.{has_name}
use Rattle.record_codec.proofs.NameSetLaws.{has_more}

-- ---- a name more in a set

-- one of three, in another order
or_moved : (a b c : Bool) → (a || (b || c)) ≡ ((b || a) || c)
or_moved true true c = refl
or_moved true false c = refl
or_moved false true c = refl
or_moved false false c = refl

-- the names so far and one more
pub names_more : (seen more old : BTreeSet (Bor (List ℕ))) (new : Bor (List ℕ)) (names : List (List ℕ)) (i : ℕ) (d name : List ℕ) → i < length names → new.now ≡ get_or names i d
    → Updates (λ x y. slice_cmp nat_cmp x.now y.now) seen more new true → has_name seen name ≡ (is_among (take i names) name || has_name old name)
    → has_name more name ≡ (is_among (take (i + 1) names) name || has_name old name)
names_more seen more old new names i d name lt is updates h =
    has_more seen more new name updates ∙ ap (λ b. bytes_eq new.now name || b) h
    ∙ or_moved (bytes_eq new.now name) (is_among (take i names) name) (has_name old name)
    ∙ ap (λ n. (is_among (take i names) name || bytes_eq n name) || has_name old name) is
    ∙ sym (ap (λ b. b || has_name old name) (list_any_more (λ n. bytes_eq n name) names i d lt))

-- ---- one of many of many

-- tests with one answer each
any_same : {X : Type 0} (p q : X → Bool) (xs : List X) → ((x : X) → p x ≡ q x) → list_any p xs ≡ list_any q xs
any_same p q [] each = refl
any_same p q (x ∷ xs) each = ap (λ b. b || list_any p xs) (each x) ∙ ap (λ b. q x || b) (any_same p q xs each)

-- none where the test never passes
any_never : {X : Type 0} (xs : List X) → list_any (λ x. false) xs ≡ false
any_never [] = refl
any_never (x ∷ xs) = any_never xs

-- four in another order
or_crossed : (a b c d : Bool) → ((a || b) || (c || d)) ≡ ((a || c) || (b || d))
or_crossed true b c d = refl
or_crossed false true true d = refl
or_crossed false true false d = refl
or_crossed false false c d = refl

-- one of two tests
any_either : {X : Type 0} (p q : X → Bool) (xs : List X) → list_any (λ x. p x || q x) xs ≡ (list_any p xs || list_any q xs)
any_either p q [] = refl
any_either p q (x ∷ xs) = ap (λ b. (p x || q x) || b) (any_either p q xs) ∙ or_crossed (p x) (q x) (list_any p xs) (list_any q xs)

-- a pair that passes, by the first or by the second
any_swapped : {X Y : Type 0} (r : X → Y → Bool) (xs : List X) (ys : List Y) → list_any (λ x. list_any (λ y. r x y) ys) xs ≡ list_any (λ y. list_any (λ x. r x y) xs) ys
any_swapped r [] ys = sym (any_never ys)
any_swapped r (x ∷ xs) ys = ap (λ b. list_any (λ y. r x y) ys || b) (any_swapped r xs ys) ∙ sym (any_either (λ y. r x y) (λ y. list_any (λ z. r z y) xs) ys)

-- an entry has one of these names, asked from either side
shared_either : (names others : List (List ℕ)) → list_any (λ name. is_among others name) names ≡ list_any (is_among names) others
shared_either names others =
    any_swapped (λ name n. bytes_eq n name) names others
    ∙ any_same (λ n. list_any (λ name. bytes_eq n name) names) (is_among names) others (λ n. any_same (λ name. bytes_eq n name) (λ name. bytes_eq name n) names (λ name. bytes_eq_sym n name))

-- one of an entry's names is among those of others
shared : (e : FileEntry) (es : Table) → list_any (λ name. list_any (λ f. is_among f.names name) es) e.names ≡ list_any (shares_name e) es
shared e es =
    any_swapped (λ name (f : FileEntry). is_among f.names name) e.names es
    ∙ any_same (λ f. list_any (λ name. is_among f.names name) e.names) (shares_name e) es (λ f. shared_either e.names f.names)

-- the test by a set of the others' names
any_shared : (seen : BTreeSet (Bor (List ℕ))) (e : FileEntry) (es : Table) → ((name : List ℕ) → has_name seen name ≡ list_any (λ f. is_among f.names name) es)
    → list_any (has_name seen) e.names ≡ list_any (shares_name e) es
any_shared seen e es same = any_same (has_name seen) (λ name. list_any (λ f. is_among f.names name) es) e.names same ∙ shared e es

-- ---- from the last entry on

-- one more of the last entries
last_more : (i : ℕ) (files : Table) (e : FileEntry) → i < length files → e ≡ get_or files (length files - 1 - i) e
    → drop (length files - (i + 1)) files ≡ e ∷ drop (length files - i) files
last_more i files e lt is =
    let at : length files - 1 - i < length files = omega arith in
    let place : length files - (i + 1) ≡ length files - 1 - i = omega arith in
    let next : suc (length files - 1 - i) ≡ length files - i = omega arith in
    ap (λ k. drop k files) place ∙ drop-cons files (length files - 1 - i) e at ∙ ap (λ (f : FileEntry). f ∷ drop (suc (length files - 1 - i)) files) (sym is)
    ∙ ap (λ k. e ∷ drop k files) next

-- a name in two of the last entries is in two
last_repeat : (k : ℕ) (files : Table) → repeats_name (drop k files) ≡ true → repeats_name files ≡ true
last_repeat zero files h = h
last_repeat (suc k) [] h = h
last_repeat (suc k) (e ∷ es) h = ap (λ b. list_any (shares_name e) es || b) (last_repeat k es h) ∙ or_true (list_any (shares_name e) es)
  where
    or_true : (b : Bool) → (b || true) ≡ true
    or_true true = refl
    or_true false = refl

-- an entry that has a name of those behind it
pub repeat_found : (i : ℕ) (files : Table) (e : FileEntry) (seen : BTreeSet (Bor (List ℕ))) → i < length files → e ≡ get_or files (length files - 1 - i) e
    → ((name : List ℕ) → has_name seen name ≡ list_any (λ f. is_among f.names name) (drop (length files - i) files))
    → list_any (has_name seen) e.names ≡ true → repeats_name files ≡ true
repeat_found i files e seen lt is same found =
    let rest : Table = drop (length files - i) files in
    last_repeat (length files - (i + 1)) files
    (ap repeats_name (last_more i files e lt is) ∙ ap (λ b. b || repeats_name rest) (sym (any_shared seen e rest same) ∙ found))

-- an entry that has none
pub none_more : (i : ℕ) (files : Table) (e : FileEntry) (seen : BTreeSet (Bor (List ℕ))) → i < length files → e ≡ get_or files (length files - 1 - i) e
    → ((name : List ℕ) → has_name seen name ≡ list_any (λ f. is_among f.names name) (drop (length files - i) files))
    → list_any (has_name seen) e.names ≡ false → repeats_name (drop (length files - i) files) ≡ false → repeats_name (drop (length files - (i + 1)) files) ≡ false
none_more i files e seen lt is same none rest =
    let es : Table = drop (length files - i) files in
    ap repeats_name (last_more i files e lt is) ∙ ap (λ b. b || repeats_name es) (sym (any_shared seen e es same) ∙ none) ∙ rest

-- the set has the names of one entry more
pub set_more : (i : ℕ) (files : Table) (e : FileEntry) (seen more : BTreeSet (Bor (List ℕ))) (name : List ℕ) → i < length files → e ≡ get_or files (length files - 1 - i) e
    → has_name seen name ≡ list_any (λ f. is_among f.names name) (drop (length files - i) files) → has_name more name ≡ (is_among e.names name || has_name seen name)
    → has_name more name ≡ list_any (λ f. is_among f.names name) (drop (length files - (i + 1)) files)
set_more i files e seen more name lt is same added =
    added ∙ ap (λ b. is_among e.names name || b) same ∙ sym (ap (λ (es : Table). list_any (λ f. is_among f.names name) es) (last_more i files e lt is))
