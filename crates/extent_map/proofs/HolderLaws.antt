-- Who has which name, once names are given and taken.
use Rattle.std.specs.Prelude.{◌≡◌, ◌≢◌, ℕ, ◌+◌, ◌<◌, Bool, true, false, not, cond, ◌||◌, List, [], ◌∷◌, ◌++◌, length, Option, Some, None, refl}
use Rattle.std.specs.BTreeMap.{UpdatesBy}
use Rattle.std.specs.Cmp.{eq_by_cmp_equiv}
use Rattle.std.specs.Cmp.Lexicographic.{slice_cmp, nat_list_cmp_total, nat_list_eq_equiv}
use Rattle.std.specs.List.{AllByRecursion, list_any}
use Rattle.std.specs.Map.{lookup, IsKeyTest, AreApart, KeepsOthers}
use Rattle.std.specs.Ordering.{is_eq, nat_cmp}
use Rattle.std.specs.Str.{bytes_eq}
use Rattle.std.proofs.Common.{ap, sym, subst, ◌∙◌, take, get_or}
use Rattle.std.proofs.lemmas.Bool.{false≢true, eqb-true, and_parts}
use Rattle.std.proofs.lemmas.List.Folds.{list_any_more}
use Rattle.std.proofs.lemmas.Map.Text.{is_eq-slice_cmp}
use Rattle.std.proofs.lemmas.Slice.Eq.{bytes_eq-Decides}
use Rattle.record_model.specs.declared.types.FileEntry.{FileEntry}
use Rattle.log_model.specs.FileTable.{Table, is_among, is_named, names_left, set_entry, take_names}
use Rattle.log_model.specs.TableLaws.{IsTable}
use Rattle.log_model.proofs.SelectionLaws.{some_is}
use Rattle.log_model.proofs.TableLaws.{kept_whole, nothing_taken}
use Rattle.log_model.proofs.TableKept.{all_others, all_placed, all_taken, others_other}
use Rattle.extent_map.specs.Applying.{others_of}
use Rattle.extent_map.specs.Holding.{AreHeld, AreKnown, GivesNames, HasNames, are_free, are_known_free, holder_of, is_own}
use Rattle.extent_map.specs.declared.holders.Holders.{Holders}

-- whatever is first
or_true : (b : Bool) → (b || true) ≡ true
or_true true = refl
or_true false = refl

-- ---- a name that is given

-- a query for another key finds the same
other_entries : {K X : Type 0} (eq : K → K → Bool) (test : K → Bool) (old new : List (K × X)) → KeepsOthers eq test old new
    → (other : K → Bool) → IsKeyTest eq other → AreApart test other → lookup other new ≡ lookup other old
unfolding KeepsOthers
other_entries eq test old new h = h

-- names that differ aren't one key
apart_names : (given other key : List ℕ) → bytes_eq given other ≡ false → is_eq (slice_cmp nat_cmp given key) ≡ true → is_eq (slice_cmp nat_cmp other key) ≡ false
apart_names given other key apart same =
    is_eq-slice_cmp other key ∙ nat_list_eq_equiv.symm other key
    ∙ sym (nat_list_eq_equiv.congr given key other (sym (is_eq-slice_cmp given key) ∙ same)) ∙ apart

-- the id stands for the name, and for the others what stood for them
pub given_one : (old new : Holders) (name : List ℕ) (id : ℕ)
    → UpdatesBy (λ x y. slice_cmp nat_cmp x.items y.items) (λ k. slice_cmp nat_cmp name k.items) old.ids new.ids (Some id)
    → (other : List ℕ) → holder_of other new ≡ cond (bytes_eq name other) (Some id) (holder_of other old)
given_one old new name id updates other = choice (bytes_eq name other) refl
  where
    choice : (b : Bool) → bytes_eq name other ≡ b → holder_of other new ≡ cond b (Some id) (holder_of other old)
    choice true same = ap (λ n. holder_of n new) (sym ((bytes_eq-Decides name other).0 same)) ∙ updates.1
    choice false apart =
        other_entries _ _ _ _ updates.3 _ (λ x y. (eq_by_cmp_equiv nat_list_cmp_total).congr other x.items y.items) (λ k. apart_names name other k.items apart)

-- one name more
pub given_more : (old seen new : Holders) (names : List (List ℕ)) (i id : ℕ) (given : List ℕ) → i < length names → given ≡ get_or names i given
    → ((other : List ℕ) → holder_of other new ≡ cond (bytes_eq given other) (Some id) (holder_of other seen))
    → ((name : List ℕ) → holder_of name seen ≡ cond (is_among (take i names) name) (Some id) (holder_of name old))
    → (name : List ℕ) → holder_of name new ≡ cond (is_among (take (i + 1) names) name) (Some id) (holder_of name old)
given_more old seen new names i id given lt is one first name =
    one name ∙ ap (λ (h : Option ℕ). cond (bytes_eq given name) (Some id) h) (first name)
    ∙ either (bytes_eq given name) (is_among (take i names) name)
    ∙ ap (λ (b : Bool). cond (is_among (take i names) name || b) (Some id) (holder_of name old)) (ap (λ n. bytes_eq n name) is)
    ∙ ap (λ (b : Bool). cond b (Some id) (holder_of name old)) (sym (list_any_more (λ n. bytes_eq n name) names i given lt))
  where
    either : (b c : Bool) → cond b (Some id) (cond c (Some id) (holder_of name old)) ≡ cond (c || b) (Some id) (holder_of name old)
    either true true = refl
    either true false = refl
    either false true = refl
    either false false = refl

-- ---- names that are free

-- a name that is among free ones has no other holder
own_among : (h : Holders) (id : ℕ) (names : List (List ℕ)) (name : List ℕ) → are_free h id names ≡ true → is_among names name ≡ true → is_own id (holder_of name h) ≡ true
own_among h id [] name free there = absurd (false≢true there)
own_among h id (n ∷ ns) name free there =
    let parts = and_parts (is_own id (holder_of n h)) (are_free h id ns) free in
    choice (bytes_eq n name) refl there parts.0 (own_among h id ns name parts.1)
  where
    choice : (b : Bool) → bytes_eq n name ≡ b → (b || is_among ns name) ≡ true → is_own id (holder_of n h) ≡ true
        → (is_among ns name ≡ true → is_own id (holder_of name h) ≡ true) → is_own id (holder_of name h) ≡ true
    choice true same there first rest = ap (λ (m : List ℕ). is_own id (holder_of m h)) (sym ((bytes_eq-Decides n name).0 same)) ∙ first
    choice false other there first rest = rest there

-- its holder is then that file
own_holder : (h : Holders) (id other : ℕ) (names : List (List ℕ)) (name : List ℕ) → are_free h id names ≡ true → is_among names name ≡ true → holder_of name h ≡ Some other → other ≡ id
own_holder h id other names name free there is = eqb-true other id (ap (is_own id) (sym is) ∙ own_among h id names name free there)

-- another file has none of them
none_shared : (h : Holders) (id other : ℕ) (names ns : List (List ℕ)) → are_free h id names ≡ true → other ≢ id → HasNames h other ns → list_any (is_among names) ns ≡ false
none_shared h id other names [] free differ held = refl
none_shared h id other names (n ∷ ns) free differ held = choice (is_among names n) refl (none_shared h id other names ns free differ held.1)
  where
    choice : (b : Bool) → is_among names n ≡ b → list_any (is_among names) ns ≡ false → (b || list_any (is_among names) ns) ≡ false
    choice true there rest = absurd (differ (own_holder h id other names n free there held.0))
    choice false absent rest = rest

-- so no other file loses one
others_keep : (h : Holders) (id : ℕ) (names : List (List ℕ)) (es : Table) → are_free h id names ≡ true → AreHeld h es → AllByRecursion (λ f. f.id ≢ id) es
    → AllByRecursion (λ f. names_left names f.names ≡ f.names) es
others_keep h id names [] free held differ = tt
others_keep h id names (f ∷ fs) free held differ =
    (kept_whole (is_among names) f.names (none_shared h id f.id names f.names free differ.0 held.0), others_keep h id names fs free held.1 differ.1)

-- nothing is taken from the others
pub free_taken : (holders : Option Holders) (id : ℕ) (names : List (List ℕ)) (es : Table) → IsTable es → AreKnown holders es → are_known_free holders id names ≡ true
    → take_names names (others_of id es) ≡ others_of id es
free_taken None id names es table known free = absurd (false≢true free)
free_taken (Some h) id names es table known free =
    nothing_taken names (others_of id es)
    (others_keep h id names (others_of id es) free (all_others (λ f. HasNames h f.id f.names) id es (known h refl)) (others_other id es))
    (all_others (λ f. is_named f ≡ true) id es table.named)

-- ---- what is known after a change

-- names of a file whose holders are given so
given_own : (old new : Holders) (id : ℕ) (names ns : List (List ℕ)) → ((name : List ℕ) → holder_of name new ≡ cond (is_among names name) (Some id) (holder_of name old))
    → ((name : List ℕ) → is_among ns name ≡ true → is_among names name ≡ true) → HasNames new id ns
given_own old new id names [] gives among = tt
given_own old new id names (n ∷ ns) gives among =
    let first : is_among (n ∷ ns) n ≡ true = ap (λ b. b || is_among ns n) ((bytes_eq-Decides n n).1 refl) in (
      gives n ∙ ap (λ b. cond b (Some id) (holder_of n old)) (among n first),
      given_own old new id names ns gives (λ name there. among name (ap (λ b. bytes_eq n name || b) there ∙ or_true (bytes_eq n name))),
    )

-- names that a file keeps
kept_own : (old new : Holders) (id other : ℕ) (names ns : List (List ℕ)) → ((name : List ℕ) → holder_of name new ≡ cond (is_among names name) (Some id) (holder_of name old))
    → HasNames old other ns → HasNames new other (names_left names ns)
kept_own old new id other names [] gives held = tt
kept_own old new id other names (n ∷ ns) gives held = choice (is_among names n) refl (kept_own old new id other names ns gives held.1)
  where
    choice : (b : Bool) → is_among names n ≡ b → HasNames new other (names_left names ns) → HasNames new other (cond (not b) (n ∷ names_left names ns) (names_left names ns))
    choice true there rest = rest
    choice false absent rest = (gives n ∙ ap (λ b. cond b (Some id) (holder_of n old)) absent ∙ held.0, rest)

-- once an entry took its names and its place
pub known_set : (holders new : Option Holders) (e : FileEntry) (es : Table) → GivesNames holders e.id e.names new → AreKnown holders es → AreKnown new (set_entry e es)
known_set holders None e es gives known = λ h is. absurd cc
known_set None (Some more) e es gives known = absurd gives
known_set (Some old) (Some more) e es gives known = λ h is.
    let same : more ≡ h = some_is is in
    let rest = all_others (λ f. HasNames old f.id f.names) e.id es (known old refl) in
    subst (λ (m : Holders). AreHeld m (set_entry e es)) same
    (all_placed (λ f. HasNames more f.id f.names) e (take_names e.names (others_of e.id es)) (given_own old more e.id e.names e.names gives (λ name there. there))
    (all_taken (λ f. HasNames old f.id f.names) (λ f. HasNames more f.id f.names) e.names (others_of e.id es)
    (λ f held. kept_own old more e.id f.id e.names f.names gives held) rest))

-- a name that is taken
names_fewer : (h : Holders) (id : ℕ) (taken ns : List (List ℕ)) → HasNames h id ns → HasNames h id (names_left taken ns)
names_fewer h id taken [] held = tt
names_fewer h id taken (n ∷ ns) held = choice (is_among taken n) (names_fewer h id taken ns held.1)
  where
    choice : (b : Bool) → HasNames h id (names_left taken ns) → HasNames h id (cond (not b) (n ∷ names_left taken ns) (names_left taken ns))
    choice true rest = rest
    choice false rest = (held.0, rest)

-- once names are taken
pub known_taken : (holders : Option Holders) (taken : List (List ℕ)) (es : Table) → AreKnown holders es → AreKnown holders (take_names taken es)
known_taken holders taken es known = λ h is.
    all_taken (λ f. HasNames h f.id f.names) (λ f. HasNames h f.id f.names) taken es (λ f held. names_fewer h f.id taken f.names held) (known h is)

-- files whose names are given once more, if to themselves
still_own : (old new : Holders) (id other : ℕ) (names ns : List (List ℕ)) → ((name : List ℕ) → holder_of name new ≡ cond (is_among names name) (Some id) (holder_of name old))
    → are_free old id names ≡ true → HasNames old other ns → HasNames new other ns
still_own old new id other names [] gives free held = tt
still_own old new id other names (n ∷ ns) gives free held = (choice (is_among names n) refl, still_own old new id other names ns gives free held.1)
  where
    choice : (b : Bool) → is_among names n ≡ b → holder_of n new ≡ Some other
    choice true there = gives n ∙ ap (λ b. cond b (Some id) (holder_of n old)) there ∙ ap Some (sym (own_holder old id other names n free there held.0))
    choice false absent = gives n ∙ ap (λ b. cond b (Some id) (holder_of n old)) absent ∙ held.0

-- the files so far and one more
still_held : (old new : Holders) (e : FileEntry) (es : Table) → ((name : List ℕ) → holder_of name new ≡ cond (is_among e.names name) (Some e.id) (holder_of name old))
    → are_free old e.id e.names ≡ true → AreHeld old es → AreHeld new (es ++ e ∷ [])
still_held old new e [] gives free held = (given_own old new e.id e.names e.names gives (λ name there. there), tt)
still_held old new e (f ∷ fs) gives free held = (still_own old new e.id f.id e.names f.names gives free held.0, still_held old new e fs gives free held.1)

-- once a file is seen
pub known_more : (holders new : Option Holders) (e : FileEntry) (es : Table) → GivesNames holders e.id e.names new → are_known_free holders e.id e.names ≡ true
    → AreKnown holders es → AreKnown new (es ++ e ∷ [])
known_more holders None e es gives free known = λ h is. absurd cc
known_more None (Some more) e es gives free known = absurd gives
known_more (Some old) (Some more) e es gives free known = λ h is.
    subst (λ (m : Holders). AreHeld m (es ++ e ∷ [])) (some_is is) (still_held old more e es gives free (known old refl))

-- nothing is known of no file
pub none_known : (holders : Option Holders) → AreKnown holders []
none_known holders = λ h is. tt
