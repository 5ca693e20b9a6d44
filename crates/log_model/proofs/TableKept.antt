-- A table stays a table after each record.
use Rattle.std.specs.Prelude.{◌≡◌, ◌≢◌, ℕ, ◌+◌, ◌≤◌, ⊤, Bool, true, false, not, cond, List, [], ◌∷◌, Option, Some, None, is_some, Ok, nat_lt, ◌==◌, filter, refl}
use Rattle.std.proofs.Common.{◌∙◌, ap, sym, subst, ⊎_elim, inl, inr, arith}
use Rattle.std.proofs.lemmas.Bool.{ltb-true, ltb-false, eq-eqb, eqb-true, eqb-false, or_parts, or_from, both_ways}
use mathlib.Core.Logic.{◌⊎◌}
use Rattle.std.specs.List.{AllByRecursion, list_any, list_all}
use Rattle.std.specs.Str.{bytes_eq}
use Rattle.record_model.specs.FieldDecoding.{◌>>=◌}
use Rattle.record_model.specs.declared.types.FileEntry.{FileEntry}
use Rattle.record_model.specs.declared.types.Record.TheVariants.{Snapshot, Update, Deletion, End, Replace}
use Rattle.log_model.specs.FileTable.{Table, file_of, with_entry, is_among, is_named, names_left, without_names, take_names, set_entry, shares_name, has_right_size, repeats_id, repeats_name, sorted, unless_broken, grown, delete_from, after_record}
use Rattle.log_model.specs.TableLaws.{IdsRise, IsTable, RecordKeepsTable}
use Rattle.log_model.proofs.TableLaws.{others_of, id_above, rise_cond, rise_taken}
use Rattle.log_model.proofs.ReplayLaws.{bytes_eq_sym, file_has, all_from, all_of}
use Rattle.log_model.proofs.SelectionLaws.{some_is}
use Rattle.log_model.proofs.SelectedLog.{went_on, ok_is}

-- one name, or none, in front of others
kept_either : (b : Bool) (q : List ℕ → Bool) (n : List ℕ) (kept : List (List ℕ)) → q n ≡ false → list_any q kept ≡ false → list_any q (cond b (n ∷ kept) kept) ≡ false
kept_either true q n kept h g = or_from (q n) (list_any q kept) h g
kept_either false q n kept h g = g

-- a test that fails of all fails of those that are kept
any_kept : (q p : List ℕ → Bool) (names : List (List ℕ)) → list_any q names ≡ false → list_any q (filter p names) ≡ false
any_kept q p [] h = refl
any_kept q p (n ∷ ns) h =
    let parts = or_parts (q n) (list_any q ns) h in kept_either (p n) q n (filter p ns) parts.0 (any_kept q p ns parts.1)

-- a test that fails more often fails of all too
any_less : (q r : List ℕ → Bool) (names : List (List ℕ)) → ((n : List ℕ) → q n ≡ false → r n ≡ false) → list_any q names ≡ false → list_any r names ≡ false
any_less q r [] less h = refl
any_less q r (n ∷ ns) less h =
    let parts = or_parts (q n) (list_any q ns) h in or_from (r n) (list_any r ns) (less n parts.0) (any_less q r ns less parts.1)

-- files that share no name share none where names are taken
shares_less : (ns : List (List ℕ)) (e f : FileEntry) → shares_name e f ≡ false → shares_name (without_names ns e) (without_names ns f) ≡ false
shares_less ns e f h =
    any_less (is_among e.names) (is_among (names_left ns e.names)) (names_left ns f.names)
    (λ n other. any_kept (λ m. bytes_eq m n) (λ m. not (is_among ns m)) e.names other)
    (any_kept (is_among e.names) (λ m. not (is_among ns m)) f.names h)

-- one name that passes no test, or none, in front of others
apart_either : (b : Bool) (q : List ℕ → Bool) (n : List ℕ) (kept : List (List ℕ)) → q n ≡ b → list_any q kept ≡ false → list_any q (cond (not b) (n ∷ kept) kept) ≡ false
apart_either true q n kept h g = g
apart_either false q n kept h g = or_from (q n) (list_any q kept) h g

-- a file of which these names were taken has none of them
pub taken_apart : (ns names : List (List ℕ)) → list_any (is_among ns) (names_left ns names) ≡ false
taken_apart ns [] = refl
taken_apart ns (n ∷ names) = apart_either (is_among ns n) (is_among ns) n (names_left ns names) refl (taken_apart ns names)

-- the first of some names isn't among others
apart_from_head : (x : List ℕ) (xs ys : List (List ℕ)) → list_any (is_among (x ∷ xs)) ys ≡ false → is_among ys x ≡ false
apart_from_head x xs [] h = refl
apart_from_head x xs (y ∷ ys) h =
    let parts = or_parts (is_among (x ∷ xs) y) (list_any (is_among (x ∷ xs)) ys) h in
    or_from (bytes_eq y x) (is_among ys x) (bytes_eq_sym y x ∙ (or_parts (bytes_eq x y) (is_among xs y) parts.0).0) (apart_from_head x xs ys parts.1)

-- names of which none is among others, the other way round
pub among_sym : (xs ys : List (List ℕ)) → list_any (is_among xs) ys ≡ false → list_any (is_among ys) xs ≡ false
among_sym [] ys h = refl
among_sym (x ∷ xs) ys h =
    or_from (is_among ys x) (list_any (is_among ys) xs) (apart_from_head x xs ys h)
    (among_sym xs ys (any_less (is_among (x ∷ xs)) (is_among xs) ys (λ n other. (or_parts (bytes_eq x n) (is_among xs n) other).1) h))

-- an entry, or none, in front of others
all_either : (P : FileEntry → Type 0) (b : Bool) (x : FileEntry) (kept : Table) → (b ≡ true → P x) → AllByRecursion P kept → AllByRecursion P (cond b (x ∷ kept) kept)
all_either P true x kept h g = (h refl, g)
all_either P false x kept h g = g

-- what holds of each entry without names
pub all_taken : (P Q : FileEntry → Type 0) (ns : List (List ℕ)) (es : Table) → ((f : FileEntry) → P f → Q (without_names ns f)) → AllByRecursion P es → AllByRecursion Q (take_names ns es)
all_taken P Q ns [] step h = tt
all_taken P Q ns (f ∷ fs) step h =
    all_either Q (is_named (without_names ns f)) (without_names ns f) (take_names ns fs) (λ named. step f h.0) (all_taken P Q ns fs step h.1)

-- each entry that is kept has a name
pub named_taken : (ns : List (List ℕ)) (es : Table) → AllByRecursion (λ e. is_named e ≡ true) (take_names ns es)
named_taken ns [] = tt
named_taken ns (f ∷ fs) =
    all_either (λ e. is_named e ≡ true) (is_named (without_names ns f)) (without_names ns f) (take_names ns fs) (λ named. named) (named_taken ns fs)

-- the entry that a file was before names were taken
pub IsTakenFrom : List (List ℕ) → ℕ → FileEntry → Table → Type 0
IsTakenFrom ns id e es = (old : FileEntry) × (file_of id es ≡ Some old) × (without_names ns old ≡ e)

-- the first file, or one behind it
origin_head : (kept here : Bool) (ns : List (List ℕ)) (id : ℕ) (f e : FileEntry) (fs : Table) → (f.id == id) ≡ here → IdsRise (f.id + 1) fs
    → (file_of id (take_names ns fs) ≡ Some e → IsTakenFrom ns id e fs) → file_of id (cond kept (without_names ns f ∷ take_names ns fs) (take_names ns fs)) ≡ Some e
    → IsTakenFrom ns id e (f ∷ fs)
unfolding IsTakenFrom
origin_head true true ns id f e fs test rise behind is = (
  f,
  ap (λ b. cond b (Some f) (file_of id fs)) test,
  some_is (sym (ap (λ b. cond b (Some (without_names ns f)) (file_of id (take_names ns fs))) test) ∙ is),
)
origin_head true false ns id f e fs test rise behind is =
    let rest = behind (sym (ap (λ b. cond b (Some (without_names ns f)) (file_of id (take_names ns fs))) test) ∙ is) in
    (rest.0, ap (λ b. cond b (Some f) (file_of id fs)) test ∙ rest.1, rest.2)
origin_head false true ns id f e fs test rise behind is =
    absurd (omega (arith, eqb-true f.id id test, id_above (f.id + 1) id (take_names ns fs) e (rise_taken (f.id + 1) ns fs rise) is))
origin_head false false ns id f e fs test rise behind is =
    let rest = behind is in (rest.0, ap (λ b. cond b (Some f) (file_of id fs)) test ∙ rest.1, rest.2)

-- the file was one before
pub taken_origin : (from : ℕ) (ns : List (List ℕ)) (id : ℕ) (e : FileEntry) (es : Table) → IdsRise from es → file_of id (take_names ns es) ≡ Some e → IsTakenFrom ns id e es
unfolding IsTakenFrom
taken_origin from ns id e [] rise is = cc
taken_origin from ns id e (f ∷ fs) rise is =
    origin_head (is_named (without_names ns f)) (f.id == id) ns id f e fs refl rise.1 (taken_origin (f.id + 1) ns id e fs rise.1) is

-- a table stays one where names are taken
pub taken_table : (ns : List (List ℕ)) (es : Table) → IsTable es → IsTable (take_names ns es)
unfolding IsTakenFrom
taken_table ns es table = record {
  ids = rise_taken 0 ns es table.ids;
  named = named_taken ns es;
  apart =
      λ e is.
      let from : IsTakenFrom ns e.id e es = taken_origin 0 ns e.id e es table.ids is in
      let same : from.0.id ≡ e.id = ap (λ x. x.id) from.2 in
      let found : file_of from.0.id es ≡ Some from.0 = ap (λ id. file_of id es) same ∙ from.1 in
      all_taken (λ f. f.id ≢ from.0.id → shares_name from.0 f ≡ false) (λ f. f.id ≢ e.id → shares_name e f ≡ false) ns es
      (λ f apart other. sym (ap (λ x. shares_name x (without_names ns f)) from.2) ∙ shares_less ns from.0 f (apart (λ is_same. other (is_same ∙ same))))
      (table.apart from.0 found);
}

-- what holds of each entry of other ids
pub all_others : (P : FileEntry → Type 0) (id : ℕ) (es : Table) → AllByRecursion P es → AllByRecursion P (others_of id es)
all_others P id [] h = tt
all_others P id (f ∷ fs) h = all_either P (not (f.id == id)) f (others_of id fs) (λ other. h.0) (all_others P id fs h.1)

-- they have other ids
pub others_other : (id : ℕ) (es : Table) → AllByRecursion (λ f. f.id ≢ id) (others_of id es)
others_other id [] = tt
others_other id (f ∷ fs) =
    all_either (λ x. x.id ≢ id) (not (f.id == id)) f (others_of id fs)
    (λ other same. both_ways (not (f.id == id)) (ap not (eq-eqb f.id id same)) other) (others_other id fs)

-- their ids rise
pub rise_others : (from id : ℕ) (es : Table) → IdsRise from es → IdsRise from (others_of id es)
rise_others from id [] rise = tt
rise_others from id (f ∷ fs) rise = rise_cond (not (f.id == id)) from f (others_of id fs) rise.0 (rise_others (f.id + 1) id fs rise.1)

-- a file among those of other ids, the first one or one behind it
others_head : (gone here : Bool) (id x : ℕ) (f e : FileEntry) (fs : Table) → (f.id == id) ≡ gone → (f.id == x) ≡ here → x ≢ id
    → (file_of x (others_of id fs) ≡ Some e → file_of x fs ≡ Some e) → file_of x (cond (not gone) (f ∷ others_of id fs) (others_of id fs)) ≡ Some e
    → cond here (Some f) (file_of x fs) ≡ Some e
others_head true true id x f e fs gone here away behind is = absurd (away (sym (eqb-true f.id x here) ∙ eqb-true f.id id gone))
others_head true false id x f e fs gone here away behind is = behind is
others_head false true id x f e fs gone here away behind is = sym (ap (λ b. cond b (Some f) (file_of x (others_of id fs))) here) ∙ is
others_head false false id x f e fs gone here away behind is = behind (sym (ap (λ b. cond b (Some f) (file_of x (others_of id fs))) here) ∙ is)

-- a file among those of other ids is one of all
pub others_origin : (from id x : ℕ) (e : FileEntry) (es : Table) → IdsRise from es → x ≢ id → file_of x (others_of id es) ≡ Some e → file_of x es ≡ Some e
others_origin from id x e [] rise away is = is
others_origin from id x e (f ∷ fs) rise away is =
    others_head (f.id == id) (f.id == x) id x f e fs refl refl away (others_origin (f.id + 1) id x e fs rise.1 away) is

-- a table stays one without the entry of an id
pub others_table : (id : ℕ) (es : Table) → IsTable es → IsTable (others_of id es)
others_table id es table = record {
  ids = rise_others 0 id es table.ids;
  named = all_others (λ e. is_named e ≡ true) id es table.named;
  apart =
      λ e is.
      all_others (λ f. f.id ≢ e.id → shares_name e f ≡ false) id es
      (table.apart e (others_origin 0 id e.id e es table.ids (file_has (λ f. f.id ≢ id) e.id (others_of id es) e (others_other id es) is) is));
}

-- a number that is neither below another nor it
above_from : (m n : ℕ) → n ≤ m → (m ≡ n → ⊥) → n + 1 ≤ m
above_from m n h other = omega arith

-- the ids rise where an entry stands before another one, or behind it
rise_head : (lower same : Bool) (from : ℕ) (e f : FileEntry) (fs : Table) → nat_lt e.id f.id ≡ lower → (e.id == f.id) ≡ same → f.id ≢ e.id → from ≤ e.id
    → IdsRise from (f ∷ fs) → (f.id + 1 ≤ e.id → IdsRise (f.id + 1) (with_entry e fs))
    → IdsRise from (cond lower (e ∷ f ∷ fs) (cond same (e ∷ fs) (f ∷ with_entry e fs)))
rise_head true same from e f fs less is other low rise behind = (low, (omega (arith, ltb-true e.id f.id less), rise.1))
rise_head false true from e f fs less is other low rise behind = absurd (other (sym (eqb-true e.id f.id is)))
rise_head false false from e f fs less is other low rise behind =
    (rise.0, behind (above_from e.id f.id (ltb-false e.id f.id less) (eqb-false e.id f.id is)))

-- the ids rise where an entry takes its place
pub rise_placed : (from : ℕ) (e : FileEntry) (es : Table) → IdsRise from es → AllByRecursion (λ f. f.id ≢ e.id) es → from ≤ e.id → IdsRise from (with_entry e es)
rise_placed from e [] rise other low = (low, tt)
rise_placed from e (f ∷ fs) rise other low =
    rise_head (nat_lt e.id f.id) (e.id == f.id) from e f fs refl refl other.0 low rise (rise_placed (f.id + 1) e fs rise.1 other.1)

-- the same of every entry
placed_either : (lower same : Bool) (P : FileEntry → Type 0) (e f : FileEntry) (fs : Table) → P e → AllByRecursion P (f ∷ fs) → AllByRecursion P (with_entry e fs)
    → AllByRecursion P (cond lower (e ∷ f ∷ fs) (cond same (e ∷ fs) (f ∷ with_entry e fs)))
placed_either true same P e f fs h g behind = (h, (g.0, g.1))
placed_either false true P e f fs h g behind = (h, g.1)
placed_either false false P e f fs h g behind = (g.0, behind)

-- what holds of an entry and of each other one
pub all_placed : (P : FileEntry → Type 0) (e : FileEntry) (es : Table) → P e → AllByRecursion P es → AllByRecursion P (with_entry e es)
all_placed P e [] h g = (h, tt)
all_placed P e (f ∷ fs) h g = placed_either (nat_lt e.id f.id) (e.id == f.id) P e f fs h g (all_placed P e fs h g.1)

-- a table of one entry has this one
only_one : (here : Bool) (id : ℕ) (e it : FileEntry) → cond here (Some e) None ≡ Some it → (it ≡ e) ⊎ (file_of id [] ≡ Some it)
only_one true id e it is = inl (sym (some_is is))
only_one false id e it is = cc

-- the first entry, or one behind it
first_or_behind : (here : Bool) (id : ℕ) (e it : FileEntry) (rest : Option FileEntry) → cond here (Some e) rest ≡ Some it → (it ≡ e) ⊎ (rest ≡ Some it)
first_or_behind true id e it rest is = inl (sym (some_is is))
first_or_behind false id e it rest is = inr is

-- an entry in front that was there, or one behind it
front_or_behind : (here : Bool) (id : ℕ) (e it f : FileEntry) (fs : Table) → (file_of id (with_entry e fs) ≡ Some it → (it ≡ e) ⊎ (file_of id fs ≡ Some it))
    → cond here (Some f) (file_of id (with_entry e fs)) ≡ Some it → (it ≡ e) ⊎ (cond here (Some f) (file_of id fs) ≡ Some it)
front_or_behind true id e it f fs behind is = inr is
front_or_behind false id e it f fs behind is = behind is

-- the same, by the place that the entry takes
placed_origin_head : (lower same : Bool) (id : ℕ) (e it f : FileEntry) (fs : Table) → (e.id == f.id) ≡ same → f.id ≢ e.id
    → (file_of id (with_entry e fs) ≡ Some it → (it ≡ e) ⊎ (file_of id fs ≡ Some it))
    → file_of id (cond lower (e ∷ f ∷ fs) (cond same (e ∷ fs) (f ∷ with_entry e fs))) ≡ Some it → (it ≡ e) ⊎ (file_of id (f ∷ fs) ≡ Some it)
placed_origin_head true same id e it f fs at other behind is = first_or_behind (e.id == id) id e it (file_of id (f ∷ fs)) is
placed_origin_head false true id e it f fs at other behind is = absurd (other (sym (eqb-true e.id f.id at)))
placed_origin_head false false id e it f fs at other behind is = front_or_behind (f.id == id) id e it f fs behind is

-- a file of the table with an entry more is the entry, or was there
placed_origin : (id : ℕ) (e it : FileEntry) (es : Table) → AllByRecursion (λ f. f.id ≢ e.id) es → file_of id (with_entry e es) ≡ Some it → (it ≡ e) ⊎ (file_of id es ≡ Some it)
placed_origin id e it [] other is = only_one (e.id == id) id e it is
placed_origin id e it (f ∷ fs) other is =
    placed_origin_head (nat_lt e.id f.id) (e.id == f.id) id e it f fs refl other.0 (placed_origin id e it fs other.1) is

-- a table stays one with one entry more, which has a name and none of another
pub placed_table : (e : FileEntry) (es : Table) → is_named e ≡ true → IsTable es → AllByRecursion (λ f. f.id ≢ e.id) es → AllByRecursion (λ f. shares_name e f ≡ false) es
    → IsTable (with_entry e es)
placed_table e es named table other apart = record {
  ids = rise_placed 0 e es table.ids other (omega arith);
  named = all_placed (λ x. is_named x ≡ true) e es named table.named;
  apart =
      λ it is.
      ⊎_elim
      (λ same.
      subst (λ x. AllByRecursion (λ f. f.id ≢ x.id → shares_name x f ≡ false) (with_entry e es)) (sym same)
      (all_placed (λ f. f.id ≢ e.id → shares_name e f ≡ false) e es (λ self. absurd (self refl))
      (all_from (λ f. shares_name e f ≡ false) (λ f. f.id ≢ e.id → shares_name e f ≡ false) es (λ f h away. h) apart)))
      (λ found.
      all_placed (λ f. f.id ≢ it.id → shares_name it f ≡ false) e es
      (λ away. among_sym e.names it.names (file_has (λ f. shares_name e f ≡ false) it.id es it apart found)) (table.apart it found))
      (placed_origin it.id e it es other is);
}

-- a table stays one where an entry with a name is set
pub set_table : (e : FileEntry) (es : Table) → is_named e ≡ true → IsTable es → IsTable (set_entry e es)
set_table e es named table =
    let others : Table = others_of e.id es in
    placed_table e (take_names e.names others) named (taken_table e.names others (others_table e.id es table))
    (all_taken (λ f. f.id ≢ e.id) (λ f. f.id ≢ e.id) e.names others (λ f h. h) (others_other e.id es))
    (all_taken (λ f. ⊤) (λ f. shares_name e f ≡ false) e.names others (λ f h. taken_apart e.names f.names) (all_of (λ f. ⊤) others (λ f. tt)))

-- a rule that isn't broken gives the table on
pub unbroken_is : (broken : Bool) (rule : ℕ) (es next : Table) → unless_broken broken rule es ≡ Ok next → es ≡ next
unbroken_is true rule es next h = cc
unbroken_is false rule es next h = ok_is h

-- a deletion keeps a table
deleted_table : (o : Option FileEntry) (name : List ℕ) (es next : Table) → IsTable es → delete_from o name es ≡ Ok next → IsTable next
deleted_table None name es next table h = cc
deleted_table (Some e) name es next table h =
    subst IsTable (unbroken_is (not (is_among e.names name)) 4 (take_names (name ∷ []) es) next h) (taken_table (name ∷ []) es table)

-- an entry that has grown has its names
grown_named : (o : Option FileEntry) (e : FileEntry) → is_named e ≡ true → is_named (grown o e) ≡ true
grown_named None e h = h
grown_named (Some f) e h = h

-- what holds of each entry holds of each in order
pub all_sorted : (P : FileEntry → Type 0) (es : Table) → AllByRecursion P es → AllByRecursion P (sorted es)
all_sorted P [] h = tt
all_sorted P (e ∷ es) h = all_placed P e (sorted es) h.0 (all_sorted P es h.1)

-- what none passes fails of each
all_fail : (q : FileEntry → Bool) (es : Table) → list_any q es ≡ false → AllByRecursion (λ f. q f ≡ false) es
all_fail q [] h = tt
all_fail q (e ∷ es) h = let parts = or_parts (q e) (list_any q es) h in (parts.0, all_fail q es parts.1)

-- a table of no entries
pub empty_table : IsTable []
empty_table = record { ids = tt; named = tt; apart = λ e is. tt }

-- entries with names, of which no two have one id or share a name, make a table
sorted_table : (es : Table) → AllByRecursion (λ e. is_named e ≡ true) es → repeats_id es ≡ false → repeats_name es ≡ false → IsTable (sorted es)
sorted_table [] named ids names = empty_table
sorted_table (e ∷ es) named ids names =
    let a = or_parts (list_any (λ f. f.id == e.id) es) (repeats_id es) ids in
    let b = or_parts (list_any (shares_name e) es) (repeats_name es) names in
    placed_table e (sorted es) named.0 (sorted_table es named.1 a.1 b.1)
    (all_sorted (λ f. f.id ≢ e.id) es (all_from (λ f. (f.id == e.id) ≡ false) (λ f. f.id ≢ e.id) es (λ f other. eqb-false f.id e.id other) (all_fail (λ f. f.id == e.id) es a.0)))
    (all_sorted (λ f. shares_name e f ≡ false) es (all_fail (shares_name e) es b.0))

-- a rule that gives a table on isn't broken
pub unbroken_test : (broken : Bool) (rule : ℕ) (es next : Table) → unless_broken broken rule es ≡ Ok next → broken ≡ false
unbroken_test true rule es next h = cc
unbroken_test false rule es next h = refl

-- a snapshot that breaks no rule makes a table
snapshot_table : (files before next : Table) → AllByRecursion (λ e. is_named e ≡ true) files → after_record (Snapshot files) before ≡ Ok next → IsTable next
unfolding after_record
snapshot_table files before next named h =
    let a = went_on (unless_broken (not (list_all has_right_size files)) 5 files) (λ x. unless_broken (repeats_id files) 6 files >>= (λ y. unless_broken (repeats_name files) 7 files >>= (λ z. Ok (sorted files)))) next h in
    let b = went_on (unless_broken (repeats_id files) 6 files) (λ y. unless_broken (repeats_name files) 7 files >>= (λ z. Ok (sorted files))) next a.2 in
    let c = went_on (unless_broken (repeats_name files) 7 files) (λ z. Ok (sorted files)) next b.2 in
    subst IsTable (ok_is c.2)
    (sorted_table files named (unbroken_test (repeats_id files) 6 files b.0 b.1) (unbroken_test (repeats_name files) 7 files c.0 c.1))

pub record_keeps_table : RecordKeepsTable
unfolding after_record
record_keeps_table es next (Snapshot files) table named h = snapshot_table files es next named h
record_keeps_table es next (Update e) table named h =
    let it : FileEntry = grown (file_of e.id es) e in
    subst IsTable (unbroken_is (not (has_right_size it)) 5 (set_entry it es) next h) (set_table it es (grown_named (file_of e.id es) e named) table)
record_keeps_table es next (Deletion id name) table named h = deleted_table (file_of id es) name es next table h
record_keeps_table es next End table named h = subst IsTable (ok_is h) table
record_keeps_table es next (Replace e) table named h =
    let a = went_on (unless_broken (not (is_some (file_of e.id es))) 3 es) (λ x. unless_broken (not (has_right_size e)) 5 (set_entry e es)) next h in
    subst IsTable (unbroken_is (not (has_right_size e)) 5 (set_entry e es) next a.2) (set_table e es named table)
