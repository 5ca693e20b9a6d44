-- A record in a table, seen as a change of the tree.
use Rattle.std.specs.Prelude.{◌≡◌, ◌≢◌, ℕ, ◌+◌, ◌<◌, ◌≤◌, Bool, true, false, not, cond, List, [], ◌∷◌, ◌++◌, Some, ◌==◌, if◌then◌else◌, filter, map, refl}
use Rattle.std.proofs.Common.{◌∙◌, ap, sym, arith}
use Rattle.std.proofs.lemmas.Bool.{lt-ltb, le-ltb, ne_eqb, eqb-true, eqb-false, or_parts}
use Rattle.std.specs.List.{AllByRecursion, list_any}
use Rattle.zone_image.specs.Image.{Image}
use Rattle.record_model.specs.declared.types.FileEntry.{FileEntry}
use Rattle.log_model.specs.FileTable.{Table, file_of, with_entry, is_among, is_named, names_left, without_names, take_names, shares_name}
use Rattle.log_model.specs.FileTree.{TreeFile, has_names, drop_name, without_name, on_file}
use Rattle.log_model.specs.Mounted.{file_in, tree_of}
use Rattle.log_model.specs.TableLaws.{IdsRise}
use Rattle.log_model.proofs.SelectionLaws.{some_is}

-- what none passes is kept whole
pub kept_whole : {A : Type 0} (q : A → Bool) (xs : List A) → list_any q xs ≡ false → filter (λ x. not (q x)) xs ≡ xs
kept_whole q [] h = refl
kept_whole q (x ∷ xs) h =
    let parts = or_parts (q x) (list_any q xs) h in
    ap (λ b. cond (not b) (x ∷ filter (λ y. not (q y)) xs) (filter (λ y. not (q y)) xs)) parts.0 ∙ ap (λ ys. x ∷ ys) (kept_whole q xs parts.1)

-- a file that shares no name loses none
pub nothing_lost : (e f : FileEntry) → shares_name e f ≡ false → names_left e.names f.names ≡ f.names
nothing_lost e f h = kept_whole (is_among e.names) f.names h

-- one item more, or none
one_more : {A B : Type 0} (f : A → B) (b c : Bool) (x : A) (xs : List A) (ys : List B) → c ≡ b → map f xs ≡ ys → map f (cond b (x ∷ xs) xs) ≡ cond c (f x ∷ ys) ys
one_more f true c x xs ys is same = ap (λ zs. f x ∷ zs) same ∙ ap (λ d. cond d (f x ∷ ys) ys) (sym is)
one_more f false c x xs ys is same = same ∙ ap (λ d. cond d (f x ∷ ys) ys) (sym is)

-- what a map keeps of a filter
map_filter : {A B : Type 0} (f : A → B) (p : A → Bool) (q : B → Bool) (xs : List A) → ((x : A) → q (f x) ≡ p x) → map f (filter p xs) ≡ filter q (map f xs)
map_filter f p q [] same = refl
map_filter f p q (x ∷ xs) same = one_more f (p x) (q (f x)) x (filter p xs) (filter q (map f xs)) (same x) (map_filter f p q xs same)

-- files without a name, of tables and of trees
files_without : (i : Image) (name : List ℕ) (es : Table) → map (file_in i) (map (without_names (name ∷ [])) es) ≡ map (without_name name) (map (file_in i) es)
files_without i name [] = refl
files_without i name (e ∷ es) = ap (λ fs. file_in i (without_names (name ∷ []) e) ∷ fs) (files_without i name es)

-- taking names away is the same of tables and of trees
pub tree_without : (i : Image) (name : List ℕ) (es : Table) → tree_of i (take_names (name ∷ []) es) ≡ drop_name name (tree_of i es)
tree_without i name es =
    map_filter (file_in i) is_named has_names (map (without_names (name ∷ [])) es) (λ e. refl)
    ∙ ap (filter has_names) (files_without i name es)

-- an entry in place of the one of its id
abbrev pub put_in : FileEntry → Table → Table
put_in e es = map (λ f. if f.id == e.id then e else f) es

-- the entries of other ids
abbrev pub others_of : ℕ → Table → Table
others_of id es = filter (λ f. not (f.id == id)) es

-- ids that rise from a number rise from a lower one
pub rise_from : (low from : ℕ) (es : Table) → low ≤ from → IdsRise from es → IdsRise low es
rise_from low from [] h rise = tt
rise_from low from (e ∷ es) h rise = (omega (arith, rise.0), rise.1)

-- the head of a table, or what is behind it
above_head : (here : Bool) (from id : ℕ) (f : FileEntry) (fs : Table) (e : FileEntry) → (f.id == id) ≡ here → from ≤ f.id
    → (file_of id fs ≡ Some e → f.id + 1 ≤ id) → cond here (Some f) (file_of id fs) ≡ Some e → from ≤ id
above_head true from id f fs e test low behind is = omega (arith, eqb-true f.id id test)
above_head false from id f fs e test low behind is = omega (arith, behind is)

-- a file of a table has an id from where they rise
pub id_above : (from id : ℕ) (es : Table) (e : FileEntry) → IdsRise from es → file_of id es ≡ Some e → from ≤ id
id_above from id [] e rise is = cc
id_above from id (f ∷ fs) e rise is = above_head (f.id == id) from id f fs e refl rise.0 (id_above (f.id + 1) id fs e rise.1) is

-- where the ids rise past an id, no other entry has it
pub others_past : (from id : ℕ) (es : Table) → IdsRise from es → id < from → others_of id es ≡ es
others_past from id [] rise h = refl
others_past from id (f ∷ fs) rise h =
    ap (λ b. cond (not b) (f ∷ others_of id fs) (others_of id fs)) (ne_eqb f.id id (λ same. omega (arith, rise.0)))
    ∙ ap (λ es. f ∷ es) (others_past (f.id + 1) id fs rise.1 (omega (arith, rise.0)))

-- nor is it put in any place
put_past : (from : ℕ) (e : FileEntry) (es : Table) → IdsRise from es → e.id < from → put_in e es ≡ es
put_past from e [] rise h = refl
put_past from e (f ∷ fs) rise h =
    ap (λ b. cond b e f ∷ put_in e fs) (ne_eqb f.id e.id (λ same. omega (arith, rise.0)))
    ∙ ap (λ es. f ∷ es) (put_past (f.id + 1) e fs rise.1 (omega (arith, rise.0)))

-- an entry of a lower id comes first
pub placed_first : (from : ℕ) (e : FileEntry) (es : Table) → IdsRise from es → e.id < from → with_entry e es ≡ e ∷ es
placed_first from e [] rise h = refl
placed_first from e (f ∷ fs) rise h =
    ap (λ b. cond b (e ∷ f ∷ fs) (cond (e.id == f.id) (e ∷ fs) (f ∷ with_entry e fs))) (lt-ltb e.id f.id (omega (arith, rise.0)))

-- an entry of a higher id comes behind
placed_behind : (e f : FileEntry) (fs : Table) → f.id < e.id → with_entry e (f ∷ fs) ≡ f ∷ with_entry e fs
placed_behind e f fs h =
    ap (λ b. cond b (e ∷ f ∷ fs) (cond (e.id == f.id) (e ∷ fs) (f ∷ with_entry e fs))) (le-ltb e.id f.id (omega arith))
    ∙ ap (λ b. cond b (e ∷ fs) (f ∷ with_entry e fs)) (ne_eqb e.id f.id (λ same. omega arith))

-- an entry of a higher id than all comes last
pub placed_last : (e : FileEntry) (es : Table) → AllByRecursion (λ f. f.id < e.id) es → with_entry e es ≡ es ++ e ∷ []
placed_last e [] h = refl
placed_last e (f ∷ fs) h = placed_behind e f fs h.0 ∙ ap (λ es. f ∷ es) (placed_last e fs h.1)

-- the same where the head is that one, or isn't
placed_head : (here : Bool) (from : ℕ) (e old f : FileEntry) (fs : Table) → (f.id == e.id) ≡ here → IdsRise from (f ∷ fs)
    → (file_of e.id fs ≡ Some old → with_entry e (others_of e.id fs) ≡ put_in e fs) → cond here (Some f) (file_of e.id fs) ≡ Some old
    → with_entry e (cond (not (f.id == e.id)) (f ∷ others_of e.id fs) (others_of e.id fs)) ≡ cond (f.id == e.id) e f ∷ put_in e fs
placed_head true from e old f fs test rise behind is =
    let same : f.id ≡ e.id = eqb-true f.id e.id test in
    ap (λ b. with_entry e (cond (not b) (f ∷ others_of e.id fs) (others_of e.id fs))) test
    ∙ (ap (with_entry e) (others_past (f.id + 1) e.id fs rise.1 (omega arith))
    ∙ (placed_first (f.id + 1) e fs rise.1 (omega arith)
    ∙ (ap (λ es. e ∷ es) (sym (put_past (f.id + 1) e fs rise.1 (omega arith))) ∙ ap (λ b. cond b e f ∷ put_in e fs) (sym test))))
placed_head false from e old f fs test rise behind is =
    let above : f.id + 1 ≤ e.id = id_above (f.id + 1) e.id fs old rise.1 is in
    ap (λ b. with_entry e (cond (not b) (f ∷ others_of e.id fs) (others_of e.id fs))) test
    ∙ (placed_behind e f (others_of e.id fs) (omega arith)
    ∙ (ap (λ es. f ∷ es) (behind is) ∙ ap (λ b. cond b e f ∷ put_in e fs) (sym test)))

-- an entry in the place of the one that the table has of its id
pub placed_in : (from : ℕ) (e old : FileEntry) (es : Table) → IdsRise from es → file_of e.id es ≡ Some old → with_entry e (others_of e.id es) ≡ put_in e es
placed_in from e old [] rise is = cc
placed_in from e old (f ∷ fs) rise is = placed_head (f.id == e.id) from e old f fs refl rise (placed_in (f.id + 1) e old fs rise.1) is

-- a taken entry, or none, in front of others of other ids
others_cond : (c here : Bool) (id : ℕ) (x : FileEntry) (es : Table) → (x.id == id) ≡ here
    → others_of id (cond c (x ∷ es) es) ≡ cond here (others_of id es) (cond c (x ∷ others_of id es) (others_of id es))
others_cond true true id x es h = ap (λ b. cond (not b) (x ∷ others_of id es) (others_of id es)) h
others_cond true false id x es h = ap (λ b. cond (not b) (x ∷ others_of id es) (others_of id es)) h
others_cond false true id x es h = refl
others_cond false false id x es h = refl

-- names are taken from others where these lose no more than all do
taken_head : (here : Bool) (ns taken : List (List ℕ)) (id : ℕ) (f : FileEntry) (fs : Table) → (f.id == id) ≡ here
    → (f.id ≢ id → names_left ns f.names ≡ names_left taken f.names) → take_names ns (others_of id fs) ≡ others_of id (take_names taken fs)
    → take_names ns (cond (not here) (f ∷ others_of id fs) (others_of id fs)) ≡ others_of id (take_names taken (f ∷ fs))
taken_head true ns taken id f fs test same behind =
    behind ∙ sym (others_cond (is_named (without_names taken f)) true id (without_names taken f) (take_names taken fs) test)
taken_head false ns taken id f fs test same behind =
    ap (λ names. cond (is_named (record f { names = names })) ((record f { names = names }) ∷ take_names ns (others_of id fs)) (take_names ns (others_of id fs)))
    (same (eqb-false f.id id test))
    ∙ (ap (λ es. cond (is_named (without_names taken f)) (without_names taken f ∷ es) es) behind
    ∙ sym (others_cond (is_named (without_names taken f)) false id (without_names taken f) (take_names taken fs) test))

-- names are taken from others where these lose no more than all do
pub taken_others : (ns taken : List (List ℕ)) (id : ℕ) (es : Table) → AllByRecursion (λ f. f.id ≢ id → names_left ns f.names ≡ names_left taken f.names) es
    → take_names ns (others_of id es) ≡ others_of id (take_names taken es)
taken_others ns taken id [] h = refl
taken_others ns taken id (f ∷ fs) h = taken_head (f.id == id) ns taken id f fs refl h.0 (taken_others ns taken id fs h.1)

-- one entry more, or none, keeps the ids rising
pub rise_cond : (c : Bool) (from : ℕ) (x : FileEntry) (es : Table) → from ≤ x.id → IdsRise (x.id + 1) es → IdsRise from (cond c (x ∷ es) es)
rise_cond true from x es h rise = (h, rise)
rise_cond false from x es h rise = rise_from from (x.id + 1) es (omega arith) rise

-- the ids rise where names are taken
pub rise_taken : (from : ℕ) (ns : List (List ℕ)) (es : Table) → IdsRise from es → IdsRise from (take_names ns es)
rise_taken from ns [] rise = tt
rise_taken from ns (f ∷ fs) rise =
    rise_cond (is_named (without_names ns f)) from (without_names ns f) (take_names ns fs) rise.0 (rise_taken (f.id + 1) ns fs rise.1)

-- a file of another id in front, or none
file_cond : (c : Bool) (id : ℕ) (x : FileEntry) (es : Table) → (x.id == id) ≡ false → file_of id (cond c (x ∷ es) es) ≡ file_of id es
file_cond true id x es h = ap (λ b. cond b (Some x) (file_of id es)) h
file_cond false id x es h = refl

-- a file that keeps its names stays where names are taken
file_head : (here : Bool) (id : ℕ) (ns : List (List ℕ)) (f e : FileEntry) (fs : Table) → (f.id == id) ≡ here → names_left ns e.names ≡ e.names → is_named e ≡ true
    → (file_of id fs ≡ Some e → file_of id (take_names ns fs) ≡ Some e) → cond here (Some f) (file_of id fs) ≡ Some e
    → file_of id (take_names ns (f ∷ fs)) ≡ Some e
file_head true id ns f e fs test kept named behind is =
    let it : f ≡ e = some_is is in
    let whole : without_names ns e ≡ e = ap (λ names. record e { names = names }) kept in
    ap (λ x. file_of id (cond (is_named (without_names ns x)) (without_names ns x ∷ take_names ns fs) (take_names ns fs))) it
    ∙ (ap (λ x. file_of id (cond (is_named x) (x ∷ take_names ns fs) (take_names ns fs))) whole
    ∙ (ap (λ b. file_of id (cond b (e ∷ take_names ns fs) (take_names ns fs))) named
    ∙ ap (λ b. cond b (Some e) (file_of id (take_names ns fs))) (ap (λ x. x.id == id) (sym it) ∙ test)))
file_head false id ns f e fs test kept named behind is =
    file_cond (is_named (without_names ns f)) id (without_names ns f) (take_names ns fs) test ∙ behind is

-- the same in the whole table
pub file_taken : (id : ℕ) (ns : List (List ℕ)) (e : FileEntry) (es : Table) → names_left ns e.names ≡ e.names → is_named e ≡ true
    → file_of id es ≡ Some e → file_of id (take_names ns es) ≡ Some e
file_taken id ns e [] kept named is = cc
file_taken id ns e (f ∷ fs) kept named is = file_head (f.id == id) id ns f e fs refl kept named (file_taken id ns e fs kept named) is

-- a table of which no file loses a name stays
pub nothing_taken : (ns : List (List ℕ)) (es : Table) → AllByRecursion (λ f. names_left ns f.names ≡ f.names) es → AllByRecursion (λ e. is_named e ≡ true) es → take_names ns es ≡ es
nothing_taken ns [] kept named = refl
nothing_taken ns (f ∷ fs) kept named =
    ap (λ names. cond (is_named (record f { names = names })) ((record f { names = names }) ∷ take_names ns fs) (take_names ns fs)) kept.0
    ∙ (ap (λ b. cond b (f ∷ take_names ns fs) (take_names ns fs)) named.0 ∙ ap (λ es. f ∷ es) (nothing_taken ns fs kept.1 named.1))

-- no entry past an id is that of the id
none_past : (P : FileEntry → Type 0) (from id : ℕ) (es : Table) → IdsRise from es → id < from → AllByRecursion (λ f. f.id ≡ id → P f) es
none_past P from id [] rise h = tt
none_past P from id (f ∷ fs) rise h = ((λ same. absurd (omega (arith, rise.0))), none_past P (f.id + 1) id fs rise.1 (omega (arith, rise.0)))

-- the head of an id is its file, and the others aren't, or it isn't
only_head : (here : Bool) (id : ℕ) (f e : FileEntry) (fs : Table) → (f.id == id) ≡ here → IdsRise (f.id + 1) fs
    → (file_of id fs ≡ Some e → AllByRecursion (λ x. x.id ≡ id → x ≡ e) fs) → cond here (Some f) (file_of id fs) ≡ Some e
    → AllByRecursion (λ x. x.id ≡ id → x ≡ e) (f ∷ fs)
only_head true id f e fs test rise behind is =
    ((λ same. some_is is), none_past (λ x. x ≡ e) (f.id + 1) id fs rise (omega (arith, eqb-true f.id id test)))
only_head false id f e fs test rise behind is = ((λ same. absurd (eqb-false f.id id test same)), behind is)

-- an entry of a file's id is the file
pub only_file : (from id : ℕ) (e : FileEntry) (es : Table) → IdsRise from es → file_of id es ≡ Some e → AllByRecursion (λ x. x.id ≡ id → x ≡ e) es
only_file from id e [] rise is = cc
only_file from id e (f ∷ fs) rise is = only_head (f.id == id) id f e fs refl rise.1 (only_file (f.id + 1) id e fs rise.1) is

-- an entry put in its place is a file changed, the first one or a later one
put_head : (here : Bool) (i : Image) (e f : FileEntry) (change : TreeFile → TreeFile) (fs : Table) → (f.id == e.id) ≡ here
    → (f.id ≡ e.id → file_in i e ≡ change (file_in i f)) → file_in i (cond here e f) ≡ cond here (change (file_in i f)) (file_in i f)
put_head true i e f change fs test same = same (eqb-true f.id e.id test)
put_head false i e f change fs test same = refl

-- an entry put in its place is a file changed
pub tree_put : (i : Image) (e : FileEntry) (change : TreeFile → TreeFile) (es : Table) → AllByRecursion (λ f. f.id ≡ e.id → file_in i e ≡ change (file_in i f)) es
    → tree_of i (put_in e es) ≡ on_file e.id change (tree_of i es)
tree_put i e change [] h = refl
tree_put i e change (f ∷ fs) h =
    ap (λ x. x ∷ tree_of i (put_in e fs)) (put_head (f.id == e.id) i e f change fs refl h.0)
    ∙ ap (λ t. cond (f.id == e.id) (change (file_in i f)) (file_in i f) ∷ t) (tree_put i e change fs h.1)
