-- The tree that is shown after a change is the tree before with the change made.
use Rattle.std.specs.Prelude.{◌≡◌, ℕ, ◌+◌, Bool, true, false, not, ◌||◌, ◌==◌, List, [], ◌∷◌, ◌++◌, map, Option, Some, None, Ok, option_map, refl, if◌then◌else◌}
use Rattle.std.specs.List.{AllByRecursion}
use Rattle.std.specs.Str.{bytes_eq}
use Rattle.std.proofs.Common.{sym, ◌∙◌, ap, subst}
use Rattle.std.proofs.lemmas.List.{map-append}
use Rattle.std.proofs.lemmas.Bool.{false≢true, eqb-true, eq-eqb}
use Rattle.zone_image.specs.Image.{Image}
use Rattle.std.specs.Cmp.Lexicographic.{same_text, other_text}
use Rattle.log_model.specs.FileTable.{is_among, is_named, names_left}
use Rattle.log_model.specs.FileTree.{Tree, TreeFile, apply, id_of, on_file, link_in, rename_in, renamed, has_names, without_name}
use Rattle.log_model.specs.FileTree as trees
use Rattle.log_model.specs.FileTree.Change.{Create, Link, Rename, Unlink}
use Rattle.fs_model.specs.FsState.{FsState, TableRow, row_named, on_row}
use Rattle.fs_model.specs.TreeSteps.{new_entry, new_row, create, with_names, link, renamed_rows, rename, drop_name, delete}
use Rattle.fs_model.specs.ValidRows.{IsApart, AreApart}
use Rattle.fs_model.specs.CrashClauses.{shown_file, shown_tree}
use Rattle.fs_model.proofs.RowLaws.{create_made, link_made, rename_made, delete_made}

-- a file that is made
pub create_shown : (i : Image) (name : List ℕ) (hint : ℕ) (sparse : Bool) (now : ℕ) (s : FsState) (id : ℕ) → (create name hint sparse now s).answer ≡ Ok id
    → shown_tree i (create name hint sparse now s).last ≡ apply (Create name (s.greatest + 1) hint sparse now) (shown_tree i s)
unfolding apply
create_shown i name hint sparse now s id h =
    ap (λ rows. map (shown_file i) rows) (create_made name hint sparse now s id h)
    ∙ map-append (shown_file i) s.rows (new_row (new_entry (s.greatest + 1) name hint sparse now) ∷ [])

-- one file that loses a name, or is gone
drop_choice : (i : Image) (b : Bool) (r : TableRow) (rows : List TableRow) → map (shown_file i) (if b then r ∷ rows else rows) ≡ (if b then shown_file i r ∷ map (shown_file i) rows else map (shown_file i) rows)
drop_choice i true r rows = refl
drop_choice i false r rows = refl

-- a name is dropped from the tree as from the files
drop_shown : (i : Image) (name : List ℕ) (rows : List TableRow) → map (shown_file i) (drop_name name rows) ≡ trees.drop_name name (map (shown_file i) rows)
drop_shown i name [] = refl
drop_shown i name (r ∷ rs) =
    let left : TableRow = with_names (names_left (name ∷ []) r.entry.names) r in
    let there : Bool = is_named left.entry in
    drop_choice i there left (drop_name name rs)
    ∙ ap (λ fs. if there then shown_file i left ∷ fs else fs) (drop_shown i name rs)

-- a name that is deleted
pub delete_shown : (i : Image) (name : List ℕ) (s : FsState) → (delete name s).answer ≡ Ok tt
    → shown_tree i (delete name s).last ≡ apply (Unlink name) (shown_tree i s)
unfolding apply delete
delete_shown i name s h = ap (λ rows. map (shown_file i) rows) (delete_made s (row_named name s.rows) name h) ∙ drop_shown i name s.rows

-- ---- the file of a name

-- what holds of each file holds of the one that has a name
found_choice : (P : TableRow → Type 0) (b : Bool) (q r : TableRow) (later : Option TableRow) → P q → (later ≡ Some r → P r) → (if b then Some q else later) ≡ Some r → P r
found_choice P true q r later here rest h = let same : q ≡ r = cc in subst P same here
found_choice P false q r later here rest h = rest h

-- the same over a list
pub at_name : (P : TableRow → Type 0) (name : List ℕ) (rows : List TableRow) (r : TableRow) → AllByRecursion P rows → row_named name rows ≡ Some r → P r
at_name P name [] r h is = absurd cc
at_name P name (q ∷ qs) r h is = found_choice P (is_among q.entry.names name) q r (row_named name qs) h.0 (at_name P name qs r h.1) is

-- of files that are apart from the one that was found, none has its id
far : (q r : TableRow) (ks : List TableRow) → q ≡ r → AllByRecursion (IsApart q) ks → AllByRecursion (λ k. (k.entry.id == r.entry.id) ≡ true → k ≡ r) ks
far q r [] same h = tt
far q r (k ∷ ks) same h =
    ((λ is. absurd (false≢true (sym h.0.id ∙ ap (λ p. k.entry.id == p.entry.id) same ∙ is))), far q r ks same h.1)

-- two equal ids, the other way round
ids_back : (n m : ℕ) → (n == m) ≡ true → (m == n) ≡ true
ids_back n m h = eq-eqb m n (sym (eqb-true n m h))

-- the file of a name is the only one of its id, at the first place or later
only_choice : (b : Bool) (name : List ℕ) (q r : TableRow) (qs : List TableRow) → AllByRecursion (IsApart q) qs
    → (row_named name qs ≡ Some r → AllByRecursion (λ k. (k.entry.id == r.entry.id) ≡ true → k ≡ r) qs)
    → (if b then Some q else row_named name qs) ≡ Some r → AllByRecursion (λ k. (k.entry.id == r.entry.id) ≡ true → k ≡ r) (q ∷ qs)
only_choice true name q r qs apart rest h = let same : q ≡ r = cc in ((λ _. same), far q r qs same apart)
only_choice false name q r qs apart rest h =
    ((λ is. absurd (false≢true (sym (at_name (IsApart q) name qs r apart h).id ∙ ids_back q.entry.id r.entry.id is))), rest h)

-- the file of a name is the only one of its id
pub only_one : (name : List ℕ) (rows : List TableRow) (r : TableRow) → AreApart rows → row_named name rows ≡ Some r
    → AllByRecursion (λ q. (q.entry.id == r.entry.id) ≡ true → q ≡ r) rows
only_one name [] r apart is = tt
only_one name (q ∷ qs) r apart is = only_choice (is_among q.entry.names name) name q r qs apart.0 (λ h. only_one name qs r apart.1 h) is

-- the tree finds the same file
id_choice : (b : Bool) (id : ℕ) (r : TableRow) (later : Option TableRow) (tree_later : Option ℕ) → r.entry.id ≡ id → tree_later ≡ option_map (λ q. q.entry.id) later
    → (if b then Some id else tree_later) ≡ option_map (λ q. q.entry.id) (if b then Some r else later)
id_choice true id r later tree_later is same = ap Some (sym is)
id_choice false id r later tree_later is same = same

-- over all files
id_shown : (i : Image) (name : List ℕ) (rows : List TableRow) → id_of name (map (shown_file i) rows) ≡ option_map (λ r. r.entry.id) (row_named name rows)
id_shown i name [] = refl
id_shown i name (r ∷ rs) =
    id_choice (is_among r.entry.names name) r.entry.id r (row_named name rs) (id_of name (map (shown_file i) rs)) refl (id_shown i name rs)

-- ---- other names

-- one file with other names
names_choice : (i : Image) (b : Bool) (names : List (List ℕ)) (g : List (List ℕ) → List (List ℕ)) (q : TableRow) → (b ≡ true → g q.entry.names ≡ names)
    → shown_file i (if b then with_names names q else q) ≡ (if b then (record (shown_file i q) { names = g q.entry.names }) else shown_file i q)
names_choice i true names g q same = ap (λ ns. shown_file i (with_names ns q)) (sym (same refl))
names_choice i false names g q same = refl

-- names are set in the tree as in the files
names_shown : (i : Image) (id : ℕ) (names : List (List ℕ)) (g : List (List ℕ) → List (List ℕ)) (rows : List TableRow)
    → AllByRecursion (λ q. (q.entry.id == id) ≡ true → g q.entry.names ≡ names) rows
    → map (shown_file i) (on_row id (with_names names) rows) ≡ on_file id (λ f. record f { names = g f.names }) (map (shown_file i) rows)
names_shown i id names g [] same = refl
names_shown i id names g (q ∷ qs) same =
    ap (λ f. f ∷ map (shown_file i) (on_row id (with_names names) qs)) (names_choice i (q.entry.id == id) names g q same.0)
    ∙ ap (λ fs. (if q.entry.id == id then (record (shown_file i q) { names = g q.entry.names }) else shown_file i q) ∷ fs) (names_shown i id names g qs same.1)

-- what follows for each follows for all
pub all_map : (P Q : TableRow → Type 0) (rows : List TableRow) → ((r : TableRow) → P r → Q r) → AllByRecursion P rows → AllByRecursion Q rows
all_map P Q [] f h = tt
all_map P Q (r ∷ rs) f h = (f r h.0, all_map P Q rs f h.1)

-- a link
pub link_shown : (i : Image) (old new : List ℕ) (s : FsState) → AreApart s.rows → (link old new s).answer ≡ Ok tt
    → shown_tree i (link old new s).last ≡ apply (Link old new) (shown_tree i s)
unfolding apply link
link_shown i old new s apart h =
    let made = link_made s (row_named old s.rows) new h in
    let r = made.0 in
    let g : List (List ℕ) → List (List ℕ) = λ ns. ns ++ new ∷ [] in
    ap (λ rows. map (shown_file i) rows) made.2
    ∙ names_shown i r.entry.id (g r.entry.names) g s.rows
    (all_map (λ q. (q.entry.id == r.entry.id) ≡ true → q ≡ r) (λ q. (q.entry.id == r.entry.id) ≡ true → g q.entry.names ≡ g r.entry.names) s.rows
    (λ q only is. ap (λ p. g p.entry.names) (only is)) (only_one old s.rows r apart made.1))
    ∙ sym (ap (λ o. link_in o new (shown_tree i s)) (id_shown i old s.rows ∙ ap (λ o. option_map (λ q. q.entry.id) o) made.1))

-- ---- renames

-- one holder of a name, at the first place or later
holder_choice : (b : Bool) (name : List ℕ) (q r : TableRow) (qs : List TableRow) → is_among q.entry.names name ≡ b → AllByRecursion (IsApart q) qs
    → (row_named name qs ≡ Some r → AllByRecursion (λ k. is_among k.entry.names name ≡ true → k ≡ r) qs)
    → (if b then Some q else row_named name qs) ≡ Some r → AllByRecursion (λ k. is_among k.entry.names name ≡ true → k ≡ r) (q ∷ qs)
holder_choice true name q r qs has apart rest h =
    let same : q ≡ r = cc in
    ((λ _. same), all_map (IsApart q) (λ k. is_among k.entry.names name ≡ true → k ≡ r) qs (λ k far is. absurd (false≢true (sym (far.names name has) ∙ is))) apart)
holder_choice false name q r qs has apart rest h = ((λ is. absurd (false≢true (sym has ∙ is))), rest h)

-- one file alone has a name
pub only_holder : (name : List ℕ) (rows : List TableRow) (r : TableRow) → AreApart rows → row_named name rows ≡ Some r
    → AllByRecursion (λ q. is_among q.entry.names name ≡ true → q ≡ r) rows
only_holder name [] r apart is = tt
only_holder name (q ∷ qs) r apart is = holder_choice (is_among q.entry.names name) name q r qs refl apart.0 (λ h. only_holder name qs r apart.1 h) is

-- a test that can't hold
pub not_true : (b : Bool) → (b ≡ true → ⊥) → b ≡ false
not_true true h = absurd (h refl)
not_true false h = refl

-- neither of two tests holds
pub neither : (a b : Bool) → (a || b) ≡ false → (a ≡ false) × (b ≡ false)
neither true b h = absurd (false≢true (sym h))
neither false b h = (refl, h)

-- a name that isn't another, the other way round
pub other_way : (n m : List ℕ) → bytes_eq n m ≡ false → bytes_eq m n ≡ false
other_way n m h = not_true (bytes_eq m n) (λ is. false≢true (sym h ∙ ap (λ k. bytes_eq k m) (sym (same_text m n (sym is))) ∙ itself (bytes_eq m m) m refl))
  where
    itself : (b : Bool) (k : List ℕ) → bytes_eq k k ≡ b → b ≡ true
    itself true k is = refl
    itself false k is = absurd (other_text k k (sym is) refl)

-- names without one that isn't among them
pub without_absent : (names : List (List ℕ)) (name : List ℕ) → is_among names name ≡ false → names_left (name ∷ []) names ≡ names
without_absent [] name h = refl
without_absent (n ∷ ns) name h =
    let parts = neither (bytes_eq n name) (is_among ns name) h in
    ap (λ b. if not (b || false) then n ∷ names_left (name ∷ []) ns else names_left (name ∷ []) ns) (other_way n name parts.0) ∙ ap (λ ms. n ∷ ms) (without_absent ns name parts.1)

-- the file of a name, after another name was dropped
dropped_choice : (P : TableRow → Type 0) (b : Bool) (r : TableRow) (rs : List TableRow) → P r → AllByRecursion P rs → AllByRecursion P (if b then r ∷ rs else rs)
dropped_choice P true r rs h k = (h, k)
dropped_choice P false r rs h k = k

-- what holds of each file without a name holds of the files without it
pub all_dropped : (P : TableRow → Type 0) (name : List ℕ) (rows : List TableRow)
    → AllByRecursion (λ q. P (with_names (names_left (name ∷ []) q.entry.names) q)) rows → AllByRecursion P (drop_name name rows)
all_dropped P name [] h = tt
all_dropped P name (r ∷ rs) h =
    let left : TableRow = with_names (names_left (name ∷ []) r.entry.names) r in
    dropped_choice P (is_named left.entry) left (drop_name name rs) h.0 (all_dropped P name rs h.1)

-- two equal tests of ids, the other way round
ids_turned : (n m : ℕ) (b : Bool) → (n == m) ≡ b → (m == n) ≡ b
ids_turned n m true h = ids_back n m h
ids_turned n m false h = not_true (m == n) (λ is. false≢true (sym h ∙ ids_back m n is))

-- a rename onto another file's name
taken_shown : (i : Image) (old new : List ℕ) (r other : TableRow) (rows : List TableRow) → AreApart rows → row_named old rows ≡ Some r → row_named new rows ≡ Some other
    → (other.entry.id == r.entry.id) ≡ false
    → map (shown_file i) (on_row r.entry.id (with_names (renamed old new r.entry.names)) (drop_name new rows))
    ≡ on_file r.entry.id (λ f. record f { names = renamed old new f.names }) (trees.drop_name new (map (shown_file i) rows))
taken_shown i old new r other rows apart is there differs =
    let g : List (List ℕ) → List (List ℕ) = λ ns. renamed old new ns in
    let holder = only_holder new rows other apart there in
    let absent : is_among r.entry.names new ≡ false =
    not_true (is_among r.entry.names new) (λ has. false≢true (sym differs ∙ eq-eqb other.entry.id r.entry.id (sym (ap (λ p. p.entry.id) (at_name (λ q. is_among q.entry.names new ≡ true → q ≡ other) old rows r holder is has))))) in
    names_shown i r.entry.id (g r.entry.names) g (drop_name new rows)
    (all_dropped (λ q. (q.entry.id == r.entry.id) ≡ true → g q.entry.names ≡ g r.entry.names) new rows
    (all_map (λ q. (q.entry.id == r.entry.id) ≡ true → q ≡ r) (λ q. (q.entry.id == r.entry.id) ≡ true → g (names_left (new ∷ []) q.entry.names) ≡ g r.entry.names) rows
    (λ q only same. ap (λ p. g (names_left (new ∷ []) p.entry.names)) (only same) ∙ ap g (without_absent r.entry.names new absent)) (only_one old rows r apart is)))
    ∙ ap (λ fs. on_file r.entry.id (λ f. record f { names = g f.names }) fs) (drop_shown i new rows)

-- a rename, by whether both names are of one file
same_or_taken : (i : Image) (b c : Bool) (old new : List ℕ) (r other : TableRow) (rows : List TableRow) → c ≡ b
    → (b ≡ false → map (shown_file i) (on_row r.entry.id (with_names (renamed old new r.entry.names)) (drop_name new rows))
    ≡ on_file r.entry.id (λ f. record f { names = renamed old new f.names }) (trees.drop_name new (map (shown_file i) rows)))
    → map (shown_file i) (if b then rows else on_row r.entry.id (with_names (renamed old new r.entry.names)) (drop_name new rows))
    ≡ (if c then map (shown_file i) rows else on_file r.entry.id (λ f. record f { names = renamed old new f.names }) (trees.drop_name new (map (shown_file i) rows)))
same_or_taken i true c old new r other rows same taken =
    sym (ap (λ x. if x then map (shown_file i) rows else on_file r.entry.id (λ f. record f { names = renamed old new f.names }) (trees.drop_name new (map (shown_file i) rows))) same)
same_or_taken i false c old new r other rows same taken =
    taken refl ∙ sym (ap (λ x. if x then map (shown_file i) rows else on_file r.entry.id (λ f. record f { names = renamed old new f.names }) (trees.drop_name new (map (shown_file i) rows))) same)

-- the files after a rename, as a tree
renamed_shown : (i : Image) (old new : List ℕ) (r : TableRow) (there : Option TableRow) (rows : List TableRow) → AreApart rows → row_named old rows ≡ Some r → row_named new rows ≡ there
    → map (shown_file i) (renamed_rows r there old new rows)
    ≡ rename_in (Some r.entry.id) (option_map (λ q. q.entry.id) there) old new (map (shown_file i) rows)
renamed_shown i old new r None rows apart is there =
    let g : List (List ℕ) → List (List ℕ) = λ ns. renamed old new ns in
    names_shown i r.entry.id (g r.entry.names) g rows
    (all_map (λ q. (q.entry.id == r.entry.id) ≡ true → q ≡ r) (λ q. (q.entry.id == r.entry.id) ≡ true → g q.entry.names ≡ g r.entry.names) rows
    (λ q only same. ap (λ p. g p.entry.names) (only same)) (only_one old rows r apart is))
renamed_shown i old new r (Some other) rows apart is there =
    same_or_taken i (other.entry.id == r.entry.id) (r.entry.id == other.entry.id) old new r other rows
    (ids_turned other.entry.id r.entry.id (other.entry.id == r.entry.id) refl) (λ differs. taken_shown i old new r other rows apart is there differs)

-- a rename
pub rename_shown : (i : Image) (old new : List ℕ) (s : FsState) → AreApart s.rows → (rename old new s).answer ≡ Ok tt
    → shown_tree i (rename old new s).last ≡ apply (Rename old new) (shown_tree i s)
unfolding apply rename
rename_shown i old new s apart h =
    let made = rename_made s (row_named old s.rows) old new h in
    let ids : Option TableRow → Option ℕ = λ o. option_map (λ q. q.entry.id) o in
    ap (λ rows. map (shown_file i) rows) made.2
    ∙ renamed_shown i old new made.0 (row_named new s.rows) s.rows apart made.1 refl
    ∙ ap (λ o. rename_in o (ids (row_named new s.rows)) old new (shown_tree i s)) (sym (ap ids made.1) ∙ sym (id_shown i old s.rows))
    ∙ ap (λ o. rename_in (id_of old (shown_tree i s)) o old new (shown_tree i s)) (sym (id_shown i new s.rows))
