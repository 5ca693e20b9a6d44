-- Changes of the tree keep files apart.
use Rattle.std.specs.Prelude.{◌≡◌, ◌⊎◌, ℕ, ◌+◌, ◌≤◌, ◌<◌, Bool, true, false, not, ◌||◌, ◌==◌, List, [], ◌∷◌, ◌++◌, Option, Some, None, is_some, Ok, refl, if◌then◌else◌}
use Rattle.std.specs.List.{AllByRecursion}
use Rattle.std.specs.Str.{bytes_eq}
use Rattle.std.specs.Cmp.Lexicographic.{same_text}
use Rattle.std.proofs.Common.{sym, ◌∙◌, ap, subst, inl, inr, ⊎_elim, arith}
use Rattle.std.proofs.lemmas.Bool.{false≢true, eq-eqb}
use Rattle.log_model.specs.FileTable.{is_among, names_left}
use Rattle.log_model.specs.FileTree.{renamed}
use Rattle.fs_model.specs.FsState.{FsState, TableRow, row_named, on_row}
use Rattle.fs_model.specs.TreeSteps.{new_entry, new_row, create, with_names, link, renamed_rows, rename, drop_name, delete}
use Rattle.fs_model.specs.ValidRows.{AreApart}
use Rattle.fs_model.proofs.RowLaws.{create_made, create_absent, link_made, link_absent, rename_made, delete_made}
use Rattle.fs_model.proofs.TreeLaws.{only_one, only_holder, at_name, all_map, all_dropped, without_absent, not_true, other_way}
use Rattle.fs_model.proofs.ApartLaws.{AreNamesOr, absent_everywhere, apart_added, apart_named, apart_dropped}

-- the first test fails
or_cases : (a b : Bool) → (a || b) ≡ true → (a ≡ true) ⊎ (b ≡ true)
or_cases true b h = inl refl
or_cases false b h = inr h

-- the second of two tests holds
second : (a b : Bool) → b ≡ true → (a || b) ≡ true
second true b h = refl
second false b h = h

-- one name more
names_with : (names : List (List ℕ)) (new name : List ℕ) → is_among (names ++ new ∷ []) name ≡ true → (is_among names name ≡ true) ⊎ (name ≡ new)
names_with [] new name h = ⊎_elim (λ is. inr (sym (same_text new name (sym is)))) (λ none. absurd (false≢true none)) (or_cases (bytes_eq new name) false h)
names_with (n ∷ ns) new name h =
    ⊎_elim (λ is. inl (ap (λ b. b || is_among ns name) is))
    (λ rest. ⊎_elim (λ old. inl (second (bytes_eq n name) (is_among ns name) old)) (λ same. inr same) (names_with ns new name rest))
    (or_cases (bytes_eq n name) (is_among (ns ++ new ∷ []) name) h)

-- a name that was renamed or not
renamed_choice : (b : Bool) (n new name : List ℕ) (rest : Bool) → bytes_eq (if b then new else n) name ≡ true → ((bytes_eq n name || rest) ≡ true) ⊎ (name ≡ new)
renamed_choice true n new name rest h = inr (sym (same_text new name (sym h)))
renamed_choice false n new name rest h = inl (ap (λ b. b || rest) h)

-- names of which one was renamed
names_renamed : (old new : List ℕ) (names : List (List ℕ)) (name : List ℕ) → is_among (renamed old new names) name ≡ true → (is_among names name ≡ true) ⊎ (name ≡ new)
names_renamed old new [] name h = absurd (false≢true h)
names_renamed old new (n ∷ ns) name h =
    ⊎_elim (λ is. renamed_choice (bytes_eq n old) n new name (is_among ns name) is)
    (λ rest. ⊎_elim (λ there. inl (second (bytes_eq n name) (is_among ns name) there)) (λ same. inr same) (names_renamed old new ns name rest))
    (or_cases (bytes_eq (if bytes_eq n old then new else n) name) (is_among (renamed old new ns) name) h)

-- a file that is made
pub create_apart : (name : List ℕ) (hint : ℕ) (sparse : Bool) (now : ℕ) (s : FsState) (id : ℕ) → AreApart s.rows → AllByRecursion (λ r. r.entry.id ≤ s.greatest) s.rows
    → (create name hint sparse now s).answer ≡ Ok id → AreApart (create name hint sparse now s).last.rows
create_apart name hint sparse now s id apart below h =
    subst AreApart (sym (create_made name hint sparse now s id h))
    (apart_added (new_row (new_entry (s.greatest + 1) name hint sparse now)) name s.rows refl
    (all_map (λ r. r.entry.id ≤ s.greatest) (λ r. r.entry.id < s.greatest + 1) s.rows (λ r low. omega arith) below)
    (absent_everywhere name s.rows (create_absent name hint sparse now s id h)) apart)

-- a link
pub link_apart : (old new : List ℕ) (s : FsState) → AreApart s.rows → (link old new s).answer ≡ Ok tt → AreApart (link old new s).last.rows
unfolding link
link_apart old new s apart h =
    let made = link_made s (row_named old s.rows) new h in
    let r = made.0 in
    let names : List (List ℕ) = r.entry.names ++ new ∷ [] in
    subst AreApart (sym made.2)
    (apart_named r.entry.id names new s.rows apart (absent_everywhere new s.rows (link_absent s (row_named old s.rows) new h))
    (all_map (λ q. (q.entry.id == r.entry.id) ≡ true → q ≡ r) (λ q. (q.entry.id == r.entry.id) ≡ true → AreNamesOr names new q) s.rows
    (λ q only is. λ name has. subst (λ (p : TableRow). (is_among p.entry.names name ≡ true) ⊎ (name ≡ new)) (sym (only is)) (names_with r.entry.names new name has))
    (only_one old s.rows r apart made.1)))

-- a deletion
pub delete_apart : (name : List ℕ) (s : FsState) → AreApart s.rows → (delete name s).answer ≡ Ok tt → AreApart (delete name s).last.rows
unfolding delete
delete_apart name s apart h = subst AreApart (sym (delete_made s (row_named name s.rows) name h)) (apart_dropped name s.rows apart)

-- a name that is taken isn't left
not_left : (names : List (List ℕ)) (new : List ℕ) → is_among (names_left (new ∷ []) names) new ≡ false
not_left [] new = refl
not_left (n ∷ ns) new = choice (bytes_eq new n) refl (not_left ns new)
  where
    choice : (b : Bool) → bytes_eq new n ≡ b → is_among (names_left (new ∷ []) ns) new ≡ false
        → is_among (if not (b || false) then n ∷ names_left (new ∷ []) ns else names_left (new ∷ []) ns) new ≡ false
    choice true is rest = rest
    choice false is rest = ap (λ b. b || is_among (names_left (new ∷ []) ns) new) (other_way new n is) ∙ rest

-- no file has a name that was dropped
all_left : (rows : List TableRow) (new : List ℕ) → AllByRecursion (λ q. is_among (names_left (new ∷ []) q.entry.names) new ≡ false) rows
all_left [] new = tt
all_left (r ∷ rs) new = (not_left r.entry.names new, all_left rs new)

-- a rename onto another file's name
taken_apart : (old new : List ℕ) (r other : TableRow) (rows : List TableRow) → AreApart rows → row_named old rows ≡ Some r → row_named new rows ≡ Some other
    → (other.entry.id == r.entry.id) ≡ false → AreApart (on_row r.entry.id (with_names (renamed old new r.entry.names)) (drop_name new rows))
taken_apart old new r other rows apart is there differs =
    let names : List (List ℕ) = renamed old new r.entry.names in
    let holder = only_holder new rows other apart there in
    let absent : is_among r.entry.names new ≡ false =
    not_true (is_among r.entry.names new) (λ has. false≢true (sym differs ∙ eq-eqb other.entry.id r.entry.id (sym (ap (λ p. p.entry.id) (at_name (λ q. is_among q.entry.names new ≡ true → q ≡ other) old rows r holder is has))))) in
    apart_named r.entry.id names new (drop_name new rows) (apart_dropped new rows apart)
    (all_dropped (λ q. is_among q.entry.names new ≡ false) new rows (all_left rows new))
    (all_dropped (λ q. (q.entry.id == r.entry.id) ≡ true → AreNamesOr names new q) new rows
    (all_map (λ q. (q.entry.id == r.entry.id) ≡ true → q ≡ r)
    (λ q. (q.entry.id == r.entry.id) ≡ true → AreNamesOr names new (with_names (names_left (new ∷ []) q.entry.names) q)) rows
    (λ q only same. λ name has. subst (λ (ns : List (List ℕ)). (is_among ns name ≡ true) ⊎ (name ≡ new))
    (sym (ap (λ p. names_left (new ∷ []) p.entry.names) (only same) ∙ without_absent r.entry.names new absent)) (names_renamed old new r.entry.names name has))
    (only_one old rows r apart is)))

-- a rename, by whether both names are of one file
same_or_apart : (b : Bool) (old new : List ℕ) (r : TableRow) (rows : List TableRow) → AreApart rows
    → (b ≡ false → AreApart (on_row r.entry.id (with_names (renamed old new r.entry.names)) (drop_name new rows)))
    → AreApart (if b then rows else on_row r.entry.id (with_names (renamed old new r.entry.names)) (drop_name new rows))
same_or_apart true old new r rows apart taken = apart
same_or_apart false old new r rows apart taken = taken refl

-- the files after a rename
renamed_apart : (old new : List ℕ) (r : TableRow) (there : Option TableRow) (rows : List TableRow) → AreApart rows → row_named old rows ≡ Some r → row_named new rows ≡ there
    → AreApart (renamed_rows r there old new rows)
renamed_apart old new r None rows apart is there =
    let names : List (List ℕ) = renamed old new r.entry.names in
    apart_named r.entry.id names new rows apart (absent_everywhere new rows (ap is_some there))
    (all_map (λ q. (q.entry.id == r.entry.id) ≡ true → q ≡ r) (λ q. (q.entry.id == r.entry.id) ≡ true → AreNamesOr names new q) rows
    (λ q only same. λ name has. subst (λ (p : TableRow). (is_among p.entry.names name ≡ true) ⊎ (name ≡ new)) (sym (only same)) (names_renamed old new r.entry.names name has))
    (only_one old rows r apart is))
renamed_apart old new r (Some other) rows apart is there =
    same_or_apart (other.entry.id == r.entry.id) old new r rows apart (λ differs. taken_apart old new r other rows apart is there differs)

-- a rename
pub rename_apart : (old new : List ℕ) (s : FsState) → AreApart s.rows → (rename old new s).answer ≡ Ok tt → AreApart (rename old new s).last.rows
unfolding rename
rename_apart old new s apart h =
    let made = rename_made s (row_named old s.rows) old new h in
    subst AreApart (sym made.2) (renamed_apart old new made.0 (row_named new s.rows) s.rows apart made.1 refl)
