-- A restore gives back what a backup saved.
use Rattle.std.specs.Prelude.{◌≡◌, ◌≢◌, ℕ, ◌≤◌, Bool, true, false, not, List, [], ◌∷◌, ◌++◌, map, filter, flat_map, Option, Some, None, is_some, IsTrue, Result, Ok, ◌||◌, ◌&&◌, nat_eq, refl, if◌then◌else◌}
use Rattle.std.specs.List.{AllByRecursion, list_any, starts_with}
use Rattle.std.specs.Str.{bytes_eq}
use Rattle.std.proofs.Common.{sym, ◌∙◌, ap, subst}
use Rattle.std.proofs.lemmas.List.{map-append}
use Rattle.std.proofs.lemmas.List.Elements.{filter-append}
use Rattle.std.proofs.lemmas.Bool.{false≢true}
use Rattle.record_model.specs.Name.{is_name}
use Rattle.log_model.specs.FileTree.{Tree, TreeFile}
use Rattle.command_model.specs.TreeCommands.{RestoreFile, planned_changes}
use Rattle.record_model.specs.FieldDecoding as decoding
use Rattle.command_model.specs.Backup.{HostEntry, PathHint, hints_from, relative, with_prefix, file_under, names_under, in_order, files_under, hints_path, hint_line, host_entry, backup_files, is_inside, clash, is_clashing, first_path, paths_under, clash_in, hints_of, is_hints, file_to_restore, files_to_restore, tree_of_files, contents, is_under, RestoresBackup}
use Rattle.command_model.specs.BackupLaw.{AreDistinct, all_names, IsProperTree}
use Rattle.command_model.proofs.ByteOrder.{not_before_itself}
use Rattle.command_model.proofs.SortLaws.{IsBeforeAll, IsNew, HasDistinctNames, IsOrdered, all_in_order, ordered_in_order, sorted_again, all_passing, filter_in_order, map_in_order}
use Rattle.command_model.proofs.HintLaws.{IsWritable, told, lines_read, all_untold, own_lines, placed, restored_as_told, AreOthers, hints_found, others_found, itself}
use Rattle.command_model.proofs.RestoreLaws.{all_made, made_contents}
use Rattle.command_model.proofs.PrefixLaws.{relative_back, placed_order, path_some, path_line}

-- a file under one of its names
abbrev named : TreeFile → List ℕ → RestoreFile
named f name = record { name = name; hint = f.hint; sparse = f.sparse; bytes = f.bytes }

-- ---- the files under the prefix are those that begin with it

-- one name
one_under : (prefix : Option (List ℕ)) (f : TreeFile) (name : List ℕ) (rel : Option (List ℕ)) (a b : List RestoreFile) → relative prefix name ≡ rel
    → map (placed prefix) a ≡ b → map (placed prefix) (file_under f rel ++ a) ≡ (if is_some rel then named f name ∷ b else b)
one_under prefix f name None a b is rest = rest
one_under prefix f name (Some path) a b is rest =
    ap (λ n. named f n ∷ map (placed prefix) a) (relative_back prefix name path is) ∙ ap (λ gs. named f name ∷ gs) rest

-- the names of a file
names_placed : (prefix : Option (List ℕ)) (f : TreeFile) (names : List (List ℕ))
    → map (placed prefix) (flat_map (λ n. file_under f (relative prefix n)) names) ≡ filter (is_under prefix) (flat_map (λ n. file_under f (relative None n)) names)
names_placed prefix f [] = refl
names_placed prefix f (n ∷ ns) =
    one_under prefix f n (relative prefix n) (flat_map (λ m. file_under f (relative prefix m)) ns)
    (filter (is_under prefix) (flat_map (λ m. file_under f (relative None m)) ns)) refl (names_placed prefix f ns)

-- the names of all files
files_placed : (prefix : Option (List ℕ)) (tree : Tree) → map (placed prefix) (flat_map (names_under prefix) tree) ≡ filter (is_under prefix) (flat_map (names_under None) tree)
files_placed prefix [] = refl
files_placed prefix (f ∷ fs) =
    map-append (placed prefix) (names_under prefix f) (flat_map (names_under prefix) fs)
    ∙ ap (λ gs. gs ++ map (placed prefix) (flat_map (names_under prefix) fs)) (names_placed prefix f f.names)
    ∙ ap (λ gs. filter (is_under prefix) (names_under None f) ++ gs) (files_placed prefix fs)
    ∙ sym (filter-append (is_under prefix) (names_under None f) (flat_map (names_under None) fs))

-- ---- they can be written

-- what holds of two lists holds of both together
all_join : {X : Type 0} → (P : X → Type 0) (xs ys : List X) → AllByRecursion P xs → AllByRecursion P ys → AllByRecursion P (xs ++ ys)
all_join P [] ys h k = k
all_join P (x ∷ xs) ys h k = (h.0, all_join P xs ys h.1 k)

-- and what holds of both together holds of each
all_split : {X : Type 0} → (P : X → Type 0) (xs ys : List X) → AllByRecursion P (xs ++ ys) → AllByRecursion P xs × AllByRecursion P ys
all_split P [] ys h = (tt, h)
all_split P (x ∷ xs) ys h = let rest = all_split P xs ys h.1 in ((h.0, rest.0), rest.1)

-- one name
one_writable : (prefix : Option (List ℕ)) (f : TreeFile) (name : List ℕ) (rel : Option (List ℕ)) (rest : List RestoreFile) → relative prefix name ≡ rel
    → IsTrue (is_name name) → f.hint ≤ 5 → AllByRecursion IsWritable rest → AllByRecursion IsWritable (file_under f rel ++ rest)
one_writable prefix f name None rest is right low h = h
one_writable prefix f name (Some path) rest is right low h =
    let full : IsTrue (is_name (with_prefix prefix path)) = ap is_name (relative_back prefix name path is) ∙ right in
    (record { hint = low; some = path_some prefix path full; line = path_line prefix path full }, h)

-- the names of a file
names_writable : (prefix : Option (List ℕ)) (f : TreeFile) (names : List (List ℕ)) → AllByRecursion (λ n. IsTrue (is_name n)) names → f.hint ≤ 5
    → AllByRecursion IsWritable (flat_map (λ n. file_under f (relative prefix n)) names)
names_writable prefix f [] right low = tt
names_writable prefix f (n ∷ ns) right low =
    one_writable prefix f n (relative prefix n) (flat_map (λ m. file_under f (relative prefix m)) ns) refl right.0 low (names_writable prefix f ns right.1 low)

-- the names of all files
files_writable : (prefix : Option (List ℕ)) (tree : Tree) → AllByRecursion (λ n. IsTrue (is_name n)) (all_names tree) → AllByRecursion (λ f. f.hint ≤ 5) tree
    → AllByRecursion IsWritable (flat_map (names_under prefix) tree)
files_writable prefix [] right low = tt
files_writable prefix (f ∷ fs) right low =
    let parts = all_split (λ n. IsTrue (is_name n)) f.names (all_names fs) right in
    all_join IsWritable (names_under prefix f) (flat_map (names_under prefix) fs)
    (names_writable prefix f f.names parts.0 low.0) (files_writable prefix fs parts.1 low.1)

-- ---- their names differ

-- the names of a file, each as a file
names_back : (f : TreeFile) (names : List (List ℕ)) → map (λ g. g.name) (flat_map (λ n. file_under f (relative None n)) names) ≡ names
names_back f [] = refl
names_back f (n ∷ ns) = ap (λ ms. n ∷ ms) (names_back f ns)

-- those of all files
all_names_back : (tree : Tree) → map (λ g. g.name) (flat_map (names_under None) tree) ≡ all_names tree
all_names_back [] = refl
all_names_back (f ∷ fs) =
    map-append (λ g. g.name) (names_under None f) (flat_map (names_under None) fs)
    ∙ ap (λ ns. ns ++ map (λ g. g.name) (flat_map (names_under None) fs)) (names_back f f.names)
    ∙ ap (λ ns. f.names ++ ns) (all_names_back fs)

-- a name that is none of these
new_file : (f : RestoreFile) (gs : List RestoreFile) → AllByRecursion (λ m. f.name ≢ m) (map (λ g. g.name) gs) → IsNew f gs
new_file f [] h = tt
new_file f (g ∷ gs) h = (h.0, new_file f gs h.1)

-- different names are those of different files
distinct_files : (gs : List RestoreFile) → AreDistinct (map (λ g. g.name) gs) → HasDistinctNames gs
distinct_files [] h = tt
distinct_files (g ∷ gs) h = (new_file g gs h.0, distinct_files gs h.1)

-- some of them differ as all do
distinct_choice : (b : Bool) (g : RestoreFile) (gs : List RestoreFile) → IsNew g gs → HasDistinctNames gs → HasDistinctNames (if b then g ∷ gs else gs)
distinct_choice true g gs a h = (a, h)
distinct_choice false g gs a h = h

-- so do those that pass a test
distinct_passing : (test : RestoreFile → Bool) (gs : List RestoreFile) → HasDistinctNames gs → HasDistinctNames (filter test gs)
distinct_passing test [] h = tt
distinct_passing test (g ∷ gs) h =
    distinct_choice (test g) g (filter test gs) (all_passing (λ k. g.name ≢ k.name) test gs h.0) (distinct_passing test gs h.1)

-- a path that is none of these
new_path : (prefix : Option (List ℕ)) (f : RestoreFile) (gs : List RestoreFile) → IsNew (placed prefix f) (map (placed prefix) gs) → IsNew f gs
new_path prefix f [] h = tt
new_path prefix f (g ∷ gs) h = ((λ same. h.0 (ap (λ n. with_prefix prefix n) same)), new_path prefix f gs h.1)

-- different names have different paths
distinct_paths : (prefix : Option (List ℕ)) (gs : List RestoreFile) → HasDistinctNames (map (placed prefix) gs) → HasDistinctNames gs
distinct_paths prefix [] h = tt
distinct_paths prefix (g ∷ gs) h = (new_path prefix g gs h.0, distinct_paths prefix gs h.1)

-- ---- none is the hints file

-- no path passes the test
none_passes : (test : List ℕ → Bool) (b : Bool) (p : List ℕ) (ps : List (List ℕ)) → test p ≡ b → (if b then Some p else first_path test ps) ≡ None → (test p ≡ false) × (first_path test ps ≡ None)
none_passes test true p ps is h = absurd cc
none_passes test false p ps is h = (is, h)

-- a path that doesn't clash with the hints file isn't it
not_hints : (paths : List (List ℕ)) (p : List ℕ) → is_clashing paths p ≡ false → p ≢ hints_path
not_hints paths p h same =
    false≢true (sym h ∙ ap (λ b. b || starts_with nat_eq hints_path (p ++ 47 ∷ []) || is_inside hints_path p || list_any (λ q. not (bytes_eq p q) && clash p q) paths)
    (ap (λ q. bytes_eq p q) (sym same) ∙ itself p))

-- so none of them is
others : (paths : List (List ℕ)) (fs : List RestoreFile) → first_path (is_clashing paths) (map (λ f. f.name) fs) ≡ None → AreOthers fs
others paths [] h = tt
others paths (f ∷ fs) h =
    let parts = none_passes (is_clashing paths) (is_clashing paths f.name) f.name (map (λ g. g.name) fs) refl h in
    (not_hints paths f.name parts.0, others paths fs parts.1)

-- ---- the law

-- the files of the host as a restore reads them
files_read : (prefix : Option (List ℕ)) (fs : List RestoreFile) → AllByRecursion IsWritable fs → HasDistinctNames fs → AreOthers fs
    → files_to_restore (map host_entry fs ++ (record { path = hints_path; bytes = flat_map hint_line fs }) ∷ []) prefix ≡ Ok (map (placed prefix) fs)
unfolding files_to_restore hints_of
files_read prefix fs w distinct other =
    let bytes : List ℕ = flat_map hint_line fs in
    let es : List HostEntry = map host_entry fs ++ (record { path = hints_path; bytes = bytes }) ∷ [] in
    let make : List PathHint → Result (List RestoreFile) ℕ = λ hs. Ok (map (file_to_restore prefix hs) (filter (λ e. not (is_hints e)) es)) in
    ap (λ b. decoding.◌>>=◌ (hints_from 1 [] [] b) make) (hints_found fs bytes other)
    ∙ ap (λ r. decoding.◌>>=◌ r make) (lines_read 1 fs [] w distinct (all_untold fs))
    ∙ ap (λ files. Ok (map (file_to_restore prefix (map told fs)) files)) (others_found fs bytes other)
    ∙ ap Ok (restored_as_told prefix (map told fs) fs (own_lines fs distinct))

-- the contents of the tree that a restore makes of these files
contents_made : (files : List RestoreFile) → contents (tree_of_files (Ok files)) ≡ in_order files
unfolding planned_changes
contents_made files = ap contents (all_made 1 0 files [] tt) ∙ ap in_order (made_contents 1 0 files)

-- the files of a backup have different names
distinct_under : (tree : Tree) (prefix : Option (List ℕ)) → IsProperTree tree → HasDistinctNames (map (placed prefix) (flat_map (names_under prefix) tree))
distinct_under tree prefix proper =
    let all : List RestoreFile = flat_map (names_under None) tree in
    let P : List (List ℕ) → Type 0 = λ ns. AreDistinct ns in
    subst HasDistinctNames (sym (files_placed prefix tree))
    (distinct_passing (is_under prefix) all (distinct_files all (subst P (sym (all_names_back tree)) proper.distinct)))

-- a file before others has another name
new_before : (f : RestoreFile) (gs : List RestoreFile) → IsBeforeAll f gs → IsNew f gs
new_before f [] h = tt
new_before f (g ∷ gs) h = (not_before_itself f.name g.name h.0, new_before f gs h.1)

-- files in strict order have different names
distinct_sorted : (fs : List RestoreFile) → IsOrdered fs → HasDistinctNames fs
distinct_sorted [] h = tt
distinct_sorted (f ∷ fs) h = (new_before f fs h.0, distinct_sorted fs h.1)

-- what is saved and restored is what stood under the prefix
pub backup_restored : (tree : Tree) (prefix : Option (List ℕ)) → IsProperTree tree → clash_in tree prefix ≡ None → RestoresBackup tree prefix
unfolding backup_files clash_in
backup_restored tree prefix proper clean =
    let found : List RestoreFile = flat_map (names_under prefix) tree in
    let all : List RestoreFile = flat_map (names_under None) tree in
    let fs : List RestoreFile = files_under tree prefix in
    let apart = distinct_under tree prefix proper in
    let w = all_in_order IsWritable found (files_writable prefix tree proper.names proper.hints) in
    let sorted = ordered_in_order found (distinct_paths prefix found apart) in
    let P : List (List ℕ) → Type 0 = λ ns. AreDistinct ns in
    let all_apart = distinct_files all (subst P (sym (all_names_back tree)) proper.distinct) in
    ap (λ r. contents (tree_of_files r)) (files_read prefix fs w (distinct_sorted fs sorted) (others (paths_under tree prefix) fs clean))
    ∙ contents_made (map (placed prefix) fs)
    ∙ ap in_order (map_in_order (placed prefix) (placed_order prefix) found)
    ∙ sorted_again (in_order (map (placed prefix) found)) (ordered_in_order (map (placed prefix) found) apart)
    ∙ ap in_order (files_placed prefix tree)
    ∙ sym (filter_in_order (is_under prefix) all all_apart)
