-- Names under a prefix, and paths that come from them.
use Rattle.std.specs.Prelude.{◌≡◌, ◌≢◌, ℕ, ◌+◌, Bool, true, false, not, ◌&&◌, ◌==◌, nat_le, nat_eq, List, [], ◌∷◌, ◌++◌, length, take, drop, Option, Some, None, IsTrue, refl, if◌then◌else◌}
use Rattle.std.specs.List.{AllByRecursion, list_all, slice_split, onto_first, starts_with}
use Rattle.std.specs.Str.{is_utf8}
use Rattle.std.specs.Ordering.{is_lt}
use Rattle.std.specs.Cmp.Lexicographic.{same_text}
use Rattle.std.proofs.Common.{sym, ◌∙◌, ap, append_assoc, ⊎_elim}
use Rattle.std.proofs.lemmas.List.{take-append-drop, length-append}
use Rattle.std.proofs.lemmas.List.Folds.{list_all-append}
use Rattle.std.proofs.lemmas.Bool.{false≢true}
use Rattle.std.proofs.lemmas.Bool.Decides.{eqb_tells}
use Rattle.record_model.specs.Name.{is_name, is_text, is_part, are_parts, is_printable}
use Rattle.command_model.specs.TreeCommands.{RestoreFile}
use Rattle.command_model.specs.Backup.{relative, with_prefix, is_before}
use Rattle.command_model.proofs.ByteOrder.{same_front}
use Rattle.command_model.proofs.HintLaws.{placed}

-- ---- relative paths

-- a name that begins with the prefix and a slash, by the test
back_if : (b : Bool) (prefix name path : List ℕ) → starts_with nat_eq name (prefix ++ 47 ∷ []) ≡ b
    → (if b then Some (drop (length prefix + 1) name) else None) ≡ Some path → prefix ++ 47 ∷ path ≡ name
back_if false prefix name path is h = cc
back_if true prefix name path is h =
    let front = same_text (prefix ++ 47 ∷ []) (take (length (prefix ++ 47 ∷ [])) name) (sym is) in
    let long : length (prefix ++ 47 ∷ []) ≡ length prefix + 1 = length-append prefix (47 ∷ []) in
    let rest : drop (length prefix + 1) name ≡ path = cc in
    sym (append_assoc prefix (47 ∷ []) path)
    ∙ ap (λ p. (prefix ++ 47 ∷ []) ++ p) (sym rest)
    ∙ ap (λ p. p ++ drop (length prefix + 1) name) (front ∙ ap (λ n. take n name) long)
    ∙ take-append-drop (length prefix + 1) name

-- a relative path with the prefix in front is the name
pub relative_back : (prefix : Option (List ℕ)) (name path : List ℕ) → relative prefix name ≡ Some path → with_prefix prefix path ≡ name
relative_back None name path h = cc
relative_back (Some prefix) name path h = back_if (starts_with nat_eq name (prefix ++ 47 ∷ [])) prefix name path refl h

-- the prefix doesn't change the order
pub placed_order : (prefix : Option (List ℕ)) (f g : RestoreFile) → is_before (placed prefix f).name (placed prefix g).name ≡ is_before f.name g.name
placed_order None f g = refl
placed_order (Some prefix) f g = ap is_lt (same_front prefix (47 ∷ f.name) (47 ∷ g.name))

-- ---- what a name says of its path

-- the parts after the first
abbrev later_parts : List (List ℕ) → List (List ℕ)
later_parts [] = []
later_parts (q ∷ qs) = qs

-- a wrong part stays where the first gets longer
longer_first : (b : ℕ) (parts : List (List ℕ)) → list_all is_part (later_parts parts) ≡ false → list_all is_part (later_parts (onto_first b parts)) ≡ false
longer_first b [] h = absurd (false≢true (sym h))
longer_first b (q ∷ qs) h = h

-- a part more doesn't make them right
and_false : (b : Bool) → (b && false) ≡ false
and_false true = refl
and_false false = refl

-- all parts are wrong where a later one is
all_wrong : (parts : List (List ℕ)) → list_all is_part (later_parts parts) ≡ false → list_all is_part parts ≡ false
all_wrong [] h = h
all_wrong (q ∷ qs) h = ap (λ b. is_part q && b) h ∙ and_false (is_part q)

-- one more byte in front
one_more_byte : (slash : Bool) (b : ℕ) (parts : List (List ℕ)) → list_all is_part (later_parts parts) ≡ false
    → list_all is_part (later_parts (if slash then [] ∷ parts else onto_first b parts)) ≡ false
one_more_byte true b parts h = all_wrong parts h
one_more_byte false b parts h = longer_first b parts h

-- a slash at the end leaves an empty part
empty_part : (p : List ℕ) → list_all is_part (later_parts (slice_split (λ b. b == 47) (p ++ 47 ∷ []))) ≡ false
empty_part [] = refl
empty_part (b ∷ bs) = one_more_byte (b == 47) b (slice_split (λ c. c == 47) (bs ++ 47 ∷ [])) (empty_part bs)

-- the second of two tests that hold
second_of : (a b : Bool) → (a && b) ≡ true → b ≡ true
second_of true b h = h
second_of false b h = absurd (false≢true h)

-- the first of two tests that hold
first_of : (a b : Bool) → (a && b) ≡ true → a ≡ true
first_of true b h = refl
first_of false b h = h

-- a name has right parts
name_parts : (name : List ℕ) → IsTrue (is_name name) → are_parts name ≡ true
unfolding is_name
name_parts name h = second_of (nat_le 1 (length name) && nat_le (length name) 255 && is_text name) (are_parts name) h

-- a name is printable
name_printable : (name : List ℕ) → IsTrue (is_name name) → list_all is_printable name ≡ true
unfolding is_name
name_printable name h =
    second_of (is_utf8 name) (list_all is_printable name)
    (second_of (nat_le 1 (length name) && nat_le (length name) 255) (is_text name)
    (first_of (nat_le 1 (length name) && nat_le (length name) 255 && is_text name) (are_parts name) h))

-- no byte is no name
name_some : (name : List ℕ) → IsTrue (is_name name) → name ≢ []
unfolding is_name
name_some name h is = false≢true (ap (λ n. nat_le 1 (length n)) (sym is) ∙ first_of (nat_le 1 (length name)) (nat_le (length name) 255) (first_of (nat_le 1 (length name) && nat_le (length name) 255) (is_text name)
    (first_of (nat_le 1 (length name) && nat_le (length name) 255 && is_text name) (are_parts name) h)))

-- the path of a name has a byte
pub path_some : (prefix : Option (List ℕ)) (path : List ℕ) → IsTrue (is_name (with_prefix prefix path)) → path ≢ []
path_some None path h = name_some path h
path_some (Some p) path h = λ is.
    false≢true (sym (all_wrong (slice_split (λ b. b == 47) (p ++ 47 ∷ [])) (empty_part p))
    ∙ ap (λ rest. are_parts (p ++ 47 ∷ rest)) (sym is) ∙ name_parts (p ++ 47 ∷ path) h)

-- a printable byte is no newline
printable_byte : (b : ℕ) → is_printable b ≡ true → (b == 10) ≡ false
printable_byte b h =
    ⊎_elim (λ same. absurd (false≢true (sym (ap (λ n. nat_le 32 n) same.1) ∙ first_of (nat_le 32 b) (not (b == 127)) h))) (λ other. other.0) (eqb_tells b 10)

-- printable bytes have no newline among them
printable_line : (bytes : List ℕ) → list_all is_printable bytes ≡ true → AllByRecursion (λ b. (b == 10) ≡ false) bytes
printable_line [] h = tt
printable_line (b ∷ bs) h =
    (printable_byte b (first_of (is_printable b) (list_all is_printable bs) h), printable_line bs (second_of (is_printable b) (list_all is_printable bs) h))

-- the path of a name has no newline
pub path_line : (prefix : Option (List ℕ)) (path : List ℕ) → IsTrue (is_name (with_prefix prefix path)) → AllByRecursion (λ b. (b == 10) ≡ false) path
path_line None path h = printable_line path (name_printable path h)
path_line (Some p) path h =
    printable_line path (second_of (list_all is_printable p) (list_all is_printable path)
    (sym (list_all-append is_printable p (47 ∷ path)) ∙ name_printable (p ++ 47 ∷ path) h))
