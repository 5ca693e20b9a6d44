-- A hints file that a backup wrote is read back.
use Rattle.std.specs.Prelude.{◌≡◌, ◌≢◌, ℕ, ◌+◌, ◌-◌, ◌≤◌, Bool, true, false, not, ◌&&◌, ◌||◌, ◌==◌, nat_lt, List, [], ◌∷◌, ◌++◌, map, filter, flat_map, Option, Some, None, Result, Ok, Err, refl, if◌then◌else◌}
use Rattle.std.specs.List.{AllByRecursion}
use Rattle.std.specs.Str.{bytes_eq}
use Rattle.std.specs.Cmp.Lexicographic.{same_text, other_text}
use Rattle.std.proofs.Common.{sym, ◌∙◌, ap, subst, append_assoc, ⊎_elim, arith}
use Rattle.std.proofs.lemmas.Bool.Decides.{eqb_tells}
use Rattle.std.proofs.lemmas.List.Folds.{list_any-append}
use Rattle.std.proofs.lemmas.List.{append-nil}
use Rattle.std.proofs.lemmas.Bool.{lt-ltb}
use Rattle.record_model.specs.FieldDecoding as decoding
use Rattle.command_model.specs.TreeCommands.{RestoreFile}
use Rattle.command_model.specs.Backup.{HostEntry, PathHint, hint_of, has_line, add_hint, hints_from, hint_line, hint_for, host_entry, file_to_restore, with_prefix, hints_path, is_hints, hints_bytes}
use Rattle.command_model.proofs.SortLaws.{IsNew, HasDistinctNames}

-- ---- lines

-- what follows a line
abbrev next_line : ℕ → List ℕ → List PathHint → List ℕ → Result (List PathHint) ℕ
next_line n line hs rest = decoding.◌>>=◌ (add_hint n (hint_of line) hs) (λ more. hints_from (n + 1) [] more rest)

-- a byte of a line is kept
byte_kept : (n : ℕ) (line : List ℕ) (hs : List PathHint) (b : ℕ) (bs : List ℕ) → (b == 10) ≡ false → hints_from n line hs (b ∷ bs) ≡ hints_from n (line ++ b ∷ []) hs bs
byte_kept n [] hs b bs other = ap (λ c. if c then next_line n [] hs bs else hints_from n (b ∷ []) hs bs) other
byte_kept n (x ∷ xs) hs b bs other = ap (λ c. if c then next_line n (x ∷ xs) hs bs else hints_from n (x ∷ xs ++ b ∷ []) hs bs) other

-- a newline ends it
line_ends : (n : ℕ) (line : List ℕ) (hs : List PathHint) (bs : List ℕ) → hints_from n line hs (10 ∷ bs) ≡ next_line n line hs bs
line_ends n [] hs bs = refl
line_ends n (x ∷ xs) hs bs = refl

-- a line without a newline in it
line_read : (n : ℕ) (line : List ℕ) (hs : List PathHint) (bytes rest : List ℕ) → AllByRecursion (λ b. (b == 10) ≡ false) bytes
    → hints_from n line hs (bytes ++ 10 ∷ rest) ≡ next_line n (line ++ bytes) hs rest
line_read n line hs [] rest others = line_ends n line hs rest ∙ ap (λ l. next_line n l hs rest) (sym (append-nil line))
line_read n line hs (b ∷ bs) rest others =
    byte_kept n line hs b (bs ++ 10 ∷ rest) others.0
    ∙ line_read n (line ++ b ∷ []) hs bs rest others.1 ∙ ap (λ l. next_line n l hs rest) (append_assoc line (b ∷ []) bs)

-- what a backup writes of a file, without its newline
abbrev hint_text : RestoreFile → List ℕ
hint_text f = (48 + f.hint) ∷ 32 ∷ (if f.sparse then 115 else 98) ∷ 32 ∷ f.name

-- what its line says
abbrev pub told : RestoreFile → PathHint
told f = record { path = f.name; hint = f.hint; sparse = f.sparse }

-- the digit of a hint
digit_tests : (hint : ℕ) → hint ≤ 5 → (nat_lt 47 (48 + hint) && nat_lt (48 + hint) 54) ≡ true
digit_tests hint low = ap (λ b. b && nat_lt (48 + hint) 54) (lt-ltb 47 (48 + hint) (omega arith)) ∙ lt-ltb (48 + hint) 54 (omega arith)

-- a line is read as it was written
hint_read : (hint : ℕ) (sparse : Bool) (p : ℕ) (path : List ℕ) → hint ≤ 5
    → hint_of ((48 + hint) ∷ 32 ∷ (if sparse then 115 else 98) ∷ 32 ∷ p ∷ path) ≡ Some (record { path = p ∷ path; hint = hint; sparse = sparse })
hint_read hint true p path low =
    let back : 48 + hint - 48 ≡ hint = omega arith in
    ap (λ b. if b && true && true && true then Some (record { path = p ∷ path; hint = 48 + hint - 48; sparse = true }) else None) (digit_tests hint low)
    ∙ ap (λ n. Some (record { path = p ∷ path; hint = n; sparse = true })) back
hint_read hint false p path low =
    let back : 48 + hint - 48 ≡ hint = omega arith in
    ap (λ b. if b && true && true && true then Some (record { path = p ∷ path; hint = 48 + hint - 48; sparse = false }) else None) (digit_tests hint low)
    ∙ ap (λ n. Some (record { path = p ∷ path; hint = n; sparse = false })) back

-- a file whose line can be read: its hint is a digit up to 5, and its path has a byte and no newline
pub record IsWritable (f : RestoreFile) : Type 0 where
  pub hint : f.hint ≤ 5
  pub some : f.name ≢ []
  pub line : AllByRecursion (λ b. (b == 10) ≡ false) f.name

-- its line says what it is
text_read : (f : RestoreFile) (name : List ℕ) → f.name ≡ name → IsWritable f → hint_of (hint_text f) ≡ Some (told f)
text_read f [] is w = absurd (w.some is)
text_read f (p ∷ path) is w =
    let P : List ℕ → Type 0 = λ l. hint_of ((48 + f.hint) ∷ 32 ∷ (if f.sparse then 115 else 98) ∷ 32 ∷ l) ≡ Some (record { path = l; hint = f.hint; sparse = f.sparse }) in
    subst P (sym is) (hint_read f.hint f.sparse p path w.hint)

-- a kind's letter is no newline
letter : (sparse : Bool) → ((if sparse then 115 else 98) == 10) ≡ false
letter true = refl
letter false = refl

-- a number above ten is no newline
above_ten : (n : ℕ) → (48 + n == 10) ≡ false
above_ten n = ⊎_elim (λ same. absurd (let e = same.1 in omega arith)) (λ other. other.0) (eqb_tells (48 + n) 10)

-- its line has no newline in it
text_line : (f : RestoreFile) → IsWritable f → AllByRecursion (λ b. (b == 10) ≡ false) (hint_text f)
text_line f w = (above_ten f.hint, (refl, (letter f.sparse, (refl, w.line))))

-- ---- paths

-- what a test of two names has told
not_same : (b : Bool) (x y : List ℕ) → bytes_eq x y ≡ b → x ≢ y → b ≡ false
not_same true x y is away = absurd (away (same_text x y (sym is)))
not_same false x y is away = refl

-- two different names differ by the test
pub differ : (x y : List ℕ) → x ≢ y → bytes_eq x y ≡ false
differ x y away = not_same (bytes_eq x y) x y refl away

-- the same name is the same by the test
is_true : (b : Bool) (x : List ℕ) → bytes_eq x x ≡ b → b ≡ true
is_true true x is = refl
is_true false x is = absurd (other_text x x (sym is) refl)

-- a name is itself
pub itself : (x : List ℕ) → bytes_eq x x ≡ true
itself x = is_true (bytes_eq x x) x refl

-- no line stands for any of these files yet
abbrev AreUntold : List RestoreFile → List PathHint → Type 0
AreUntold fs hs = AllByRecursion (λ f. has_line f.name hs ≡ false) fs

-- after one more line
still_untold : (f : RestoreFile) (gs : List RestoreFile) (hs : List PathHint) → IsNew f gs → AreUntold gs hs → AreUntold gs (hs ++ told f ∷ [])
still_untold f [] hs new h = tt
still_untold f (g ∷ gs) hs new h = (
  list_any-append (λ p. bytes_eq p.path g.name) hs (told f ∷ [])
      ∙ ap (λ b. b || (bytes_eq f.name g.name || false)) h.0 ∙ ap (λ b. b || false) (differ f.name g.name new.0),
  still_untold f gs hs new.1 h.1,
)

-- one more line is taken
line_taken : (n : ℕ) (f : RestoreFile) (hs : List PathHint) (rest : List ℕ) → IsWritable f → has_line f.name hs ≡ false
    → hints_from n [] hs (hint_line f ++ rest) ≡ hints_from (n + 1) [] (hs ++ told f ∷ []) rest
line_taken n f hs rest w untold =
    ap (λ bytes. hints_from n [] hs bytes) (append_assoc (hint_text f) (10 ∷ []) rest)
    ∙ line_read n [] hs (hint_text f) rest (text_line f w)
    ∙ ap (λ p. decoding.◌>>=◌ (add_hint n p hs) (λ more. hints_from (n + 1) [] more rest)) (text_read f f.name refl w)
    ∙ ap (λ b. decoding.◌>>=◌ (if b then Err n else Ok (hs ++ told f ∷ [])) (λ more. hints_from (n + 1) [] more rest)) untold

-- the lines of files are read as they were written
pub lines_read : (n : ℕ) (fs : List RestoreFile) (hs : List PathHint) → AllByRecursion IsWritable fs → HasDistinctNames fs → AreUntold fs hs
    → hints_from n [] hs (flat_map hint_line fs) ≡ Ok (hs ++ map told fs)
lines_read n [] hs w distinct untold = ap Ok (sym (append-nil hs))
lines_read n (f ∷ fs) hs w distinct untold =
    line_taken n f hs (flat_map hint_line fs) w.0 untold.0
    ∙ lines_read (n + 1) fs (hs ++ told f ∷ []) w.1 distinct.1 (still_untold f fs hs distinct.0 untold.1)
    ∙ ap Ok (append_assoc hs (told f ∷ []) (map told fs))

-- nothing is told before the first line
pub all_untold : (fs : List RestoreFile) → AreUntold fs []
all_untold [] = tt
all_untold (f ∷ fs) = (refl, all_untold fs)

-- the line of a file among others
later_line : (f : RestoreFile) (gs : List RestoreFile) (hs : List PathHint) → IsNew f gs → AllByRecursion (λ g. hint_for g.name hs ≡ told g) gs
    → AllByRecursion (λ g. hint_for g.name (told f ∷ hs) ≡ told g) gs
later_line f [] hs new h = tt
later_line f (g ∷ gs) hs new h =
    (ap (λ b. if b then told f else hint_for g.name hs) (differ f.name g.name new.0) ∙ h.0, later_line f gs hs new.1 h.1)

-- each file has its own line
pub own_lines : (fs : List RestoreFile) → HasDistinctNames fs → AllByRecursion (λ f. hint_for f.name (map told fs) ≡ told f) fs
own_lines [] distinct = tt
own_lines (f ∷ fs) distinct =
    (ap (λ b. if b then told f else hint_for f.name (map told fs)) (itself f.name), later_line f fs (map told fs) distinct.0 (own_lines fs distinct.1))

-- the file with the prefix in front of its name
abbrev pub placed : Option (List ℕ) → RestoreFile → RestoreFile
placed prefix f = record f { name = with_prefix prefix f.name }

-- host files with these lines are restored as they were
pub restored_as_told : (prefix : Option (List ℕ)) (hs : List PathHint) (fs : List RestoreFile) → AllByRecursion (λ f. hint_for f.name hs ≡ told f) fs
    → map (file_to_restore prefix hs) (map host_entry fs) ≡ map (placed prefix) fs
restored_as_told prefix hs [] h = refl
restored_as_told prefix hs (f ∷ fs) h =
    let make : PathHint → RestoreFile = λ p. record { name = with_prefix prefix f.name; hint = p.hint; sparse = p.sparse; bytes = f.bytes } in
    ap (λ p. make p ∷ map (file_to_restore prefix hs) (map host_entry fs)) h.0 ∙ ap (λ gs. placed prefix f ∷ gs) (restored_as_told prefix hs fs h.1)

-- no file is the hints file
abbrev pub AreOthers : List RestoreFile → Type 0
AreOthers fs = AllByRecursion (λ f. f.name ≢ hints_path) fs

-- the hints file is found after the others
pub hints_found : (fs : List RestoreFile) (bytes : List ℕ) → AreOthers fs → hints_bytes (map host_entry fs ++ (record { path = hints_path; bytes = bytes }) ∷ []) ≡ bytes
hints_found [] bytes others = ap (λ b. if b then bytes else []) (itself hints_path)
hints_found (f ∷ fs) bytes others =
    ap (λ b. if b then f.bytes else hints_bytes (map host_entry fs ++ (record { path = hints_path; bytes = bytes }) ∷ [])) (differ f.name hints_path others.0)
    ∙ hints_found fs bytes others.1

-- the others are all but it
pub others_found : (fs : List RestoreFile) (bytes : List ℕ) → AreOthers fs
    → filter (λ e. not (is_hints e)) (map host_entry fs ++ (record { path = hints_path; bytes = bytes }) ∷ []) ≡ map host_entry fs
others_found [] bytes others = ap (λ b. if not b then (record { path = hints_path; bytes = bytes }) ∷ [] else []) (itself hints_path)
others_found (f ∷ fs) bytes others =
    let rest : List HostEntry = filter (λ e. not (is_hints e)) (map host_entry fs ++ (record { path = hints_path; bytes = bytes }) ∷ []) in
    ap (λ b. if not b then host_entry f ∷ rest else rest) (differ f.name hints_path others.0) ∙ ap (λ es. host_entry f ∷ es) (others_found fs bytes others.1)
