-- What a backup saves, and what a restore makes of it.
use Rattle.std.specs.Prelude.{◌≡◌, ℕ, ◌+◌, ◌-◌, Bool, false, not, ◌&&◌, ◌||◌, List, [], ◌∷◌, ◌++◌, length, map, filter, flat_map, drop, codes, Option, Some, None, is_some, Result, Ok, Err, nat_lt, ◌==◌, if◌then◌else◌}
use Rattle.std.specs.List.{list_any, starts_with, flat_map}
use Rattle.std.specs.Str.{bytes_eq}
use Rattle.std.specs.Ordering.{is_lt, nat_cmp}
use Rattle.std.specs.Cmp.Lexicographic.{slice_cmp}
use Rattle.std.specs.Prelude.{nat_eq}
use Rattle.record_model.specs.FieldDecoding as decoding
use Rattle.log_model.specs.FileTree.{Tree, TreeFile, apply_all}
use Rattle.command_model.specs.TreeCommands.{RestoreFile, planned_changes}
use Rattle.command_model.specs.TreeCommands.TreeCommand.{RestoreFiles}

-- a file of a host directory
pub record HostEntry : Type 0 where
  pub path : List ℕ
  pub bytes : List ℕ

-- the part of a name after the prefix and a slash
abbrev pub relative : Option (List ℕ) → List ℕ → Option (List ℕ)
relative None name = Some name
relative (Some prefix) name =
    if starts_with nat_eq name (prefix ++ 47 ∷ []) then Some (drop (length prefix + 1) name) else None

-- byte order: the first comes before the second
abbrev pub is_before : List ℕ → List ℕ → Bool
is_before a b = is_lt (slice_cmp nat_cmp a b)

-- puts a file in byte order of its name
abbrev pub insert_file : RestoreFile → List RestoreFile → List RestoreFile
insert_file f [] = f ∷ []
insert_file f (g ∷ gs) = if is_before f.name g.name then f ∷ g ∷ gs else g ∷ insert_file f gs

-- files in byte order of their names
abbrev pub in_order : List RestoreFile → List RestoreFile
in_order [] = []
in_order (f ∷ fs) = insert_file f (in_order fs)

-- the file under this path, if it has one
abbrev pub file_under : TreeFile → Option (List ℕ) → List RestoreFile
file_under f None = []
file_under f (Some path) = (record { name = path; hint = f.hint; sparse = f.sparse; bytes = f.bytes }) ∷ []

-- a file of a tree, once for each of its names under the prefix
abbrev pub names_under : Option (List ℕ) → TreeFile → List RestoreFile
names_under prefix f = flat_map (λ name. file_under f (relative prefix name)) f.names

-- the files of a backup, a name each, in byte order of their paths
abbrev pub files_under : Tree → Option (List ℕ) → List RestoreFile
files_under tree prefix = in_order (flat_map (names_under prefix) tree)

-- where the hints of a backup stand
abbrev pub hints_path : List ℕ
hints_path = codes "write_lifetime_hints.dat"

-- the line of the hints file on one path
abbrev pub hint_line : RestoreFile → List ℕ
hint_line f = (48 + f.hint) ∷ 32 ∷ (if f.sparse then 115 else 98) ∷ 32 ∷ f.name ++ 10 ∷ []

-- a saved file as the host keeps it
abbrev pub host_entry : RestoreFile → HostEntry
host_entry f = record { path = f.name; bytes = f.bytes }

-- what a backup writes: the files and then their hints
unfoldable pub backup_files : Tree → Option (List ℕ) → List HostEntry
backup_files tree prefix =
    map host_entry (files_under tree prefix)
    ++ (record { path = hints_path; bytes = flat_map hint_line (files_under tree prefix) }) ∷ []

-- the same path, or one below it
abbrev pub is_inside : List ℕ → List ℕ → Bool
is_inside a b = bytes_eq a b || starts_with nat_eq b (a ++ 47 ∷ [])

-- two paths of which one can't stand beside the other
abbrev pub clash : List ℕ → List ℕ → Bool
clash p q = is_inside p q || is_inside q p

-- a path that can't stand beside one of these, or beside the hints
abbrev pub is_clashing : List (List ℕ) → List ℕ → Bool
is_clashing paths p = clash p hints_path || list_any (λ q. not (bytes_eq p q) && clash p q) paths

-- the first of some paths that passes a test
abbrev pub first_path : (List ℕ → Bool) → List (List ℕ) → Option (List ℕ)
first_path test [] = None
first_path test (p ∷ ps) = if test p then Some p else first_path test ps

-- the paths of a backup, in byte order
abbrev pub paths_under : Tree → Option (List ℕ) → List (List ℕ)
paths_under tree prefix = map (λ f. f.name) (files_under tree prefix)

-- the least path that clashes, if any
unfoldable pub clash_in : Tree → Option (List ℕ) → Option (List ℕ)
clash_in tree prefix = first_path (is_clashing (paths_under tree prefix)) (paths_under tree prefix)

-- ---- what a restore makes of a backup

-- what a line of the hints file says of a path
pub record PathHint : Type 0 where
  pub path : List ℕ
  pub hint : ℕ
  pub sparse : Bool

-- a digit up to 5, a space, the kind, a space, and a path
abbrev pub hint_of : List ℕ → Option PathHint
hint_of (d ∷ s ∷ k ∷ t ∷ p ∷ path) =
    if nat_lt 47 d && nat_lt d 54 && (s == 32) && ((k == 115) || (k == 98)) && (t == 32)
    then Some (record { path = p ∷ path; hint = d - 48; sparse = k == 115 }) else None
hint_of line = None

-- a path that has a line
abbrev pub has_line : List ℕ → List PathHint → Bool
has_line path hs = list_any (λ h. bytes_eq h.path path) hs

-- one more line, or its number where it is wrong
abbrev pub add_hint : ℕ → Option PathHint → List PathHint → Result (List PathHint) ℕ
add_hint n None hs = Err n
add_hint n (Some h) hs = if has_line h.path hs then Err n else Ok (hs ++ h ∷ [])

-- the hints of lines that each end with a newline, or the first wrong line; the part of a line so far is kept
abbrev pub hints_from : ℕ → List ℕ → List PathHint → List ℕ → Result (List PathHint) ℕ
hints_from n [] hs [] = Ok hs
hints_from n (b ∷ line) hs [] = Err n
hints_from n line hs (b ∷ bs) =
    if b == 10 then decoding.◌>>=◌ (add_hint n (hint_of line) hs) (λ more. hints_from (n + 1) [] more bs)
    else hints_from n (line ++ b ∷ []) hs bs

-- the lines of a hints file, or the number of the first wrong one
unfoldable pub hints_of : List ℕ → Result (List PathHint) ℕ
hints_of bytes = hints_from 1 [] [] bytes

-- the hints file itself
abbrev pub is_hints : HostEntry → Bool
is_hints e = bytes_eq e.path hints_path

-- the bytes of the hints file, and none where there is no such file
abbrev pub hints_bytes : List HostEntry → List ℕ
hints_bytes [] = []
hints_bytes (e ∷ es) = if is_hints e then e.bytes else hints_bytes es

-- what the lines say of a path; no line means no hint
abbrev pub hint_for : List ℕ → List PathHint → PathHint
hint_for path [] = record { path = path; hint = 0; sparse = false }
hint_for path (h ∷ hs) = if bytes_eq h.path path then h else hint_for path hs

-- the name that a path gets under the prefix
abbrev pub with_prefix : Option (List ℕ) → List ℕ → List ℕ
with_prefix None path = path
with_prefix (Some prefix) path = prefix ++ 47 ∷ path

-- a host file as a restore makes it
abbrev pub file_to_restore : Option (List ℕ) → List PathHint → HostEntry → RestoreFile
file_to_restore prefix hs e = record {
  name = with_prefix prefix e.path;
  hint = (hint_for e.path hs).hint;
  sparse = (hint_for e.path hs).sparse;
  bytes = e.bytes;
}

-- the files that a restore makes of a directory, or the first wrong line of its hints file
unfoldable pub files_to_restore : List HostEntry → Option (List ℕ) → Result (List RestoreFile) ℕ
files_to_restore es prefix = decoding.◌>>=◌ (hints_of (hints_bytes es)) (λ hs. Ok (map (file_to_restore prefix hs) (filter (λ e. not (is_hints e)) es)))

-- the tree that a restore makes of these files from an empty one
abbrev pub tree_of_files : Result (List RestoreFile) ℕ → Tree
tree_of_files (Err line) = []
tree_of_files (Ok files) = apply_all (planned_changes (RestoreFiles files) [] 0) []

-- the tree that a restore makes of a backup
abbrev pub tree_from_backup : List HostEntry → Option (List ℕ) → Tree
tree_from_backup es prefix = tree_of_files (files_to_restore es prefix)

-- each name with its bytes, hint and mark, in byte order
abbrev pub contents : Tree → List RestoreFile
contents tree = in_order (flat_map (names_under None) tree)

-- a name under the prefix
abbrev pub is_under : Option (List ℕ) → RestoreFile → Bool
is_under prefix f = is_some (relative prefix f.name)

-- what is saved and restored is what stood under the prefix
abbrev pub RestoresBackup : Tree → Option (List ℕ) → Type 0
RestoresBackup tree prefix = contents (tree_from_backup (backup_files tree prefix) prefix) ≡ filter (is_under prefix) (contents tree)
