-- Changes of trees, computed.
use Rattle.std.specs.Prelude.{◌≡◌, ℕ, false, List, [], ◌∷◌, codes, refl}
use Rattle.log_model.specs.FileTree.{Tree, TreeFile, apply, apply_all}
use Rattle.log_model.specs.FileTree.Change.{Create, Grow, Link, Rename, Unlink}

-- short names
abbrev a : List ℕ
a = codes "a"

-- the second of them
abbrev b : List ℕ
b = codes "b"

-- the third
abbrev c : List ℕ
c = codes "c"

-- a file with these names and bytes
abbrev file : ℕ → List (List ℕ) → List ℕ → TreeFile
file id names bytes = record { id = id; names = names; bytes = bytes; hint = 0; time = 7; sparse = false }

-- two files of a byte each
abbrev two : Tree
two = file 1 (a ∷ []) (codes "A") ∷ file 2 (b ∷ []) (codes "B") ∷ []

-- a rename over another file's name: that file is gone
renamed_over : apply (Rename b a) two ≡ file 2 (a ∷ []) (codes "B") ∷ []
unfolding apply
renamed_over = refl

-- a rename to its own name changes nothing
renamed_to_itself : apply (Rename a a) two ≡ two
unfolding apply
renamed_to_itself = refl

-- nor does one to another name of the same file
renamed_within : apply_all (Link a c ∷ Rename a c ∷ []) two ≡ apply (Link a c) two
unfolding apply
renamed_within = refl

-- a renamed name stands in the place of the old one
renamed_in_place : apply_all (Link a c ∷ Rename a (codes "d") ∷ []) two ≡ file 1 (codes "d" ∷ c ∷ []) (codes "A") ∷ file 2 (b ∷ []) (codes "B") ∷ []
unfolding apply
renamed_in_place = refl

-- a file stays with its bytes while it has a name
linked_and_unlinked : apply_all (Link a c ∷ Unlink a ∷ []) two ≡ file 1 (c ∷ []) (codes "A") ∷ file 2 (b ∷ []) (codes "B") ∷ []
unfolding apply
linked_and_unlinked = refl

-- with its last name it is gone
last_name_unlinked : apply (Unlink a) two ≡ file 2 (b ∷ []) (codes "B") ∷ []
unfolding apply
last_name_unlinked = refl

-- a change of a name that isn't there changes nothing
absent_name : apply_all (Unlink c ∷ Rename c a ∷ Link c (codes "d") ∷ []) two ≡ two
unfolding apply
absent_name = refl

-- a file that grows has all its bytes, and a new time
grown_twice : apply_all (Create c 3 2 false 8 ∷ Grow 3 (codes "x") 9 ∷ Grow 3 (codes "xy") 10 ∷ []) []
    ≡ (record { id = 3; names = c ∷ []; bytes = codes "xy"; hint = 2; time = 10; sparse = false }) ∷ []
unfolding apply
grown_twice = refl
