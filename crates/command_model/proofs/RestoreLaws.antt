-- What a restore of files makes of an empty tree.
use Rattle.std.specs.Prelude.{◌≡◌, ℕ, ◌+◌, ◌<◌, Bool, true, false, ◌==◌, List, [], ◌∷◌, ◌++◌, length, flat_map, None, refl, if◌then◌else◌}
use Rattle.std.specs.List.{AllByRecursion}
use Rattle.std.proofs.Common.{sym, ◌∙◌, ap, append_assoc, ⊎_elim, arith}
use Rattle.std.proofs.lemmas.List.{append-nil}
use Rattle.std.proofs.lemmas.Bool.{eqb-true, eq-eqb}
use Rattle.std.proofs.lemmas.Bool.Decides.{eqb_tells}
use Rattle.log_model.specs.FileTree.{Tree, TreeFile, Change, apply, apply_all, on_file}
use Rattle.log_model.specs.FileTree.Change.{Create, Grow}
use Rattle.command_model.specs.TreeCommands.{RestoreFile, file_changes, restore_changes}
use Rattle.command_model.specs.Backup.{names_under}

-- the file that a restore makes
abbrev pub made_file : ℕ → ℕ → RestoreFile → TreeFile
made_file id now f = record { id = id; names = f.name ∷ []; bytes = f.bytes; hint = f.hint; time = now; sparse = f.sparse }

-- the files that it makes, with rising ids
abbrev pub made_files : ℕ → ℕ → List RestoreFile → Tree
made_files id now [] = []
made_files id now (f ∷ fs) = made_file id now f ∷ made_files (id + 1) now fs

-- all ids are below this one
abbrev AreBelow : ℕ → Tree → Type 0
AreBelow id tree = AllByRecursion (λ f. f.id < id) tree

-- changes, and then more
apply_append : (cs ds : List Change) (tree : Tree) → apply_all (cs ++ ds) tree ≡ apply_all ds (apply_all cs tree)
apply_append [] ds tree = refl
apply_append (c ∷ cs) ds tree = apply_append cs ds (apply c tree)

-- a lesser number is another one
other_id : (n id : ℕ) → n < id → (n == id) ≡ false
other_id n id low = ⊎_elim (λ same. absurd (let e = same.1 in omega arith)) (λ other. other.0) (eqb_tells n id)

-- a change of the last file
last_changed : (id : ℕ) (change : TreeFile → TreeFile) (tree : Tree) (new : TreeFile) → AreBelow id tree → new.id ≡ id
    → on_file id change (tree ++ new ∷ []) ≡ tree ++ change new ∷ []
last_changed id change [] new below is = ap (λ b. (if b then change new else new) ∷ []) (eq-eqb new.id id is)
last_changed id change (f ∷ fs) new below is =
    ap (λ b. (if b then change f else f) ∷ on_file id change (fs ++ new ∷ [])) (other_id f.id id below.0) ∙ ap (λ gs. f ∷ gs) (last_changed id change fs new below.1 is)

-- bytes of no length
no_bytes : (bytes : List ℕ) → (length bytes == 0) ≡ true → bytes ≡ []
no_bytes [] h = refl
no_bytes (b ∷ bs) h = let e = eqb-true (length (b ∷ bs)) 0 h in absurd (omega arith)

-- the changes of one file
one_made : (empty : Bool) (id now : ℕ) (f : RestoreFile) (tree : Tree) → (length f.bytes == 0) ≡ empty → AreBelow id tree
    → apply_all (Create f.name id f.hint f.sparse now ∷ (if empty then [] else Grow id f.bytes now ∷ [])) tree ≡ tree ++ made_file id now f ∷ []
unfolding apply
one_made true id now f tree is below =
    ap (λ bytes. tree ++ (record { id = id; names = f.name ∷ []; bytes = bytes; hint = f.hint; time = now; sparse = f.sparse }) ∷ []) (sym (no_bytes f.bytes is))
one_made false id now f tree is below =
    last_changed id (λ g. record g { bytes = f.bytes; time = now }) tree (record { id = id; names = f.name ∷ []; bytes = []; hint = f.hint; time = now; sparse = f.sparse }) below refl

-- ids that are below one number are below the next
below_next : (id : ℕ) (tree : Tree) (new : TreeFile) → new.id ≡ id → AreBelow id tree → AreBelow (id + 1) (tree ++ new ∷ [])
below_next id [] new is below = (omega arith, tt)
below_next id (f ∷ fs) new is below = (let low = below.0 in omega arith, below_next id fs new is below.1)

-- the changes of files make these files
pub all_made : (id now : ℕ) (fs : List RestoreFile) (tree : Tree) → AreBelow id tree → apply_all (restore_changes id now fs) tree ≡ tree ++ made_files id now fs
all_made id now [] tree below = sym (append-nil tree)
all_made id now (f ∷ fs) tree below =
    apply_append (file_changes id now f) (restore_changes (id + 1) now fs) tree
    ∙ ap (λ t. apply_all (restore_changes (id + 1) now fs) t) (one_made (length f.bytes == 0) id now f tree refl below)
    ∙ all_made (id + 1) now fs (tree ++ made_file id now f ∷ []) (below_next id tree (made_file id now f) refl below)
    ∙ append_assoc tree (made_file id now f ∷ []) (made_files (id + 1) now fs)

-- the files that were made have the names, bytes, hints and marks of the files to restore
pub made_contents : (id now : ℕ) (fs : List RestoreFile) → flat_map (names_under None) (made_files id now fs) ≡ fs
made_contents id now [] = refl
made_contents id now (f ∷ fs) = ap (λ gs. f ∷ gs) (made_contents (id + 1) now fs)
