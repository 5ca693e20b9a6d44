-- What it takes for a restore to give back what a backup saved.
use Rattle.std.specs.Prelude.{◌≢◌, ⊤, ℕ, ◌≤◌, List, [], ◌∷◌, flat_map, IsTrue}
use Rattle.std.specs.List.{AllByRecursion}
use Rattle.record_model.specs.Name.{is_name}
use Rattle.log_model.specs.FileTree.{Tree}

-- no two of these are the same
abbrev pub AreDistinct : List (List ℕ) → Type 0
AreDistinct [] = ⊤
AreDistinct (n ∷ ns) = AllByRecursion (λ m. n ≢ m) ns × AreDistinct ns

-- the names of all files of a tree
abbrev pub all_names : Tree → List (List ℕ)
all_names tree = flat_map (λ f. f.names) tree

-- a tree whose names keep their rule, none of them twice, with hints up to 5
pub record IsProperTree (tree : Tree) : Type 0 where
  pub names : AllByRecursion (λ n. IsTrue (is_name n)) (all_names tree)
  pub distinct : AreDistinct (all_names tree)
  pub hints : AllByRecursion (λ f. f.hint ≤ 5) tree
