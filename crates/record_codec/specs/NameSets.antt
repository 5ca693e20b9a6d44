-- Sets of names that are borrowed.
use Rattle.std.specs.Prelude.{◌≡◌, ℕ, Bool, List, drop}
use denote.Ref.{Bor}
use Rattle.std.specs.BTreeSet.{BTreeSet, contains_by}
use Rattle.std.specs.Cmp.Lexicographic.{slice_cmp}
use Rattle.std.specs.List.{list_any}
use Rattle.std.specs.Ordering.{nat_cmp}
use Rattle.std.specs.Str.{bytes_eq}

-- the set has this name
abbrev pub has_name : BTreeSet (Bor (List ℕ)) → List ℕ → Bool
has_name seen name = contains_by (λ k. slice_cmp nat_cmp name k.now) seen

-- the set has the names from the ninth on, and no other
pub record HasLater (names : List (List ℕ)) (later : BTreeSet (Bor (List ℕ))) : Type 0 where
  pub has : (name : List ℕ) → has_name later name ≡ list_any (bytes_eq name) (drop 8 names)
