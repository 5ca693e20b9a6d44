-- Files of a valid state: no id stands twice, and no name in two files.
use Rattle.std.specs.Prelude.{◌≡◌, ⊤, ℕ, true, false, List, [], ◌∷◌, ◌==◌}
use Rattle.std.specs.List.{AllByRecursion}
use Rattle.log_model.specs.FileTable.{is_among}
use Rattle.fs_model.specs.FsState.{TableRow}

-- two files of different ids, without a name in common
pub record IsApart (r q : TableRow) : Type 0 where
  pub id : (q.entry.id == r.entry.id) ≡ false
  pub names : (name : List ℕ) → is_among r.entry.names name ≡ true → is_among q.entry.names name ≡ false

-- each file apart from those after it
abbrev pub AreApart : List TableRow → Type 0
AreApart [] = ⊤
AreApart (r ∷ rs) = AllByRecursion (IsApart r) rs × AreApart rs
