-- Changes of names: they leave each file its bytes, and no file gets a recovery point.
use Rattle.std.specs.Prelude.{◌≡◌, ℕ, Bool, true, false, List, [], ◌∷◌, ◌++◌}
use Rattle.log_model.specs.FileTree.{Change}
use Rattle.log_model.specs.FileTree.Change.{Grow}
use Rattle.fs_model.specs.FsState.{TableRow, on_row}
use Rattle.fs_model.specs.TreeSteps.{new_entry, new_row, with_names, drop_name}
use Rattle.change_records.specs.Recorded.{entries, AreValid}
use Rattle.change_records.specs.NameRecords.{rows_renamed}
use Rattle.change_records.specs.TreesAfter.{IsChanged}
use Rattle.change_cover.specs.Rests.{HaveNoPoints}

-- a change that gives a file other bytes
abbrev pub is_growth : Change → Bool
is_growth (Grow id bytes time) = true
is_growth _ = false

-- rows after a change of names: the recorded tree is changed so, and no file has a recovery point
pub record ChangesNames (c : Change) (rows after : List TableRow) : Type 0 where
  pub changed : IsChanged c rows after
  pub valid : AreValid after
  pub bytes : is_growth c ≡ false
  pub points : HaveNoPoints (entries after)

-- a new file has no recovery point
abbrev pub CreateSetsNoPoint : Type 0
CreateSetsNoPoint = (rows : List TableRow) (id : ℕ) (name : List ℕ) (hint : ℕ) (sparse : Bool) (now : ℕ) → HaveNoPoints (entries rows)
    → HaveNoPoints (entries (rows ++ new_row (new_entry id name hint sparse now) ∷ []))

-- other names of a file, as after a link, set none
abbrev pub NamesSetNoPoint : Type 0
NamesSetNoPoint = (rows : List TableRow) (id : ℕ) (names : List (List ℕ)) → HaveNoPoints (entries rows) → HaveNoPoints (entries (on_row id (with_names names) rows))

-- nor does a deletion
abbrev pub UnlinkSetsNoPoint : Type 0
UnlinkSetsNoPoint = (rows : List TableRow) (name : List ℕ) → HaveNoPoints (entries rows) → HaveNoPoints (entries (drop_name name rows))

-- nor a rename
abbrev pub RenameSetsNoPoint : Type 0
RenameSetsNoPoint = (rows : List TableRow) (r : TableRow) (old new : List ℕ) → HaveNoPoints (entries rows) → HaveNoPoints (entries (rows_renamed rows r old new))
