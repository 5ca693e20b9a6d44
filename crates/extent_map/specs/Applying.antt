-- What a record makes of the rows of a table in which everything is recorded.
use Rattle.std.specs.Prelude.{◌≡◌, ⊤, ℕ, suc, not, List, [], ◌∷◌, map, filter, Result, Ok, Err, nat_lt, ◌==◌, if◌then◌else◌, slice_index_or}
use Rattle.record_model.specs.declared.types.FileEntry.{FileEntry}
use Rattle.std.specs.List.{AllByRecursion, list_all}
use Rattle.record_model.specs.FieldDecoding.{◌>>=◌}
use Rattle.log_model.specs.FileTable.{Table, unless_broken, has_right_size, repeats_id, repeats_name, sorted, take_names}
use Rattle.log_model.specs.declared.selection.DamageWhy.{DamageWhy}
use Rattle.log_model.specs.declared.selection.DamageWhy.TheVariants as why
use Rattle.fs_model.specs.FsState.{TableRow, mounted_row}
use Rattle.extent_map.specs.Records.{recorded_of}
use Rattle.extent_map.specs.declared.error.ApplyError.{ApplyError}
use Rattle.extent_map.specs.declared.error.ApplyError.TheVariants.{Rule, NoMemory}

-- the rows of a table in which everything is recorded and shown
abbrev pub rows_of : Table → List TableRow
rows_of es = map mounted_row es

-- the entries of other ids
abbrev pub others_of : ℕ → Table → Table
others_of id es = filter (λ f. not (f.id == id)) es

-- everything is recorded of a file, and all of it is shown
abbrev pub IsPlain : TableRow → Type 0
IsPlain r = (r.unrecorded ≡ []) × (r.shown ≡ r.entry.size)

-- so it is of each file
abbrev pub ArePlain : List TableRow → Type 0
ArePlain rows = AllByRecursion IsPlain rows

-- of each file everything is shown, where everything is recorded
abbrev pub AreSettled : List TableRow → Type 0
AreSettled rows = AllByRecursion (λ r. r.unrecorded ≡ [] → r.shown ≡ r.entry.size) rows

-- the table of a snapshot, or the lowest rule that it breaks
abbrev pub snapshot_table : List FileEntry → Result Table DamageWhy
snapshot_table files =
    unless_broken (not (list_all has_right_size files)) 5 files
    >>= (λ sizes. unless_broken (repeats_id files) 6 files
    >>= (λ ids. unless_broken (repeats_name files) 7 files
    >>= (λ names. Ok (sorted files))))

-- the rows are those of the table that was made
pub record IsMade (after : Result Table DamageWhy) (rows : List TableRow) : Type 0 where
  pub made : after ≡ Ok (recorded_of rows)
  pub settled : rows ≡ rows_of (recorded_of rows)

-- memory was wanting, or this rule is the one that is broken
abbrev pub IsRefused : Result Table DamageWhy → ApplyError → Type 0
IsRefused after (Rule n) = after ≡ Err (why.Rule n)
IsRefused after NoMemory = ⊤

-- the row in its place, which may be another's of the same id
abbrev pub with_row : TableRow → List TableRow → List TableRow
with_row r [] = r ∷ []
with_row r (q ∷ qs) =
    if nat_lt r.entry.id q.entry.id then r ∷ q ∷ qs else if r.entry.id == q.entry.id then r ∷ qs else q ∷ with_row r qs

-- how many rows stand before that place
abbrev pub place_of : ℕ → List TableRow → ℕ
place_of id [] = 0
place_of id (q ∷ qs) = if nat_lt q.entry.id id then suc (place_of id qs) else 0

-- no other file has a name of the one that stands there
abbrev pub IsFreeAt : ℕ → List TableRow → Type 0
IsFreeAt at rows = (d : TableRow) → take_names (slice_index_or rows at d).entry.names (others_of (slice_index_or rows at d).entry.id (recorded_of rows))
    ≡ others_of (slice_index_or rows at d).entry.id (recorded_of rows)
