-- What is looked up in a table.
use Rattle.std.specs.Prelude.{ℕ, ◌+◌, ◌-◌, ◌^◌, ◌<◌, Bool, false, Option, Some, None, Result, Ok, Err, List, [], ◌∷◌, ◌++◌, min, nat_lt, if◌then◌else◌, option_map, All}
use Rattle.std.specs.List.{slice_get}
use Rattle.std.specs.Option.{option_and_then, option_map_or}
use Rattle.std.specs.Result.{result_ok}
use Rattle.record_model.specs.declared.types.Extent.{Extent}
use Rattle.fs_model.specs.FsState.{TableRow, row_of, row_named}

-- the id of the file of a name
abbrev pub id_named : List ℕ → List TableRow → Option ℕ
id_named name rows = option_map (λ r. r.entry.id) (row_named name rows)

-- the lower of two numbers, as far as they are there
abbrev pub lower : Option ℕ → Option ℕ → Option ℕ
lower None b = b
lower (Some a) None = Some a
lower (Some a) (Some b) = Some (min a b)

-- the number, if it isn't below the other
abbrev pub at_least : ℕ → ℕ → Option ℕ
at_least from id = if nat_lt id from then None else Some id

-- the least id of a file that is at least this number
abbrev pub least_id_from : ℕ → List TableRow → Option ℕ
least_id_from from [] = None
least_id_from from (r ∷ rs) = lower (at_least from r.entry.id) (least_id_from from rs)

-- the id of the row that stands there
abbrev pub id_at : ℕ → List TableRow → Option ℕ
id_at at rows = option_map (λ r. r.entry.id) (slice_get rows at)

-- all extents of a file, in its order
abbrev pub extents_of : TableRow → List Extent
extents_of r = r.entry.extents ++ r.unrecorded

-- the extent ends below 2^64
abbrev pub EndsInRange : Extent → Type 0
EndsInRange x = x.start + x.len < 2 ^ 64

-- so do all extents of a file
abbrev pub AreInRange : TableRow → Type 0
AreInRange r = All EndsInRange r.entry.extents × All EndsInRange r.unrecorded

-- the extent from this offset on
abbrev pub rest_of : Extent → ℕ → Extent
rest_of x offset = record { start = x.start + offset; len = x.len - offset }

-- the rest of the extent that holds the byte of an offset, or how far behind the extents it lies
abbrev pub rest_in : ℕ → List Extent → Result Extent ℕ
rest_in offset [] = Err offset
rest_in offset (x ∷ xs) = if nat_lt offset x.len then Ok (rest_of x offset) else rest_in (offset - x.len) xs

-- the rest of the extent that holds a byte that is shown
abbrev pub shown_rest : ℕ → TableRow → Option Extent
shown_rest offset r = if nat_lt offset r.shown then result_ok (rest_in offset (extents_of r)) else None

-- the rest of the extent that holds a byte of a file, if it is shown
abbrev pub located : ℕ → ℕ → List TableRow → Option Extent
located id offset rows = option_and_then (shown_rest offset) (row_of id rows)

-- the byte of an offset is shown
abbrev pub is_shown : ℕ → ℕ → List TableRow → Bool
is_shown id offset rows = option_map_or (λ r. nat_lt offset r.shown) (row_of id rows) false
