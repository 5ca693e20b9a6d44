-- The room that was made for changes to come.
use Rattle.std.specs.Prelude.{ℕ, ◌+◌, ◌-◌, List, [], ◌∷◌, length, min, Option, Some, None, ◌==◌, if◌then◌else◌, vec_capacity}
use Rattle.fs_model.specs.FsState.{TableRow, row_of}
use Rattle.extent_map.specs.declared.room.Room.{Room}

-- how many extents more of a file the room takes
abbrev pub extents_more : Room → TableRow → ℕ
extents_more room r = min (vec_capacity room.noted - length r.unrecorded) (vec_capacity room.joined - (length r.entry.extents + length r.unrecorded))

-- the same of the file, if it is there
abbrev pub spare_in : Room → Option TableRow → List (ℕ × ℕ)
spare_in room None = []
spare_in room (Some r) = (room.id, extents_more room r) ∷ []

-- for each file the number of extents for which room is made
abbrev pub spare_of : List TableRow → Option Room → List (ℕ × ℕ)
spare_of rows None = []
spare_of rows (Some room) = spare_in room (row_of room.id rows)

-- the number of extents of a file for which room is made
abbrev pub spare_at : ℕ → List (ℕ × ℕ) → ℕ
spare_at id [] = 0
spare_at id (s ∷ ss) = if s.0 == id then s.1 else spare_at id ss
