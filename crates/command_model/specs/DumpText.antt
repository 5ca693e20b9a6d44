-- The dump: a table and its zones as one line of compact JSON, the keys in byte order.
use Rattle.std.specs.Prelude.{ℕ, Bool, ◌||◌, List, [], ◌∷◌, ◌++◌, flat_map, map, filter, codes, decimal, nat_lt, ◌==◌, if◌then◌else◌}
use Rattle.std.specs.List.{enumerate_from}
use Rattle.record_model.specs.declared.types.Extent.{Extent}
use Rattle.record_model.specs.declared.types.FileEntry.{FileEntry}
use Rattle.log_model.specs.FileTable.{Table}
use Rattle.fs_model.specs.declared.zones.ZoneState.{ZoneState}

-- a byte of a string; quotes and backslashes are escaped, and a name has no control characters
abbrev pub json_byte : ℕ → List ℕ
json_byte b = if (b == 34) || (b == 92) then 92 ∷ b ∷ [] else b ∷ []

-- a string
abbrev pub json_string : List ℕ → List ℕ
json_string text = 34 ∷ flat_map json_byte text ++ 34 ∷ []

-- a truth value
abbrev pub json_bool : Bool → List ℕ
json_bool b = if b then codes "true" else codes "false"

-- texts with commas between them
abbrev pub with_commas : List (List ℕ) → List ℕ
with_commas [] = []
with_commas (t ∷ []) = t
with_commas (t ∷ u ∷ us) = t ++ 44 ∷ with_commas (u ∷ us)

-- an array
abbrev pub json_array : List (List ℕ) → List ℕ
json_array items = 91 ∷ with_commas items ++ 93 ∷ []

-- a key with its value
abbrev pub json_field : List ℕ → List ℕ → List ℕ
json_field key value = json_string key ++ 58 ∷ value

-- an object
abbrev pub json_object : List (List ℕ) → List ℕ
json_object fields = 123 ∷ with_commas fields ++ 125 ∷ []

-- an extent
abbrev pub dump_extent : Extent → List ℕ
dump_extent x = json_object (json_field (codes "len") (decimal x.len) ∷ json_field (codes "start") (decimal x.start) ∷ [])

-- a file
abbrev pub dump_file : FileEntry → List ℕ
dump_file e = json_object (
    json_field (codes "extents") (json_array (map dump_extent e.extents))
    ∷ json_field (codes "hint") (decimal e.hint)
    ∷ json_field (codes "id") (decimal e.id)
    ∷ json_field (codes "names") (json_array (map json_string e.names))
    ∷ json_field (codes "size") (decimal e.size)
    ∷ json_field (codes "sparse") (json_bool e.sparse)
    ∷ json_field (codes "time") (decimal e.time) ∷ [])

-- a zone that has a block or a seal
abbrev pub is_dumped : ℕ × ZoneState → Bool
is_dumped z = nat_lt 0 z.1.info.written || z.1.info.sealed

-- a zone
abbrev pub dump_zone : ℕ × ZoneState → List ℕ
dump_zone z = json_object (
    json_field (codes "live") (decimal z.1.live)
    ∷ json_field (codes "sealed") (json_bool z.1.info.sealed)
    ∷ json_field (codes "written") (decimal z.1.info.written)
    ∷ json_field (codes "zone") (decimal z.0) ∷ [])

-- the dump of a table and its zones
unfoldable pub dump_text : Table → List ZoneState → List ℕ
dump_text files zones =
    json_object (
    json_field (codes "files") (json_array (map dump_file files))
    ∷ json_field (codes "zones") (json_array (map dump_zone (filter is_dumped (enumerate_from 0 zones)))) ∷ [])
    ++ 10 ∷ []
