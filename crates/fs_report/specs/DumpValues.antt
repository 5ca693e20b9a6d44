-- The dump as values of JSON, the members of each object in the order of their keys.
use Rattle.std.specs.Prelude.{◌≡◌, ℕ, Bool, false, List, map, codes}
use Rattle.std.specs.List.{list_all}
use Rattle.serde_json.specs.Data.{Data, number, unsigned, string, boolean, array, object, member, no_members}
use Rattle.serde_json.specs.View.{view, items_of}
use Rattle.serde_json.specs.Written.{compact_text, items_have_float}
use Rattle.serde_json.specs.declared.value.Value.{Value}
use Rattle.record_model.specs.Name.{is_printable}
use Rattle.record_model.specs.declared.types.Extent.{Extent}
use Rattle.record_model.specs.declared.types.FileEntry.{FileEntry}
use Rattle.fs_model.specs.declared.zones.ZoneState.{ZoneState}

-- a number
abbrev pub number_data : ℕ → Data
number_data n = number (unsigned n)

-- a list of values
abbrev pub array_data : List Data → Data
array_data ds = array (items_of ds)

-- an extent
abbrev pub extent_data : Extent → Data
extent_data x = object (member (codes "len") (number_data x.len) (member (codes "start") (number_data x.start) no_members))

-- a file with these values of its extents and names
abbrev pub file_with : Data → Data → FileEntry → Data
file_with extents names e = object (
    member (codes "extents") extents
    (member (codes "hint") (number_data e.hint)
    (member (codes "id") (number_data e.id)
    (member (codes "names") names
    (member (codes "size") (number_data e.size)
    (member (codes "sparse") (boolean e.sparse)
    (member (codes "time") (number_data e.time) no_members)))))))

-- a file
abbrev pub file_data : FileEntry → Data
file_data e = file_with (array_data (map extent_data e.extents)) (array_data (map string e.names)) e

-- a zone with its number
abbrev pub zone_data : ℕ × ZoneState → Data
zone_data z = object (
    member (codes "live") (number_data z.1.live)
    (member (codes "sealed") (boolean z.1.info.sealed)
    (member (codes "written") (number_data z.1.info.written)
    (member (codes "zone") (number_data z.0) no_members))))

-- the whole, of these files and zones
abbrev pub whole_data : List Data → List Data → Data
whole_data files zones = object (member (codes "files") (array_data files) (member (codes "zones") (array_data zones) no_members))

-- the texts of some values
abbrev pub texts_of : List Value → List (List ℕ)
texts_of values = map compact_text (map view values)

-- none of these values has a float
abbrev pub HaveNoFloat : List Value → Type 0
HaveNoFloat values = items_have_float (items_of (map view values)) ≡ false

-- bytes without control characters
unfoldable pub is_plain : List ℕ → Bool
is_plain bytes = list_all is_printable bytes
