-- Vectors of the formats, computed.
use Rattle.std.specs.Prelude.{◌≡◌, ◌-◌, ◌^◌, true, false, [], ◌∷◌, length, codes, Ok, Err, refl}
use Rattle.record_model.specs.Name.{is_name}
use Rattle.record_model.specs.Numbers.{varint}
use Rattle.record_model.specs.Encoding.{payload_of, entry_bytes}
use Rattle.record_model.specs.FieldDecoding.{slice_at}
use Rattle.record_model.specs.Decoding.{record_of, entry_at}
use Rattle.record_model.specs.declared.types.FileEntry.{FileEntry}
use Rattle.record_model.specs.declared.types.Record.TheVariants.{Snapshot, Update}
use Rattle.record_model.specs.declared.fault.Why.TheVariants.{Short, Tag, Range}
use Rattle.std.specs.Str.{is_utf8, chars}
use lib.Utf8

-- two bytes
varint_300 : varint 300 ≡ 0xac ∷ 0x02 ∷ []
unfolding varint
varint_300 = refl

-- the update that creates a.txt
abbrev a_txt : FileEntry
a_txt = record { id = 1; size = 0; hint = 0; time = 1700000000; active = 2 ^ 64 - 1; sparse = false; extents = []; names = codes "a.txt" ∷ [] }

-- its length
update_len : length (payload_of (Update a_txt)) ≡ 71
unfolding payload_of entry_bytes varint
update_len = refl

-- a name
name_good : is_name (codes "a.txt") ≡ true
unfolding is_name is_utf8 chars Utf8.encode
name_good = refl

-- two slashes
name_doubled : is_name (codes "a//b") ≡ false
unfolding is_name is_utf8 chars Utf8.encode
name_doubled = refl

-- it is read again
update_again : record_of (payload_of (Update a_txt)) ≡ Ok (Update a_txt)
unfolding record_of entry_at slice_at payload_of entry_bytes varint is_name is_utf8 chars Utf8.encode
update_again = refl

-- five bytes
empty_snapshot : payload_of (Snapshot []) ≡ 1 ∷ 0 ∷ 0 ∷ 0 ∷ 0 ∷ []
unfolding payload_of entry_bytes varint
empty_snapshot = refl

-- a slice that is cut off
cut_snapshot : record_of (1 ∷ 0 ∷ 0 ∷ 0 ∷ 5 ∷ []) ≡ Err (record { at = 4; why = Short })
unfolding record_of entry_at slice_at varint
cut_snapshot = refl

-- a length of two bytes where one serves
long_varint : record_of (1 ∷ 0 ∷ 0 ∷ 0 ∷ 0x80 ∷ 0 ∷ []) ≡ Err (record { at = 4; why = Range })
unfolding record_of entry_at slice_at varint
long_varint = refl

-- a byte behind the record
behind_snapshot : record_of (1 ∷ 0 ∷ 0 ∷ 0 ∷ 0 ∷ 0xff ∷ []) ≡ Err (record { at = 5; why = Range })
unfolding record_of entry_at slice_at varint
behind_snapshot = refl

-- a tag that isn't there
unknown_tag : record_of (9 ∷ 0 ∷ 0 ∷ 0 ∷ []) ≡ Err (record { at = 0; why = Tag 9 })
unfolding record_of entry_at slice_at varint
unknown_tag = refl
