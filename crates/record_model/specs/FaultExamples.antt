-- First faults of payloads, computed.
use Rattle.std.specs.Prelude.{◌≡◌, ℕ, ◌-◌, ◌^◌, List, [], ◌∷◌, ◌++◌, codes, replicate, take, Result, Err, refl}
use Rattle.std.specs.Str.{is_utf8, chars}
use lib.Utf8
use Rattle.record_model.specs.Name.{is_name}
use Rattle.record_model.specs.Numbers.{u32, u64, varint}
use Rattle.record_model.specs.Encoding.{slice}
use Rattle.record_model.specs.Decoding.{record_of, entry_at}
use Rattle.record_model.specs.FieldDecoding.{slice_at}
use Rattle.record_model.specs.declared.types.Record.{Record}
use Rattle.record_model.specs.declared.fault.DecodeFault.{DecodeFault}
use Rattle.record_model.specs.declared.fault.Why.{Why}
use Rattle.record_model.specs.declared.fault.Why.TheVariants.{Short, Tag, Twice, Missing, Range}

-- what an update with this entry is read as
abbrev of_entry : List ℕ → Result Record DecodeFault
of_entry bytes = record_of (u32 2 ++ slice bytes)

-- what a deletion with this body is read as
abbrev of_deletion : List ℕ → Result Record DecodeFault
of_deletion bytes = record_of (u32 3 ++ slice bytes)

-- a fault and its place
abbrev fault : ℕ → Why → Result Record DecodeFault
fault at why = Err (record { at = at; why = why })

-- an id, a hint, and a name
abbrev id : ℕ → List ℕ
id n = u32 1 ++ u64 n

-- the second of them
abbrev hint : ℕ → List ℕ
hint n = u32 4 ++ u32 n

-- the third
abbrev named : List ℕ → List ℕ
named bytes = u32 9 ++ slice bytes

-- an extent field with these bytes
abbrev extent : List ℕ → List ℕ
extent bytes = u32 5 ++ slice bytes

-- three bytes of a record tag
no_tag : record_of (1 ∷ 0 ∷ 0 ∷ []) ≡ fault 0 Short
unfolding record_of entry_at slice_at varint is_name is_utf8 chars Utf8.encode
no_tag = refl

-- a byte behind an end
behind_end : record_of (u32 4 ++ 0 ∷ []) ≡ fault 4 Range
unfolding record_of entry_at slice_at varint is_name is_utf8 chars Utf8.encode
behind_end = refl

-- no field at all
empty_entry : of_entry [] ≡ fault 5 (Missing 1)
unfolding record_of entry_at slice_at varint is_name is_utf8 chars Utf8.encode
empty_entry = refl

-- the least field that is missing
no_size : of_entry (id 1 ++ named (codes "a")) ≡ fault 5 (Missing 3)
unfolding record_of entry_at slice_at varint is_name is_utf8 chars Utf8.encode
no_size = refl

-- an id that is none
id_out_of_range : of_entry (id (2 ^ 64 - 1)) ≡ fault 5 Range
unfolding record_of entry_at slice_at varint is_name is_utf8 chars Utf8.encode
id_out_of_range = refl

-- a second id is named before its range
id_twice : of_entry (id 1 ++ id (2 ^ 64 - 1)) ≡ fault 17 (Twice 1)
unfolding record_of entry_at slice_at varint is_name is_utf8 chars Utf8.encode
id_twice = refl

-- a value that is cut off
id_cut : of_entry (id 1 ++ take 11 (id 1)) ≡ fault 17 Short
unfolding record_of entry_at slice_at varint is_name is_utf8 chars Utf8.encode
id_cut = refl

-- a tag that is cut off
tag_cut : of_entry (id 1 ++ 1 ∷ 0 ∷ 0 ∷ []) ≡ fault 17 Short
unfolding record_of entry_at slice_at varint is_name is_utf8 chars Utf8.encode
tag_cut = refl

-- a tag that is not read
old_name : of_entry (id 1 ++ u32 2) ≡ fault 17 (Tag 2)
unfolding record_of entry_at slice_at varint is_name is_utf8 chars Utf8.encode
old_name = refl

-- a hint above its limit
hint_above : of_entry (hint 6) ≡ fault 5 Range
unfolding record_of entry_at slice_at varint is_name is_utf8 chars Utf8.encode
hint_above = refl

-- an extent of fifteen bytes
short_extent : of_entry (extent (replicate 15 1)) ≡ fault 5 Range
unfolding record_of entry_at slice_at varint is_name is_utf8 chars Utf8.encode
short_extent = refl

-- an extent of no length
empty_extent : of_entry (extent (u64 512 ++ u64 0)) ≡ fault 5 Range
unfolding record_of entry_at slice_at varint is_name is_utf8 chars Utf8.encode
empty_extent = refl

-- an extent with more bytes stated than there are
extent_cut : of_entry (u32 5 ++ 16 ∷ 0 ∷ []) ≡ fault 5 Short
unfolding record_of entry_at slice_at varint is_name is_utf8 chars Utf8.encode
extent_cut = refl

-- sparse twice
sparse_twice : of_entry (u32 8 ++ u32 8) ≡ fault 9 (Twice 8)
unfolding record_of entry_at slice_at varint is_name is_utf8 chars Utf8.encode
sparse_twice = refl

-- a name twice
name_twice : of_entry (named (codes "a") ++ named (codes "b") ++ named (codes "a")) ≡ fault 17 (Twice 9)
unfolding record_of entry_at slice_at varint is_name is_utf8 chars Utf8.encode
name_twice = refl

-- a name that is none
name_broken : of_entry (named (codes "a/")) ≡ fault 5 Range
unfolding record_of entry_at slice_at varint is_name is_utf8 chars Utf8.encode
name_broken = refl

-- a name whose length is not in its shortest form
name_length_long : of_entry (u32 9 ++ 0x81 ∷ 0 ∷ 97 ∷ []) ≡ fault 5 Range
unfolding record_of entry_at slice_at varint is_name is_utf8 chars Utf8.encode
name_length_long = refl

-- what the first entry misses comes before a fault of the second
first_missing : record_of (u32 1 ++ slice (slice (id 1) ++ slice (hint 6))) ≡ fault 6 (Missing 3)
unfolding record_of entry_at slice_at varint is_name is_utf8 chars Utf8.encode
first_missing = refl

-- the slice of a second entry is cut off
second_cut : record_of (u32 1 ++ slice (0x80 ∷ [])) ≡ fault 5 Short
unfolding record_of entry_at slice_at varint is_name is_utf8 chars Utf8.encode
second_cut = refl

-- an id of seven bytes
deletion_id_cut : of_deletion (replicate 7 1) ≡ fault 5 Short
unfolding record_of entry_at slice_at varint is_name is_utf8 chars Utf8.encode
deletion_id_cut = refl

-- an id that is none, before a name that is none
deletion_id : of_deletion (u64 (2 ^ 64 - 1) ++ slice []) ≡ fault 5 Range
unfolding record_of entry_at slice_at varint is_name is_utf8 chars Utf8.encode
deletion_id = refl

-- a name that is none
deletion_name : of_deletion (u64 1 ++ slice []) ≡ fault 13 Range
unfolding record_of entry_at slice_at varint is_name is_utf8 chars Utf8.encode
deletion_name = refl

-- a byte behind the name
deletion_behind_name : of_deletion (u64 1 ++ slice (codes "a") ++ 0 ∷ []) ≡ fault 15 Range
unfolding record_of entry_at slice_at varint is_name is_utf8 chars Utf8.encode
deletion_behind_name = refl

-- a byte behind the record
deletion_behind : record_of (u32 3 ++ slice (u64 1 ++ slice (codes "a")) ++ 0 ∷ []) ≡ fault 15 Range
unfolding record_of entry_at slice_at varint is_name is_utf8 chars Utf8.encode
deletion_behind = refl

-- a length of 2 ^ 32
length_too_great : record_of (u32 1 ++ 0x80 ∷ 0x80 ∷ 0x80 ∷ 0x80 ∷ 0x10 ∷ []) ≡ fault 4 Range
unfolding record_of entry_at slice_at varint is_name is_utf8 chars Utf8.encode
length_too_great = refl
