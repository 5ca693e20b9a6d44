-- Room for metadata, computed.
use Rattle.std.specs.Prelude.{◌≡◌, ℕ, ◌+◌, [], ◌∷◌, ◌++◌, replicate, refl}
use Rattle.record_model.specs.Numbers.{varint}
use Rattle.record_model.specs.Encoding.{payload_of, entry_bytes}
use Rattle.record_model.specs.declared.types.FileEntry.{FileEntry}
use Rattle.log_model.specs.FileTable.{Table}
use Rattle.log_model.specs.Headroom.{log_need, change_need, need_of}
use Rattle.log_model.specs.ExampleImages.{file}

-- an empty file with a name of 200 bytes
abbrev long_named : ℕ → FileEntry
long_named id = file id (replicate 200 (96 + id) ∷ [])

-- seven of them
abbrev seven : Table
seven = long_named 1 ∷ long_named 2 ∷ long_named 3 ∷ long_named 4 ∷ long_named 5 ∷ long_named 6 ∷ long_named 7 ∷ []

-- the eighth would need nine blocks
need_eight : need_of 512 seven (seven ++ long_named 8 ∷ []) 1 ≡ 9
unfolding log_need change_need payload_of entry_bytes varint
need_eight = refl

-- seven need eight
need_seven : log_need 512 seven ≡ 8
unfolding log_need payload_of entry_bytes varint
need_seven = refl

-- an empty table needs a superblock of two blocks, a snapshot of one, a record and the end
need_none : log_need 512 [] ≡ 5
unfolding log_need payload_of entry_bytes varint
need_none = refl

-- with blocks of 4,096 bytes each takes one
need_none_large : log_need 4096 [] ≡ 4
unfolding log_need payload_of entry_bytes varint
need_none_large = refl
