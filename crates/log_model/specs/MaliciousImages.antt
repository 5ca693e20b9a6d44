-- Images that are refused, computed: each with the place and the cause.
use Rattle.std.specs.Prelude.{◌≡◌, ℕ, ◌-◌, ◌^◌, List, [], ◌∷◌, ◌++◌, replicate, codes, take, drop, Ok, Err, refl}
use Rattle.record_model.specs.Encoding.{payload_of}
use Rattle.record_model.specs.declared.types.FileEntry.{FileEntry}
use Rattle.record_model.specs.declared.types.Record.TheVariants.{Update, Deletion, End}
use Rattle.log_model.specs.declared.selection.Refusal.{Refusal}
use Rattle.log_model.specs.declared.selection.DamageWhy.{DamageWhy}
use Rattle.log_model.specs.declared.selection.Refusal.TheVariants.{Damaged}
use Rattle.log_model.specs.declared.selection.DamageWhy.TheVariants as why
use Rattle.log_model.specs.Mounted.{mounted_in}
use Rattle.log_model.specs.Opened.{mounting}
use Rattle.log_model.specs.ExampleImages.{blocks, first, image_with, one_log, one_log_over, file, file_over, snapshot, names_in, with_u32}
use Rattle.record_model.specs.declared.fault.Why.TheVariants as fault

-- damage of the first metadata zone
abbrev damaged : ℕ → DamageWhy → Refusal
damaged block cause = Damaged (record { zone = 0; block = block; why = cause })

-- names of one byte
abbrev a : List ℕ
a = codes "a"

-- the second of them
abbrev b : List ℕ
b = codes "b"

-- a written block of a data zone
abbrev one_block : List (List ℕ)
one_block = replicate 512 7 ∷ []

-- an entry of an active file
abbrev started : FileEntry
started = record (file 1 (a ∷ [])) { active = 24577 }

-- a slice that is cut off
cut_slice : mounted_in (one_log ((1 ∷ 0 ∷ 0 ∷ 0 ∷ 5 ∷ []) ∷ [])) ≡ Err (damaged 2 (why.Decode (record { at = 4; why = fault.Short })))
unfolding mounting
cut_slice = refl

-- a length that isn't in its shortest form
long_length : mounted_in (one_log ((1 ∷ 0 ∷ 0 ∷ 0 ∷ 128 ∷ 0 ∷ []) ∷ [])) ≡ Err (damaged 2 (why.Decode (record { at = 4; why = fault.Range })))
unfolding mounting
long_length = refl

-- a byte behind the record
byte_behind : mounted_in (one_log ((1 ∷ 0 ∷ 0 ∷ 0 ∷ 0 ∷ 255 ∷ []) ∷ [])) ≡ Err (damaged 2 (why.Decode (record { at = 5; why = fault.Range })))
unfolding mounting
byte_behind = refl

-- an unknown record
unknown_record : mounted_in (one_log ((9 ∷ 0 ∷ 0 ∷ 0 ∷ []) ∷ [])) ≡ Err (damaged 2 (why.Decode (record { at = 0; why = fault.Tag 9 })))
unfolding mounting
unknown_record = refl

-- an end in place of the snapshot
no_snapshot : mounted_in (one_log (payload_of End ∷ [])) ≡ Err (damaged 2 (why.Rule 1))
unfolding mounting
no_snapshot = refl

-- one id twice
id_twice : mounted_in (one_log (snapshot (file 1 (a ∷ []) ∷ file 1 (b ∷ []) ∷ []) ∷ [])) ≡ Err (damaged 2 (why.Rule 6))
unfolding mounting
id_twice = refl

-- one name in two files
name_twice : mounted_in (one_log (snapshot (file 1 (a ∷ []) ∷ file 2 (a ∷ []) ∷ []) ∷ [])) ≡ Err (damaged 2 (why.Rule 7))
unfolding mounting
name_twice = refl

-- a record behind the end
behind_end : mounted_in (one_log (snapshot [] ∷ payload_of End ∷ payload_of (Update (file 1 (a ∷ []))) ∷ [])) ≡ Err (damaged 4 (why.Rule 2))
unfolding mounting
behind_end = refl

-- a deletion of an id that isn't there
unknown_id : mounted_in (one_log (snapshot [] ∷ payload_of (Deletion 7 a) ∷ [])) ≡ Err (damaged 3 (why.Rule 3))
unfolding mounting
unknown_id = refl

-- a deletion of a name that is another's
anothers_name : mounted_in (one_log (snapshot (file 1 (a ∷ []) ∷ file 2 (b ∷ []) ∷ []) ∷ payload_of (Deletion 1 b) ∷ [])) ≡ Err (damaged 3 (why.Rule 4))
unfolding mounting
anothers_name = refl

-- a stated length of 0
no_length : mounted_in (image_with (blocks (first 1 ∷ snapshot [] ∷ []) ++ replicate 512 0 ∷ []) [] [] []) ≡ Err (damaged 3 (why.NoLength))
unfolding mounting
no_length = refl

-- a stated length past the zone: torn, and the tree is empty
length_past_zone : mounted_in (image_with (blocks (first 1 ∷ snapshot [] ∷ []) ++ (replicate 8 255 ++ replicate 504 0) ∷ []) [] [] []) ≡ Ok []
unfolding mounting
length_past_zone = refl

-- two extents whose lengths pass 64 bits, and a size of 0
wrapped_size : mounted_in (one_log (snapshot (file_over 1 a 0 ((record { start = 0; len = 2 ^ 63 }) ∷ (record { start = 0; len = 2 ^ 63 }) ∷ []) ∷ []) ∷ [])) ≡ Err (damaged 2 (why.Rule 5))
unfolding mounting
wrapped_size = refl

-- an extent in an empty zone
unwritten_extent : mounted_in (one_log (snapshot (file_over 1 a 5 ((record { start = 24576; len = 5 }) ∷ []) ∷ []) ∷ [])) ≡ Err (damaged 2 (why.Rule 8))
unfolding mounting
unwritten_extent = refl

-- an extent past the last zone
extent_past_zones : mounted_in (one_log (snapshot (file_over 1 a 2 ((record { start = 2 ^ 64 - 1; len = 2 }) ∷ []) ∷ []) ∷ [])) ≡ Err (damaged 2 (why.Rule 8))
unfolding mounting
extent_past_zones = refl

-- two files that share bytes
shared_bytes : mounted_in (one_log_over (snapshot (file_over 1 a 5 ((record { start = 24576; len = 5 }) ∷ []) ∷ file_over 2 b 5 ((record { start = 24576; len = 5 }) ∷ []) ∷ []) ∷ []) one_block) ≡ Err (damaged 2 (why.Rule 9))
unfolding mounting
shared_bytes = refl

-- a recovery point within a block
recovery_point_within : mounted_in (one_log (snapshot (started ∷ []) ∷ [])) ≡ Err (damaged 2 (why.Rule 10))
unfolding mounting
recovery_point_within = refl

-- an extent that isn't written is named before the recovery point
extent_first : mounted_in (one_log (snapshot (started ∷ file_over 2 b 5 ((record { start = 24576; len = 5 }) ∷ []) ∷ []) ∷ [])) ≡ Err (damaged 2 (why.Rule 8))
unfolding mounting
extent_first = refl

-- an identifier that isn't one
wrong_identifier : mounted_in (image_with (blocks (with_u32 4 0x78787878 (first 1) ∷ snapshot [] ∷ [])) [] [] []) ≡ Err (damaged 0 (why.Text 4))
unfolding mounting
wrong_identifier = refl

-- the place of the last rules is the last record
last_record : mounted_in (one_log (snapshot (file_over 1 a 5 ((record { start = 24576; len = 5 }) ∷ []) ∷ []) ∷ payload_of (Update (file 2 (b ∷ []))) ∷ [])) ≡ Err (damaged 3 (why.Rule 8))
unfolding mounting
last_record = refl

-- an auxiliary path without a zero byte behind it
path_without_end : mounted_in (image_with (blocks ((take 69 (first 1) ++ replicate 256 97 ++ drop 325 (first 1)) ∷ snapshot [] ∷ [])) [] [] []) ≡ Err (damaged 0 (why.Text 69))
unfolding mounting
path_without_end = refl

-- a version text with a control byte
version_text_with_control : mounted_in (image_with (blocks (with_u32 325 10 (first 1) ∷ snapshot [] ∷ [])) [] [] []) ≡ Err (damaged 0 (why.Text 325))
unfolding mounting
version_text_with_control = refl

-- behind an end a payload that doesn't decode is named as that
undecodable_behind_end : mounted_in (one_log (snapshot [] ∷ payload_of End ∷ (9 ∷ 0 ∷ 0 ∷ 0 ∷ []) ∷ [])) ≡ Err (damaged 4 (why.Decode (record { at = 0; why = fault.Tag 9 })))
unfolding mounting
undecodable_behind_end = refl

-- an extent in a metadata zone
extent_in_metadata : mounted_in (one_log (snapshot (file_over 1 a 5 ((record { start = 0; len = 5 }) ∷ []) ∷ []) ∷ [])) ≡ Err (damaged 2 (why.Rule 8))
unfolding mounting
extent_in_metadata = refl

-- an extent past the written blocks of its zone
extent_past_blocks : mounted_in (one_log_over (snapshot (file_over 1 a 5 ((record { start = 25084; len = 5 }) ∷ []) ∷ []) ∷ []) one_block) ≡ Err (damaged 2 (why.Rule 8))
unfolding mounting
extent_past_blocks = refl

-- a recovery point in a metadata zone
recovery_point_in_metadata : mounted_in (one_log (snapshot ((record started { active = 8192 }) ∷ []) ∷ [])) ≡ Err (damaged 2 (why.Rule 10))
unfolding mounting
recovery_point_in_metadata = refl

-- a recovery point behind the block behind the last
recovery_point_past_end : mounted_in (one_log (snapshot ((record started { active = 25088 }) ∷ []) ∷ [])) ≡ Err (damaged 2 (why.Rule 10))
unfolding mounting
recovery_point_past_end = refl

-- a recovery point behind the last block
recovery_point_at_end : names_in (mounted_in (one_log_over (snapshot ((record started { active = 25088 }) ∷ []) ∷ []) one_block)) ≡ Ok ((a ∷ []) ∷ [])
unfolding mounting
recovery_point_at_end = refl

-- bytes that are found again and are another file's
recovered_and_shared : mounted_in (one_log_over (snapshot ((record started { active = 24576 }) ∷ file_over 2 b 5 ((record { start = 24576; len = 5 }) ∷ []) ∷ []) ∷ []) one_block) ≡ Err (damaged 2 (why.Rule 9))
unfolding mounting
recovered_and_shared = refl
