-- Which log is selected and what mounts, computed.
use Rattle.std.specs.Prelude.{◌≡◌, ℕ, true, false, List, [], ◌∷◌, ◌++◌, length, replicate, codes, take, Some, Ok, Err, refl}
use Rattle.zone_image.specs.Image.{Image}
use Rattle.record_model.specs.Numbers.{u32}
use Rattle.record_model.specs.Encoding.{payload_of}
use Rattle.record_model.specs.declared.types.Record.TheVariants.{Update, End}
use Rattle.log_model.specs.declared.selection.Refusal.TheVariants.{NoFileSystem, Unsupported, Differs, Damaged}
use Rattle.log_model.specs.declared.selection.DamageWhy.TheVariants as why
use Rattle.log_model.specs.LogScan.{record_blocks, record_sum}
use Rattle.log_model.specs.LogSelection.{selected_log}
use Rattle.log_model.specs.Mounted.{mounted_in}
use Rattle.log_model.specs.Opened.{mounting}
use Rattle.log_model.specs.ExampleImages.{blocks, first, image_with, one_log, file, snapshot, names_in, zone_in, greatest_in, damage_at, can_end_in, with_u32}

-- a log of sequence 3 that has ended, with a file named a
abbrev ended_log : List (List ℕ)
ended_log = blocks (first 3 ∷ snapshot (file 1 (codes "a" ∷ []) ∷ []) ∷ payload_of End ∷ [])

-- the log that a roll puts in its place
abbrev next_log : List (List ℕ)
next_log = blocks (first 4 ∷ snapshot (file 1 (codes "a" ∷ []) ∷ []) ∷ [])

-- two names of 255 bytes
abbrev long_a : List ℕ
long_a = replicate 255 97

-- the second of them
abbrev long_b : List ℕ
long_b = replicate 255 98

-- the blocks of the update that links the second name
abbrev link_blocks : List (List ℕ)
link_blocks = record_blocks 512 (payload_of (Update (file 1 (long_a ∷ long_b ∷ []))))

-- a log with the file under its first name, and a part of the update behind it
abbrev pub linked_up_to : ℕ → Image
linked_up_to n = image_with (blocks (first 1 ∷ snapshot (file 1 (long_a ∷ []) ∷ []) ∷ []) ++ take n link_blocks) [] [] []

-- a superblock whose number at an offset is another one, and an empty snapshot
abbrev changed_superblock : ℕ → ℕ → Image
changed_superblock offset n = image_with (blocks (with_u32 offset n (first 1) ∷ snapshot [] ∷ [])) [] [] []

-- the record of an empty snapshot with a byte of its payload changed, and its checksum as it was
abbrev changed_snapshot : List ℕ
changed_snapshot = u32 (record_sum (snapshot [])) ++ u32 5 ++ u32 1 ++ 1 ∷ replicate 499 0

-- a crash that leaves the superblock of the new log alone: the old log counts
old_log_counts : names_in (mounted_in (image_with (take 2 next_log) [] ended_log [])) ≡ Ok ((codes "a" ∷ []) ∷ [])
unfolding mounting
old_log_counts = refl

-- it is the one in the last metadata zone
old_log_selected : zone_in (selected_log (image_with (take 2 next_log) [] ended_log [])) ≡ Ok 2
unfolding mounting
old_log_selected = refl

-- a crash that leaves the snapshot too: the new log counts, though the old one is whole
new_log_selected : zone_in (selected_log (image_with (take 3 next_log) [] ended_log [])) ≡ Ok 0
unfolding mounting
new_log_selected = refl

-- the tree is the same
new_log_counts : names_in (mounted_in (image_with (take 3 next_log) [] ended_log [])) ≡ Ok ((codes "a" ∷ []) ∷ [])
unfolding mounting
new_log_counts = refl

-- the update with both names takes two blocks
link_takes_two : length link_blocks ≡ 2
unfolding mounting
link_takes_two = refl

-- one of them is a torn record, so the first name alone is there
torn_link : names_in (mounted_in (linked_up_to 1)) ≡ Ok ((long_a ∷ []) ∷ [])
unfolding mounting
torn_link = refl

-- a log that ends torn takes no end record
torn_log_cannot_end : can_end_in (selected_log (linked_up_to 1)) ≡ Ok false
unfolding mounting
torn_log_cannot_end = refl

-- both of them link the name
whole_link : names_in (mounted_in (linked_up_to 2)) ≡ Ok ((long_a ∷ long_b ∷ []) ∷ [])
unfolding mounting
whole_link = refl

-- a log that has ended takes no second end record
ended_log_cannot_end : can_end_in (selected_log (one_log (snapshot [] ∷ payload_of End ∷ []))) ≡ Ok false
unfolding mounting
ended_log_cannot_end = refl

-- a clean log without an end may take one
clean_log_can_end : can_end_in (selected_log (one_log (snapshot [] ∷ []))) ≡ Ok true
unfolding mounting
clean_log_can_end = refl

-- a payload that doesn't match its checksum
wrong_checksum : mounted_in (image_with (blocks (first 1 ∷ []) ++ changed_snapshot ∷ []) [] [] []) ≡ Err (Damaged (record { zone = 0; block = 2; why = why.Sum 0xC96C3CE2 0xC371A1B5 }))
unfolding mounting
wrong_checksum = refl

-- two logs of one sequence
twins : mounted_in (image_with (blocks (first 4 ∷ [])) (blocks (first 4 ∷ [])) [] []) ≡ Err (Damaged (record { zone = 1; block = 0; why = why.Twin 4 }))
unfolding mounting
twins = refl

-- they are named before a log that ends bad
twins_before_bad_end : mounted_in (image_with (blocks (first 4 ∷ []) ++ changed_snapshot ∷ []) [] (blocks (first 4 ∷ [])) []) ≡ Err (Damaged (record { zone = 2; block = 0; why = why.Twin 4 }))
unfolding mounting
twins_before_bad_end = refl

-- another version
unknown_version : mounted_in (changed_superblock 45 3) ≡ Err (Unsupported 0 3 0)
unfolding mounting
unknown_version = refl

-- other flags
unknown_flags : mounted_in (changed_superblock 49 2) ≡ Err (Unsupported 0 2 2)
unfolding mounting
unknown_flags = refl

-- another number of zones
another_device : mounted_in (changed_superblock 61 64) ≡ Err (Differs 0 512 16 64)
unfolding mounting
another_device = refl

-- no metadata
no_metadata : mounted_in (image_with [] [] [] []) ≡ Err NoFileSystem
unfolding mounting
no_metadata = refl

-- a first record of another kind is skipped
no_magic : mounted_in (image_with (blocks (snapshot [] ∷ [])) [] [] []) ≡ Err NoFileSystem
unfolding mounting
no_magic = refl

-- a bad end is named before a second payload that doesn't decode
bad_end_first : mounted_in (image_with (blocks (first 1 ∷ (9 ∷ 0 ∷ 0 ∷ 0 ∷ []) ∷ []) ++ replicate 512 0 ∷ []) [] [] []) ≡ Err (Damaged (record { zone = 0; block = 3; why = why.NoLength }))
unfolding mounting
bad_end_first = refl

-- a log without a snapshot is passed over, and its sequence was seen all the same
passed_over : zone_in (selected_log (image_with (blocks (first 1 ∷ snapshot [] ∷ [])) (blocks (first 9 ∷ [])) [] [])) ≡ Ok 0
unfolding mounting
passed_over = refl

-- a crash that leaves one of the new superblock's two blocks: the old log counts
torn_superblock_skipped : zone_in (selected_log (image_with (take 1 next_log) [] ended_log [])) ≡ Ok 2
unfolding mounting
torn_superblock_skipped = refl

-- a first record that is bad isn't skipped
bad_first_record : mounted_in (image_with (replicate 512 0 ∷ []) (blocks (first 1 ∷ snapshot [] ∷ [])) [] []) ≡ Err (Damaged (record { zone = 0; block = 0; why = why.NoLength }))
unfolding mounting
bad_first_record = refl

-- of three logs of one sequence the second is named
three_of_one_sequence : mounted_in (image_with (blocks (first 4 ∷ [])) (blocks (first 4 ∷ [])) (blocks (first 4 ∷ [])) []) ≡ Err (Damaged (record { zone = 1; block = 0; why = why.Twin 4 }))
unfolding mounting
three_of_one_sequence = refl

-- another block size
another_block_size : mounted_in (changed_superblock 53 4096) ≡ Err (Differs 0 4096 16 32)
unfolding mounting
another_block_size = refl

-- another zone size
another_zone_size : mounted_in (changed_superblock 57 32) ≡ Err (Differs 0 512 32 32)
unfolding mounting
another_zone_size = refl

-- an unknown version is named before a text that is wrong
version_before_text : mounted_in (image_with (blocks (with_u32 45 3 (with_u32 4 0x78787878 (first 1)) ∷ [])) [] [] []) ≡ Err (Unsupported 0 3 0)
unfolding mounting
version_before_text = refl

-- the first refused zone is named
first_refused_zone : mounted_in (image_with [] (blocks (with_u32 61 64 (first 1) ∷ [])) (blocks (with_u32 45 3 (first 2) ∷ [])) []) ≡ Err (Differs 1 512 16 64)
unfolding mounting
first_refused_zone = refl

-- damage of a log that isn't the newest is never met
lower_damage_unseen : zone_in (selected_log (image_with (blocks (first 1 ∷ []) ++ changed_snapshot ∷ []) (blocks (first 2 ∷ snapshot [] ∷ [])) [] [])) ≡ Ok 1
unfolding mounting
lower_damage_unseen = refl

-- damage of the newest log is named, though another one is whole
newest_damage_named : zone_in (selected_log (image_with (blocks (first 1 ∷ snapshot [] ∷ [])) (blocks (first 2 ∷ payload_of End ∷ [])) [] [])) ≡ Err (Damaged (record { zone = 1; block = 2; why = why.Rule 1 }))
unfolding mounting
newest_damage_named = refl

-- the highest sequence that was seen, of a log that was passed over
greatest_seen : greatest_in (selected_log (image_with (blocks (first 1 ∷ snapshot [] ∷ [])) (blocks (first 9 ∷ [])) [] [])) ≡ Ok 9
unfolding mounting
greatest_seen = refl

-- an end record behind a torn one makes the log bad
end_behind_torn : damage_at (mounted_in (image_with (blocks (first 1 ∷ snapshot (file 1 (long_a ∷ []) ∷ []) ∷ []) ++ take 1 link_blocks ++ blocks (payload_of End ∷ [])) [] [] [])) ≡ Some (0, 3)
unfolding mounting
end_behind_torn = refl
