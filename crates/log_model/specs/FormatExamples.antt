-- Formatting, computed.
use Rattle.std.specs.Prelude.{◌≡◌, ◌-◌, ◌^◌, [], ◌∷◌, length, codes, Some, None, Ok, false, refl}
use Rattle.zone_image.specs.Image.{zone_at}
use Rattle.uuid.specs.Text.{by_index}
use Rattle.superblock_core.specs.Superblock.{superblock_bytes, superblock_of, uuid_text}
use Rattle.superblock_core.specs.declared.superblock.Superblock.{Superblock}
use Rattle.log_model.specs.Mounted.{mounted_in}
use Rattle.log_model.specs.Format.{begins_in, reset_order, formatted_image, identifier_of, new_superblock}
use Rattle.log_model.specs.Opened.{scanning, mounting}
use Rattle.log_model.specs.ExampleImages.{g, blocks, first, image_with, with_u32}

-- the superblock that is made of no random bits
abbrev made : Superblock
made = new_superblock g 0 (codes "/aux") 0 false

-- the identifiers of no random bits, and of all
no_bits : uuid_text (identifier_of 0) ≡ codes "00000000-0000-4000-8000-000000000000"
unfolding uuid_text by_index
no_bits = refl

-- of all random bits
all_bits : uuid_text (identifier_of (2 ^ 128 - 1)) ≡ codes "ffffffff-ffff-4fff-bfff-ffffffffffff"
unfolding uuid_text by_index
all_bits = refl

-- a new file system has three blocks
new_blocks : length (zone_at (formatted_image g made) 0).blocks ≡ 3
unfolding formatted_image scanning
new_blocks = refl

-- it begins in the first zone
new_begins : begins_in (formatted_image g made) ≡ Some 0
unfolding begins_in formatted_image scanning
new_begins = refl

-- an empty device has none
none_begins : begins_in (image_with [] [] [] []) ≡ None
unfolding begins_in scanning
none_begins = refl

-- zones without a superblock are reset first, and then the lower sequence
reset_first : reset_order (image_with (blocks (first 4 ∷ [])) [] (blocks (first 3 ∷ [])) []) ≡ 1 ∷ 2 ∷ 0 ∷ []
unfolding reset_order mounting
reset_first = refl

-- equal sequences by zone
reset_equal : reset_order (image_with (blocks (first 4 ∷ [])) (blocks (first 4 ∷ [])) (blocks (first 3 ∷ [])) []) ≡ 2 ∷ 0 ∷ 1 ∷ []
unfolding reset_order mounting
reset_equal = refl

-- what is written of a superblock is read again
superblock_again : superblock_of (superblock_bytes made) ≡ Ok made
unfolding mounting
superblock_again = refl

-- a new file system mounts to no files
new_is_empty : mounted_in (formatted_image g made) ≡ Ok []
unfolding formatted_image mounting
new_is_empty = refl

-- an equal magic number is enough to begin, whatever else is wrong
wrong_begins : begins_in (image_with [] (blocks (with_u32 45 3 (first 1) ∷ [])) [] []) ≡ Some 1
unfolding begins_in scanning
wrong_begins = refl
