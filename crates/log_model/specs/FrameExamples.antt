-- Frames of sparse files that a mount finds again, computed.
use Rattle.std.specs.Prelude.{◌≡◌, ℕ, true, false, List, [], ◌∷◌, ◌++◌, replicate, codes, Ok, refl}
use Rattle.zone_image.specs.Image.{Image}
use Rattle.record_model.specs.Numbers.{u64}
use Rattle.record_model.specs.declared.types.FileEntry.{FileEntry}
use Rattle.log_model.specs.Mounted.{table_in, mounted_in}
use Rattle.log_model.specs.Opened.{mounting}
use Rattle.log_model.specs.ExampleImages.{one_log_over, file, snapshot, bytes_in, extents_in, block_of}

-- a sparse file whose frames begin with the first data zone
abbrev started : FileEntry
started = record (file 1 (codes "s" ∷ [])) { active = 24576; sparse = true }

-- the frames of "abc" and "defgh", a block each
abbrev pub abc : List ℕ
abc = block_of (u64 3 ++ codes "abc")

-- the second of them
abbrev pub defgh : List ℕ
defgh = block_of (u64 5 ++ codes "defgh")

-- the first block of a frame of 505 bytes
abbrev long_frame : List ℕ
long_frame = u64 505 ++ replicate 504 120

-- an image with that file, and these blocks in the zone of its frames
abbrev pub over : List (List ℕ) → Image
over data_blocks = one_log_over (snapshot (started ∷ []) ∷ []) data_blocks

-- one block left of two frames
one_frame : bytes_in (mounted_in (over (abc ∷ []))) ≡ Ok (codes "abc" ∷ [])
unfolding mounting
one_frame = refl

-- both blocks
two_frames : bytes_in (mounted_in (over (abc ∷ defgh ∷ []))) ≡ Ok (codes "abcdefgh" ∷ [])
unfolding mounting
two_frames = refl

-- their extents
two_extents : extents_in (table_in (over (abc ∷ defgh ∷ []))) ≡ Ok (((record { start = 24584; len = 3 }) ∷ (record { start = 25096; len = 5 }) ∷ []) ∷ [])
unfolding mounting
two_extents = refl

-- one block of a frame of two blocks isn't found
torn_frame : bytes_in (mounted_in (over (abc ∷ long_frame ∷ []))) ≡ Ok (codes "abc" ∷ [])
unfolding mounting
torn_frame = refl

-- both blocks of it are
long_frame_found : extents_in (table_in (over (abc ∷ long_frame ∷ block_of (120 ∷ []) ∷ []))) ≡ Ok (((record { start = 24584; len = 3 }) ∷ (record { start = 25096; len = 505 }) ∷ []) ∷ [])
unfolding mounting
long_frame_found = refl

-- a length of 0 ends the walk
zero_length : bytes_in (mounted_in (over (abc ∷ block_of [] ∷ defgh ∷ []))) ≡ Ok (codes "abc" ∷ [])
unfolding mounting
zero_length = refl

-- a file that isn't sparse gets all blocks as one extent
rest_of_zone : extents_in (table_in (one_log_over (snapshot ((record started { sparse = false }) ∷ []) ∷ []) (abc ∷ defgh ∷ []))) ≡ Ok (((record { start = 24576; len = 1024 }) ∷ []) ∷ [])
unfolding mounting
rest_of_zone = refl
