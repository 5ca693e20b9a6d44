-- A superblock is read as it was written.
use Rattle.std.proofs.Common.{◌≡◌, ℕ, ◌-◌, ◌^◌, ◌<◌, ◌≤◌, false, not, List, [], ◌∷◌, ◌++◌, length, replicate, Option, Some, Result, Ok, Err, nat_lt, ◌==◌, if◌then◌else◌, refl, ap, ◌∙◌, arith, append_assoc, length-append}
use Rattle.std.proofs.lemmas.List.{append-nil, length-replicate}
use Rattle.std.proofs.lemmas.Bool.Decides.{nat_tests}
use Rattle.std.proofs.lemmas.Nat.{from_le_bytes-to_le_bytes_4}
use Rattle.std.specs.Int.{w32, from_le_bytes}
use Rattle.record_model.specs.Numbers.{u32}
use Rattle.superblock_core.specs.declared.superblock.Superblock.{Superblock}
use Rattle.superblock_core.specs.Text.{padded, text_in, FitsField}
use Rattle.superblock_core.specs.Superblock.{magic, u32_at, uuid_in, uuid_text, id_field, path_field, text_field, with_text, superblock_of, superblock_bytes}
use Rattle.superblock_core.specs.declared.superblock.SbError.{SbError}
use Rattle.superblock_core.specs.declared.superblock.SbError.TheVariants.{Magic, Version, Flags}
use Rattle.superblock_core.proofs.Places.{joined, nth, place_of, field-at}
use Rattle.superblock_core.proofs.PaddedTexts.{text_in-padded}
use Rattle.superblock_core.proofs.IdentifierText.{length-uuid_text, padded-text, uuid_in-field}

-- what the type of a superblock's fields says, and that it is written by this version
pub record IsWritable (s : Superblock) : Type 0 where
  pub id : s.id < 2 ^ 128
  pub sequence : s.sequence < 2 ^ 32
  pub flags : s.flags ≤ 1
  pub block : s.block < 2 ^ 32
  pub zone_blocks : s.zone_blocks < 2 ^ 32
  pub zones : s.zones < 2 ^ 32
  pub finish_threshold : s.finish_threshold < 2 ^ 32
  pub aux_path : FitsField 256 s.aux_path
  pub version_text : FitsField 64 s.version_text

-- the fields in their order
fields : Superblock → List (List ℕ)
fields s =
    u32 magic ∷ padded 37 (uuid_text s.id) ∷ u32 s.sequence ∷ u32 2 ∷ u32 s.flags ∷ u32 s.block ∷ u32 s.zone_blocks ∷ u32 s.zones ∷ u32 s.finish_threshold
    ∷ padded 256 s.aux_path ∷ padded 64 s.version_text ∷ replicate 123 0 ∷ []

regrouped : (a b c d e f g h i j k l : List ℕ)
    → a ++ b ++ c ++ d ++ e ++ f ++ g ++ h ++ i ++ j ++ k ++ l
    ≡ a ++ (b ++ (c ++ (d ++ (e ++ (f ++ (g ++ (h ++ (i ++ (j ++ (k ++ (l ++ [])))))))))))
regrouped a b c d e f g h i j k l = simp (append_assoc, append-nil)

in_fields : (s : Superblock) → superblock_bytes s ≡ joined (fields s)
unfolding superblock_bytes fields
in_fields s =
    regrouped (u32 magic) (padded 37 (uuid_text s.id)) (u32 s.sequence) (u32 2) (u32 s.flags) (u32 s.block) (u32 s.zone_blocks) (u32 s.zones) (u32 s.finish_threshold)
    (padded 256 s.aux_path) (padded 64 s.version_text) (replicate 123 0)

length-padded : (n : ℕ) (text : List ℕ) → FitsField n text → length (padded n text) ≡ n
length-padded n text fits = omega (arith, length-append text (replicate (n - length text) 0), length-replicate {A = ℕ} (n - length text) 0, fits.room)

length-identifier : (id : ℕ) → length (padded 37 (uuid_text id)) ≡ 37
length-identifier id =
    let whole = padded-text id (uuid_text id) refl in
    omega (arith, ap length whole, length-append (uuid_text id) (0 ∷ []), length-uuid_text id)

-- the number of a field
number-at : (s : Superblock) (n at : ℕ) (value : ℕ) → nth n (fields s) ≡ u32 value → value < 2 ^ 32 → place_of n (fields s) ≡ at → u32_at at (superblock_bytes s) ≡ value
number-at s n at value is fits place =
    ap (from_le_bytes w32) (field-at (superblock_bytes s) (fields s) n at 4 (in_fields s) place (ap length is) ∙ is) ∙ from_le_bytes-to_le_bytes_4 value fits

-- what a superblock is read from
assembled : (magic_number version flags : ℕ) → Option ℕ → Option (List ℕ) → Option (List ℕ) → (sequence block zone_blocks zones threshold : ℕ) → Result Superblock SbError
assembled magic_number version flags id path text sequence block zone_blocks zones threshold =
    if not (magic_number == magic) then Err Magic
    else if not (version == 2) then Err (Version version)
    else if nat_lt 1 flags then Err (Flags flags)
    else with_text 4 id (λ id. with_text 69 path (λ path. with_text 325 text (λ text. Ok (record {
      id = id;
      sequence = sequence;
      flags = flags;
      block = block;
      zone_blocks = zone_blocks;
      zones = zones;
      finish_threshold = threshold;
      aux_path = path;
      version_text = text;
    }))))

superblock_of-assembled : (bytes : List ℕ) → superblock_of bytes
    ≡ assembled (u32_at 0 bytes) (u32_at 45 bytes) (u32_at 49 bytes) (uuid_in (id_field bytes)) (text_in (path_field bytes)) (text_in (text_field bytes))
    (u32_at 41 bytes) (u32_at 53 bytes) (u32_at 57 bytes) (u32_at 61 bytes) (u32_at 65 bytes)
unfolding superblock_of assembled
superblock_of-assembled bytes = refl

assembled-is : (s : Superblock) → s.flags ≤ 1
    → assembled magic 2 s.flags (Some s.id) (Some s.aux_path) (Some s.version_text) s.sequence s.block s.zone_blocks s.zones s.finish_threshold ≡ Ok s
unfolding assembled
assembled-is s known =
    let none : nat_lt 1 s.flags ≡ false = grind (arith, nat_tests) in
    rw none refl

superblock_of-parts : (bytes : List ℕ) (s : Superblock) → s.flags ≤ 1 → u32_at 0 bytes ≡ magic → u32_at 45 bytes ≡ 2 → u32_at 49 bytes ≡ s.flags
    → uuid_in (id_field bytes) ≡ Some s.id → text_in (path_field bytes) ≡ Some s.aux_path → text_in (text_field bytes) ≡ Some s.version_text
    → u32_at 41 bytes ≡ s.sequence → u32_at 53 bytes ≡ s.block → u32_at 57 bytes ≡ s.zone_blocks → u32_at 61 bytes ≡ s.zones → u32_at 65 bytes ≡ s.finish_threshold
    → superblock_of bytes ≡ Ok s
superblock_of-parts bytes s known m v f id path text sequence block zone_blocks zones threshold =
    let read = superblock_of-assembled bytes in
    let made = assembled-is s known in
    cc

-- what the fields of a superblock are written as, one after the other
pub superblock_bytes-pieces : (s : Superblock) (m i q v f b z n t p x r : List ℕ) → m ≡ u32 magic → i ≡ padded 37 (uuid_text s.id) → q ≡ u32 s.sequence → v ≡ u32 2
    → f ≡ u32 s.flags → b ≡ u32 s.block → z ≡ u32 s.zone_blocks → n ≡ u32 s.zones → t ≡ u32 s.finish_threshold → p ≡ padded 256 s.aux_path → x ≡ padded 64 s.version_text
    → r ≡ replicate 123 0 → m ++ i ++ q ++ v ++ f ++ b ++ z ++ n ++ t ++ p ++ x ++ r ≡ superblock_bytes s
unfolding superblock_bytes
superblock_bytes-pieces s m i q v f b z n t p x r m-is i-is q-is v-is f-is b-is z-is n-is t-is p-is x-is r-is =
    rw (m-is, i-is, q-is, v-is, f-is, b-is, z-is, n-is, t-is, p-is, x-is, r-is) refl

-- a piece is added behind a front
pub added : (new old front piece : List ℕ) → new ≡ old ++ piece → old ≡ front → new ≡ front ++ piece
added new old front piece is before = is ∙ ap (λ o. o ++ piece) before

module _ (s : Superblock) (ok : IsWritable s) where
  text_lengths : (length (padded 37 (uuid_text s.id)) ≡ 37) × (length (padded 256 s.aux_path) ≡ 256) × (length (padded 64 s.version_text) ≡ 64)
  text_lengths = (length-identifier s.id, length-padded 256 s.aux_path ok.aux_path, length-padded 64 s.version_text ok.version_text)

  magic_is : u32_at 0 (superblock_bytes s) ≡ magic
  unfolding fields
  magic_is = number-at s 0 0 magic refl (omega arith) refl

  sequence_is : u32_at 41 (superblock_bytes s) ≡ s.sequence
  unfolding fields
  sequence_is = number-at s 2 41 s.sequence refl ok.sequence (omega (arith, text_lengths.0))

  version_is : u32_at 45 (superblock_bytes s) ≡ 2
  unfolding fields
  version_is = number-at s 3 45 2 refl (omega arith) (omega (arith, text_lengths.0))

  flags_are : u32_at 49 (superblock_bytes s) ≡ s.flags
  unfolding fields
  flags_are = number-at s 4 49 s.flags refl (omega (arith, ok.flags)) (omega (arith, text_lengths.0))

  block_is : u32_at 53 (superblock_bytes s) ≡ s.block
  unfolding fields
  block_is = number-at s 5 53 s.block refl ok.block (omega (arith, text_lengths.0))

  zone_blocks_are : u32_at 57 (superblock_bytes s) ≡ s.zone_blocks
  unfolding fields
  zone_blocks_are = number-at s 6 57 s.zone_blocks refl ok.zone_blocks (omega (arith, text_lengths.0))

  zones_are : u32_at 61 (superblock_bytes s) ≡ s.zones
  unfolding fields
  zones_are = number-at s 7 61 s.zones refl ok.zones (omega (arith, text_lengths.0))

  finish_threshold_is : u32_at 65 (superblock_bytes s) ≡ s.finish_threshold
  unfolding fields
  finish_threshold_is = number-at s 8 65 s.finish_threshold refl ok.finish_threshold (omega (arith, text_lengths.0))

  id_is : uuid_in (id_field (superblock_bytes s)) ≡ Some s.id
  unfolding fields
  id_is =
      ap uuid_in (field-at (superblock_bytes s) (fields s) 1 4 37 (in_fields s) refl text_lengths.0) ∙ uuid_in-field s.id ok.id

  path_is : text_in (path_field (superblock_bytes s)) ≡ Some s.aux_path
  unfolding fields
  path_is =
      ap text_in (field-at (superblock_bytes s) (fields s) 9 69 256 (in_fields s) (omega (arith, text_lengths.0)) text_lengths.1)
      ∙ text_in-padded 256 s.aux_path ok.aux_path

  text_is : text_in (text_field (superblock_bytes s)) ≡ Some s.version_text
  unfolding fields
  text_is =
      ap text_in (field-at (superblock_bytes s) (fields s) 10 325 64 (in_fields s) (omega (arith, text_lengths.0, text_lengths.1)) text_lengths.2)
      ∙ text_in-padded 64 s.version_text ok.version_text

  pub superblock_of-bytes : superblock_of (superblock_bytes s) ≡ Ok s
  superblock_of-bytes =
      superblock_of-parts (superblock_bytes s) s ok.flags magic_is version_is flags_are id_is path_is text_is sequence_is block_is zone_blocks_are zones_are
      finish_threshold_is
