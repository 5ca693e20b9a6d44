-- Records in the blocks of a zone.
use Rattle.std.specs.Prelude.{ℕ, zero, suc, ◌+◌, ◌*◌, ◌-◌, Bool, true, false, List, [], ◌∷◌, ◌++◌, length, take, drop, replicate, nat_lt, ◌==◌, if◌then◌else◌}
use Rattle.std.specs.Int.{div_ceil}
use Rattle.std.specs.List.{concat, list_any}
use Rattle.std.specs.Str.{bytes_eq}
use Rattle.zone_image.specs.Changes.{chunks}
use Rattle.record_model.specs.Numbers.{u32}
use Rattle.crc32c_core.specs.Checksum.{crc32c, masked}
use Rattle.superblock_core.specs.Superblock.{u32_at}

-- the blocks of a record whose payload has this length
abbrev pub blocks_of : ℕ → ℕ → ℕ
blocks_of block len = div_ceil (8 + len) block

-- the checksum of a payload, as it is stored
abbrev pub record_sum : List ℕ → ℕ
record_sum payload = masked (crc32c (u32 (length payload) ++ payload))

-- the bytes of a record
abbrev pub record_bytes : List ℕ → List ℕ
record_bytes payload = u32 (record_sum payload) ++ u32 (length payload) ++ payload

-- so many blocks of a record, filled up with zeros
abbrev pub padded_blocks : ℕ → ℕ → List ℕ → List (List ℕ)
padded_blocks n block payload = chunks block n (record_bytes payload ++ replicate (block * n - (8 + length payload)) 0)

-- the blocks of a record: its checksum, its length, its payload, and zeros
unfoldable pub record_blocks : ℕ → List ℕ → List (List ℕ)
record_blocks block payload = padded_blocks (blocks_of block (length payload)) block payload

-- what stands first in some blocks: nothing, a record that needs more of them, a wrong one, or a whole one
pub data Item : Type 0 where
  NoMore : Item
  Unfinished : Item
  Wrong : (len stored computed : ℕ) → Item
  Whole : (count : ℕ) → (payload : List ℕ) → Item

-- the record of a stated length, whose checksum should be this one
abbrev pub item_of : ℕ → ℕ → List ℕ → ℕ → Item
item_of count len bytes computed =
    if len == 0 then Wrong 0 (u32_at 0 bytes) computed
    else if u32_at 0 bytes == computed then Whole count (take len (drop 8 bytes))
    else Wrong len (u32_at 0 bytes) computed

-- the record that the bytes of its blocks hold
abbrev pub whole_item : ℕ → ℕ → List ℕ → Item
whole_item count len bytes = item_of count len bytes (record_sum (take len (drop 8 bytes)))

-- the record of a stated length, where all its blocks are there
abbrev pub sized_item : ℕ → ℕ → List (List ℕ) → Item
sized_item count len blocks =
    if nat_lt (length blocks) count then Unfinished else whole_item count len (concat (take count blocks))

-- the first record of some blocks
unfoldable pub first_item : ℕ → List (List ℕ) → Item
first_item block [] = NoMore
first_item block (b ∷ bs) = sized_item (blocks_of block (u32_at 4 b)) (u32_at 4 b) (b ∷ bs)

-- how a log ends: with no rest, in a record that needs more blocks, or in a wrong one
pub data ScanEnd : Type 0 where
  Clean : ScanEnd
  Torn : (block : ℕ) → ScanEnd
  Bad : (block len stored computed : ℕ) → ScanEnd

-- the payloads of a log with their first blocks, and its end
pub record Scan : Type 0 where
  pub payloads : List (ℕ × List ℕ)
  pub end : ScanEnd

-- one more payload in front
abbrev pub with_payload : ℕ → List ℕ → Scan → Scan
with_payload at payload c = record { payloads = (at, payload) ∷ c.payloads; end = c.end }

-- the scan of a log that begins with this record
abbrev pub scan_after : ℕ → Item → (ℕ → Scan) → Scan
scan_after at NoMore others = record { payloads = []; end = Clean }
scan_after at Unfinished others = record { payloads = []; end = Torn at }
scan_after at (Wrong len stored computed) others = record { payloads = []; end = Bad at len stored computed }
scan_after at (Whole count payload) others = with_payload at payload (others count)

-- the log in these blocks; a record takes at least one, so k bounds them
unfoldable pub scan_within : ℕ → ℕ → ℕ → List (List ℕ) → Scan
scan_within zero block at blocks = record { payloads = []; end = Clean }
scan_within (suc k) block at blocks =
    scan_after at (first_item block blocks) (λ count. scan_within k block (at + count) (drop count blocks))

-- the log in these blocks, of which the first has this number
abbrev pub scan_from : ℕ → ℕ → List (List ℕ) → Scan
scan_from block at blocks = scan_within (length blocks) block at blocks

-- the log in the blocks of a zone
unfoldable pub scan : ℕ → List (List ℕ) → Scan
scan block blocks = scan_from block 0 blocks

-- an end record is among the payloads
abbrev pub has_end : List (ℕ × List ℕ) → Bool
has_end payloads = list_any (λ p. bytes_eq p.1 (u32 4)) payloads

-- a log that ends with no rest
abbrev pub is_clean : ScanEnd → Bool
is_clean Clean = true
is_clean _ = false
