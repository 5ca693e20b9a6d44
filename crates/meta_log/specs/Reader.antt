-- A reader of the records of a zone, one by one.
use Rattle.std.specs.Prelude.{◌≡◌, ℕ, ◌+◌, ◌-◌, ◌*◌, ◌^◌, ◌<◌, ◌≤◌, ⊤, List, [], length, take, drop, Option, Some, None}
use Rattle.std.specs.List.{concat}
use Rattle.zone_image.specs.Image.{Image, zone_at}
use Rattle.zone_image.specs.Changes.{bytes_at}
use Rattle.log_model.specs.LogScan.{Item, Scan, ScanEnd, blocks_of, first_item, scan_from, with_payload}
use Rattle.log_model.specs.LogScan.Item.{NoMore, Unfinished, Wrong, Whole}
use Rattle.log_model.specs.LogScan.ScanEnd.{Clean, Torn, Bad}
use Rattle.meta_log.specs.declared.item.LogEnd.TheVariants as log_end
use Rattle.meta_log.specs.declared.item.Found.{Found}
use Rattle.meta_log.specs.declared.item.Found.TheVariants as found
use Rattle.meta_log.specs.declared.item.LogItem.{LogItem}
use Rattle.meta_log.specs.declared.item.LogItem.TheVariants as log_item

-- a reader: its zone, the device's block size and window, the zone's written blocks, the next block, the end that it
-- found, and the bytes that it holds of the blocks from the next one on
pub record ReaderState : Type 0 where
  pub zone : ℕ
  pub block_size : ℕ
  pub window : ℕ
  pub written : ℕ
  pub next : ℕ
  pub ended : Option ScanEnd
  pub held : List ℕ

-- the last blocks of a buffer
abbrev pub last_blocks : ℕ → ℕ → List ℕ → List ℕ
last_blocks block_size kept buffer = drop (length buffer - kept * block_size) buffer

-- a reader passes over no more blocks than are written, and keeps no more than its window and its buffer have
pub record IsReader (next written kept window block_size : ℕ) (buffer : List ℕ) : Type 0 where
  pub within : next ≤ written
  pub few : kept ≤ window
  pub there : kept * block_size ≤ length buffer

-- what a reader holds are the first bytes of the blocks of this image that stand from its next one on
abbrev pub IsHeld : ReaderState → Image → Type 0
IsHeld s i = s.held ≡ take (length s.held) (concat (drop s.next (zone_at i s.zone).blocks))

-- the payload of the next record, of this length and so many blocks
abbrev pub payload_at : ReaderState → Image → ℕ → ℕ → List ℕ
payload_at s i len count = take len (drop 8 (bytes_at i s.zone s.next count))

-- a reader of the same zone, wherever it stands there
pub record IsSameLog (old new : ReaderState) : Type 0 where
  pub zone : new.zone ≡ old.zone
  pub block_size : new.block_size ≡ old.block_size
  pub window : new.window ≡ old.window
  pub written : new.written ≡ old.written

-- a reader at the same place of the same log, whatever it holds
pub record IsSamePlace (old new : ReaderState) : Type 0 where
  pub zone : new.zone ≡ old.zone
  pub block_size : new.block_size ≡ old.block_size
  pub window : new.window ≡ old.window
  pub written : new.written ≡ old.written
  pub next : new.next ≡ old.next
  pub ended : new.ended ≡ old.ended

-- the item that stands at a block
abbrev pub item_at : ℕ → Item → LogItem
item_at at NoMore = log_item.Clean
item_at at Unfinished = log_item.Torn at
item_at at (Wrong len stored computed) = log_item.Bad at len stored computed
item_at at (Whole count payload) = log_item.Payload at payload

-- an end as an item
abbrev pub end_item : ScanEnd → LogItem
end_item Clean = log_item.Clean
end_item (Torn block) = log_item.Torn block
end_item (Bad block len stored computed) = log_item.Bad block len stored computed

-- the end that was found before, or this item
abbrev pub unless_ended : Option ScanEnd → LogItem → LogItem
unless_ended None item = item
unless_ended (Some end) item = end_item end

-- what was found, as the first record of the blocks that are left
abbrev pub first_of : Found → Item
first_of (found.Record count bytes) = Whole count bytes
first_of (found.End log_end.Clean) = NoMore
first_of (found.End (log_end.Torn block)) = Unfinished
first_of (found.End (log_end.Bad block len stored computed)) = Wrong len stored computed

-- an end names the block at which it was found
abbrev pub IsPlaced : ℕ → Found → Type 0
IsPlaced at (found.End (log_end.Torn block)) = block ≡ at
IsPlaced at (found.End (log_end.Bad block len stored computed)) = block ≡ at
IsPlaced at _ = ⊤

-- a record of this length and of so many blocks, or an end
abbrev pub IsRecordOf : ℕ → ℕ → Found → Type 0
IsRecordOf len blocks (found.Record count bytes) = (length bytes ≡ len) × (count ≡ blocks)
IsRecordOf len blocks (found.End end) = ⊤

-- a record has as many blocks as its length asks for, these are left, and its length is one of 32 bits
abbrev pub IsCounted : ReaderState → Found → Type 0
IsCounted s (found.Record count bytes) = (count ≡ blocks_of s.block_size (length bytes)) × (s.next + count ≤ s.written) × (length bytes < 2 ^ 32)
IsCounted s (found.End end) = ⊤

-- nothing but the end that was found before, or this
abbrev pub unless_over : Option ScanEnd → Scan → Scan
unless_over None rest = rest
unless_over (Some end) rest = record { payloads = []; end = end }

-- what a reader finds in these blocks of its zone
abbrev pub next_item : ReaderState → List (List ℕ) → LogItem
next_item s blocks = unless_ended s.ended (item_at s.next (first_item s.block_size (drop s.next blocks)))

-- a payload is shorter than 2 ^ 32 bytes
abbrev pub IsShort : LogItem → Type 0
IsShort (log_item.Payload block bytes) = length bytes < 2 ^ 32
IsShort _ = ⊤

-- what is left to scan of these blocks of a zone
abbrev pub scan_left : ReaderState → List (List ℕ) → Scan
scan_left s blocks = unless_over s.ended (scan_from s.block_size s.next (drop s.next blocks))

-- an item before what is left to scan
abbrev pub with_item : LogItem → Scan → Scan
with_item (log_item.Payload block bytes) rest = with_payload block bytes rest
with_item log_item.Clean rest = record { payloads = []; end = Clean }
with_item (log_item.Torn block) rest = record { payloads = []; end = Torn block }
with_item (log_item.Bad block len stored computed) rest = record { payloads = []; end = Bad block len stored computed }

-- the reader behind an item, but for what it holds
abbrev pub reader_after : ReaderState → LogItem → ReaderState
reader_after s (log_item.Payload block bytes) = record s { next = s.next + blocks_of s.block_size (length bytes) }
reader_after s log_item.Clean = record s { ended = Some Clean }
reader_after s (log_item.Torn block) = record s { ended = Some (Torn block) }
reader_after s (log_item.Bad block len stored computed) = record s { ended = Some (Bad block len stored computed) }
