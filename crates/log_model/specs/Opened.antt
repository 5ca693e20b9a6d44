-- What a computed example opens: the name of one of these stands for all that is on its line.
use Rattle.std.specs.Prelude.{ℕ, List, Result}
use Rattle.std.specs.Str.{is_utf8, chars}
use lib.Utf8
use Rattle.zone_image.specs.Image.{Image}
use Rattle.record_model.specs.Name.{is_name}
use Rattle.record_model.specs.Numbers.{varint}
use Rattle.record_model.specs.Encoding.{payload_of, entry_bytes}
use Rattle.record_model.specs.FieldDecoding.{slice_at}
use Rattle.record_model.specs.Decoding.{record_of, entry_at}
use Rattle.crc32c_core.specs.Checksum.{crc32c, masked}
use Rattle.uuid.specs.Text.{by_index}
use Rattle.superblock_core.specs.Superblock.{superblock_bytes, superblock_of, uuid_text}
use Rattle.log_model.specs.LogScan.{Scan, record_blocks, scan, scan_within, first_item}
use Rattle.log_model.specs.LogSelection.{select_log}
use Rattle.log_model.specs.FileTable.{Table, replay_log, after_record}
use Rattle.log_model.specs.FileTree.{Tree}
use Rattle.log_model.specs.Frames.{frames_at}
use Rattle.log_model.specs.Mounted.{table_of, table_in, mounted_in}
use Rattle.log_model.specs.declared.selection.Refusal.{Refusal}
use Rattle.log_model.specs.declared.selection.DamageWhy.{DamageWhy}

-- a scan, down to the bytes that were written
unfoldable pub scanning : ℕ → List (List ℕ) → Scan
unfolding scan scan_within first_item record_blocks superblock_bytes uuid_text by_index payload_of entry_bytes varint crc32c masked
scanning block blocks = scan block blocks

-- a replay, down to the bytes of its payloads
unfoldable pub replaying : List (ℕ × List ℕ) → Result Table (ℕ × DamageWhy)
unfolding replay_log after_record record_of entry_at slice_at payload_of entry_bytes varint is_name is_utf8 chars Utf8.encode
replaying payloads = replay_log payloads

-- a mount, down to the bytes of the image
unfoldable pub mounting : Image → Result Tree Refusal
unfolding scanning replaying superblock_of select_log frames_at table_of table_in mounted_in
mounting i = mounted_in i
