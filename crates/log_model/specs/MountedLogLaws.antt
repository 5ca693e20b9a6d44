-- What an image mounts to while its log gets a record, or is followed by a new one.
use Rattle.std.specs.Prelude.{◌≡◌, ℕ, ◌<◌, false, List, ◌++◌, length, take, drop, map, None, Ok}
use Rattle.zone_image.specs.Image.{Image}
use Rattle.record_model.specs.Decoding.{record_of}
use Rattle.record_model.specs.declared.types.Record.{Record}
use Rattle.record_model.specs.declared.types.Record.TheVariants.{Snapshot}
use Rattle.superblock_core.specs.declared.superblock.Superblock.{Superblock}
use Rattle.log_model.specs.LogScan.{blocks_of, record_blocks, has_end}
use Rattle.log_model.specs.LogScan.ScanEnd.{Clean}
use Rattle.log_model.specs.ScanLaws.{IsRecordOf}
use Rattle.log_model.specs.LogSelection.{LogAt}
use Rattle.log_model.specs.FileTable.{Table, after_record, replay_log}
use Rattle.log_model.specs.Mounted.{recovered_entry, broken_rule, table_in, tree_of, mounted_in}
use Rattle.log_model.specs.TableLaws.{IsTable, AreSized}
use Rattle.log_model.specs.AppendLaws.{IsSelectedOn, AppendsTo}
use Rattle.log_model.specs.NewLogLaws.{IsNextSuperblock, FillsZone}

-- the image's log replays to this table
pub record HasTable (i : Image) (log : LogAt) (greatest : ℕ) (es : Table) : Type 0 where
  pub selected : IsSelectedOn i log greatest
  pub table : replay_log (drop 1 log.scan.payloads) ≡ Ok es

-- an image mounts to the table of its log, with what is found of sparse files
pub record MountsTable (i : Image) (es : Table) : Type 0 where
  pub table : table_in i ≡ Ok (map (recovered_entry i) es)
  pub tree : mounted_in i ≡ Ok (tree_of i (map (recovered_entry i) es))

-- the table of the log that is selected mounts where it breaks no rule
abbrev pub SelectedTableMounts : Type 0
SelectedTableMounts = (i : Image) (log : LogAt) (greatest : ℕ) (es : Table) → HasTable i log greatest es → broken_rule i es ≡ None → MountsTable i es

-- a record behind the log: the table after it mounts
abbrev pub RecordMounts : Type 0
RecordMounts = (i j : Image) (log : LogAt) (greatest : ℕ) (payload : List ℕ) (r : Record) (es next : Table) → HasTable i log greatest es
    → log.scan.end ≡ Clean → has_end log.scan.payloads ≡ false → IsRecordOf i.geometry.block payload → record_of payload ≡ Ok r → after_record r es ≡ Ok next
    → AppendsTo log.zone (record_blocks i.geometry.block payload) i j → broken_rule j next ≡ None → MountsTable j next

-- a part of it: the table before it mounts
abbrev pub PartMounts : Type 0
PartMounts = (i j : Image) (log : LogAt) (greatest k : ℕ) (payload : List ℕ) (es : Table) → HasTable i log greatest es
    → log.scan.end ≡ Clean → IsRecordOf i.geometry.block payload → 0 < k → k < blocks_of i.geometry.block (length payload)
    → AppendsTo log.zone (take k (record_blocks i.geometry.block payload)) i j → broken_rule j es ≡ None → MountsTable j es

-- a new log with the snapshot of a table: that table mounts
abbrev pub NewLogMounts : Type 0
NewLogMounts = (i j : Image) (zone : ℕ) (log : LogAt) (greatest : ℕ) (payload snapshot : List ℕ) (s : Superblock) (es : Table) → IsSelectedOn i log greatest
    → IsNextSuperblock i greatest payload s → IsRecordOf i.geometry.block snapshot → record_of snapshot ≡ Ok (Snapshot es)
    → IsTable es → AreSized es
    → FillsZone zone (record_blocks i.geometry.block payload ++ record_blocks i.geometry.block snapshot) i j → broken_rule j es ≡ None → MountsTable j es
