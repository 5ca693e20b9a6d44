-- A crash while a new log is written.
use Rattle.std.specs.Prelude.{◌≡◌, ℕ, ◌-◌, min, List, ◌++◌, length, take, drop, None, Ok}
use Rattle.std.proofs.Common.{◌∙◌, ap, subst, ⊎_elim, arith}
use Rattle.std.proofs.lemmas.Bool.{cases_lt}
use Rattle.std.proofs.lemmas.List.{take_all, take-append-le}
use Rattle.zone_image.specs.Image.{Image, ZoneCrash, zone_at}
use Rattle.record_model.specs.Decoding.{record_of}
use Rattle.record_model.specs.declared.types.Record.TheVariants.{Snapshot}
use Rattle.superblock_core.specs.declared.superblock.Superblock.{Superblock}
use Rattle.log_model.specs.LogScan.{blocks_of, record_blocks}
use Rattle.log_model.specs.ScanLaws.{IsRecordOf}
use Rattle.log_model.specs.LogSelection.{LogAt}
use Rattle.log_model.specs.FileTable.{Table}
use Rattle.log_model.specs.Mounted.{broken_rule}
use Rattle.log_model.specs.MountedLogLaws.{HasTable, MountsTable}
use Rattle.log_model.specs.NewLogLaws.{IsNextSuperblock, FillsZone}
use Rattle.log_model.specs.CrashLaws.{FilledCrashLeavesPart, NewLogCrashMounts}
use Rattle.log_model.proofs.RecordLaws.{length_record}
use Rattle.log_model.proofs.NewLogLaws.{part_of_superblock, part_of_snapshot}
use Rattle.log_model.proofs.MountedLogLaws.{selected_table_mounts, new_log_mounts}
use Rattle.log_model.proofs.DecodedNames.{replay_makes_table}
use Rattle.log_model.proofs.ReplayedSizes.{replayed_sizes_are_right}
use Rattle.log_model.proofs.CrashLaws.{crashed_zone, durable_zone_stays, take_past}
use Rattle.log_model.proofs.RecordCrash.{take_twice}

pub filled_crash_leaves_part : FilledCrashLeavesPart
filled_crash_leaves_part i filled j zone blocks fills durable crash =
    let it : ZoneCrash (zone_at filled zone) (zone_at j zone) = crashed_zone filled j zone crash in (
      length (zone_at j zone).blocks,
      record {
        metadata = fills.metadata;
        was_empty = fills.was_empty;
        differs = record {
          geometry = crash.geometry ∙ fills.differs.geometry;
          others = λ m less other. durable_zone_stays filled j m crash (durable m less other) ∙ fills.differs.others m less other;
        };
        filled = it.front ∙ ap (take (length (zone_at j zone).blocks)) fills.filled;
      },
    )

-- the first blocks of a new log, however many, leave the table
part_of_new_log : (i j : Image) (zone k : ℕ) (log : LogAt) (greatest : ℕ) (payload snapshot : List ℕ) (s : Superblock) (es : Table) → HasTable i log greatest es
    → IsNextSuperblock i greatest payload s → IsRecordOf i.geometry.block snapshot → record_of snapshot ≡ Ok (Snapshot es)
    → FillsZone zone (take k (record_blocks i.geometry.block payload ++ record_blocks i.geometry.block snapshot)) i j → broken_rule j es ≡ None → MountsTable j es
part_of_new_log i j zone k log greatest payload snapshot s es h next fits reads fills ok =
    let block : ℕ = i.geometry.block in
    let first : List (List ℕ) = record_blocks block payload in
    let second : List (List ℕ) = record_blocks block snapshot in
    let size : length first ≡ blocks_of block (length payload) = length_record block payload in
    let size_of_second : length second ≡ blocks_of block (length snapshot) = length_record block snapshot in
    ⊎_elim
    (λ less.
    let part : take k (first ++ second) ≡ take k first = take-append-le k first second (omega arith) in
    selected_table_mounts j log greatest es
    (record {
      selected = part_of_superblock i j zone k log greatest payload s h.selected next (omega arith) (subst (λ bs. FillsZone zone bs i j) part fills);
      table = h.table;
    })
    ok)
    (λ past.
    let rest : take k (first ++ second) ≡ first ++ take (k - length first) second = take_past first second k past in
    let filled : FillsZone zone (first ++ take (k - length first) second) i j = subst (λ bs. FillsZone zone bs i j) rest fills in
    ⊎_elim
    (λ less.
    selected_table_mounts j log s.sequence es
    (record {
      selected = part_of_snapshot i j zone (k - length first) log greatest payload snapshot s h.selected next fits (omega arith) filled;
      table = h.table;
    })
    ok)
    (λ whole.
    let all : take (k - length first) second ≡ second = take_all (k - length first) second (omega arith) in
    new_log_mounts i j zone log greatest payload snapshot s es h.selected next fits reads
    (replay_makes_table (drop 1 log.scan.payloads) es h.table) (replayed_sizes_are_right (drop 1 log.scan.payloads) es h.table)
    (subst (λ bs. FillsZone zone (first ++ bs) i j) all filled) ok)
    (cases_lt (k - length first) (blocks_of block (length snapshot))))
    (cases_lt k (length first))

pub new_log_crash_mounts : NewLogCrashMounts
new_log_crash_mounts i filled j zone k log greatest payload snapshot s es h next fits reads fills durable crash ok =
    let whole : List (List ℕ) = record_blocks i.geometry.block payload ++ record_blocks i.geometry.block snapshot in
    let left = filled_crash_leaves_part i filled j zone (take k whole) fills durable crash in
    part_of_new_log i j zone (min left.0 k) log greatest payload snapshot s es h next fits reads
    (subst (λ bs. FillsZone zone bs i j) (take_twice left.0 k whole) left.1) ok
