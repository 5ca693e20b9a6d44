use Rattle.std.proofs.Common.{◌≡◌, [], ◌++◌, ◌-◌, ◌^◌}
use Rattle.std.specs.Prelude.{flat_map}
use Rattle.log_model.specs.TableLaws.{IdsRise}
use Rattle.extent_map.specs.Records.{recorded_of}
use Rattle.zenfs_cmd.specs.Walks.{HaveIds, rest_from}
use Rattle.zenfs_cmd.proofs.DumpWalks.{file_part}
use Rattle.zenfs_cmd.proofs.dumped.dump_of_table.Given as goal

abbrev pub invariant-loop-file : goal.invariant-loop-file
invariant-loop-file l =
    (l.dump.zones ≡ [])
    × (IdsRise 0 (recorded_of l.files.rows) → HaveIds (recorded_of l.files.rows)
    → l.dump.files ++ flat_map file_part (rest_from l.from (recorded_of l.files.rows)) ≡ flat_map file_part (recorded_of l.files.rows))

abbrev pub decreases-loop-file : goal.decreases-loop-file
decreases-loop-file l = 2 ^ 64 - l.from
