use Rattle.std.proofs.Common.{◌≡◌, ◌++◌, ◌-◌, ◌^◌, map}
use Rattle.std.specs.Prelude.{flat_map}
use Rattle.log_model.specs.TableLaws.{IdsRise}
use Rattle.command_model.specs.ReportTexts.{listed_names}
use Rattle.extent_map.specs.Records.{recorded_of}
use Rattle.fs_report.specs.Lines.{listed_of}
use Rattle.zenfs_cmd.specs.Walks.{HaveIds, rest_from}
use Rattle.zenfs_cmd.proofs.lines.lines_in.Given as goal

abbrev pub invariant-loop-file : goal.invariant-loop-file
invariant-loop-file l = IdsRise 0 (recorded_of l.files.rows) → HaveIds (recorded_of l.files.rows)
    → map listed_of l.lines.items ++ flat_map listed_names (rest_from l.from (recorded_of l.files.rows)) ≡ flat_map listed_names (recorded_of l.files.rows)

abbrev pub decreases-loop-file : goal.decreases-loop-file
decreases-loop-file l = 2 ^ 64 - l.from
