use Rattle.std.proofs.Common.{◌≡◌, take, map}
use Rattle.std.specs.Prelude.{flat_map}
use Rattle.command_model.specs.ReportTexts.{listed_names}
use Rattle.fs_report.specs.Lines.{listed_of}
use Rattle.fs_report.proofs.listing.lines_of.Given as goal

-- the lines of the files so far
abbrev pub invariant-loop-file : goal.invariant-loop-file
invariant-loop-file l = map listed_of l.lines.items ≡ flat_map listed_names (take l.file-index l.files)
