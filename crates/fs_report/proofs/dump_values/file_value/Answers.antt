use Rattle.std.proofs.Common.{◌∙◌, ap}
use Rattle.serde_json.specs.Written.{compact_text, has_float}
use Rattle.fs_report.proofs.DumpTexts.{file_alike, file_whole}
use Rattle.fs_report.proofs.dump_values.file_value.Goals as goal

pub returns-clause-text : goal.returns-clause-text
returns-clause-text c = ap compact_text c.in_ok-value.ensures.data ∙ file_alike c.args.file.now c.in_ok-value.ensures.plain

pub returns-clause-whole : goal.returns-clause-whole
returns-clause-whole c = ap has_float c.in_ok-value.ensures.data ∙ file_whole c.args.file.now
