use Rattle.std.proofs.Common.{◌∙◌, ap}
use Rattle.serde_json.specs.Written.{compact_text, has_float}
use Rattle.fs_report.proofs.DumpTexts.{zone_alike, zone_whole}
use Rattle.fs_report.proofs.dump_values.zone_value.Goals as goal

pub returns-clause-text : goal.returns-clause-text
returns-clause-text c = ap compact_text c.in_ok-value.ensures ∙ zone_alike (c.args.number, c.args.zone.now)

pub returns-clause-whole : goal.returns-clause-whole
returns-clause-whole c = ap has_float c.in_ok-value.ensures ∙ zone_whole (c.args.number, c.args.zone.now)
