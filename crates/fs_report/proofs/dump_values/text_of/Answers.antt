use Rattle.std.proofs.Common.{◌∙◌, ap, sym}
use Rattle.std.proofs.lemmas.Str.{IsUtf8-from_is_utf8}
use Rattle.fs_report.proofs.DumpTexts.{name_is_plain, name_is_utf8}
use Rattle.fs_report.specs.DumpValues.{is_plain}
use Rattle.fs_report.proofs.dump_values.text_of.Goals as goal

pub unreachable-requires : goal.unreachable-requires
unreachable-requires c = c.in-Err.ensures.cases.0 (IsUtf8-from_is_utf8 c.items.result.now (name_is_utf8 c.items.result.now c.items.ensures.rule))

pub returns-clause-plain : goal.returns-clause-plain
returns-clause-plain c = ap is_plain (sym c.items.ensures.bytes) ∙ name_is_plain c.items.result.now c.items.ensures.rule
