use Rattle.std.proofs.Common.{sym, ◌∙◌, arith}
use Rattle.superblock_core.proofs.Fields.{FitsField-of_str}
use Rattle.superblock_core.proofs.text.VersionText.read.Goals as goal

pub new-requires : goal.new-requires
new-requires c = (
  omega arith,
  FitsField-of_str _ c.as_bytes.result.now c.args.text.now c.as_bytes.ensures.value c.as_bytes.ensures.utf8 c.if-text-ge-VERSION_FIELD.false
      (sym c.has_no_control.ensures ∙ c.if-not-has_no_control.false),
)
