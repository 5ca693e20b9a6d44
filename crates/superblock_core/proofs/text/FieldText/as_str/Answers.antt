use Rattle.superblock_core.proofs.Fields.{utf8-of_text}
use Rattle.superblock_core.proofs.text.FieldText.as_str.Goals as goal

pub unreachable-requires : goal.unreachable-requires
unreachable-requires g c = c.in-Err.ensures.cases.0 (utf8-of_text c.bytes.result.now c.bytes.ensures.fits.text)
