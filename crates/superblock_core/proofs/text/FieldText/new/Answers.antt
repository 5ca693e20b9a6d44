use Rattle.superblock_core.proofs.Fields.{padded-of_text}
use Rattle.superblock_core.proofs.text.FieldText.new.Goals as goal

pub invariant_of-result : goal.invariant_of-result
invariant_of-result g c = rw c.copy_from_slice.ensures.after (padded-of_text g.row.N c.args.text.now c.requires)
