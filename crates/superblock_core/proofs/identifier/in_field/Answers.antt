use Rattle.std.proofs.Common.{sym, arith}
use Rattle.std.proofs.lemmas.List.{length-take-le}
use Rattle.superblock_core.proofs.identifier.in_field.Goals as goal

pub slice_bounds-from_text-end : goal.slice_bounds-from_text-end
slice_bounds-from_text-end c = sym (length-take-le 36 c.args.field.now (omega arith))
