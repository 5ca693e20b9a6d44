use Rattle.std.proofs.Common.{◌≡◌, cond, arith}
use Rattle.record_codec.proofs.Entries.{entry_len}
use Rattle.record_codec.proofs.length.entry_len.Goals as goal
use Rattle.record_codec.proofs.length.entry_len.Goals.{then-file, else-file}

pub returns : goal.returns
returns c =
    let mark : c.if-file.sparse ≡ cond c.args.file.now.sparse 4 0 = elim c.if-file.branch [ then-file w ↦ grind arith | else-file w ↦ grind arith ] in
    let names = rw c.items-2.ensures at c.names_len-names.ensures in
    let extents = rw c.items.ensures at c.saturating_mul-extents.ensures in
    omega (arith, entry_len c.args.file.now, mark, names, extents)
