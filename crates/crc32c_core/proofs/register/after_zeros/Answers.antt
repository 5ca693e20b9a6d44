use Rattle.std.proofs.Common.{refl, sym, ◌∙◌, arith}
use Rattle.crc32c_core.proofs.Shifts.{bit_shift, shifted}
use Rattle.crc32c_core.proofs.Lookups.{register_after-byte_zeros}
use Rattle.crc32c_core.proofs.Rows.{rows, bytes_in_order, entry-of_table}
use Rattle.crc32c_core.proofs.register.after_zeros.Goals as goal

-- the table is computed here, entry by entry
pub returns : goal.returns
unfolding rows bytes_in_order shifted bit_shift
returns c =
    entry-of_table _ c.args.zeros c.args.byte _ refl c.requires (omega arith) ∙ sym (register_after-byte_zeros c.args.zeros c.args.byte)
