use Rattle.std.proofs.Common.{◌≡◌, ℕ, true, [], ◌∷◌, ◌==◌, cond, length, length-append, ap, sym, ◌∙◌, arith}
use Rattle.std.proofs.lemmas.Bool.{eq-eqb}
use Rattle.record_model.specs.Encoding.{entry_bytes}
use Rattle.fs_model.specs.FsState.{TableRow, working_entry}
use Rattle.extent_map.specs.ExtentLengths.{row_with_extent, with_one_extent}
use Rattle.extent_map.proofs.LengthLaws.{working_entry_len}
use Rattle.extent_map.proofs.extent_lengths.len_with_extent.Goals as goal

pub returns-then-id : goal.returns-then-id
returns-then-id c =
    let row = c.args.row.now in
    let same : (row.entry.id == c.args.id) ≡ true = eq-eqb row.entry.id c.args.id (sym c.id.ensures ∙ c.if-id.true) in
    let more : row_with_extent c.args.id row ≡ with_one_extent row = ap (λ b. cond b (with_one_extent row) row) same in
    let whole = ap (λ (r : TableRow). length (entry_bytes (working_entry r))) more in
    let one = length-append row.unrecorded ((record { start = 0; len = 1 }) ∷ []) in
    omega (arith, whole, one, working_entry_len row, working_entry_len (with_one_extent row), c.working_len-len.ensures, c.saturating_add.ensures)
