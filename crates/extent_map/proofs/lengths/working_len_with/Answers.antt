use Rattle.std.proofs.Common.{◌≡◌, ℕ, cond, ap, arith}
use Rattle.record_model.specs.declared.types.FileEntry.{FileEntry}
use Rattle.fs_model.specs.TreeSteps.{with_names}
use Rattle.extent_map.proofs.LengthLaws.{working_entry_len}
use Rattle.extent_map.proofs.lengths.working_len_with.Goals as goal

-- the bytes of a mark
abbrev mark_len : FileEntry → ℕ
mark_len e = cond e.sparse 4 0

pub returns : goal.returns
returns c = λ names h.
    let mark : mark_len c.entry-entry.result.now ≡ mark_len c.args.row.now.entry = ap (λ (e : FileEntry). mark_len e) c.entry-entry.ensures.value in
    let recorded = rw (c.items.ensures, c.entry-entry.ensures.value) at c.saturating_mul-recorded.ensures in
    let unrecorded = rw c.unrecorded.ensures at c.saturating_mul-unrecorded.ensures in
    omega (arith, working_entry_len (with_names names c.args.row.now), mark, h, recorded, unrecorded)
