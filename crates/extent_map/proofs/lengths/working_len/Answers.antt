use Rattle.extent_map.proofs.lengths.working_len.Goals as goal

pub returns : goal.returns
returns c = c.working_len_with.ensures c.args.row.now.entry.names (rw (c.items.ensures, c.entry.ensures.value) at c.names_len.ensures)
