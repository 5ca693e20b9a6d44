use Rattle.record_codec.proofs.Entries.{entry_appended}
use Rattle.record_codec.proofs.encoder.push_entry.Goals as goal

pub returns : goal.returns
returns c =
    entry_appended c.push_names.result _ _ _ _ _ _ _ _ _ c.args.file.now
    c.in_ok-push_wide.ensures
    c.in_ok-push_wide-2.ensures
    c.in_ok-push_narrow.ensures
    (rw c.items.ensures at c.in_ok-push_extents.ensures)
    c.in_ok-push_wide-3.ensures
    c.in_ok-push_wide-4.ensures
    c.in_ok-push_sparse.ensures
    (rw c.items-2.ensures at c.push_names.ensures)
