use Rattle.std.proofs.Common.{◌≡◌, Some, ap, sym, ◌∙◌}
use Rattle.log_model.specs.FileTable.{is_among}
use Rattle.log_model.specs.FileTree.{renamed}
use Rattle.log_model.proofs.SelectionLaws.{some_is}
use Rattle.fs_model.specs.FsState.{TableRow, on_row}
use Rattle.fs_model.specs.TreeSteps.{with_names}
use Rattle.extent_map.proofs.ChangeLaws.{changed_in}
use Rattle.extent_map.proofs.LinkLaws.{unnamed_at}
use Rattle.extent_map.proofs.links.rename_row.Goals as goal

pub rename-requires : goal.rename-requires
rename-requires c =
    let rows = c.args.rows.now.items in
    let row = c.index_mut-row.result.now in
    let within = rw (c.unwrap-at.ensures, c.deref.ensures.value) at c.index_of.ensures.within in
    ap (λ (r : TableRow). is_among r.entry.names c.args.new) c.index_mut-row.ensures.value
    ∙ unnamed_at c.args.new rows c.unwrap-at.result row c.requires.unused within

pub returns : goal.returns
returns c = λ x is.
    let rows = c.args.rows.now.items in
    let row = c.index_mut-row.result.now in
    let within = rw (c.unwrap-at.ensures, c.deref.ensures.value) at c.index_of.ensures.within in
    let id = rw (c.unwrap-at.ensures, c.deref.ensures.value) at c.index_of.ensures.id in
    let found = rw (c.unwrap-at.ensures, c.deref.ensures.value) at c.index_of.ensures.row in
    let same : row ≡ x = some_is (ap Some c.index_mut-row.ensures.value ∙ sym (found row) ∙ is) in
    changed_in c.args.id (with_names (renamed c.args.old.now c.args.new row.entry.names)) rows c.unwrap-at.result row c.rename.new.self c.requires.ids within c.index_mut-row.ensures.value
    (id row) c.rename.ensures
    ∙ ap (λ (r : TableRow). on_row c.args.id (with_names (renamed c.args.old.now c.args.new r.entry.names)) rows) same
