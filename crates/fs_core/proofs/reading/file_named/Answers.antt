use Rattle.std.proofs.Common.{◌≡◌, List, Some, sym, ◌∙◌, ap}
use Rattle.fs_model.specs.FsState.{TableRow}
use Rattle.extent_map.specs.Lookups.{id_named}
use Rattle.fs_core.proofs.FileRows.{named_row, none_is, row_shown, shown_of, some_id}
use Rattle.fs_core.proofs.reading.file_named.Goals as goal

pub returns-in-Some-shown : goal.returns-in-Some-shown
returns-in-Some-shown c =
    let rows = c.args.tables.now.state.rows in
    let same = c.files-files.ensures.files in
    let named : id_named c.args.name.now rows ≡ Some c.in-Some.id = ap (λ (rs : List TableRow). id_named c.args.name.now rs) (sym same) ∙ sym c.find.ensures ∙ c.in-Some.is in
    let r = named_row c.args.name.now c.in-Some.id rows c.valid.ensures.table.ids named in
    (r.0, r.1, r.2, some_id (sym (row_shown c.in-Some.id rows r.0 c.shown.result r.2 (c.shown.ensures ∙ ap (shown_of c.in-Some.id) same)) ∙ c.in-Some-shown.is))

pub returns-in-None : goal.returns-in-None
returns-in-None c =
    let rows = c.args.tables.now.state.rows in
    let same = c.files-files.ensures.files in
    let named : id_named c.args.name.now rows ≡ Some c.in-Some.id = ap (λ (rs : List TableRow). id_named c.args.name.now rs) (sym same) ∙ sym c.find.ensures ∙ c.in-Some.is in
    let r = named_row c.args.name.now c.in-Some.id rows c.valid.ensures.table.ids named in
    let there : c.shown.result ≡ Some (r.0).shown = row_shown c.in-Some.id rows r.0 c.shown.result r.2 (c.shown.ensures ∙ ap (shown_of c.in-Some.id) same) in
    absurd (none_is c.shown.result (r.0).shown there c.in-None.is)
