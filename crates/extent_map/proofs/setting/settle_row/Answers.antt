use Rattle.std.proofs.Common.{◌≡◌, get_or, ap, sym, subst, ◌∙◌}
use Rattle.log_model.specs.FileTable.{Table, set_entry, take_names, with_entry}
use Rattle.log_model.specs.TableLaws.{IdsRise}
use Rattle.log_model.proofs.TableKept.{rise_others}
use Rattle.fs_model.specs.FsState.{TableRow}
use Rattle.extent_map.specs.Records.{recorded_of}
use Rattle.extent_map.proofs.SettingLaws.{recorded_removed, recorded_set, same_at, set_same}
use Rattle.extent_map.proofs.setting.settle_row.Goals as goal

pub set_row-requires-clause-ids : goal.set_row-requires-clause-ids
set_row-requires-clause-ids c =
    let rows = c.args.rows.now.items in
    let row = c.remove-row.result in
    let same = ap (λ (r : TableRow). r.entry.id) (sym c.remove-row.ensures.value) in
    let removed = ap recorded_of c.remove-row.ensures.items ∙ recorded_removed 0 row.entry.id rows c.args.at row c.requires.ids c.requires.within same in
    subst (IdsRise 0) (sym removed) (rise_others 0 row.entry.id (recorded_of rows) c.requires.ids)

pub returns-then-not-free-clause-made : goal.returns-then-not-free-clause-made
returns-then-not-free-clause-made c = λ d.
    let rows = c.args.rows.now.items in
    let row = c.remove-row.result in
    let same = ap (λ (r : TableRow). r.entry.id) (sym c.remove-row.ensures.value) in
    let removed = ap recorded_of c.remove-row.ensures.items ∙ recorded_removed 0 row.entry.id rows c.args.at row c.requires.ids c.requires.within same in
    c.set_row.ensures.made
    ∙ ap (λ (es : Table). with_entry row.entry (take_names row.entry.names es)) removed
    ∙ ap (λ (r : TableRow). set_entry r.entry (recorded_of rows)) (c.remove-row.ensures.value ∙ same_at rows c.args.at row d c.requires.within)

pub returns-else-not-free-clause-made : goal.returns-else-not-free-clause-made
returns-else-not-free-clause-made c = λ d.
    let rows = c.args.rows.now.items in
    let row : TableRow = get_or rows c.args.at d in
    let here : row ≡ get_or rows c.args.at row = same_at rows c.args.at d row c.requires.within in
    ap recorded_of (sym (set_same rows c.args.at row here))
    ∙ recorded_set 0 rows c.args.at row d c.requires.ids c.requires.within (ap (λ (r : TableRow). r.entry.id) (same_at rows c.args.at d d c.requires.within))
    ∙ ap (with_entry row.entry) (sym (c.requires.free c.if-not-free.false d))
