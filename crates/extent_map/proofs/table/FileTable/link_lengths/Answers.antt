use Rattle.std.proofs.Common.{◌≡◌, ◌++◌, ◌∷◌, [], List, ℕ, Some, ap, sym, subst, ◌∙◌}
use Rattle.log_model.proofs.SelectionLaws.{some_is}
use Rattle.fs_model.specs.FsState.{TableRow, on_row, row_named}
use Rattle.fs_model.specs.TreeSteps.{entry_update, with_names}
use Rattle.extent_map.specs.ChangeLengths.{IsLittleLonger, TellsLengths}
use Rattle.extent_map.specs.Naming.{linked_rows, rows_left}
use Rattle.extent_map.specs.RowsAfter.{AreNamesOf}
use Rattle.extent_map.specs.TableState.{TableState}
use Rattle.extent_map.proofs.AfterLaws.{all_rows}
use Rattle.extent_map.proofs.GrowthLaws.{linked_more, named_little}
use Rattle.extent_map.proofs.table.FileTable.link_lengths.Goals as goal

pub returns-clause-lengths : goal.returns-clause-lengths
returns-clause-lengths c = λ x is.
    let rows = c.self.inside.rows.items in
    let shown = c.args.self.now.rows in
    let old : List ℕ = c.args.old.now in
    let new : List ℕ = c.args.new.now in
    let row = c.unwrap-row.result.now in
    let l = c.lengths_after.result in
    let view : rows ≡ shown = ap (λ (t : TableState). t.rows) c.self.view_is in
    let found : Some row ≡ row_named old rows = rw (c.unwrap-row.ensures, c.deref.ensures.value) at c.row_named.ensures in
    let same : row ≡ x = some_is (found ∙ ap (row_named old) view ∙ is) in
    let more : List (List ℕ) = row.entry.names ++ new ∷ [] in
    let names : AreNamesOf c.linked_len-names.result more = rw (c.items.ensures, c.entry.ensures.value) at c.linked_len-names.ensures in
    let all : rows_left [] c.deref-2.result.now ≡ shown = ap (rows_left []) c.deref-2.ensures.value ∙ all_rows rows c.self.invariant.0.table.named ∙ view in
    subst (λ (r : TableRow). TellsLengths l (entry_update (with_names (r.entry.names ++ new ∷ []) r).entry) (linked_rows new r shown)) same
    (subst (λ (rs : List TableRow). TellsLengths l (entry_update (with_names more row).entry) (on_row row.entry.id (with_names more) rs)) all
    (c.lengths_after.ensures more names))

pub returns-clause-little : goal.returns-clause-little
returns-clause-little c = λ x is.
    let rows = c.self.inside.rows.items in
    let shown = c.args.self.now.rows in
    let old : List ℕ = c.args.old.now in
    let new : List ℕ = c.args.new.now in
    let row = c.unwrap-row.result.now in
    let view : rows ≡ shown = ap (λ (t : TableState). t.rows) c.self.view_is in
    let found : Some row ≡ row_named old rows = rw (c.unwrap-row.ensures, c.deref.ensures.value) at c.row_named.ensures in
    let more : List (List ℕ) = row.entry.names ++ new ∷ [] in
    let longer : IsLittleLonger rows (linked_rows new row rows) (entry_update (with_names more row).entry) =
    named_little old rows c.self.inside.greatest row more c.self.invariant.0 (sym found) (linked_more row.entry.names new c.is_short.ensures) in
    subst (λ (r : TableRow). IsLittleLonger shown (linked_rows new r shown) (entry_update (with_names (r.entry.names ++ new ∷ []) r).entry)) (some_is (found ∙ ap (row_named old) view ∙ is))
    (subst (λ (rs : List TableRow). IsLittleLonger rs (linked_rows new row rs) (entry_update (with_names more row).entry)) view longer)
