use Rattle.std.proofs.Common.{◌≡◌, ◌≢◌, [], ◌∷◌, ℕ, List, cond, Some, None, Option, is_some, ap, sym, subst, ◌∙◌}
use Rattle.std.proofs.lemmas.Bool.{ne_eqb}
use Rattle.log_model.specs.FileTree.{renamed}
use Rattle.log_model.proofs.SelectionLaws.{some_is}
use Rattle.fs_model.specs.FsState.{TableRow, on_row, row_named, row_of}
use Rattle.fs_model.specs.TreeSteps.{renamed_rows, with_names}
use Rattle.extent_map.specs.Naming.{rows_left}
use Rattle.extent_map.specs.TableState.{IsTableState, TableState}
use Rattle.extent_map.proofs.LinkLaws.{found_by_id, has_name, left_other, left_state, left_unnamed, named_state, renamed_or_new, renamed_some}
use Rattle.extent_map.proofs.table.FileTable.rename.Goals as goal

pub rename_row-requires-clause-there : goal.rename_row-requires-clause-there
rename_row-requires-clause-there c =
    let rows = c.self.inside.rows.items in
    let row = c.index.result.now in
    let found : row_named c.args.old.now rows ≡ Some row = rw c.deref.ensures.value at (c.in-Some.ensures.row row) ∙ ap Some (sym c.index.ensures) in
    ap is_some (ap (λ i. row_of i rows) c.id-id.ensures ∙ found_by_id 0 c.args.old.now rows row c.self.invariant.0.table.ids found)

pub invariant_of-self : goal.invariant_of-self
invariant_of-self c =
    let rows = c.self.inside.rows.items in
    let row = c.index.result.now in
    let more : List (List ℕ) = renamed c.args.old.now c.args.new row.entry.names in
    let found : row_named c.args.old.now rows ≡ Some row = rw c.deref.ensures.value at (c.in-Some.ensures.row row) ∙ ap Some (sym c.index.ensures) in
    let there : row_of row.entry.id rows ≡ Some row = found_by_id 0 c.args.old.now rows row c.self.invariant.0.table.ids found in
    let unused : row_named c.args.new rows ≡ None = sym (rw c.deref-2.ensures.value at c.in-None.ensures) in
    let made = c.rename_row.ensures row (ap (λ i. row_of i rows) c.id-id.ensures ∙ there) ∙ ap (λ i. on_row i (with_names more) rows) c.id-id.ensures in (
      subst (λ (new : List TableRow). IsTableState new c.self.inside.greatest) (sym made)
          (named_state rows c.self.inside.greatest row c.args.new more c.self.invariant.0 there unused
          (renamed_some c.args.old.now c.args.new row.entry.names (has_name rows c.self.inside.greatest row c.self.invariant.0 there)) (renamed_or_new c.args.old.now c.args.new row.entry.names)),
      λ holders is. absurd cc,
    )

pub rename_row-requires-in-Some-row_named-clause-there : goal.rename_row-requires-in-Some-row_named-clause-there
rename_row-requires-in-Some-row_named-clause-there c =
    let rows = c.self.inside.rows.items in
    let row = c.index.result.now in
    let other = c.in-Some-row_named.other.now in
    let found : row_named c.args.old.now rows ≡ Some row = rw c.deref.ensures.value at (c.in-Some.ensures.row row) ∙ ap Some (sym c.index.ensures) in
    let there : row_of row.entry.id rows ≡ Some row = found_by_id 0 c.args.old.now rows row c.self.invariant.0.table.ids found in
    let taken : row_named c.args.new rows ≡ Some other = sym (rw c.deref-2.ensures.value at c.in-Some-row_named.ensures) in
    let differs : row.entry.id ≢ other.entry.id = λ same. c.if-id.false (c.id.ensures ∙ sym same ∙ sym c.id-id.ensures) in
    let left : c.take_names.new.rows.items ≡ rows_left (c.args.new ∷ []) rows = c.take_names.ensures.rows ∙ ap (λ (names : List (List ℕ)). rows_left names rows) c.from_ref.ensures.value in
    ap is_some (ap (row_of c.id-id.result) left ∙ ap (λ i. row_of i (rows_left (c.args.new ∷ []) rows)) c.id-id.ensures
    ∙ left_other rows c.self.inside.greatest row other c.args.new c.self.invariant.0 there taken differs)

pub rename_row-requires-in-Some-row_named-clause-unused : goal.rename_row-requires-in-Some-row_named-clause-unused
rename_row-requires-in-Some-row_named-clause-unused c =
    let rows = c.self.inside.rows.items in
    let left : c.take_names.new.rows.items ≡ rows_left (c.args.new ∷ []) rows = c.take_names.ensures.rows ∙ ap (λ (names : List (List ℕ)). rows_left names rows) c.from_ref.ensures.value in
    ap (row_named c.args.new) left ∙ left_unnamed c.args.new rows

pub rename_row-requires-in-Some-row_named-clause-ids : goal.rename_row-requires-in-Some-row_named-clause-ids
rename_row-requires-in-Some-row_named-clause-ids c =
    let state = left_state c.from_ref.result.now c.self.inside.rows.items c.self.inside.greatest c.self.invariant.0 in
    (subst (λ (new : List TableRow). IsTableState new c.self.inside.greatest) (sym c.take_names.ensures.rows) state).table.ids

pub invariant_of-self-in-Some-row_named : goal.invariant_of-self-in-Some-row_named
invariant_of-self-in-Some-row_named c =
    let rows = c.self.inside.rows.items in
    let greatest = c.self.inside.greatest in
    let row = c.index.result.now in
    let other = c.in-Some-row_named.other.now in
    let more : List (List ℕ) = renamed c.args.old.now c.args.new row.entry.names in
    let fewer : List TableRow = rows_left (c.args.new ∷ []) rows in
    let found : row_named c.args.old.now rows ≡ Some row = rw c.deref.ensures.value at (c.in-Some.ensures.row row) ∙ ap Some (sym c.index.ensures) in
    let there : row_of row.entry.id rows ≡ Some row = found_by_id 0 c.args.old.now rows row c.self.invariant.0.table.ids found in
    let taken : row_named c.args.new rows ≡ Some other = sym (rw c.deref-2.ensures.value at c.in-Some-row_named.ensures) in
    let differs : row.entry.id ≢ other.entry.id = λ same. c.if-id.false (c.id.ensures ∙ sym same ∙ sym c.id-id.ensures) in
    let left : c.take_names.new.rows.items ≡ fewer = c.take_names.ensures.rows ∙ ap (λ (names : List (List ℕ)). rows_left names rows) c.from_ref.ensures.value in
    let stays : row_of row.entry.id fewer ≡ Some row = left_other rows greatest row other c.args.new c.self.invariant.0 there taken differs in
    let made = c.rename_row-in-Some-row_named.ensures row (ap (row_of c.id-id.result) left ∙ ap (λ i. row_of i fewer) c.id-id.ensures ∙ stays)
    ∙ ap (λ (rs : List TableRow). on_row c.id-id.result (with_names more) rs) left ∙ ap (λ i. on_row i (with_names more) fewer) c.id-id.ensures in (
      subst (λ (new : List TableRow). IsTableState new greatest) (sym made)
          (named_state fewer greatest row c.args.new more (left_state (c.args.new ∷ []) rows greatest c.self.invariant.0) stays (left_unnamed c.args.new rows)
          (renamed_some c.args.old.now c.args.new row.entry.names (has_name rows greatest row c.self.invariant.0 there)) (renamed_or_new c.args.old.now c.args.new row.entry.names)),
      λ holders is. absurd cc,
    )

pub returns-in-None-clause-rows : goal.returns-in-None-clause-rows
returns-in-None-clause-rows c = λ x is.
    let rows = c.self.inside.rows.items in
    let shown = c.args.self.now.rows in
    let old : List ℕ = c.args.old.now in
    let new : List ℕ = c.args.new in
    let view : rows ≡ shown = ap (λ (t : TableState). t.rows) c.self.view_is in
    let row = c.index.result.now in
    let more : List (List ℕ) = renamed old new row.entry.names in
    let found : row_named old rows ≡ Some row = rw c.deref.ensures.value at (c.in-Some.ensures.row row) ∙ ap Some (sym c.index.ensures) in
    let there : row_of row.entry.id rows ≡ Some row = found_by_id 0 old rows row c.self.invariant.0.table.ids found in
    let unused : row_named new rows ≡ None = sym (rw c.deref-2.ensures.value at c.in-None.ensures) in
    let same : row ≡ x = some_is (sym found ∙ ap (row_named old) view ∙ is) in
    c.rename_row.ensures row (ap (λ i. row_of i rows) c.id-id.ensures ∙ there)
    ∙ ap (λ i. on_row i (with_names more) rows) c.id-id.ensures
    ∙ ap (λ (o : Option TableRow). renamed_rows row o old new rows) (sym unused)
    ∙ ap (λ (rs : List TableRow). renamed_rows row (row_named new rs) old new rs) view
    ∙ ap (λ (r : TableRow). renamed_rows r (row_named new shown) old new shown) same

pub returns-else-id-clause-rows : goal.returns-else-id-clause-rows
returns-else-id-clause-rows c = λ x is.
    let rows = c.self.inside.rows.items in
    let shown = c.args.self.now.rows in
    let old : List ℕ = c.args.old.now in
    let new : List ℕ = c.args.new in
    let view : rows ≡ shown = ap (λ (t : TableState). t.rows) c.self.view_is in
    let row = c.index.result.now in
    let other = c.in-Some-row_named.other.now in
    let more : List (List ℕ) = renamed old new row.entry.names in
    let fewer : List TableRow = rows_left (new ∷ []) rows in
    let found : row_named old rows ≡ Some row = rw c.deref.ensures.value at (c.in-Some.ensures.row row) ∙ ap Some (sym c.index.ensures) in
    let there : row_of row.entry.id rows ≡ Some row = found_by_id 0 old rows row c.self.invariant.0.table.ids found in
    let taken : row_named new rows ≡ Some other = sym (rw c.deref-2.ensures.value at c.in-Some-row_named.ensures) in
    let differs : row.entry.id ≢ other.entry.id = λ same. c.if-id.false (c.id.ensures ∙ sym same ∙ sym c.id-id.ensures) in
    let left : c.take_names.new.rows.items ≡ fewer = c.take_names.ensures.rows ∙ ap (λ (names : List (List ℕ)). rows_left names rows) c.from_ref.ensures.value in
    let stays : row_of row.entry.id fewer ≡ Some row = left_other rows c.self.inside.greatest row other new c.self.invariant.0 there taken differs in
    let same : row ≡ x = some_is (sym found ∙ ap (row_named old) view ∙ is) in
    c.rename_row-in-Some-row_named.ensures row (ap (row_of c.id-id.result) left ∙ ap (λ i. row_of i fewer) c.id-id.ensures ∙ stays)
    ∙ ap (λ (rs : List TableRow). on_row c.id-id.result (with_names more) rs) left
    ∙ ap (λ i. on_row i (with_names more) fewer) c.id-id.ensures
    ∙ sym (ap (λ b. cond b rows (on_row row.entry.id (with_names more) fewer)) (ne_eqb other.entry.id row.entry.id (λ e. differs (sym e))))
    ∙ ap (λ (o : Option TableRow). renamed_rows row o old new rows) (sym taken)
    ∙ ap (λ (rs : List TableRow). renamed_rows row (row_named new rs) old new rs) view
    ∙ ap (λ (r : TableRow). renamed_rows r (row_named new shown) old new shown) same
