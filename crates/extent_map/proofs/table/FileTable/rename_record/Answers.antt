use Rattle.std.proofs.Common.{◌≡◌, ◌≢◌, List, ℕ, Some, None, ap, sym, ◌∙◌}
use Rattle.std.proofs.lemmas.Bool.{eq-eqb, ne_eqb}
use Rattle.record_model.specs.declared.types.Record.{Record}
use Rattle.log_model.specs.FileTree.{renamed}
use Rattle.log_model.proofs.SelectionLaws.{some_is}
use Rattle.fs_model.specs.FsState.{TableRow, row_named, row_of}
use Rattle.extent_map.specs.TableState.{TableState}
use Rattle.extent_map.proofs.AfterLaws.{named_holds, same_holds, other_holds, holds_shown}
use Rattle.extent_map.proofs.LinkLaws.{found_by_id, left_other}
use Rattle.extent_map.proofs.table.FileTable.rename_record.Goals as goal

-- the record is this one
abbrev is_record : Record → List TableRow → List TableRow → Record → Type 0
is_record u before after r = u ≡ r

pub returns-then-id : goal.returns-then-id
returns-then-id c = λ x is.
    let rows = c.self.inside.rows.items in
    let shown = c.args.self.now.rows in
    let old : List ℕ = c.args.old.now in
    let new : List ℕ = c.args.new.now in
    let row = c.unwrap-row.result.now in
    let other = c.in-Some.other.now in
    let u : Record = c.in_ok-update-in-Some.update in
    let view : rows ≡ shown = ap (λ (t : TableState). t.rows) c.self.view_is in
    let found : Some row ≡ row_named old rows = rw (c.unwrap-row.ensures, c.deref.ensures.value) at c.row_named.ensures in
    let there : row_of row.entry.id rows ≡ Some row = found_by_id 0 old rows row c.self.invariant.0.table.ids (sym found) in
    let taken : Some other ≡ row_named new rows = rw c.deref-2.ensures.value at c.in-Some.ensures in
    let ids : other.entry.id ≡ row.entry.id = sym c.id.ensures ∙ c.if-id.true ∙ c.id-in-Some.ensures in
    holds_shown (is_record u) row x (Some other) old new rows shown taken view (some_is (found ∙ ap (row_named old) view ∙ is))
    (same_holds (is_record u) row other old new rows there (eq-eqb other.entry.id row.entry.id ids) c.in_ok-update-in-Some.ensures)

pub returns-in_ok-update-in-None : goal.returns-in_ok-update-in-None
returns-in_ok-update-in-None c = λ x is.
    let rows = c.self.inside.rows.items in
    let shown = c.args.self.now.rows in
    let old : List ℕ = c.args.old.now in
    let new : List ℕ = c.args.new.now in
    let row = c.unwrap-row.result.now in
    let more : List (List ℕ) = renamed old new row.entry.names in
    let view : rows ≡ shown = ap (λ (t : TableState). t.rows) c.self.view_is in
    let found : Some row ≡ row_named old rows = rw (c.unwrap-row.ensures, c.deref.ensures.value) at c.row_named.ensures in
    let there : row_of row.entry.id rows ≡ Some row = found_by_id 0 old rows row c.self.invariant.0.table.ids (sym found) in
    let u : Record = c.in_ok-update-in-None.update in
    let unused : None ≡ row_named new rows = rw c.deref-2.ensures.value at c.in-None.ensures in
    holds_shown (is_record u) row x None old new rows shown unused view (some_is (found ∙ ap (row_named old) view ∙ is))
    (named_holds (is_record u rows) row more rows there c.in_ok-update-in-None.ensures)

pub returns-in_ok-update-in-Some-2 : goal.returns-in_ok-update-in-Some-2
returns-in_ok-update-in-Some-2 c = λ x is.
    let rows = c.self.inside.rows.items in
    let shown = c.args.self.now.rows in
    let old : List ℕ = c.args.old.now in
    let new : List ℕ = c.args.new.now in
    let row = c.unwrap-row.result.now in
    let more : List (List ℕ) = renamed old new row.entry.names in
    let view : rows ≡ shown = ap (λ (t : TableState). t.rows) c.self.view_is in
    let found : Some row ≡ row_named old rows = rw (c.unwrap-row.ensures, c.deref.ensures.value) at c.row_named.ensures in
    let there : row_of row.entry.id rows ≡ Some row = found_by_id 0 old rows row c.self.invariant.0.table.ids (sym found) in
    let other = c.in-Some.other.now in
    let u : Record = c.in_ok-update-in-Some-2.update in
    let taken : Some other ≡ row_named new rows = rw c.deref-2.ensures.value at c.in-Some.ensures in
    let differs : row.entry.id ≢ other.entry.id = λ same. c.if-id.false (c.id.ensures ∙ sym same ∙ sym c.id-in-Some.ensures) in
    holds_shown (is_record u) row x (Some other) old new rows shown taken view (some_is (found ∙ ap (row_named old) view ∙ is))
    (other_holds (is_record u) row other old new rows (left_other rows c.self.inside.greatest row other new c.self.invariant.0 there (sym taken) differs)
    (ne_eqb other.entry.id row.entry.id (λ same. differs (sym same))) c.in_ok-update-in-Some-2.ensures)
