use Rattle.std.proofs.Common.{◌≡◌, ◌≢◌, [], List, ℕ, Some, None, ap, sym, subst, ◌∙◌}
use Rattle.std.proofs.lemmas.Bool.{eq-eqb, ne_eqb}
use Rattle.record_model.specs.Grammar.{AreApart}
use Rattle.record_model.specs.declared.types.FileEntry.{FileEntry}
use Rattle.log_model.specs.FileTree.{renamed}
use Rattle.log_model.proofs.SelectionLaws.{some_is}
use Rattle.fs_model.specs.FsState.{TableRow, on_row, row_named, row_of}
use Rattle.fs_model.specs.TreeSteps.{drop_name, entry_update, with_names}
use Rattle.record_model.specs.declared.types.Record.{Record}
use Rattle.extent_map.specs.declared.change_lengths.ChangeLengths.{ChangeLengths}
use Rattle.extent_map.specs.ChangeLengths.{IsLittleLonger, TellsLengths}
use Rattle.extent_map.specs.Naming.{rows_left}
use Rattle.extent_map.specs.RowsAfter.{AreNamesOf}
use Rattle.extent_map.specs.TableState.{TableState}
use Rattle.extent_map.proofs.AfterLaws.{all_rows, named_holds, same_holds, other_holds, holds_shown}
use Rattle.extent_map.proofs.GrowthLaws.{renamed_more, named_little, taken_little, same_little}
use Rattle.extent_map.proofs.LinkLaws.{found_by_id, left_other}
use Rattle.extent_map.proofs.table.FileTable.rename_lengths.Goals as goal

-- the lengths tell of the record and of the rows after the change
abbrev tells : ChangeLengths → List TableRow → List TableRow → Record → Type 0
tells l before after r = TellsLengths l r after

pub returns-then-id-clause-lengths : goal.returns-then-id-clause-lengths
returns-then-id-clause-lengths c = λ x is.
    let rows = c.self.inside.rows.items in
    let shown = c.args.self.now.rows in
    let old : List ℕ = c.args.old.now in
    let new : List ℕ = c.args.new.now in
    let row = c.unwrap-row.result.now in
    let other = c.in-Some.other.now in
    let l = c.same_lengths.result in
    let view : rows ≡ shown = ap (λ (t : TableState). t.rows) c.self.view_is in
    let found : Some row ≡ row_named old rows = rw (c.unwrap-row.ensures, c.deref.ensures.value) at c.row_named.ensures in
    let there : row_of row.entry.id rows ≡ Some row = found_by_id 0 old rows row c.self.invariant.0.table.ids (sym found) in
    let taken : Some other ≡ row_named new rows = rw c.deref-2.ensures.value at c.in-Some.ensures in
    let ids : other.entry.id ≡ row.entry.id = sym c.id.ensures ∙ c.if-id.true ∙ c.id-in-Some.ensures in
    holds_shown (tells l) row x (Some other) old new rows shown taken view (some_is (found ∙ ap (row_named old) view ∙ is))
    (same_holds (tells l) row other old new rows there (eq-eqb other.entry.id row.entry.id ids)
    (subst (λ (rs : List TableRow). TellsLengths l (entry_update row.entry) rs) c.deref-then-id.ensures.value c.same_lengths.ensures))

pub returns-in-None-clause-lengths : goal.returns-in-None-clause-lengths
returns-in-None-clause-lengths c = λ x is.
    let rows = c.self.inside.rows.items in
    let shown = c.args.self.now.rows in
    let old : List ℕ = c.args.old.now in
    let new : List ℕ = c.args.new.now in
    let row = c.unwrap-row.result.now in
    let l = c.lengths_after.result in
    let more : List (List ℕ) = renamed old new row.entry.names in
    let view : rows ≡ shown = ap (λ (t : TableState). t.rows) c.self.view_is in
    let found : Some row ≡ row_named old rows = rw (c.unwrap-row.ensures, c.deref.ensures.value) at c.row_named.ensures in
    let there : row_of row.entry.id rows ≡ Some row = found_by_id 0 old rows row c.self.invariant.0.table.ids (sym found) in
    let unused : None ≡ row_named new rows = rw c.deref-2.ensures.value at c.in-None.ensures in
    let names : AreNamesOf c.renamed_len-names.result more = rw (c.items.ensures, c.entry.ensures.value) at c.renamed_len-names.ensures in
    let all : rows_left [] c.deref-in-None.result.now ≡ rows = ap (rows_left []) c.deref-in-None.ensures.value ∙ all_rows rows c.self.invariant.0.table.named in
    holds_shown (tells l) row x None old new rows shown unused view (some_is (found ∙ ap (row_named old) view ∙ is))
    (named_holds (tells l rows) row more rows there
    (subst (λ (rs : List TableRow). TellsLengths l (entry_update (with_names more row).entry) (on_row row.entry.id (with_names more) rs)) all
    (c.lengths_after.ensures more names)))

pub returns-else-id-clause-lengths : goal.returns-else-id-clause-lengths
returns-else-id-clause-lengths c = λ x is.
    let rows = c.self.inside.rows.items in
    let shown = c.args.self.now.rows in
    let old : List ℕ = c.args.old.now in
    let new : List ℕ = c.args.new.now in
    let row = c.unwrap-row.result.now in
    let other = c.in-Some.other.now in
    let l = c.lengths_after-in-Some.result in
    let more : List (List ℕ) = renamed old new row.entry.names in
    let view : rows ≡ shown = ap (λ (t : TableState). t.rows) c.self.view_is in
    let found : Some row ≡ row_named old rows = rw (c.unwrap-row.ensures, c.deref.ensures.value) at c.row_named.ensures in
    let there : row_of row.entry.id rows ≡ Some row = found_by_id 0 old rows row c.self.invariant.0.table.ids (sym found) in
    let taken : Some other ≡ row_named new rows = rw c.deref-2.ensures.value at c.in-Some.ensures in
    let differs : row.entry.id ≢ other.entry.id = λ same. c.if-id.false (c.id.ensures ∙ sym same ∙ sym c.id-in-Some.ensures) in
    let names : AreNamesOf c.renamed_len-names.result more = rw (c.items.ensures, c.entry.ensures.value) at c.renamed_len-names.ensures in
    let left : rows_left c.from_ref.result.now c.deref-in-Some.result.now ≡ drop_name new rows =
    ap (rows_left c.from_ref.result.now) c.deref-in-Some.ensures.value ∙ ap (λ (ns : List (List ℕ)). rows_left ns rows) c.from_ref.ensures.value in
    holds_shown (tells l) row x (Some other) old new rows shown taken view (some_is (found ∙ ap (row_named old) view ∙ is))
    (other_holds (tells l) row other old new rows (left_other rows c.self.inside.greatest row other new c.self.invariant.0 there (sym taken) differs)
    (ne_eqb other.entry.id row.entry.id (λ same. differs (sym same)))
    (subst (λ (rs : List TableRow). TellsLengths l (entry_update (with_names more row).entry) (on_row row.entry.id (with_names more) rs)) left
    (c.lengths_after-in-Some.ensures more names)))

pub returns-then-id-clause-little : goal.returns-then-id-clause-little
returns-then-id-clause-little c = λ x is.
    let rows = c.self.inside.rows.items in
    let shown = c.args.self.now.rows in
    let old : List ℕ = c.args.old.now in
    let new : List ℕ = c.args.new.now in
    let row = c.unwrap-row.result.now in
    let view : rows ≡ shown = ap (λ (t : TableState). t.rows) c.self.view_is in
    let found : Some row ≡ row_named old rows = rw (c.unwrap-row.ensures, c.deref.ensures.value) at c.row_named.ensures in
    let there : row_of row.entry.id rows ≡ Some row = found_by_id 0 old rows row c.self.invariant.0.table.ids (sym found) in
    let same : row ≡ x = some_is (found ∙ ap (row_named old) view ∙ is) in
    let other = c.in-Some.other.now in
    let taken : Some other ≡ row_named new rows = rw c.deref-2.ensures.value at c.in-Some.ensures in
    let ids : other.entry.id ≡ row.entry.id = sym c.id.ensures ∙ c.if-id.true ∙ c.id-in-Some.ensures in
    holds_shown IsLittleLonger row x (Some other) old new rows shown taken view same
    (same_holds IsLittleLonger row other old new rows there (eq-eqb other.entry.id row.entry.id ids) (same_little old rows row (sym found)))

pub returns-in-None-clause-little : goal.returns-in-None-clause-little
returns-in-None-clause-little c = λ x is.
    let rows = c.self.inside.rows.items in
    let shown = c.args.self.now.rows in
    let old : List ℕ = c.args.old.now in
    let new : List ℕ = c.args.new.now in
    let row = c.unwrap-row.result.now in
    let view : rows ≡ shown = ap (λ (t : TableState). t.rows) c.self.view_is in
    let found : Some row ≡ row_named old rows = rw (c.unwrap-row.ensures, c.deref.ensures.value) at c.row_named.ensures in
    let there : row_of row.entry.id rows ≡ Some row = found_by_id 0 old rows row c.self.invariant.0.table.ids (sym found) in
    let same : row ≡ x = some_is (found ∙ ap (row_named old) view ∙ is) in
    let more : List (List ℕ) = renamed old new row.entry.names in
    let apart = subst (λ (e : FileEntry). AreApart e.names) c.entry.ensures.value c.entry.ensures.sound.apart in
    let longer = renamed_more old new row.entry.names apart c.is_short.ensures in
    let unused : None ≡ row_named new rows = rw c.deref-2.ensures.value at c.in-None.ensures in
    holds_shown IsLittleLonger row x None old new rows shown unused view same
    (named_holds (IsLittleLonger rows) row more rows there (named_little old rows c.self.inside.greatest row more c.self.invariant.0 (sym found) longer))

pub returns-else-id-clause-little : goal.returns-else-id-clause-little
returns-else-id-clause-little c = λ x is.
    let rows = c.self.inside.rows.items in
    let shown = c.args.self.now.rows in
    let old : List ℕ = c.args.old.now in
    let new : List ℕ = c.args.new.now in
    let row = c.unwrap-row.result.now in
    let view : rows ≡ shown = ap (λ (t : TableState). t.rows) c.self.view_is in
    let found : Some row ≡ row_named old rows = rw (c.unwrap-row.ensures, c.deref.ensures.value) at c.row_named.ensures in
    let there : row_of row.entry.id rows ≡ Some row = found_by_id 0 old rows row c.self.invariant.0.table.ids (sym found) in
    let same : row ≡ x = some_is (found ∙ ap (row_named old) view ∙ is) in
    let more : List (List ℕ) = renamed old new row.entry.names in
    let apart = subst (λ (e : FileEntry). AreApart e.names) c.entry.ensures.value c.entry.ensures.sound.apart in
    let longer = renamed_more old new row.entry.names apart c.is_short.ensures in
    let other = c.in-Some.other.now in
    let taken : Some other ≡ row_named new rows = rw c.deref-2.ensures.value at c.in-Some.ensures in
    let differs : row.entry.id ≢ other.entry.id = λ equal. c.if-id.false (c.id.ensures ∙ sym equal ∙ sym c.id-in-Some.ensures) in
    let left = left_other rows c.self.inside.greatest row other new c.self.invariant.0 there (sym taken) differs in
    holds_shown IsLittleLonger row x (Some other) old new rows shown taken view same
    (other_holds IsLittleLonger row other old new rows left (ne_eqb other.entry.id row.entry.id (λ equal. differs (sym equal)))
    (taken_little old new rows c.self.inside.greatest row more c.self.invariant.0 (sym found) left longer))
