use Rattle.std.proofs.Common.{◌≡◌, ◌++◌, [], ◌∷◌, ℕ, List, length, true, false, Some, is_some, option_copied, set, get_or, ap, sym, subst, ◌∙◌, arith, refl, vec_capacity, min, ◌-◌}
use Rattle.std.proofs.lemmas.List.{length-append}
use Rattle.log_model.specs.FileTable.{is_among}
use Rattle.log_model.proofs.SelectionLaws.{some_is}
use Rattle.fs_model.specs.FsState.{TableRow, on_row, row_named, row_of}
use Rattle.fs_model.specs.TreeSteps.{with_names}
use Rattle.extent_map.specs.Naming.{linked_rows}
use Rattle.extent_map.specs.TableState.{IsTableState, TableState}
use Rattle.extent_map.proofs.ChangeLaws.{changed_at}
use Rattle.extent_map.proofs.CreateLaws.{copied_same}
use Rattle.extent_map.proofs.LinkLaws.{found_by_id, linked_or_new, named_state, none_is, spared_room, unnamed_at}
use Rattle.extent_map.proofs.table.FileTable.link.Goals as goal

pub returns-then-is_some-clause-answer : goal.returns-then-is_some-clause-answer
returns-then-is_some-clause-answer c =
    let rows = c.self.inside.rows.items in
    let shown = c.args.self.now.rows in
    let view : rows ≡ shown = ap (λ (t : TableState). t.rows) c.self.view_is in
    let d : TableRow = get_or rows c.in-Some.at (record { entry = record { id = 0; size = 0; hint = 0; time = 0; active = 0; sparse = false; extents = []; names = [] }; unrecorded = []; shown = 0 }) in
    let found = ap (row_named c.args.old.now) (sym view) ∙ rw c.deref.ensures.value at (c.in-Some.ensures.row d) in
    let other : option_copied c.row_named.result ≡ row_named c.args.new shown = c.row_named.ensures ∙ ap (row_named c.args.new) (c.deref-2.ensures.value ∙ view) in
    let there : is_some (row_named c.args.new shown) ≡ true = ap is_some (sym other) ∙ copied_same c.row_named.result ∙ sym c.is_some.ensures ∙ c.if-is_some.true in
    rw (found, there) refl

pub add_name-requires-clause-room : goal.add_name-requires-clause-room
add_name-requires-clause-room c =
    let rows = c.self.inside.rows.items in
    let shown = c.args.self.now.rows in
    let row = c.index_mut-row.result.now in
    let view : rows ≡ shown = ap (λ (t : TableState). t.rows) c.self.view_is in
    let found : row_named c.args.old.now rows ≡ Some row = rw c.deref.ensures.value at (c.in-Some.ensures.row row) ∙ ap Some (sym c.index_mut-row.ensures.value) in
    let there : row_of row.entry.id rows ≡ Some row = found_by_id 0 c.args.old.now rows row c.self.invariant.0.table.ids found in
    let reserved = ap (λ (t : TableState). t.reserved) c.self.view_is ∙ c.requires.reserved row (ap (row_named c.args.old.now) (sym view) ∙ found) in
    let spare = ap (λ (t : TableState). t.names_spare) c.self.view_is in
    let room = spared_room (vec_capacity c.self.inside.more_names) (min (vec_capacity c.self.inside.rows - length rows) (vec_capacity c.self.inside.first_names))
    c.self.inside.reserved rows row (omega (arith, spare, c.requires.spare)) reserved there in
    let same = ap vec_capacity c.replace-room.ensures.value in
    omega (arith, same, room)

pub add_name-requires-clause-unused : goal.add_name-requires-clause-unused
add_name-requires-clause-unused c =
    let rows = c.self.inside.rows.items in
    let row = c.index_mut-row.result.now in
    let other : option_copied c.row_named.result ≡ row_named c.args.new rows = c.row_named.ensures ∙ ap (row_named c.args.new) c.deref-2.ensures.value in
    let absent : is_some (row_named c.args.new rows) ≡ false = ap is_some (sym other) ∙ copied_same c.row_named.result ∙ sym c.is_some.ensures ∙ c.if-is_some.false in
    let within = rw c.deref.ensures.value at c.in-Some.ensures.within in
    ap (λ (r : TableRow). is_among r.entry.names c.args.new) c.index_mut-row.ensures.value
    ∙ unnamed_at c.args.new rows c.in-Some.at row (none_is (row_named c.args.new rows) absent) within

pub invariant_of-self : goal.invariant_of-self
invariant_of-self c =
    let rows = c.self.inside.rows.items in
    let row = c.index_mut-row.result.now in
    let more : List (List ℕ) = row.entry.names ++ c.args.new ∷ [] in
    let found : row_named c.args.old.now rows ≡ Some row = rw c.deref.ensures.value at (c.in-Some.ensures.row row) ∙ ap Some (sym c.index_mut-row.ensures.value) in
    let other : option_copied c.row_named.result ≡ row_named c.args.new rows = c.row_named.ensures ∙ ap (row_named c.args.new) c.deref-2.ensures.value in
    let absent : is_some (row_named c.args.new rows) ≡ false = ap is_some (sym other) ∙ copied_same c.row_named.result ∙ sym c.is_some.ensures ∙ c.if-is_some.false in
    let within = rw c.deref.ensures.value at c.in-Some.ensures.within in
    let changed : set rows c.in-Some.at c.add_name.new.self ≡ on_row row.entry.id (with_names more) rows =
    changed_at row.entry.id (with_names more) rows c.self.inside.greatest c.in-Some.at row c.add_name.new.self c.self.invariant.0 within c.index_mut-row.ensures.value
    (ap (λ (r : TableRow). r.entry.id) (sym c.index_mut-row.ensures.value)) c.add_name.ensures in (
      subst (λ (new : List TableRow). IsTableState new c.self.inside.greatest) (sym changed)
          (named_state rows c.self.inside.greatest row c.args.new more c.self.invariant.0 (found_by_id 0 c.args.old.now rows row c.self.invariant.0.table.ids found)
          (none_is (row_named c.args.new rows) absent) (let count = length-append row.entry.names (c.args.new ∷ []) in omega (arith, count)) (linked_or_new row.entry.names c.args.new)),
      λ holders is. absurd cc,
    )

pub returns-clause-rows : goal.returns-clause-rows
returns-clause-rows c = λ x is.
    let rows = c.self.inside.rows.items in
    let row = c.index_mut-row.result.now in
    let more : List (List ℕ) = row.entry.names ++ c.args.new ∷ [] in
    let view = ap (λ (t : TableState). t.rows) c.self.view_is in
    let found : row_named c.args.old.now rows ≡ Some row = rw c.deref.ensures.value at (c.in-Some.ensures.row row) ∙ ap Some (sym c.index_mut-row.ensures.value) in
    let within = rw c.deref.ensures.value at c.in-Some.ensures.within in
    let same : row ≡ x = some_is (sym found ∙ ap (row_named c.args.old.now) view ∙ is) in
    changed_at row.entry.id (with_names more) rows c.self.inside.greatest c.in-Some.at row c.add_name.new.self c.self.invariant.0 within c.index_mut-row.ensures.value
    (ap (λ (r : TableRow). r.entry.id) (sym c.index_mut-row.ensures.value)) c.add_name.ensures
    ∙ ap (linked_rows c.args.new row) view ∙ ap (λ (r : TableRow). linked_rows c.args.new r c.args.self.now.rows) same
