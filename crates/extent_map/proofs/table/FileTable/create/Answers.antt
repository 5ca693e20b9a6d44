use Rattle.std.proofs.Common.{◌≡◌, ◌+◌, ◌<◌, ◌-◌, ◌^◌, List, false, is_some, option_copied, ap, sym, subst, ◌∙◌, arith}
use Rattle.fs_model.specs.FsState.{TableRow, row_named, mounted_row}
use Rattle.fs_model.specs.TreeSteps.{new_entry}
use Rattle.extent_map.specs.TableState.{IsTableState}
use Rattle.extent_map.proofs.CreateLaws.{created_state, copied_same}
use Rattle.extent_map.proofs.table.FileTable.create.Goals as goal

pub invariant_of-self : goal.invariant_of-self
invariant_of-self c =
    let rows = c.self.inside.rows.items in
    let greatest = c.self.inside.greatest in
    let row = c.new-2.result in
    let found : option_copied c.row_named.result ≡ row_named c.args.name rows = c.row_named.ensures ∙ ap (row_named c.args.name) c.deref.ensures.value in
    let absent : is_some (row_named c.args.name rows) ≡ false = ap is_some (sym found) ∙ copied_same c.row_named.result ∙ sym c.is_some.ensures ∙ c.if-is_some.false in
    let made : row ≡ mounted_row (new_entry (greatest + 1) c.args.name c.args.hint c.args.sparse c.args.time) =
    c.new-2.ensures ∙ ap mounted_row (c.new_entry-entry.ensures c.args.name c.only_name.ensures) in
    let other = c.if-self.false in
    let room : greatest < 2 ^ 64 - 2 = omega (arith, c.self.invariant.0.limit, other) in (
      subst (λ (new : List TableRow). IsTableState new (greatest + 1)) (sym c.push_reserved.ensures.items)
          (created_state rows greatest row c.args.name c.self.invariant.0 absent room (ap (λ (r : TableRow). r.entry.id) made) (ap (λ (r : TableRow). r.entry.names) made)),
      λ holders is. absurd cc,
    )
