use Rattle.std.proofs.Common.{◌≡◌, List, set, ap, sym, subst, ◌∙◌, refl}
use Rattle.fs_model.specs.FsState.{TableRow, on_row}
use Rattle.fs_model.specs.FileSteps.{with_recovery_point}
use Rattle.extent_map.specs.TableState.{IsTableState, TableState}
use Rattle.extent_map.proofs.ChangeLaws.{changed_at, kept_state}
use Rattle.extent_map.proofs.table.FileTable.set_point.Goals as goal

pub invariant_of-self : goal.invariant_of-self
invariant_of-self c =
    let rows = c.self.inside.rows.items in
    let at = c.unwrap-at.result in
    let within = rw (c.unwrap-at.ensures, c.deref.ensures.value) at c.index_of.ensures.within in
    let id = rw (c.unwrap-at.ensures, c.deref.ensures.value) at c.index_of.ensures.id in
    let changed : set rows at c.set_point.new.self ≡ on_row c.args.id (with_recovery_point c.args.start) rows =
    changed_at c.args.id (with_recovery_point c.args.start) rows c.self.inside.greatest at c.index_mut-row.result.now c.set_point.new.self c.self.invariant.0 within c.index_mut-row.ensures.value
    (id c.index_mut-row.result.now) c.set_point.ensures in (
      subst (λ (new : List TableRow). IsTableState new c.self.inside.greatest) (sym changed)
          (kept_state c.args.id (with_recovery_point c.args.start) rows c.self.inside.greatest (λ r. (refl, refl)) c.self.invariant.0),
      λ holders is. absurd cc,
    )

pub returns-clause-rows : goal.returns-clause-rows
returns-clause-rows c =
    let rows = c.self.inside.rows.items in
    let at = c.unwrap-at.result in
    let within = rw (c.unwrap-at.ensures, c.deref.ensures.value) at c.index_of.ensures.within in
    let id = rw (c.unwrap-at.ensures, c.deref.ensures.value) at c.index_of.ensures.id in
    changed_at c.args.id (with_recovery_point c.args.start) rows c.self.inside.greatest at c.index_mut-row.result.now c.set_point.new.self c.self.invariant.0 within c.index_mut-row.ensures.value
    (id c.index_mut-row.result.now) c.set_point.ensures
    ∙ ap (λ (t : TableState). on_row c.args.id (with_recovery_point c.args.start) t.rows) c.self.view_is
