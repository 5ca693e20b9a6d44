use Rattle.std.proofs.Common.{◌≡◌, List, ap, sym, ◌∙◌}
use Rattle.fs_model.specs.FsState.{TableRow}
use Rattle.extent_map.specs.Applying.{place_of}
use Rattle.extent_map.specs.Lookups.{id_at, least_id_from}
use Rattle.extent_map.specs.TableState.{TableState}
use Rattle.extent_map.proofs.HalfLaws.{least_at}
use Rattle.extent_map.proofs.table.FileTable.next_id.Goals as goal

pub returns : goal.returns
returns c =
    let rows : List TableRow = c.self.inside.rows.items in
    let at : c.place_of-at.result ≡ place_of c.args.from rows = c.place_of-at.ensures.place ∙ ap (place_of c.args.from) c.deref.ensures.value in
    c.id_at.ensures ∙ ap (id_at c.place_of-at.result) c.deref-2.ensures.value ∙ ap (λ k. id_at k rows) at
    ∙ sym (least_at 0 c.args.from rows c.self.invariant.0.table.ids) ∙ ap (λ (t : TableState). least_id_from c.args.from t.rows) c.self.view_is
