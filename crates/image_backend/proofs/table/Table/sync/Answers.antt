use Rattle.std.proofs.Common.{◌≡◌, length, map, ◌∙◌, ap}
use Rattle.std.proofs.lemmas.List.{with_items_is}
use Rattle.image_backend.specs.Table.{TableState, slot_synced, table_synced}
use Rattle.image_backend.proofs.table.Table.sync.Goals as goal

pub returns : goal.returns
returns c =
    let g = c.self.inside.geometry in
    let new : c.keep_all.new.slots ≡ map slot_synced c.self.inside.slots.items = c.keep_all.ensures ∙ ap (map slot_synced) c.deref_mut.ensures.value in
    let long : length c.keep_all.new.slots ≡ c.self.inside.slots.len = c.keep_all.auto.slots ∙ c.deref_mut.ensures.len in
    ap (λ ss. record { geometry = g; slots = ss }) (with_items_is c.self.inside.slots c.keep_all.new.slots long ∙ new)
    ∙ ap (λ (t : TableState). table_synced t) c.self.view_is
