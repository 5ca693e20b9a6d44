use Rattle.std.proofs.Common.{◌≡◌, List, length, map, ◌∙◌, ap}
use Rattle.std.proofs.lemmas.List.{with_items_is}
use Rattle.image_backend.specs.declared.table.Slot.{Slot as Numbers}
use Rattle.image_backend.specs.Table.{table_synced}
use Rattle.power_image.specs.declared.table.Zone.{Zone}
use Rattle.power_image.specs.Table.{Known, numbers_of, zone_kept}
use Rattle.power_image.proofs.Numbers.{numbers_kept}
use Rattle.power_image.proofs.table.Table.sync.Goals as goal

abbrev with_numbers : Known → List Numbers → Known
with_numbers k slots = record k { zones = record k.zones { slots = slots } }

abbrev all_synced : Known → Known
all_synced k = record k { zones = table_synced k.zones }

pub returns : goal.returns
returns c =
    let g = c.self.inside.geometry in
    let ds = c.self.inside.descriptors.items in
    let new : c.keep_all.new.zones ≡ map zone_kept c.self.inside.zones.items = c.keep_all.ensures ∙ ap (map zone_kept) c.deref_mut.ensures.value in
    let long : length c.keep_all.new.zones ≡ c.self.inside.zones.len = c.keep_all.auto.zones ∙ c.deref_mut.ensures.len in
    ap (λ (zs : List Zone). record { zones = record { geometry = g; slots = map numbers_of zs }; descriptors = ds }) (with_items_is c.self.inside.zones c.keep_all.new.zones long ∙ new)
    ∙ ap (λ (ns : List Numbers). record { zones = record { geometry = g; slots = ns }; descriptors = ds }) (numbers_kept c.self.inside.zones.items)
    ∙ ap all_synced c.self.view_is
