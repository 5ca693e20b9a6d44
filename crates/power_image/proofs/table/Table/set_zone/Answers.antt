use Rattle.std.proofs.Common.{List, ◌∙◌, ap}
use Rattle.std.proofs.lemmas.List.{map-set}
use Rattle.image_backend.specs.declared.table.Slot.{Slot as Numbers}
use Rattle.image_backend.specs.Table.{with_slot}
use Rattle.power_image.specs.Table.{Known, numbers_of}
use Rattle.power_image.proofs.table.Table.set_zone.Goals as goal

pub returns : goal.returns
returns c =
    let g = c.self.inside.geometry in
    let ds = c.self.inside.descriptors.items in
    ap (λ (ns : List Numbers). record { zones = record { geometry = g; slots = ns }; descriptors = ds }) (map-set numbers_of c.self.inside.zones.items c.args.zone c.args.numbers)
    ∙ ap (λ (k : Known). record k { zones = with_slot k.zones c.args.zone (numbers_of c.args.numbers) }) c.self.view_is
