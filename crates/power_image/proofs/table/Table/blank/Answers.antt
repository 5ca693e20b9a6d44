use Rattle.std.proofs.Common.{List, ◌∙◌, ap, refl, map, replicate, false}
use Rattle.image_backend.specs.declared.table.Slot.{Slot as Numbers}
use Rattle.image_backend.specs.Table.{no_slot}
use Rattle.power_image.specs.declared.table.Zone.{Zone}
use Rattle.power_image.specs.declared.descriptor.Descriptor.{Descriptor}
use Rattle.power_image.specs.Table.{numbers_of}
use Rattle.power_image.proofs.Numbers.{numbers_blank}
use Rattle.power_image.proofs.table.Table.blank.Goals as goal

abbrev no_zone : Zone
no_zone = record { written = 0; kept = 0; sealed = false }

pub returns : goal.returns
returns c =
    let g = c.args.geometry.now in
    let zones = c.in_ok-vec.ensures.items_if_clones_equal (λ y is. is) in
    let ds = c.in_ok-vec-2.ensures.items_if_clones_equal (λ y is. is) in
    ap (λ (zs : List Zone). record { zones = record { geometry = g; slots = map numbers_of zs }; descriptors = c.in_ok-vec-2.field-0.items }) zones
    ∙ ap (λ (ns : List Numbers). record { zones = record { geometry = g; slots = ns }; descriptors = c.in_ok-vec-2.field-0.items }) (numbers_blank g.zones no_zone refl)
    ∙ ap (λ (l : List Descriptor). record { zones = record { geometry = g; slots = replicate g.zones no_slot }; descriptors = l }) ds
