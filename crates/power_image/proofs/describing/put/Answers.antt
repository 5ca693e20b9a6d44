use Rattle.std.proofs.Common.{ℕ, ◌+◌, ◌≤◌, not, List, length, set, sym, ◌∙◌, ap, subst, arith}
use Rattle.image_backend.specs.Contents.{patched}
use Rattle.power_image.specs.Layout.{image_bytes, slot_offset}
use Rattle.power_image.specs.Table.{Known, descriptor_in, Describes}
use Rattle.power_image.specs.State.{SameZones}
use Rattle.power_image.proofs.Alone.{zones_behind}
use Rattle.power_image.proofs.Bytes.{patched_outside}
use Rattle.power_image.proofs.Described.{described_put}
use Rattle.power_image.proofs.Places.{descriptor_within, put_place, put_within}
use Rattle.power_image.proofs.describing.put.Goals as goal

pub write_at-requires-clause-within : goal.write_at-requires-clause-within
write_at-requires-clause-within g c =
    let t = c.args.table.now in
    let zone = c.args.zone in
    let d = descriptor_in t zone in
    let place = put_place zone c.args.offset c.slot_at.result c.from.result c.descriptor-second.result d c.slot_at.ensures c.descriptor-second.ensures c.from.ensures in
    omega (arith, place, put_within d c.args.offset (length c.args.bytes.now) c.requires.within, descriptor_within t.zones.geometry zone c.requires.is_zone, c.requires.known.zones.long)

pub returns-in_err-write_at-clause-same_zones : goal.returns-in_err-write_at-clause-same_zones
returns-in_err-write_at-clause-same_zones g c told =
    let t = c.args.table.now in
    let zone = c.args.zone in
    let d = descriptor_in t zone in
    let place = put_place zone c.args.offset c.slot_at.result c.from.result c.descriptor-second.result d c.slot_at.ensures c.descriptor-second.ensures c.from.ensures in
    zones_behind t.zones.geometry (g.F.ByteFile.contents c.args.file.now) (g.F.ByteFile.contents c.write_at.new.self)
    (omega (arith, place, put_within d c.args.offset (length c.args.bytes.now) c.requires.within, descriptor_within t.zones.geometry zone c.requires.is_zone))
    (c.in_err-write_at.ensures.after_fault told)

pub returns-clause-same_zones : goal.returns-clause-same_zones
returns-clause-same_zones g c told =
    let t = c.args.table.now in
    let zone = c.args.zone in
    let d = descriptor_in t zone in
    let old = g.F.ByteFile.contents c.args.file.now in
    let place = put_place zone c.args.offset c.slot_at.result c.from.result c.descriptor-second.result d c.slot_at.ensures c.descriptor-second.ensures c.from.ensures in
    let within = put_within d c.args.offset (length c.args.bytes.now) c.requires.within in
    let before = descriptor_within t.zones.geometry zone c.requires.is_zone in
    let long : image_bytes t.zones.geometry ≤ length old = omega (arith, g.met.F.ByteFile.told c.args.file.now told c.requires.known.zones.known, c.requires.known.zones.long) in
    subst (SameZones t.zones.geometry old) (sym (c.in_ok-write_at.ensures.written told))
    (zones_behind t.zones.geometry old (patched (c.slot_at.result + c.from.result) c.args.bytes.now old) (omega (arith, place, within, before))
    (patched_outside (c.slot_at.result + c.from.result) c.args.bytes.now old (omega (arith, place, within, before, long))))

pub returns-clause-said : goal.returns-clause-said
returns-clause-said g c told =
    let t = c.args.table.now in
    let zone = c.args.zone in
    let d = descriptor_in t zone in
    let old = g.F.ByteFile.contents c.args.file.now in
    let new = g.F.ByteFile.contents c.write_at.new.self in
    let place = put_place zone c.args.offset c.slot_at.result c.from.result c.descriptor-second.result d c.slot_at.ensures c.descriptor-second.ensures c.from.ensures in
    let within = put_within d c.args.offset (length c.args.bytes.now) c.requires.within in
    let long : image_bytes t.zones.geometry ≤ length old = omega (arith, g.met.F.ByteFile.told c.args.file.now told c.requires.known.zones.known, c.requires.known.zones.long) in
    subst (λ (k : Known). Describes new k.zones.geometry k.descriptors) (sym c.set_descriptor.ensures)
    (subst (λ (l : List ℕ). Describes l t.zones.geometry (set t.descriptors zone c.args.after)) (sym (c.in_ok-write_at.ensures.written told ∙ ap (λ n. patched n c.args.bytes.now old) place))
    (described_put t.zones.geometry t.descriptors zone (slot_offset (not d.second) + c.args.offset) c.args.bytes.now old c.args.after c.requires.is_zone long within c.requires.turns (c.requires.said told)))
