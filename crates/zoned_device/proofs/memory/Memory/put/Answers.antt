use Rattle.std.proofs.Common.{◌≡◌, ◌≤◌, ◌<◌, ◌/◌, ◌%◌, length, sym, ◌∙◌, ap, subst}
use Rattle.std.specs.Prelude.{IsTrue}
use Rattle.zone_image.specs.Image.{Image}
use Rattle.zone_image.specs.Changes.{blocks_in, with_content}
use Rattle.zone_image.specs.Infos.{infos_of, active_zones}
use Rattle.zoned_device.proofs.Memories.{with_buffer, memory_content}
use Rattle.zoned_device.proofs.memory.Memory.put.Goals as goal

pub invariant_of-self : goal.invariant_of-self
invariant_of-self c =
    let g = c.self.inside.geometry in
    let bytes = c.args.bytes.now in
    let back = sym c.self.view_is in
    let in_range : c.args.zone < g.zones = subst (λ i. c.args.zone < i.geometry.zones) back c.requires.is_zone in
    let whole = subst (λ i. length bytes % i.geometry.block ≡ 0) back c.requires.whole in
    let room = subst (λ i. length bytes / i.geometry.block ≤ i.geometry.capacity) back c.requires.room in
    let durable = subst (λ i. c.args.kept ≤ length bytes / i.geometry.block) back c.requires.durable in
    let full = subst (λ i. length bytes / i.geometry.block ≡ i.geometry.capacity → IsTrue c.args.sealed) back c.requires.full in
    let active = subst (λ i. active_zones (infos_of (with_content i c.args.zone (blocks_in i.geometry bytes) c.args.kept c.args.sealed)) ≤ i.geometry.active_limit) back c.requires.active in
    memory_content g c.self.inside.zones.items c.self.invariant c.args.zone c.index_mut-buffer.result.now in_range c.index_mut-buffer.ensures.value
    c.put.new.self bytes c.args.kept c.args.sealed whole c.put.ensures.buffer c.put.ensures.zone room durable full active

pub returns : goal.returns
returns c =
    let g = c.self.inside.geometry in
    let bytes = c.args.bytes.now in
    let in_range : c.args.zone < g.zones = subst (λ i. c.args.zone < i.geometry.zones) (sym c.self.view_is) c.requires.is_zone in
    with_buffer g c.self.inside.zones.items c.self.invariant c.args.zone c.index_mut-buffer.result.now in_range c.index_mut-buffer.ensures.value
    c.put.new.self (λ _. record { blocks = blocks_in g bytes; kept = c.args.kept; sealed = c.args.sealed }) c.put.ensures.zone
    ∙ ap (λ (i : Image). with_content i c.args.zone (blocks_in i.geometry bytes) c.args.kept c.args.sealed) c.self.view_is
