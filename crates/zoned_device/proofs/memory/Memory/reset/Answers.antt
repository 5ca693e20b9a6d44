use Rattle.std.proofs.Common.{◌<◌, sym, ◌∙◌, ap, subst}
use Rattle.zone_image.specs.Image.{Image, no_zone}
use Rattle.zone_image.specs.Changes.{emptied}
use Rattle.zoned_device.proofs.Memories.{with_buffer, memory_emptied}
use Rattle.zoned_device.proofs.memory.Memory.reset.Goals as goal

pub invariant_of-self : goal.invariant_of-self
invariant_of-self c =
    let g = c.self.inside.geometry in
    let in_range : c.args.zone < g.zones = subst (λ i. c.args.zone < i.geometry.zones) (sym c.self.view_is) c.requires in
    memory_emptied g c.self.inside.zones.items c.self.invariant c.args.zone c.index_mut-buffer.result.now in_range c.index_mut-buffer.ensures.value c.reset.new.self c.reset.ensures.buffer c.reset.ensures.zone

pub returns : goal.returns
returns c =
    let g = c.self.inside.geometry in
    let in_range : c.args.zone < g.zones = subst (λ i. c.args.zone < i.geometry.zones) (sym c.self.view_is) c.requires in
    with_buffer g c.self.inside.zones.items c.self.invariant c.args.zone c.index_mut-buffer.result.now in_range c.index_mut-buffer.ensures.value c.reset.new.self (λ _. no_zone) c.reset.ensures.zone
    ∙ ap (λ (i : Image). emptied i c.args.zone) c.self.view_is
