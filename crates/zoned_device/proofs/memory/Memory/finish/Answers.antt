use Rattle.std.proofs.Common.{◌<◌, sym, ◌∙◌, ap, subst, refl}
use Rattle.zone_image.specs.Image.{Image}
use Rattle.zone_image.specs.Changes.{zone_finished, finished}
use Rattle.zoned_device.proofs.Memories.{buffer_is, with_buffer, memory_finished}
use Rattle.zoned_device.proofs.memory.Memory.finish.Goals as goal

pub invariant_of-self : goal.invariant_of-self
invariant_of-self c =
    let g = c.self.inside.geometry in
    let buffers = c.self.inside.zones.items in
    let b = c.index_mut-buffer.result.now in
    let in_range : c.args.zone < g.zones = subst (λ i. c.args.zone < i.geometry.zones) (sym c.self.view_is) c.requires in
    let is = buffer_is g buffers c.self.invariant c.args.zone b in_range c.index_mut-buffer.ensures.value in
    memory_finished g buffers c.self.invariant c.args.zone b in_range c.index_mut-buffer.ensures.value _
    (record { whole = is.whole; room = is.room; limit = is.limit; kept = is.kept }) refl

pub returns : goal.returns
returns c =
    let g = c.self.inside.geometry in
    let buffers = c.self.inside.zones.items in
    let b = c.index_mut-buffer.result.now in
    let in_range : c.args.zone < g.zones = subst (λ i. c.args.zone < i.geometry.zones) (sym c.self.view_is) c.requires in
    with_buffer g buffers c.self.invariant c.args.zone b in_range c.index_mut-buffer.ensures.value _ zone_finished refl
    ∙ ap (λ (i : Image). finished i c.args.zone) c.self.view_is
