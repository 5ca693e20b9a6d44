use Rattle.std.proofs.Common.{◌≡◌, length, map, sym, ◌∙◌, ap, subst}
use Rattle.std.proofs.lemmas.List.{with_items_is}
use Rattle.zone_image.specs.Image.{Image}
use Rattle.zone_image.specs.Changes.{synced}
use Rattle.zoned_device.specs.Memory.{image_in, synced_buffer, IsMemory}
use Rattle.zoned_device.proofs.Memories.{image_synced, memory_synced}
use Rattle.zoned_device.proofs.memory.Memory.sync.Goals as goal

pub invariant_of-self : goal.invariant_of-self
invariant_of-self c =
    let g = c.self.inside.geometry in
    let buffers = c.self.inside.zones.items in
    let new : c.sync.new.zones ≡ map synced_buffer buffers = c.sync.ensures ∙ ap (map synced_buffer) c.deref_mut.ensures.value in
    let long : length c.sync.new.zones ≡ c.self.inside.zones.len = c.sync.auto.zones ∙ c.deref_mut.ensures.len in
    subst (IsMemory g) (sym (with_items_is c.self.inside.zones c.sync.new.zones long ∙ new)) (memory_synced g buffers c.self.invariant)

pub returns : goal.returns
returns c =
    let g = c.self.inside.geometry in
    let buffers = c.self.inside.zones.items in
    let new : c.sync.new.zones ≡ map synced_buffer buffers = c.sync.ensures ∙ ap (map synced_buffer) c.deref_mut.ensures.value in
    let long : length c.sync.new.zones ≡ c.self.inside.zones.len = c.sync.auto.zones ∙ c.deref_mut.ensures.len in
    ap (image_in g) (with_items_is c.self.inside.zones c.sync.new.zones long ∙ new)
    ∙ image_synced g buffers c.self.invariant
    ∙ ap (λ (i : Image). synced i) c.self.view_is
