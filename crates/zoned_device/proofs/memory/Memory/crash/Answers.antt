use Rattle.std.proofs.Common.{◌≡◌, List, length, map, sym, ◌∙◌, ap, subst}
use Rattle.std.proofs.lemmas.List.{with_items_is}
use Rattle.zone_image.specs.Changes.{zones_crashed}
use Rattle.zoned_device.specs.declared.zone_buffer.ZoneBuffer.{ZoneBuffer}
use Rattle.zoned_device.specs.Memory.{zone_in, IsMemory}
use Rattle.zoned_device.proofs.Memories.{memory_crashed}
use Rattle.zoned_device.proofs.memory.Memory.crash.Goals as goal

pub invariant_of-self : goal.invariant_of-self
invariant_of-self c =
    let g = c.self.inside.geometry in
    let buffers = c.self.inside.zones.items in
    let keep = c.args.keep.now in
    let long : length c.crash_zones.new.zones ≡ c.self.inside.zones.len = c.crash_zones.auto.zones ∙ c.deref_mut.ensures.len in
    let left = c.crash_zones.ensures.left ∙ ap (λ (l : List ZoneBuffer). zones_crashed (map (zone_in g.block) l) keep) c.deref_mut.ensures.value in
    subst (IsMemory g) (sym (with_items_is c.self.inside.zones c.crash_zones.new.zones long))
    (memory_crashed g buffers c.crash_zones.new.zones keep c.self.invariant c.crash_zones.ensures.buffers left)
