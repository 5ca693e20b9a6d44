use Rattle.std.proofs.Common.{◌≡◌, ◌≤◌, ◌<◌, ◌+◌, ◌/◌, ◌%◌, false, length, sym, ◌∙◌, ap, subst, arith}
use Rattle.zone_image.specs.Image.{Image}
use Rattle.zone_image.specs.Changes.{blocks_in, zone_appended, appended}
use Rattle.zone_image.specs.Infos.{info_at, infos_of, active_zones}
use Rattle.zoned_device.proofs.Memories.{info_is, with_buffer, memory_appended}
use Rattle.zoned_device.proofs.memory.Memory.append.Goals as goal

pub append-requires-clause-room : goal.append-requires-clause-room
append-requires-clause-room c =
    let g = c.self.inside.geometry in
    let bytes = c.args.bytes.now in
    let in_range : c.args.zone < g.zones = subst (λ i. c.args.zone < i.geometry.zones) (sym c.self.view_is) c.requires.is_zone in
    let told = info_is g c.self.inside.zones.items c.self.invariant c.args.zone c.index_mut-buffer.result.now in_range c.index_mut-buffer.ensures.value in
    let room = subst (λ i. (info_at (infos_of i) c.args.zone).written + length bytes / i.geometry.block ≤ i.geometry.capacity) (sym c.self.view_is) c.requires.room in
    omega (arith, room, ap (λ info. info.written) told)

pub invariant_of-self : goal.invariant_of-self
invariant_of-self c =
    let g = c.self.inside.geometry in
    let bytes = c.args.bytes.now in
    let in_range : c.args.zone < g.zones = subst (λ i. c.args.zone < i.geometry.zones) (sym c.self.view_is) c.requires.is_zone in
    let whole = subst (λ i. length bytes % i.geometry.block ≡ 0) (sym c.self.view_is) c.requires.whole in
    let unsealed = subst (λ i. (info_at (infos_of i) c.args.zone).sealed ≡ false) (sym c.self.view_is) c.requires.unsealed in
    let room = subst (λ i. (info_at (infos_of i) c.args.zone).written + length bytes / i.geometry.block ≤ i.geometry.capacity) (sym c.self.view_is) c.requires.room in
    let spare = subst (λ i. (info_at (infos_of i) c.args.zone).written ≡ 0 → active_zones (infos_of i) < i.geometry.active_limit) (sym c.self.view_is) c.requires.active in
    memory_appended g c.self.inside.zones.items c.self.invariant c.args.zone c.index_mut-buffer.result.now in_range c.index_mut-buffer.ensures.value c.append.new.self bytes whole c.append.ensures.buffer c.append.ensures.zone unsealed room spare

pub returns : goal.returns
returns c =
    let g = c.self.inside.geometry in
    let bytes = c.args.bytes.now in
    let in_range : c.args.zone < g.zones = subst (λ i. c.args.zone < i.geometry.zones) (sym c.self.view_is) c.requires.is_zone in
    with_buffer g c.self.inside.zones.items c.self.invariant c.args.zone c.index_mut-buffer.result.now in_range c.index_mut-buffer.ensures.value c.append.new.self (zone_appended g.capacity (blocks_in g bytes)) c.append.ensures.zone
    ∙ ap (λ (i : Image). appended i c.args.zone (blocks_in i.geometry bytes)) c.self.view_is
