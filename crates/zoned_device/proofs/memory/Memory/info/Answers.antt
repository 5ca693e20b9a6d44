use Rattle.std.proofs.Common.{◌<◌, sym, ◌∙◌, ap, subst}
use Rattle.zone_image.specs.Image.{Image}
use Rattle.zone_image.specs.Infos.{info_at, infos_of}
use Rattle.zoned_device.proofs.Memories.{info_is}
use Rattle.zoned_device.proofs.memory.Memory.info.Goals as goal

pub returns : goal.returns
returns c =
    let g = c.self.inside.geometry in
    let in_range : c.args.zone < g.zones = subst (λ i. c.args.zone < i.geometry.zones) (sym c.self.view_is) c.requires in
    sym (info_is g c.self.inside.zones.items c.self.invariant c.args.zone c.index-buffer.result.now in_range c.index-buffer.ensures)
    ∙ ap (λ (i : Image). info_at (infos_of i) c.args.zone) c.self.view_is
