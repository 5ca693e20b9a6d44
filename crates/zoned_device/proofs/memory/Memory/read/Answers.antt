use Rattle.std.proofs.Common.{◌≡◌, ◌≤◌, ◌<◌, ◌+◌, ◌*◌, ◌/◌, ◌%◌, length, take, drop, sym, ◌∙◌, ap, subst, arith}
use Rattle.zone_image.specs.Image.{Image}
use Rattle.zone_image.specs.Changes.{bytes_at}
use Rattle.zone_image.specs.Infos.{info_at, infos_of}
use Rattle.zone_image.proofs.BlockLaws.{whole_bytes}
use Rattle.zoned_device.proofs.Memories.{info_is, bytes_are}
use Rattle.zoned_device.proofs.memory.Memory.read.Goals as goal

pub read-requires-clause-written : goal.read-requires-clause-written
read-requires-clause-written c =
    let g = c.self.inside.geometry in
    let in_range : c.args.zone < g.zones = subst (λ i. c.args.zone < i.geometry.zones) (sym c.self.view_is) c.requires.is_zone in
    let told = info_is g c.self.inside.zones.items c.self.invariant c.args.zone c.index-buffer.result.now in_range c.index-buffer.ensures in
    let written = subst (λ i. c.args.block + length c.args.out.now / i.geometry.block ≤ (info_at (infos_of i) c.args.zone).written) (sym c.self.view_is) c.requires.written in
    omega (arith, written, ap (λ info. info.written) told)

pub returns : goal.returns
returns c =
    let g = c.self.inside.geometry in
    let b = c.index-buffer.result.now in
    let count = length c.args.out.now / g.block in
    let in_range : c.args.zone < g.zones = subst (λ i. c.args.zone < i.geometry.zones) (sym c.self.view_is) c.requires.is_zone in
    let whole = subst (λ i. length c.args.out.now % i.geometry.block ≡ 0) (sym c.self.view_is) c.requires.whole in
    let told = info_is g c.self.inside.zones.items c.self.invariant c.args.zone b in_range c.index-buffer.ensures in
    let written = subst (λ i. c.args.block + length c.args.out.now / i.geometry.block ≤ (info_at (infos_of i) c.args.zone).written) (sym c.self.view_is) c.requires.written in
    let within : c.args.block + count ≤ b.written = omega (arith, written, ap (λ info. info.written) told) in
    c.read.ensures
    ∙ ap (λ n. take n (drop (c.args.block * g.block) b.bytes.items)) (sym (whole_bytes (length c.args.out.now) g.block whole))
    ∙ sym (bytes_are g c.self.inside.zones.items c.self.invariant c.args.zone b in_range c.index-buffer.ensures c.args.block count within)
    ∙ ap (λ (i : Image). bytes_at i c.args.zone c.args.block (length c.args.out.now / i.geometry.block)) c.self.view_is
