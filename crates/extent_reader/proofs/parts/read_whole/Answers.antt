use Rattle.std.proofs.Common.{◌∙◌, ◌/◌, ◌%◌, ap, sym, length}
use Rattle.zone_image.specs.declared.Geometry.{Geometry}
use Rattle.extent_reader.proofs.BlockBytes.{whole_read}
use Rattle.extent_reader.proofs.parts.read_whole.Goals as goal

pub returns-clause-bytes : goal.returns-clause-bytes
returns-clause-bytes g c = λ told.
    let D = g.D.ZonedDevice in
    let dev = c.args.dev.now in
    let shape = D.geometry dev in
    let len = length c.args.out.now in
    let same = c.requires.same_geometry in
    c.in_ok-read_blocks.ensures.bytes told
    ∙ whole_read shape (D.infos dev) (D.image dev) c.args.place.zone c.args.place.offset len c.block_of-block.result (len / c.args.geometry.now.block)
    (g.met.D.ZonedDevice.told dev told c.requires.is_known)
    (ap (λ (s : Geometry). c.args.place.offset % s.block) (sym same) ∙ c.requires.starts)
    (ap (λ (s : Geometry). len % s.block) (sym same) ∙ c.requires.whole)
    (c.block_of-block.ensures ∙ ap (λ (s : Geometry). c.args.place.offset / s.block) same)
    (ap (λ (s : Geometry). len / s.block) same)
