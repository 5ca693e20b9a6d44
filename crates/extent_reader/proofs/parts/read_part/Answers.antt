use Rattle.std.proofs.Common.{◌∙◌, ◌+◌, ◌≤◌, ◌/◌, ◌%◌, ap, subst, length, take, drop}
use Rattle.zone_image.specs.declared.Geometry.{Geometry}
use Rattle.zone_image.specs.Changes.{bytes_at}
use Rattle.zone_image.proofs.InfoLaws.{some_block}
use Rattle.extent_reader.proofs.BlockBytes.{part_read, one_block}
use Rattle.extent_reader.proofs.parts.read_part.Goals as goal

pub returns-clause-bytes : goal.returns-clause-bytes
returns-clause-bytes g c = λ told.
    let D = g.D.ZonedDevice in
    let dev = c.args.dev.now in
    let shape = D.geometry dev in
    let offset = c.args.place.offset in
    let len = length c.args.out.now in
    let same = c.requires.same_geometry in
    let some = some_block shape (g.met.D.ZonedDevice.possible dev c.requires.is_known).valid in
    let read = c.in_ok-read.ensures.bytes told
    ∙ ap (bytes_at (D.image dev) c.args.place.zone c.block_of-number.result) (one_block shape (length c.args.block.now) some (c.requires.buffer ∙ ap (λ (s : Geometry). s.block) same)) in
    let within = subst (λ (s : Geometry). offset % s.block + len ≤ s.block) same c.requires.within in
    let at = c.block_of-number.ensures ∙ ap (λ (s : Geometry). offset / s.block) same in
    let part = part_read shape (D.infos dev) (D.image dev) c.args.place.zone offset len c.block_of-number.result c.read.new.out (g.met.D.ZonedDevice.told dev told c.requires.is_known) within at read in
    c.copy_part.ensures.part
    ∙ ap (λ n. take len (drop n c.read.new.out)) (c.skip_of-skip.ensures.exact ∙ ap (λ (s : Geometry). offset % s.block) same)
    ∙ part
