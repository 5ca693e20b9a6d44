use Rattle.std.proofs.Common.{◌+◌, ◌++◌, ◌∙◌, ap, arith, length}
use Rattle.zone_image.specs.Image.{Image}
use Rattle.extent_reader.specs.ZoneParts.{zone_part}
use Rattle.extent_reader.proofs.BlockBytes.{parts_join}
use Rattle.extent_reader.proofs.zones.read_blocks.Goals as goal

pub returns-clause-bytes : goal.returns-clause-bytes
returns-clause-bytes g c = λ told.
    let D = g.D.ZonedDevice in
    let i = D.image c.args.dev.now in
    let zone = c.args.place.zone in
    let offset = c.args.place.offset in
    let front = c.split_at_mut-front.result.0.now in
    let rest = c.split_at_mut-front.result.1.now in
    let count = c.whole_part-whole.result in
    ap (λ xs. xs ++ c.read_part.new.out) (c.in_ok-read_whole.ensures.bytes told ∙ ap (zone_part i zone offset) c.split_at_mut-front.ensures.front_len)
    ∙ ap (λ xs. zone_part i zone offset count ++ xs) (c.in_ok-read_part.ensures.bytes told ∙ ap (λ (k : Image). zone_part k zone (offset + count) (length rest)) (c.read_whole.ensures.device.same_image told))
    ∙ parts_join i zone offset count (length rest) (length c.args.out.now) (omega (arith, c.split_at_mut-front.ensures.back_len))
