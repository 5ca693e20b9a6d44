use Rattle.std.proofs.Common.{◌≡◌, ◌*◌, take, if◌then◌else◌, sym, ◌∙◌, ap, subst}
use Rattle.zone_image.specs.declared.Geometry.{Geometry}
use Rattle.zone_image.specs.Image.{Image}
use Rattle.zone_image.specs.Changes.{blocks_in}
use Rattle.zone_image.specs.Infos.{IsValidImage}
use Rattle.zone_image.proofs.BlockLaws.{blocks_in-take}
use Rattle.zone_image.proofs.InfoLaws.{some_block}
use Rattle.zoned_device.specs.Content.{Append, has_room, with_change, part_of, with_part}
use Rattle.zoned_device.proofs.Changes.{part_of-append}
use Rattle.zoned_device.proofs.calls.append_part.Goals as goal

-- the first blocks are those of the first bytes
pub returns-else-part-eq0-clause-content : goal.returns-else-part-eq0-clause-content
returns-else-part-eq0-clause-content c =
    let d = c.args.record.now in
    let g = d.standing.geometry in
    let bytes = c.args.bytes.now in
    let part = c.in-Some.part in
    let valid = subst (λ (i : Image). IsValidImage i) c.standing.ensures c.geometry-block.ensures.valid in
    let same : c.geometry-block.result.block ≡ g.block = ap (λ (h : Geometry). h.block) c.geometry-block.ensures.geometry ∙ ap (λ (i : Image). i.geometry.block) c.standing.ensures in
    let front : c.front_blocks.result.now ≡ take (part * g.block) bytes = c.front_blocks.ensures ∙ ap (λ b. take (part * b) bytes) same in
    let blocks = ap (blocks_in g) front ∙ blocks_in-take g part bytes (some_block g valid.possible.valid) c.requires.whole in
    let planned = ap (λ f. part_of f (Append c.args.zone (blocks_in g bytes))) c.in-Some.is ∙ part_of-append part c.args.zone (blocks_in g bytes) c.if-part-eq0.false in
    c.append-in-Some.ensures.content
    ∙ ap (λ b. if b then with_change c.args.tick (Append c.args.zone (blocks_in g c.front_blocks.result.now)) d else d) c.append-in-Some.ensures.answer
    ∙ ap (λ bs. if has_room d (Append c.args.zone bs) then with_change c.args.tick (Append c.args.zone bs) d else d) blocks
    ∙ sym (ap (λ p. with_part c.args.tick p d) planned)
