use Rattle.std.proofs.Common.{◌≡◌, ◌+◌, ◌/◌, ◌≤◌, ◌∙◌, sym, ap, subst, take, drop, length, List, ℕ, arith}
use Rattle.std.proofs.lemmas.Result.{on_ok_weaker}
use Rattle.zone_image.specs.declared.Geometry.{Geometry}
use Rattle.zone_image.specs.Infos.{info_at, IsPossibleInfo}
use Rattle.image_backend.specs.Table.{table_infos, slot_at}
use Rattle.power_image.specs.Layout.{block_at}
use Rattle.power_image.specs.Table.{zones_alone}
use Rattle.power_image.proofs.Alone.{alone_drop}
use Rattle.power_image.proofs.Places.{blocks_inside}
use Rattle.power_image.proofs.FileChanges.{image_read}
use Rattle.power_image.proofs.Tables.{info_is, info_possible}
use Rattle.power_image.proofs.reads.read.Goals as goal

pub block_at-requires-clause-is_block : goal.block_at-requires-clause-is_block
block_at-requires-clause-is_block g c =
    let t = c.args.table.now.zones in
    let possible : IsPossibleInfo t.geometry (info_at (table_infos t) c.args.zone) = info_possible t c.args.zone c.requires.known.table c.requires.is_zone in
    omega (arith, possible.room, c.requires.written, ap (λ (shape : Geometry). shape.capacity) c.geometry-geometry.ensures)

pub read_at-requires-clause-within : goal.read_at-requires-clause-within
read_at-requires-clause-within g c =
    let t = c.args.table.now.zones in
    let possible : IsPossibleInfo t.geometry (info_at (table_infos t) c.args.zone) = info_possible t c.args.zone c.requires.known.table c.requires.is_zone in
    let at : c.block_at.result ≡ block_at t.geometry c.args.zone c.args.block = c.block_at.ensures ∙ ap (λ (shape : Geometry). block_at shape c.args.zone c.args.block) c.geometry-geometry.ensures in
    let room : c.args.block + length c.args.out.now / t.geometry.block ≤ t.geometry.capacity = omega (arith, possible.room, c.requires.written) in
    let within = blocks_inside t.geometry c.args.zone c.args.block (length c.args.out.now) c.requires.known.table.possible.valid c.requires.is_zone c.requires.whole room in
    omega (arith, within, c.requires.known.zones.long, at)

pub returns-clause-bytes : goal.returns-clause-bytes
returns-clause-bytes g c =
    let t = c.args.table.now.zones in
    let zone = c.args.zone in
    let block = c.args.block in
    let bytes = length c.args.out.now in
    let contents = g.F.ByteFile.contents c.args.file.now in
    let at : c.block_at.result ≡ block_at t.geometry zone block = c.block_at.ensures ∙ ap (λ (shape : Geometry). block_at shape zone block) c.geometry-geometry.ensures in
    let written : block + bytes / t.geometry.block ≤ (slot_at t zone).written =
    subst (λ info. block + bytes / t.geometry.block ≤ info.written) (info_is t zone c.requires.known.table c.requires.is_zone) c.requires.written in
    on_ok_weaker c.read_at.result
    (λ read told. read told ∙ ap (λ k. take bytes (drop k contents)) at ∙ ap (λ (l : List ℕ). take bytes l) (sym (alone_drop t.geometry zone block contents))
    ∙ image_read t zone block bytes (zones_alone t.geometry contents) c.requires.known.table c.requires.is_zone c.requires.whole written)
    c.read_at.ensures.bytes
