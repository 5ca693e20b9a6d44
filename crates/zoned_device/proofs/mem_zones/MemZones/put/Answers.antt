use Rattle.std.proofs.Common.{◌≡◌, Some, sym, ◌∙◌, ap, subst, arith}
use Rattle.zone_image.specs.Changes.{blocks_in, with_content}
use Rattle.zone_image.specs.Infos.{IsValidImage}
use Rattle.zone_image.proofs.BlockLaws.{length-blocks_in, All-blocks_in}
use Rattle.zone_image.proofs.InfoLaws.{valid_content}
use Rattle.zoned_device.specs.Content.{IsValidContent}
use Rattle.zoned_device.specs.MemState.{MemState, image_of, IsKnown}
use Rattle.zoned_device.proofs.mem_zones.MemZones.put.Goals as goal

pub returns-clause-known : goal.returns-clause-known
returns-clause-known c =
    let i = image_of c.args.self.now in
    let bytes = c.args.bytes.now in
    let old : ◌≡◌ {A = MemState} (record { content = Some c.in-Some.record; calls = c.self.inside.calls }) c.args.self.now =
    sym (ap (λ o. record { content = o; calls = c.self.inside.calls }) c.in-Some.is) ∙ c.self.view_is in
    let was : IsValidContent c.in-Some.record = subst IsKnown (sym old) c.requires.is_known in
    let valid : IsValidImage i = subst (λ (m : MemState). IsValidImage (image_of m)) old was.standing in
    let count = length-blocks_in i.geometry bytes in
    let new = valid_content i c.args.zone (blocks_in i.geometry bytes) c.args.kept c.args.sealed valid c.requires.is_zone (All-blocks_in i.geometry bytes c.requires.whole)
    (omega (arith, count, c.requires.room)) (omega (arith, count, c.requires.durable)) (λ all. c.requires.full (sym count ∙ all)) c.requires.active in
    subst IsValidContent (sym c.put.ensures) (record {
      standing = subst (λ (m : MemState). IsValidImage (with_content (image_of m) c.args.zone (blocks_in (image_of m).geometry bytes) c.args.kept c.args.sealed)) (sym old) new;
      moments = tt;
    })
