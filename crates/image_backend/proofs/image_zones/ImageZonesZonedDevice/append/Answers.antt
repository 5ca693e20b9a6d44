use Rattle.std.proofs.Common.{◌≡◌, ◌<◌, Some, sym, ◌∙◌, ap, subst}
use Rattle.zone_image.specs.Changes.{blocks_in}
use Rattle.image_backend.specs.ImageState.{geometry_in, IsHeld}
use Rattle.image_backend.proofs.FileChanges.{append_failed}
use Rattle.image_backend.proofs.image_zones.ImageZonesZonedDevice.append.Goals as goal

pub returns-clause-after_fault : goal.returns-clause-after_fault
returns-clause-after_fault g c =
    let t = c.in-Some.table in
    let there : c.args.self.now.table ≡ Some t = sym (ap (λ d. d.table) c.self.view_is) ∙ c.in-Some.is in
    let held = subst (λ o. IsHeld g.F.ByteFile.is_open g.F.ByteFile.is_sized g.F.ByteFile.size o c.self.inside.file) c.in-Some.is c.self.invariant.0 in
    let in_range : c.args.zone < t.geometry.zones = subst (λ o. c.args.zone < (geometry_in o).zones) there c.requires.is_zone in
    append_failed c.append.result g.F.ByteFile.tells t c.append.new.table c.args.zone (g.F.ByteFile.contents c.self.inside.file) (g.F.ByteFile.contents c.append.new.file) held.table in_range
    c.args.self.now.table (g.F.ByteFile.contents c.args.self.now.file) there (ap (λ d. g.F.ByteFile.contents d.file) c.self.view_is) c.append.ensures.not_done c.append.ensures.same_image
    (blocks_in (geometry_in c.args.self.now.table) c.args.bytes.now)
