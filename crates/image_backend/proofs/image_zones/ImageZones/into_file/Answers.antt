use Rattle.std.proofs.Common.{sym, ◌∙◌, ap, subst, IsSome}
use Rattle.zone_image.specs.Changes.{synced}
use Rattle.image_backend.specs.FileImage.{standing_image}
use Rattle.image_backend.proofs.Described.{found_standing}
use Rattle.image_backend.proofs.image_zones.ImageZones.into_file.Goals as goal

pub returns-clause-found : goal.returns-clause-found
returns-clause-found g c told some unbroken =
    let is_some = subst (λ d. IsSome d.table) (sym c.self.view_is) some in
    let is_whole = ap (λ d. d.counts.broken) c.self.view_is ∙ unbroken in
    found_standing c.self.inside.table g.F.ByteFile.tells c.self.inside.counts.broken (g.F.ByteFile.contents c.self.inside.file) c.self.invariant.1 told is_some is_whole
    ∙ ap (λ d. synced (standing_image d.table (g.F.ByteFile.contents d.file))) c.self.view_is
