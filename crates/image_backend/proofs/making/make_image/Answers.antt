use Rattle.std.proofs.Common.{◌∙◌, ap, IsTrue, rules}
use Rattle.zone_image.specs.Image.{is_valid}
use Rattle.image_backend.specs.Format.{is_image}
use Rattle.image_backend.specs.FileImage.{found_image}
use Rattle.image_backend.proofs.Described.{new_found, new_blank}
use Rattle.image_backend.proofs.making.make_image.Goals as goal

pub returns-in-Ok-clause-found : goal.returns-in-Ok-clause-found
returns-in-Ok-clause-found g c told =
    let valid : IsTrue (is_valid c.args.geometry.now) = search rules in
    ap is_image (c.in-Ok.ensures.made told) ∙ new_found c.args.geometry.now (g.F.ByteFile.contents c.args.file.now) valid

pub returns-in-Ok-clause-empty : goal.returns-in-Ok-clause-empty
returns-in-Ok-clause-empty g c told =
    let valid : IsTrue (is_valid c.args.geometry.now) = search rules in
    ap found_image (c.in-Ok.ensures.made told) ∙ new_blank c.args.geometry.now (g.F.ByteFile.contents c.args.file.now) valid
