use Rattle.std.proofs.Common.{ℕ, List, subst, sym}
use Rattle.image_backend.specs.Table.{TableState, table_in}
use Rattle.image_backend.specs.FileImage.{Describes}
use Rattle.image_backend.proofs.Described.{described_found}
use Rattle.image_backend.proofs.image_zones.ImageZonesZonedDevice.probe.Goals as goal

pub invariant_of-self : goal.invariant_of-self
invariant_of-self g c = (
  c.in-Ok.ensures.found,
  λ told unbroken.
      let old = g.F.ByteFile.contents c.self.inside.file in
      subst (λ (t : TableState). Describes (g.F.ByteFile.contents c.scan.new.file) t) (sym (c.in-Ok.ensures.table told))
      (subst (λ (l : List ℕ). Describes l (table_in old)) (sym (c.in-Ok.ensures.same told)) (described_found old (c.in-Ok.ensures.right told))),
)
