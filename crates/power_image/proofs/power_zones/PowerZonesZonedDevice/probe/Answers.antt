use Rattle.std.proofs.Common.{ℕ, List, subst, sym}
use Rattle.power_image.specs.Table.{Known, known_in, Describes}
use Rattle.power_image.proofs.Described.{described_found}
use Rattle.power_image.proofs.power_zones.PowerZonesZonedDevice.probe.Goals as goal

pub invariant_of-self : goal.invariant_of-self
invariant_of-self g c = (
  c.in-Ok.ensures.found,
  λ unbroken told.
      let old = g.F.ByteFile.contents c.self.inside.file in
      subst (λ (k : Known). Describes (g.F.ByteFile.contents c.scan.new.file) k.zones.geometry k.descriptors) (sym (c.in-Ok.ensures.table told))
      (subst (λ (l : List ℕ). Describes l (known_in old).zones.geometry (known_in old).descriptors) (sym (c.in-Ok.ensures.same told)) (described_found old (c.in-Ok.ensures.right told))),
)
