use Rattle.std.proofs.Common.{Bool, sym, ap, subst}
use Rattle.power_image.specs.declared.counts.Counts.{Counts}
use Rattle.power_image.specs.State.{IsSaidIn}
use Rattle.power_image.proofs.Same.{held_same, said_same}
use Rattle.power_image.proofs.power_zones.PowerZonesZonedDevice.read.Goals as goal

pub invariant_of-self : goal.invariant_of-self
invariant_of-self g c = (
  held_same g.F.ByteFile.is_open g.F.ByteFile.is_sized g.F.ByteFile.size g.F.ByteFile.tells g.F.ByteFile.contents c.self.inside.file c.read-answer.new.file c.read-answer.ensures.same c.self.inside.table c.self.invariant.0,
  said_same g.F.ByteFile.is_open g.F.ByteFile.is_sized g.F.ByteFile.size g.F.ByteFile.tells g.F.ByteFile.contents c.self.inside.file c.read-answer.new.file c.read-answer.ensures.same c.self.inside.counts.broken
      c.self.inside.table c.self.invariant.1,
)

pub invariant_of-self-in-Err : goal.invariant_of-self-in-Err
invariant_of-self-in-Err g c = (
  held_same g.F.ByteFile.is_open g.F.ByteFile.is_sized g.F.ByteFile.size g.F.ByteFile.tells g.F.ByteFile.contents c.self.inside.file c.read-answer.new.file c.read-answer.ensures.same c.self.inside.table c.self.invariant.0,
  subst (λ (b : Bool). IsSaidIn g.F.ByteFile.tells b c.self.inside.table (g.F.ByteFile.contents c.read-answer.new.file)) (sym (ap (λ (x : Counts). x.broken) c.fault.ensures.counted))
      (said_same g.F.ByteFile.is_open g.F.ByteFile.is_sized g.F.ByteFile.size g.F.ByteFile.tells g.F.ByteFile.contents c.self.inside.file c.read-answer.new.file c.read-answer.ensures.same c.self.inside.counts.broken
      c.self.inside.table c.self.invariant.1),
)
