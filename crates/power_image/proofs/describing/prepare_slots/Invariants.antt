use Rattle.power_image.specs.State.{AreClosed, ArePrepared}
use Rattle.power_image.proofs.Looping.{Kept}
use Rattle.power_image.proofs.describing.prepare_slots.Given as goal

-- the zones before the index are done
abbrev pub invariant-loop-zone : goal.invariant-loop-zone
invariant-loop-zone g l = record {
  kept : Kept g.F.ByteFile.is_open g.F.ByteFile.is_sized g.F.ByteFile.size g.F.ByteFile.tells g.F.ByteFile.contents g.F.ByteFile.faults l.initial.table l.initial.file l.table l.file;
  closed : AreClosed l.table l.from l.to;
  prepared : ArePrepared l.table l.from l.zone;
}
