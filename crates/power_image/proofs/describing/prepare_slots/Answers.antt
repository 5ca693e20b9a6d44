use Rattle.std.proofs.Common.{◌≡◌, ◌+◌, ◌<◌, length, sym, ◌∙◌, ap, subst, arith}
use Rattle.image_backend.specs.Table.{TableState}
use Rattle.power_image.specs.Table.{Known}
use Rattle.power_image.specs.State.{AreClosed, ArePrepared, with_prepared}
use Rattle.power_image.proofs.Looping.{kept_step}
use Rattle.power_image.proofs.Steps.{prepared_zones, prepared_count, prepared_keeps_closed, prepared_more}
use Rattle.power_image.proofs.describing.prepare_slots.Goals as goal

pub loop-zone-preserved : goal.loop-zone-preserved
loop-zone-preserved g c =
    let k = c.loop-zone.table in
    let zone = c.loop-zone.zone in
    let inv = c.loop-zone.invariant in
    let there : zone < length k.descriptors =
    omega (arith, c.loop-zone-test.true, c.requires.range, inv.kept.known.count, ap (λ (t : TableState). t.geometry.zones) inv.kept.numbers) in
    let done : c.prepare_slot.new.table ≡ with_prepared k zone = c.in_ok-prepare_slot.ensures.done in
    record {
      kept =
          kept_step g.F.ByteFile.is_open g.F.ByteFile.is_sized g.F.ByteFile.size g.F.ByteFile.tells g.F.ByteFile.contents g.F.ByteFile.faults c.args.table.now c.args.file.now k c.loop-zone.file inv.kept
          c.prepare_slot.new.table c.prepare_slot.new.file
          (ap (λ (x : Known). x.zones) done ∙ prepared_zones k zone there)
          (ap (λ (x : Known). length x.descriptors) done ∙ prepared_count k zone there)
          c.in_ok-prepare_slot.ensures.still_open c.in_ok-prepare_slot.ensures.said c.in_ok-prepare_slot.ensures.same_zones c.in_ok-prepare_slot.ensures.cause.never_falls;
      closed = subst (λ (x : Known). AreClosed x c.args.from c.args.to) (sym done) (prepared_keeps_closed k zone there c.args.from c.args.to inv.closed);
      prepared = subst (λ (x : Known). ArePrepared x c.args.from (zone + 1)) (sym done) (prepared_more k zone there c.args.from inv.prepared);
    }
