use Rattle.std.proofs.Common.{◌≡◌, ◌+◌, ◌<◌, length, sym, ◌∙◌, ap, subst, arith}
use Rattle.image_backend.specs.Table.{TableState}
use Rattle.power_image.specs.Table.{Known}
use Rattle.power_image.specs.State.{AreClosed, ArePrepared, AreSettled, with_opened}
use Rattle.power_image.proofs.Looping.{kept_step}
use Rattle.power_image.proofs.Steps.{opened_zones, opened_count, opened_keeps_closed, opened_keeps_prepared, settled_more}
use Rattle.power_image.proofs.describing.open_gates.Goals as goal

pub loop-zone-preserved : goal.loop-zone-preserved
loop-zone-preserved g c =
    let k = c.loop-zone.table in
    let zone = c.loop-zone.zone in
    let inv = c.loop-zone.invariant in
    let there : zone < length k.descriptors =
    omega (arith, c.loop-zone-test.true, c.requires.range, inv.kept.known.count, ap (λ (t : TableState). t.geometry.zones) inv.kept.numbers) in
    let done : c.open_gate.new.table ≡ with_opened k zone = c.in_ok-open_gate.ensures.done in
    record {
      kept =
          kept_step g.F.ByteFile.is_open g.F.ByteFile.is_sized g.F.ByteFile.size g.F.ByteFile.tells g.F.ByteFile.contents g.F.ByteFile.faults c.args.table.now c.args.file.now k c.loop-zone.file inv.kept
          c.open_gate.new.table c.open_gate.new.file
          (ap (λ (x : Known). x.zones) done ∙ opened_zones k zone there)
          (ap (λ (x : Known). length x.descriptors) done ∙ opened_count k zone there)
          c.in_ok-open_gate.ensures.still_open c.in_ok-open_gate.ensures.said c.in_ok-open_gate.ensures.same_zones c.in_ok-open_gate.ensures.cause.never_falls;
      closed = subst (λ (x : Known). AreClosed x (zone + 1) c.args.to) (sym done) (opened_keeps_closed k zone there c.args.to inv.closed);
      prepared = subst (λ (x : Known). ArePrepared x (zone + 1) c.args.to) (sym done) (opened_keeps_prepared k zone there c.args.to inv.prepared);
      settled = subst (λ (x : Known). AreSettled x c.args.from (zone + 1)) (sym done) (settled_more k zone there c.args.from c.args.to c.loop-zone-test.true inv.prepared inv.settled);
    }
