use Rattle.std.proofs.Common.{◌∙◌, sym, arith}
use Rattle.device_examples.proofs.ActiveZones.{fewer}
use Rattle.device_examples.proofs.calls.append.Goals as goal

pub append-requires-clause-active : goal.append-requires-clause-active
append-requires-clause-active g c =
    let D = g.D.ZonedDevice in
    let dev = c.report.new.self in
    λ none. fewer c.in_ok-shape.shape (D.geometry dev) (D.infos dev) c.args.zone
    (c.in_ok-shape.ensures.shape ∙ sym c.in_ok-info.ensures.same_geometry) (g.met.D.ZonedDevice.possible dev c.in_ok-info.ensures.still_known) (omega (arith, c.if-zone-shape.false)) none (c.is_narrow.ensures c.if-is_narrow.false)
