use Rattle.std.proofs.Common.{◌+◌, not, [], ◌∷◌, sym, ◌∙◌, ap, subst}
use Rattle.power_image.specs.Layout.{slot_offset}
use Rattle.power_image.specs.Descriptors.{closed}
use Rattle.power_image.specs.Table.{descriptor_in, Turns}
use Rattle.power_image.proofs.Turning.{closing}
use Rattle.power_image.proofs.describing.close_gate.Goals as goal

pub put-requires-clause-turns : goal.put-requires-clause-turns
put-requires-clause-turns g c =
    let t = c.args.table.now in
    let d = descriptor_in t c.args.zone in
    subst (λ e. Turns t.zones.geometry (slot_offset (not d.second) + 0) (0 ∷ []) d e) (sym (c.closed.ensures ∙ ap closed c.descriptor-descriptor.ensures)) (closing t.zones.geometry d)
