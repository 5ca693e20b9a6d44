use Rattle.std.proofs.Common.{◌≡◌, ◌+◌, true, not, [], ◌∷◌, sym, ◌∙◌, ap, subst}
use Rattle.image_backend.specs.Table.{slot_at, slot_info}
use Rattle.power_image.specs.declared.descriptor.Slot.{Slot}
use Rattle.power_image.specs.Layout.{slot_offset}
use Rattle.power_image.specs.Descriptors.{is_possible, next_slot, opened}
use Rattle.power_image.specs.Table.{descriptor_in, Turns}
use Rattle.power_image.specs.State.{is_pending}
use Rattle.power_image.proofs.Tables.{slot_possible}
use Rattle.power_image.proofs.Turning.{opening, next_possible}
use Rattle.power_image.proofs.describing.open_gate.Goals as goal

pub put-requires-clause-turns : goal.put-requires-clause-turns
put-requires-clause-turns g c =
    let t = c.args.table.now in
    let zone = c.args.zone in
    let d = descriptor_in t zone in
    let info = slot_info (slot_at t.zones zone) in
    let pending : is_pending t zone ≡ true = sym c.is_pending.ensures ∙ c.if-not-is_pending.false in
    let next : d.other ≡ next_slot d info = c.requires.prepared pending in
    let possible : is_possible t.zones.geometry d.other ≡ true =
    ap (is_possible t.zones.geometry) next ∙ next_possible t.zones.geometry d info (slot_possible t.zones zone c.requires.known.table c.requires.is_zone) in
    subst (λ e. Turns t.zones.geometry (slot_offset (not d.second) + 0) (165 ∷ []) d e) (sym (c.opened.ensures ∙ ap opened c.descriptor-descriptor.ensures))
    (opening t.zones.geometry d (ap (λ (s : Slot). s.turn) next) possible)
