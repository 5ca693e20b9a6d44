use Rattle.std.proofs.Common.{◌≡◌, ℕ, ◌+◌, ◌^◌, ◌<◌, not, List, sym, ◌∙◌, ap, subst, arith}
use Rattle.zone_image.specs.declared.ZoneInfo.{ZoneInfo}
use Rattle.image_backend.specs.Table.{slot_at, slot_info}
use Rattle.power_image.specs.declared.descriptor.Descriptor.{Descriptor}
use Rattle.power_image.specs.Layout.{slot_offset}
use Rattle.power_image.specs.Descriptors.{rest_bytes, next_slot, prepared}
use Rattle.power_image.specs.Table.{descriptor_in, Turns}
use Rattle.power_image.proofs.Headers.{small_capacity, capacity_fits}
use Rattle.power_image.proofs.Tables.{slot_possible}
use Rattle.power_image.proofs.Turning.{preparing}
use Rattle.power_image.proofs.describing.prepare_slot.Goals as goal

pub put-requires-clause-turns : goal.put-requires-clause-turns
put-requires-clause-turns g c =
    let t = c.args.table.now in
    let zone = c.args.zone in
    let d = descriptor_in t zone in
    let info = slot_info (slot_at t.zones zone) in
    let valid = c.requires.known.table.possible.valid in
    let possible = slot_possible t.zones zone c.requires.known.table c.requires.is_zone in
    let small : info.written < 2 ^ 32 = omega (arith, possible.room, capacity_fits t.zones.geometry valid, small_capacity t.zones.geometry valid) in
    let is_info : c.info-info.result ≡ info = c.info-info.ensures ∙ ap slot_info c.zone.ensures in
    let rest : c.rest-rest.result ≡ rest_bytes (next_slot d info) =
    c.rest-rest.ensures ∙ ap rest_bytes (c.next_slot.ensures ∙ ap (λ (i : ZoneInfo). next_slot c.descriptor-descriptor.result i) is_info ∙ ap (λ (x : Descriptor). next_slot x info) c.descriptor-descriptor.ensures) in
    let after : c.prepared.result ≡ prepared info d =
    c.prepared.ensures ∙ ap (λ (i : ZoneInfo). prepared i c.descriptor-descriptor.result) is_info ∙ ap (prepared info) c.descriptor-descriptor.ensures in
    subst (λ e. Turns t.zones.geometry (slot_offset (not d.second) + 1) c.rest-rest.result d e) (sym after)
    (subst (λ (l : List ℕ). Turns t.zones.geometry (slot_offset (not d.second) + 1) l d (prepared info d)) (sym rest) (preparing t.zones.geometry d info small c.requires.closed))
