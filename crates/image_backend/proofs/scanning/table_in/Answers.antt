use Rattle.std.proofs.Common.{◌≡◌, ◌≤◌, List, true, is_some, map, sym, ◌∙◌, ap, subst}
use Rattle.std.specs.List.{list_all}
use Rattle.zone_image.specs.Changes.{chunks}
use Rattle.zone_image.specs.Infos.{active_zones}
use Rattle.image_backend.specs.declared.table.Slot.{Slot}
use Rattle.image_backend.specs.Format.{is_descriptor}
use Rattle.image_backend.specs.Table.{slot_info, slots_of, IsTable}
use Rattle.image_backend.proofs.Descriptors.{table_possible}
use Rattle.image_backend.proofs.scanning.table_in.Goals as goal

pub returns-clause-possible : goal.returns-clause-possible
returns-clause-possible c =
    let g = c.args.geometry in
    let descriptors = chunks 8 g.zones c.args.bytes.now in
    let all : list_all (is_descriptor g) descriptors ≡ true = sym c.in_ok-slots.ensures.exact ∙ ap is_some c.in-Some.is in
    let slots : c.in-Some.slots.items ≡ slots_of descriptors = rw c.in-Some.is at c.in_ok-slots.ensures.found in
    let count : c.active_count.result ≡ active_zones (map slot_info (slots_of descriptors)) =
    c.active_count.ensures ∙ ap (λ (l : List Slot). active_zones (map slot_info l)) (c.deref.ensures.value ∙ slots) in
    let active : active_zones (map slot_info (slots_of descriptors)) ≤ g.active_limit = subst (λ n. n ≤ g.active_limit) count c.if-active_count-geometry.false in
    subst IsTable (sym (c.new.ensures ∙ ap (λ (l : List Slot). record { geometry = g; slots = l }) slots)) (table_possible g c.args.bytes.now c.requires.valid all active)
