use Rattle.std.proofs.Common.{◌≡◌, ◌≤◌, List, true, is_some, map, sym, ◌∙◌, ap, subst}
use Rattle.std.specs.List.{list_all}
use Rattle.zone_image.specs.Changes.{chunks}
use Rattle.zone_image.specs.Infos.{active_zones}
use Rattle.image_backend.specs.declared.table.Slot.{Slot as Numbers}
use Rattle.image_backend.specs.Table.{slot_info, slot_of}
use Rattle.power_image.specs.declared.descriptor.Descriptor.{Descriptor}
use Rattle.power_image.specs.Descriptors.{is_descriptor, said_in, told}
use Rattle.power_image.specs.Table.{numbers_of, IsKnownTable}
use Rattle.power_image.proofs.Descriptors.{known_possible}
use Rattle.power_image.proofs.scanning.table_in.Goals as goal

pub returns-clause-possible : goal.returns-clause-possible
returns-clause-possible c =
    let g = c.args.geometry in
    let ds = chunks 32 g.zones c.args.bytes.now in
    let all : list_all (is_descriptor g) ds ≡ true = sym c.in_ok-descriptors.ensures.exact ∙ ap is_some c.in-Some.is in
    let said : c.in-Some.descriptors.items ≡ map said_in ds = rw c.in-Some.is at c.in_ok-descriptors.ensures.found in
    let zones : map numbers_of c.in_ok-zones.zones.items ≡ map slot_of (map told (map said_in ds)) =
    c.in_ok-zones.ensures ∙ ap (λ (l : List Descriptor). map slot_of (map told l)) (c.deref.ensures.value ∙ said) in
    let count : c.active_count.result ≡ active_zones (map slot_info (map slot_of (map told (map said_in ds)))) =
    c.active_count.ensures ∙ ap (λ (l : List Numbers). active_zones (map slot_info l)) (ap (map numbers_of) c.deref-2.ensures.value ∙ zones) in
    let active : active_zones (map slot_info (map slot_of (map told (map said_in ds)))) ≤ g.active_limit = subst (λ n. n ≤ g.active_limit) count c.if-active_count-geometry.false in
    subst IsKnownTable
    (sym (c.new.ensures ∙ ap (λ (l : List Numbers). record { zones = record { geometry = g; slots = l }; descriptors = c.in-Some.descriptors.items }) zones
    ∙ ap (λ (l : List Descriptor). record { zones = record { geometry = g; slots = map slot_of (map told (map said_in ds)) }; descriptors = l }) said))
    (known_possible g c.args.bytes.now c.requires.valid all active)
