use Rattle.std.proofs.Common.{◌≡◌, ◌≤◌, length, sym, ◌∙◌, ap, subst, refl, arith}
use Rattle.std.specs.Prelude.{OnOk}
use Rattle.zone_image.specs.Infos.{infos_finished, IsPossibleInfo}
use Rattle.image_backend.specs.declared.table.Slot.{Slot}
use Rattle.image_backend.specs.Contents.{patched}
use Rattle.image_backend.specs.Format.{image_bytes, descriptor_at, descriptor_bytes}
use Rattle.image_backend.specs.FileImage.{image_with}
use Rattle.image_backend.proofs.Answering.{ok_both, err_both}
use Rattle.image_backend.proofs.FileChanges.{image_finished, image_behind}
use Rattle.image_backend.specs.Table.{TableState, slot_at, slot_info, slot_finished, with_slot, table_infos}
use Rattle.image_backend.proofs.Tables.{finished_possible, infos_with_finished, table_with_finished, either_held, infos_done}
use Rattle.image_backend.proofs.changes.finish.Goals as goal

pub returns-clause-still_known : goal.returns-clause-still_known
returns-clause-still_known g c =
    let t = c.args.table.now in
    let zone = c.args.zone in
    either_held g.F.ByteFile.is_open g.F.ByteFile.is_sized g.F.ByteFile.size c.put_slot.result t (with_slot t zone (slot_finished (slot_at t zone))) c.put_slot.new.table c.put_slot.new.file
    (subst (λ s. OnOk c.put_slot.result (c.put_slot.new.table ≡ with_slot t zone s)) (c.finished.ensures ∙ ap slot_finished c.slot-slot.ensures) c.put_slot.ensures.done) c.put_slot.ensures.not_done refl c.requires.known.table (table_with_finished t zone c.requires.known.table c.requires.is_zone) c.put_slot.ensures.holds

pub returns-clause-new_infos : goal.returns-clause-new_infos
returns-clause-new_infos g c =
    let t = c.args.table.now in
    let zone = c.args.zone in
    infos_done g.F.ByteFile.is_open g.F.ByteFile.is_sized g.F.ByteFile.size c.put_slot.result t (with_slot t zone (slot_finished (slot_at t zone))) c.put_slot.new.table (infos_finished (table_infos t) zone)
    (subst (λ s. OnOk c.put_slot.result (c.put_slot.new.table ≡ with_slot t zone s)) (c.finished.ensures ∙ ap slot_finished c.slot-slot.ensures) c.put_slot.ensures.done) (infos_with_finished t zone c.requires.known.table c.requires.is_zone)

pub put_slot-requires-clause-possible : goal.put_slot-requires-clause-possible
put_slot-requires-clause-possible g c =
    let t = c.args.table.now in
    let zone = c.args.zone in
    subst (λ s. IsPossibleInfo t.geometry (slot_info s)) (sym (c.finished.ensures ∙ ap slot_finished c.slot-slot.ensures)) (finished_possible t zone c.requires.known.table c.requires.is_zone)

pub returns-clause-new_image : goal.returns-clause-new_image
returns-clause-new_image g c =
    let t = c.args.table.now in
    let zone = c.args.zone in
    let old = g.F.ByteFile.contents c.args.file.now in
    let new = g.F.ByteFile.contents c.put_slot.new.file in
    let slot : c.finished.result ≡ slot_finished (slot_at t zone) = c.finished.ensures ∙ ap slot_finished c.slot-slot.ensures in
    ok_both c.put_slot.result c.put_slot.ensures.done c.put_slot.ensures.written
    (λ done written told.
    let size = g.met.F.ByteFile.told c.args.file.now told c.requires.known.zones.known in
    let long : image_bytes t.geometry ≤ length old = omega (arith, size, c.requires.known.zones.long) in
    ap (λ (u : TableState). image_with u new) done ∙ ap (image_with (with_slot t zone c.finished.result)) (written told)
    ∙ ap (λ (s : Slot). image_with (with_slot t zone s) (patched (descriptor_at zone) (descriptor_bytes (slot_info s)) old)) slot
    ∙ image_finished t zone old c.requires.known.table c.requires.is_zone long)

pub returns-clause-same_image : goal.returns-clause-same_image
returns-clause-same_image g c =
    err_both c.put_slot.result c.put_slot.ensures.not_done c.put_slot.ensures.after_fault
    (λ same outside told.
    ap (λ (u : TableState). image_with u (g.F.ByteFile.contents c.put_slot.new.file)) same
    ∙ image_behind c.args.table.now c.args.zone (g.F.ByteFile.contents c.args.file.now) (g.F.ByteFile.contents c.put_slot.new.file) c.requires.is_zone (outside told))
