use Rattle.std.proofs.Common.{◌≤◌, length, ◌∙◌, ap, refl, arith}
use Rattle.zone_image.specs.Infos.{infos_emptied}
use Rattle.image_backend.specs.Format.{image_bytes}
use Rattle.image_backend.specs.FileImage.{image_with}
use Rattle.image_backend.proofs.Answering.{ok_both, err_both}
use Rattle.image_backend.proofs.FileChanges.{image_emptied, image_behind}
use Rattle.image_backend.specs.Table.{TableState, no_slot, with_slot, table_infos}
use Rattle.image_backend.proofs.Tables.{none_possible, infos_with_none, table_with_none, either_held, infos_done}
use Rattle.image_backend.proofs.changes.reset.Goals as goal

pub returns-clause-still_known : goal.returns-clause-still_known
returns-clause-still_known g c =
    let t = c.args.table.now in
    let zone = c.args.zone in
    either_held g.F.ByteFile.is_open g.F.ByteFile.is_sized g.F.ByteFile.size c.put_slot.result t (with_slot t zone no_slot) c.put_slot.new.table c.put_slot.new.file
    c.put_slot.ensures.done c.put_slot.ensures.not_done refl c.requires.known.table (table_with_none t zone c.requires.known.table c.requires.is_zone) c.put_slot.ensures.holds

pub returns-clause-new_infos : goal.returns-clause-new_infos
returns-clause-new_infos g c =
    let t = c.args.table.now in
    let zone = c.args.zone in
    infos_done g.F.ByteFile.is_open g.F.ByteFile.is_sized g.F.ByteFile.size c.put_slot.result t (with_slot t zone no_slot) c.put_slot.new.table (infos_emptied (table_infos t) zone)
    c.put_slot.ensures.done (infos_with_none t zone c.requires.known.table c.requires.is_zone)

pub put_slot-requires-clause-possible : goal.put_slot-requires-clause-possible
put_slot-requires-clause-possible g c = none_possible c.args.table.now.geometry c.requires.known.table.possible.valid

pub returns-clause-new_image : goal.returns-clause-new_image
returns-clause-new_image g c =
    let t = c.args.table.now in
    let zone = c.args.zone in
    let old = g.F.ByteFile.contents c.args.file.now in
    let new = g.F.ByteFile.contents c.put_slot.new.file in
    ok_both c.put_slot.result c.put_slot.ensures.done c.put_slot.ensures.written
    (λ done written told.
    let size = g.met.F.ByteFile.told c.args.file.now told c.requires.known.zones.known in
    let long : image_bytes t.geometry ≤ length old = omega (arith, size, c.requires.known.zones.long) in
    ap (λ (u : TableState). image_with u new) done ∙ ap (image_with (with_slot t zone no_slot)) (written told)
    ∙ image_emptied t zone old c.requires.known.table c.requires.is_zone long)

pub returns-clause-same_image : goal.returns-clause-same_image
returns-clause-same_image g c =
    err_both c.put_slot.result c.put_slot.ensures.not_done c.put_slot.ensures.after_fault
    (λ same outside told.
    ap (λ (u : TableState). image_with u (g.F.ByteFile.contents c.put_slot.new.file)) same
    ∙ image_behind c.args.table.now c.args.zone (g.F.ByteFile.contents c.args.file.now) (g.F.ByteFile.contents c.put_slot.new.file) c.requires.is_zone (outside told))
