use Rattle.std.proofs.Common.{inr, sym, ◌∙◌, ap, subst}
use Rattle.zone_image.specs.Changes.{finished}
use Rattle.zone_image.specs.Infos.{infos_finished}
use Rattle.image_backend.specs.declared.table.Slot.{Slot as Numbers}
use Rattle.image_backend.specs.Table.{TableState, slot_at, slot_finished, table_infos, with_slot, IsTable}
use Rattle.power_image.specs.Table.{image_in, zones_alone, numbers_of}
use Rattle.power_image.proofs.Answering.{on_err}
use Rattle.power_image.proofs.Changed.{on_ok, leaves_changed, shows_leaves}
use Rattle.power_image.proofs.FileChanges.{image_finished}
use Rattle.power_image.proofs.Tables.{infos_with_finished, table_with_finished}
use Rattle.power_image.proofs.changes.finish.Goals as goal

pub change_zone-requires-clause-possible : goal.change_zone-requires-clause-possible
change_zone-requires-clause-possible g c =
    let t = c.args.table.now.zones in
    let zone = c.args.zone in
    subst (λ (n : Numbers). IsTable (with_slot t zone n)) (sym (c.finished-numbers.ensures ∙ ap slot_finished c.zone.ensures)) (table_with_finished t zone c.requires.known.table c.requires.is_zone)

pub returns-clause-new_infos : goal.returns-clause-new_infos
returns-clause-new_infos g c =
    let t = c.args.table.now.zones in
    let zone = c.args.zone in
    on_ok c.change_zone.result (ap table_infos (c.change_zone.ensures.done.numbers ∙ ap (with_slot t zone) (c.finished-numbers.ensures ∙ ap slot_finished c.zone.ensures)) ∙ infos_with_finished t zone c.requires.known.table c.requires.is_zone)

pub returns-clause-new_image : goal.returns-clause-new_image
returns-clause-new_image g c =
    let t = c.args.table.now.zones in
    let zone = c.args.zone in
    let old = g.F.ByteFile.contents c.args.file.now in
    let l = leaves_changed g.F.ByteFile.tells t zone (numbers_of c.finished-numbers.result) (slot_finished (slot_at t zone)) (finished (image_in t old) zone) old c.change_zone.new.table.zones (g.F.ByteFile.contents c.change_zone.new.file) (c.finished-numbers.ensures ∙ ap slot_finished c.zone.ensures)
    (image_finished t zone (zones_alone t.geometry old) c.requires.known.table) c.change_zone.ensures.done in
    on_ok c.change_zone.result l.image

pub returns-clause-after_fault : goal.returns-clause-after_fault
returns-clause-after_fault g c =
    let t = c.args.table.now.zones in
    let zone = c.args.zone in
    let old = g.F.ByteFile.contents c.args.file.now in
    let new = g.F.ByteFile.contents c.change_zone.new.file in
    let l = leaves_changed g.F.ByteFile.tells t zone (numbers_of c.finished-numbers.result) (slot_finished (slot_at t zone)) (finished (image_in t old) zone) old c.change_zone.new.table.zones new (c.finished-numbers.ensures ∙ ap slot_finished c.zone.ensures)
    (image_finished t zone (zones_alone t.geometry old) c.requires.known.table) c.change_zone.ensures.done in
    on_err c.change_zone.result (inr (shows_leaves g.F.ByteFile.tells (with_slot t zone (slot_finished (slot_at t zone))) (finished (image_in t old) zone) (infos_finished (table_infos t) zone) c.change_zone.new.table.zones new
    (infos_with_finished t zone c.requires.known.table c.requires.is_zone) l))

pub returns-clause-same_geometry : goal.returns-clause-same_geometry
returns-clause-same_geometry g c = ap (λ (t : TableState). t.geometry) c.change_zone.ensures.done.numbers
