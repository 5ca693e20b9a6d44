use Rattle.std.proofs.Common.{◌/◌, length, refl, sym, ◌∙◌, ap}
use Rattle.zone_image.specs.Changes.{blocks_in, appended}
use Rattle.image_backend.specs.Table.{TableState, slot_at, slot_appended, table_infos, with_slot}
use Rattle.power_image.specs.Table.{image_in}
use Rattle.power_image.specs.State.{Leaves}
use Rattle.power_image.proofs.Answering.{ok_part, err_part, on_err}
use Rattle.power_image.proofs.Changed.{leaves_then, shows_none, shows_all}
use Rattle.power_image.proofs.Tables.{infos_with_appended}
use Rattle.power_image.proofs.changes.append.Goals as goal

pub returns-clause-new_infos : goal.returns-clause-new_infos
returns-clause-new_infos g c =
    let tells = g.F.ByteFile.tells in
    let t = c.args.table.now.zones in
    let zone = c.args.zone in
    let bytes = c.args.bytes.now in
    let old = g.F.ByteFile.contents c.args.file.now in
    let mid = g.F.ByteFile.contents c.write_blocks.new.file in
    let wanted = with_slot t zone (slot_appended t.geometry.capacity (length bytes / t.geometry.block) (slot_at t zone)) in
    let image = appended (image_in t old) zone (blocks_in t.geometry bytes) in
    let written = ok_part c.write_blocks.result (Leaves tells wanted image c.write_blocks.new.table.zones mid) (sym c.is_err.ensures.value ∙ c.if-is_err.false) c.write_blocks.ensures.done in
    let l = leaves_then tells wanted image c.write_blocks.new.table.zones mid c.describe_full.new.table.zones (g.F.ByteFile.contents c.describe_full.new.file) written c.in_ok-describe_full.ensures.same in
    ap table_infos l.numbers ∙ infos_with_appended t zone c.requires.known.table c.requires.is_zone (length bytes / t.geometry.block)

pub returns-clause-new_image : goal.returns-clause-new_image
returns-clause-new_image g c tells_it =
    let tells = g.F.ByteFile.tells in
    let t = c.args.table.now.zones in
    let zone = c.args.zone in
    let bytes = c.args.bytes.now in
    let old = g.F.ByteFile.contents c.args.file.now in
    let mid = g.F.ByteFile.contents c.write_blocks.new.file in
    let wanted = with_slot t zone (slot_appended t.geometry.capacity (length bytes / t.geometry.block) (slot_at t zone)) in
    let image = appended (image_in t old) zone (blocks_in t.geometry bytes) in
    let written = ok_part c.write_blocks.result (Leaves tells wanted image c.write_blocks.new.table.zones mid) (sym c.is_err.ensures.value ∙ c.if-is_err.false) c.write_blocks.ensures.done in
    let l = leaves_then tells wanted image c.write_blocks.new.table.zones mid c.describe_full.new.table.zones (g.F.ByteFile.contents c.describe_full.new.file) written c.in_ok-describe_full.ensures.same in
    l.image tells_it

pub returns-clause-same_geometry : goal.returns-clause-same_geometry
returns-clause-same_geometry g c =
    let tells = g.F.ByteFile.tells in
    let t = c.args.table.now.zones in
    let zone = c.args.zone in
    let bytes = c.args.bytes.now in
    let old = g.F.ByteFile.contents c.args.file.now in
    let mid = g.F.ByteFile.contents c.write_blocks.new.file in
    let wanted = with_slot t zone (slot_appended t.geometry.capacity (length bytes / t.geometry.block) (slot_at t zone)) in
    let image = appended (image_in t old) zone (blocks_in t.geometry bytes) in
    let written = ok_part c.write_blocks.result (Leaves tells wanted image c.write_blocks.new.table.zones mid) (sym c.is_err.ensures.value ∙ c.if-is_err.false) c.write_blocks.ensures.done in
    let l = leaves_then tells wanted image c.write_blocks.new.table.zones mid c.describe_full.new.table.zones (g.F.ByteFile.contents c.describe_full.new.file) written c.in_ok-describe_full.ensures.same in
    ap (λ (x : TableState). x.geometry) l.numbers

pub returns-in_err-describe_full-clause-after_fault : goal.returns-in_err-describe_full-clause-after_fault
returns-in_err-describe_full-clause-after_fault g c =
    let tells = g.F.ByteFile.tells in
    let t = c.args.table.now.zones in
    let zone = c.args.zone in
    let bytes = c.args.bytes.now in
    let old = g.F.ByteFile.contents c.args.file.now in
    let mid = g.F.ByteFile.contents c.write_blocks.new.file in
    let wanted = with_slot t zone (slot_appended t.geometry.capacity (length bytes / t.geometry.block) (slot_at t zone)) in
    let image = appended (image_in t old) zone (blocks_in t.geometry bytes) in
    let written = ok_part c.write_blocks.result (Leaves tells wanted image c.write_blocks.new.table.zones mid) (sym c.is_err.ensures.value ∙ c.if-is_err.false) c.write_blocks.ensures.done in
    let l = leaves_then tells wanted image c.write_blocks.new.table.zones mid c.describe_full.new.table.zones (g.F.ByteFile.contents c.describe_full.new.file) written c.in_err-describe_full.ensures.same in
    on_err c.from_residual-in_err-describe_full.result (shows_all tells t zone bytes old c.describe_full.new.table.zones (g.F.ByteFile.contents c.describe_full.new.file) c.requires.known.table c.requires.is_zone l)

pub returns-in_err-describe_full-clause-same_geometry : goal.returns-in_err-describe_full-clause-same_geometry
returns-in_err-describe_full-clause-same_geometry g c =
    let tells = g.F.ByteFile.tells in
    let t = c.args.table.now.zones in
    let zone = c.args.zone in
    let bytes = c.args.bytes.now in
    let old = g.F.ByteFile.contents c.args.file.now in
    let mid = g.F.ByteFile.contents c.write_blocks.new.file in
    let wanted = with_slot t zone (slot_appended t.geometry.capacity (length bytes / t.geometry.block) (slot_at t zone)) in
    let image = appended (image_in t old) zone (blocks_in t.geometry bytes) in
    let written = ok_part c.write_blocks.result (Leaves tells wanted image c.write_blocks.new.table.zones mid) (sym c.is_err.ensures.value ∙ c.if-is_err.false) c.write_blocks.ensures.done in
    let l = leaves_then tells wanted image c.write_blocks.new.table.zones mid c.describe_full.new.table.zones (g.F.ByteFile.contents c.describe_full.new.file) written c.in_err-describe_full.ensures.same in
    ap (λ (x : TableState). x.geometry) l.numbers

pub returns-then-is_err-clause-after_fault : goal.returns-then-is_err-clause-after_fault
returns-then-is_err-clause-after_fault g c =
    let tells = g.F.ByteFile.tells in
    let t = c.args.table.now.zones in
    let zone = c.args.zone in
    let bytes = c.args.bytes.now in
    let old = g.F.ByteFile.contents c.args.file.now in
    let new = g.F.ByteFile.contents c.write_blocks.new.file in
    let same = err_part c.write_blocks.result (Leaves tells t (image_in t old) c.write_blocks.new.table.zones new) (sym c.is_err.ensures.value ∙ c.if-is_err.true) c.write_blocks.ensures.not_done in
    shows_none tells t zone bytes old c.write_blocks.new.table.zones new c.requires.known.table c.requires.is_zone same

pub returns-in_err-begin_change-clause-after_fault : goal.returns-in_err-begin_change-clause-after_fault
returns-in_err-begin_change-clause-after_fault g c =
    let t = c.args.table.now.zones in
    let old = g.F.ByteFile.contents c.args.file.now in
    on_err c.from_residual.result
    (shows_none g.F.ByteFile.tells t c.args.zone c.args.bytes.now old t old c.requires.known.table c.requires.is_zone (record { numbers = refl; image = λ _. refl }))
