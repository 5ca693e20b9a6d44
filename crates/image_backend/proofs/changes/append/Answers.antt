use Rattle.std.proofs.Common.{◌≡◌, ℕ, ◌+◌, ◌/◌, ◌<◌, ◌≤◌, List, false, ◌∙◌, ap, subst, sym, length, arith}
use Rattle.zone_image.specs.declared.Geometry.{Geometry}
use Rattle.zone_image.specs.declared.ZoneInfo.{ZoneInfo}
use Rattle.image_backend.specs.declared.table.Slot.{Slot}
use Rattle.zone_image.specs.Infos.{info_at}
use Rattle.image_backend.specs.declared.counts.Counts.{Counts}
use Rattle.image_backend.specs.Contents.{patched, SameOutside}
use Rattle.image_backend.specs.Format.{block_at, image_bytes, descriptor_at, descriptor_bytes}
use Rattle.image_backend.specs.Table.{TableState, slot_at, slot_info, slot_appended, with_slot, table_infos, IsTable}
use Rattle.image_backend.specs.ImageState.{HoldsTable}
use Rattle.image_backend.specs.FileImage.{image_with, Describes}
use Rattle.image_backend.proofs.Answering.{ok_part, err_part, on_err}
use Rattle.image_backend.proofs.Described.{described_behind}
use Rattle.image_backend.proofs.FileChanges.{same_written, image_behind, image_unwritten, image_undescribed, image_appended}
use Rattle.image_backend.proofs.Places.{blocks_within}
use Rattle.image_backend.proofs.Tables.{info_is, infos_with_appended, table_with_appended}
use Rattle.image_backend.proofs.changes.append.Goals as goal

pub write_at-requires-clause-within : goal.write_at-requires-clause-within
write_at-requires-clause-within g c =
    let t = c.args.table.now in
    let geometry = t.geometry in
    let zone = c.args.zone in
    let told = info_is t zone c.requires.known.table c.requires.is_zone in
    let at : c.block_at-at.result ≡ block_at geometry zone (slot_at t zone).written =
    c.block_at-at.ensures
    ∙ ap (λ (shape : Geometry). block_at shape zone c.slot-slot.result.written) c.geometry-geometry.ensures
    ∙ ap (λ (slot : Slot). block_at geometry zone slot.written) c.slot-slot.ensures in
    let room : (slot_at t zone).written + length c.args.bytes.now / geometry.block ≤ geometry.capacity =
    subst (λ info. info.written + length c.args.bytes.now / geometry.block ≤ geometry.capacity) told c.requires.room in
    let within = blocks_within geometry zone (slot_at t zone).written (length c.args.bytes.now) c.requires.known.table.possible.valid c.requires.is_zone c.requires.whole room in
    omega (arith, within, c.requires.known.zones.long, at)

pub appended-after-requires : goal.appended-after-requires
appended-after-requires g c =
    let t = c.args.table.now in
    let told = info_is t c.args.zone c.requires.known.table c.requires.is_zone in
    omega (
      arith,
      c.requires.room,
      ap (λ (info : ZoneInfo). info.written) told,
      ap (λ (slot : Slot). slot.written) c.slot-slot.ensures,
      ap (λ (shape : Geometry). shape.capacity) c.geometry-geometry.ensures,
      ap (λ (shape : Geometry). length c.args.bytes.now / shape.block) c.geometry-geometry.ensures,
    )

pub returns-clause-done : goal.returns-clause-done
returns-clause-done g c =
    let t = c.args.table.now in
    let count = length c.args.bytes.now / t.geometry.block in
    let shape : c.geometry-geometry.result ≡ t.geometry = c.geometry-geometry.ensures in
    let after : c.appended-after.result ≡ slot_appended t.geometry.capacity count (slot_at t c.args.zone) =
    c.appended-after.ensures
    ∙ ap (λ (shape : Geometry). slot_appended shape.capacity (length c.args.bytes.now / shape.block) c.slot-slot.result) shape
    ∙ ap (slot_appended t.geometry.capacity count) c.slot-slot.ensures in
    c.in_ok-put_slot.ensures.done ∙ ap (with_slot t c.args.zone) after

pub returns-clause-still_known : goal.returns-clause-still_known
returns-clause-still_known g c =
    let t = c.args.table.now in
    let count = length c.args.bytes.now / t.geometry.block in
    let done = with_slot t c.args.zone (slot_appended t.geometry.capacity count (slot_at t c.args.zone)) in
    subst (λ new. HoldsTable g.F.ByteFile.is_open g.F.ByteFile.is_sized g.F.ByteFile.size new c.put_slot.new.file) (sym (returns-clause-done g c)) (record {
      table = table_with_appended t c.args.zone c.requires.known.table c.requires.is_zone count c.requires.unsealed c.requires.room c.requires.active;
      zones = c.put_slot.ensures.holds;
    })

pub returns-clause-new_infos : goal.returns-clause-new_infos
returns-clause-new_infos g c =
    let t = c.args.table.now in
    let count = length c.args.bytes.now / t.geometry.block in
    ap table_infos (returns-clause-done g c) ∙ infos_with_appended t c.args.zone c.requires.known.table c.requires.is_zone count

-- the room that the append needs
room_of : (t : TableState) (zone count : ℕ) → IsTable t → zone < t.geometry.zones → (info_at (table_infos t) zone).written + count ≤ t.geometry.capacity
    → (slot_at t zone).written + count ≤ t.geometry.capacity
room_of t zone count is in_range room = subst (λ (info : ZoneInfo). info.written + count ≤ t.geometry.capacity) (info_is t zone is in_range) room

-- where the append writes
place_of : (t : TableState) (zone at : ℕ) (geometry : Geometry) (slot : Slot) → at ≡ block_at geometry zone slot.written → geometry ≡ t.geometry → slot ≡ slot_at t zone
    → at ≡ block_at t.geometry zone (slot_at t zone).written
place_of t zone at geometry slot is shape here =
    is ∙ ap (λ (g : Geometry). block_at g zone slot.written) shape ∙ ap (λ (s : Slot). block_at t.geometry zone s.written) here

pub returns-then-is_err-clause-same_image : goal.returns-then-is_err-clause-same_image
returns-then-is_err-clause-same_image g c told =
    let t = c.args.table.now in
    let zone = c.args.zone in
    let old = g.F.ByteFile.contents c.args.file.now in
    let new = g.F.ByteFile.contents c.write_at.new.self in
    let count = length c.args.bytes.now / t.geometry.block in
    let long : image_bytes t.geometry ≤ length old = omega (arith, g.met.F.ByteFile.told c.args.file.now told c.requires.known.zones.known, c.requires.known.zones.long) in
    let at = place_of t zone c.block_at-at.result c.geometry-geometry.result c.slot-slot.result c.block_at-at.ensures c.geometry-geometry.ensures c.slot-slot.ensures in
    let outside = err_part c.write_at.result (g.F.ByteFile.tells → SameOutside c.block_at-at.result (length c.args.bytes.now) old new) (sym c.is_err.ensures.value ∙ c.if-is_err.true) c.write_at.ensures.after_fault told in
    image_unwritten t zone old c.args.bytes.now c.requires.known.table c.requires.is_zone long c.requires.whole (room_of t zone count c.requires.known.table c.requires.is_zone c.requires.room) new
    (subst (λ k. SameOutside k (length c.args.bytes.now) old new) at outside)

pub returns-then-is_err-clause-still_described : goal.returns-then-is_err-clause-still_described
returns-then-is_err-clause-still_described g c told unbroken =
    let t = c.args.table.now in
    let zone = c.args.zone in
    let old = g.F.ByteFile.contents c.args.file.now in
    let new = g.F.ByteFile.contents c.write_at.new.self in
    let at = place_of t zone c.block_at-at.result c.geometry-geometry.result c.slot-slot.result c.block_at-at.ensures c.geometry-geometry.ensures c.slot-slot.ensures in
    let outside = err_part c.write_at.result (g.F.ByteFile.tells → SameOutside c.block_at-at.result (length c.args.bytes.now) old new) (sym c.is_err.ensures.value ∙ c.if-is_err.true) c.write_at.ensures.after_fault told in
    let begun : c.args.counts.now.broken ≡ false =
    ap (λ (counts : Counts). counts.broken) (sym c.in_ok-begin_change.ensures.begun) ∙ ap (λ (counts : Counts). counts.broken) (sym c.failed_change.ensures.counted) ∙ unbroken in
    described_behind t outside (omega (arith, at)) (c.requires.described told begun)

pub put_slot-requires-clause-described : goal.put_slot-requires-clause-described
put_slot-requires-clause-described g c told unbroken =
    let t = c.args.table.now in
    let zone = c.args.zone in
    let bytes = c.args.bytes.now in
    let old = g.F.ByteFile.contents c.args.file.now in
    let new = g.F.ByteFile.contents c.write_at.new.self in
    let count = length bytes / t.geometry.block in
    let long : image_bytes t.geometry ≤ length old = omega (arith, g.met.F.ByteFile.told c.args.file.now told c.requires.known.zones.known, c.requires.known.zones.long) in
    let at = place_of t zone c.block_at-at.result c.geometry-geometry.result c.slot-slot.result c.block_at-at.ensures c.geometry-geometry.ensures c.slot-slot.ensures in
    let written = ok_part c.write_at.result (g.F.ByteFile.tells → new ≡ patched c.block_at-at.result bytes old) (sym c.is_err.ensures.value ∙ c.if-is_err.false) c.write_at.ensures.written told in
    let begun : c.args.counts.now.broken ≡ false = ap (λ (counts : Counts). counts.broken) (sym c.in_ok-begin_change.ensures.begun) ∙ unbroken in
    let outside = same_written t zone old bytes c.requires.known.table c.requires.is_zone long c.requires.whole (room_of t zone count c.requires.known.table c.requires.is_zone c.requires.room) in
    subst (λ (l : List ℕ). Describes l t) (sym (written ∙ ap (λ k. patched k bytes old) at)) (described_behind t outside (omega arith) (c.requires.described told begun))

pub returns-in_err-put_slot-clause-same_image : goal.returns-in_err-put_slot-clause-same_image
returns-in_err-put_slot-clause-same_image g c = on_err c.from_residual-in_err-put_slot.result (λ told.
    let t = c.args.table.now in
    let zone = c.args.zone in
    let bytes = c.args.bytes.now in
    let old = g.F.ByteFile.contents c.args.file.now in
    let mid = g.F.ByteFile.contents c.write_at.new.self in
    let new = g.F.ByteFile.contents c.put_slot.new.file in
    let count = length bytes / t.geometry.block in
    let long : image_bytes t.geometry ≤ length old = omega (arith, g.met.F.ByteFile.told c.args.file.now told c.requires.known.zones.known, c.requires.known.zones.long) in
    let at = place_of t zone c.block_at-at.result c.geometry-geometry.result c.slot-slot.result c.block_at-at.ensures c.geometry-geometry.ensures c.slot-slot.ensures in
    let written = ok_part c.write_at.result (g.F.ByteFile.tells → mid ≡ patched c.block_at-at.result bytes old) (sym c.is_err.ensures.value ∙ c.if-is_err.false) c.write_at.ensures.written told in
    ap (λ (u : TableState). image_with u new) c.in_err-put_slot.ensures.not_done
    ∙ image_behind t zone mid new c.requires.is_zone (c.in_err-put_slot.ensures.after_fault told)
    ∙ ap (image_with t) (written ∙ ap (λ k. patched k bytes old) at)
    ∙ image_undescribed t zone old bytes c.requires.known.table c.requires.is_zone long c.requires.whole (room_of t zone count c.requires.known.table c.requires.is_zone c.requires.room))

pub returns-clause-new_image : goal.returns-clause-new_image
returns-clause-new_image g c told =
    let t = c.args.table.now in
    let zone = c.args.zone in
    let bytes = c.args.bytes.now in
    let old = g.F.ByteFile.contents c.args.file.now in
    let mid = g.F.ByteFile.contents c.write_at.new.self in
    let new = g.F.ByteFile.contents c.put_slot.new.file in
    let count = length bytes / t.geometry.block in
    let long : image_bytes t.geometry ≤ length old = omega (arith, g.met.F.ByteFile.told c.args.file.now told c.requires.known.zones.known, c.requires.known.zones.long) in
    let at = place_of t zone c.block_at-at.result c.geometry-geometry.result c.slot-slot.result c.block_at-at.ensures c.geometry-geometry.ensures c.slot-slot.ensures in
    let written = ok_part c.write_at.result (g.F.ByteFile.tells → mid ≡ patched c.block_at-at.result bytes old) (sym c.is_err.ensures.value ∙ c.if-is_err.false) c.write_at.ensures.written told in
    let after : c.appended-after.result ≡ slot_appended t.geometry.capacity count (slot_at t zone) =
    c.appended-after.ensures
    ∙ ap (λ (shape : Geometry). slot_appended shape.capacity (length bytes / shape.block) c.slot-slot.result) c.geometry-geometry.ensures
    ∙ ap (slot_appended t.geometry.capacity count) c.slot-slot.ensures in
    ap (λ (u : TableState). image_with u new) c.in_ok-put_slot.ensures.done
    ∙ ap (image_with (with_slot t zone c.appended-after.result)) (c.in_ok-put_slot.ensures.written told)
    ∙ ap (λ (l : List ℕ). image_with (with_slot t zone c.appended-after.result) (patched (descriptor_at zone) (descriptor_bytes (slot_info c.appended-after.result)) l)) (written ∙ ap (λ k. patched k bytes old) at)
    ∙ image_appended t zone old bytes c.requires.known.table c.requires.is_zone long c.requires.whole (room_of t zone count c.requires.known.table c.requires.is_zone c.requires.room) c.appended-after.result after
