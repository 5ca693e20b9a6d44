use Rattle.std.proofs.Common.{◌≡◌, ℕ, ◌+◌, ◌/◌, ◌<◌, ◌≤◌, List, length, refl, sym, ◌∙◌, ap, subst, arith}
use Rattle.zone_image.specs.declared.Geometry.{Geometry}
use Rattle.zone_image.specs.declared.ZoneInfo.{ZoneInfo}
use Rattle.zone_image.specs.Infos.{info_at}
use Rattle.image_backend.specs.declared.table.Slot.{Slot as Numbers}
use Rattle.image_backend.specs.Contents.{patched, SameOutside}
use Rattle.image_backend.specs.Table.{TableState, slot_at, slot_appended, with_slot, table_infos, IsTable}
use Rattle.image_backend.specs.FileImage.{image_with}
use Rattle.power_image.specs.Layout.{image_bytes, block_at}
use Rattle.power_image.specs.Laws.{alone_long}
use Rattle.power_image.specs.Table.{Known, image_in, zones_alone, numbers_of, Describes}
use Rattle.power_image.specs.State.{HoldsTable}
use Rattle.power_image.proofs.Alone.{alone_patched, alone_outside}
use Rattle.power_image.proofs.Answering.{on_err}
use Rattle.power_image.proofs.Bytes.{patched_outside}
use Rattle.power_image.proofs.Described.{described_behind}
use Rattle.power_image.proofs.FileChanges.{image_unwritten, image_written}
use Rattle.power_image.proofs.Places.{blocks_inside}
use Rattle.power_image.proofs.Tables.{info_is, table_with_appended}
use Rattle.power_image.proofs.changes.write_blocks.Goals as goal

-- the place at which blocks are added
place_of : (t : TableState) (zone at : ℕ) (geometry : Geometry) (numbers : Numbers) → at ≡ block_at geometry zone numbers.written → geometry ≡ t.geometry → numbers ≡ slot_at t zone
    → at ≡ block_at t.geometry zone (slot_at t zone).written
place_of t zone at geometry numbers place shape same =
    place ∙ ap (λ (g : Geometry). block_at g zone numbers.written) shape ∙ ap (λ (n : Numbers). block_at t.geometry zone n.written) same

room_of : (t : TableState) (zone count : ℕ) (is : IsTable t) → zone < t.geometry.zones → (info_at (table_infos t) zone).written + count ≤ t.geometry.capacity → (slot_at t zone).written + count ≤ t.geometry.capacity
room_of t zone count is in_range room = subst (λ (info : ZoneInfo). info.written + count ≤ t.geometry.capacity) (info_is t zone is in_range) room

pub write_at-requires-clause-within : goal.write_at-requires-clause-within
write_at-requires-clause-within g c =
    let t = c.args.table.now.zones in
    let zone = c.args.zone in
    let size = length c.args.bytes.now in
    let at = place_of t zone c.block_at-at.result c.geometry-geometry.result (numbers_of c.zone-numbers.result) c.block_at-at.ensures c.geometry-geometry.ensures c.zone-numbers.ensures in
    let room = room_of t zone (size / t.geometry.block) c.requires.known.table c.requires.is_zone c.requires.room in
    let within = blocks_inside t.geometry zone (slot_at t zone).written size c.requires.known.table.possible.valid c.requires.is_zone c.requires.whole room in
    omega (arith, within, c.requires.known.zones.long, at)

pub returns-in_err-write_at-clause-not_done : goal.returns-in_err-write_at-clause-not_done
returns-in_err-write_at-clause-not_done g c = on_err c.from_residual.result (record {
  numbers = refl;
  image = λ told.
      let t = c.args.table.now.zones in
      let zone = c.args.zone in
      let bytes = c.args.bytes.now in
      let old = g.F.ByteFile.contents c.args.file.now in
      let new = g.F.ByteFile.contents c.write_at.new.self in
      let at = place_of t zone c.block_at-at.result c.geometry-geometry.result (numbers_of c.zone-numbers.result) c.block_at-at.ensures c.geometry-geometry.ensures c.zone-numbers.ensures in
      let room = room_of t zone (length bytes / t.geometry.block) c.requires.known.table c.requires.is_zone c.requires.room in
      let long : image_bytes t.geometry ≤ length old = omega (arith, g.met.F.ByteFile.told c.args.file.now told c.requires.known.zones.known, c.requires.known.zones.long) in
      let outside : SameOutside (block_at t.geometry zone (slot_at t zone).written) (length bytes) old new =
      subst (λ n. SameOutside n (length bytes) old new) at (c.in_err-write_at.ensures.after_fault told) in
      image_unwritten t zone (zones_alone t.geometry old) bytes c.requires.known.table c.requires.is_zone (alone_long t.geometry old long) c.requires.whole room (zones_alone t.geometry new)
      (alone_outside t.geometry zone (slot_at t zone).written (length bytes) old new outside);
})

pub returns-in_err-write_at-clause-still_said : goal.returns-in_err-write_at-clause-still_said
returns-in_err-write_at-clause-still_said g c told =
    let k = c.args.table.now in
    let t = k.zones in
    let at = place_of t c.args.zone c.block_at-at.result c.geometry-geometry.result (numbers_of c.zone-numbers.result) c.block_at-at.ensures c.geometry-geometry.ensures c.zone-numbers.ensures in
    described_behind t.geometry k.descriptors (g.F.ByteFile.contents c.args.file.now) (g.F.ByteFile.contents c.write_at.new.self) (c.in_err-write_at.ensures.after_fault told) (omega (arith, at)) (c.requires.said told)

pub returns-clause-done : goal.returns-clause-done
returns-clause-done g c =
    let k = c.args.table.now in
    let t = k.zones in
    let zone = c.args.zone in
    let bytes = c.args.bytes.now in
    let count = length bytes / t.geometry.block in
    let old = g.F.ByteFile.contents c.args.file.now in
    let new = g.F.ByteFile.contents c.write_at.new.self in
    let after : numbers_of c.appended-after.result ≡ slot_appended t.geometry.capacity count (slot_at t zone) =
    c.appended-after.ensures
    ∙ ap (λ (shape : Geometry). slot_appended shape.capacity (length bytes / shape.block) (numbers_of c.zone-numbers.result)) c.geometry-geometry.ensures
    ∙ ap (slot_appended t.geometry.capacity count) c.zone-numbers.ensures in
    let zones : c.set_zone.new.self.zones ≡ with_slot t zone (slot_appended t.geometry.capacity count (slot_at t zone)) =
    ap (λ (x : Known). x.zones) c.set_zone.ensures ∙ ap (with_slot t zone) after in
    record {
      numbers = zones;
      image = λ told.
          let at = place_of t zone c.block_at-at.result c.geometry-geometry.result (numbers_of c.zone-numbers.result) c.block_at-at.ensures c.geometry-geometry.ensures c.zone-numbers.ensures in
          let room = room_of t zone count c.requires.known.table c.requires.is_zone c.requires.room in
          let long : image_bytes t.geometry ≤ length old = omega (arith, g.met.F.ByteFile.told c.args.file.now told c.requires.known.zones.known, c.requires.known.zones.long) in
          let within = blocks_inside t.geometry zone (slot_at t zone).written (length bytes) c.requires.known.table.possible.valid c.requires.is_zone c.requires.whole room in
          let fits : block_at t.geometry zone (slot_at t zone).written + length bytes ≤ length old = omega (arith, within, long) in
          ap (λ (x : TableState). image_in x new) zones
          ∙ ap (λ (l : List ℕ). image_in (with_slot t zone (slot_appended t.geometry.capacity count (slot_at t zone))) l) (c.in_ok-write_at.ensures.written told ∙ ap (λ n. patched n bytes old) at)
          ∙ ap (image_with (with_slot t zone (slot_appended t.geometry.capacity count (slot_at t zone)))) (alone_patched t.geometry zone (slot_at t zone).written bytes old fits)
          ∙ image_written t zone (zones_alone t.geometry old) bytes c.requires.known.table c.requires.is_zone (alone_long t.geometry old long) c.requires.whole room;
    }

pub returns-clause-still_said : goal.returns-clause-still_said
returns-clause-still_said g c told =
    let k = c.args.table.now in
    let t = k.zones in
    let zone = c.args.zone in
    let bytes = c.args.bytes.now in
    let old = g.F.ByteFile.contents c.args.file.now in
    let new = g.F.ByteFile.contents c.write_at.new.self in
    let at = place_of t zone c.block_at-at.result c.geometry-geometry.result (numbers_of c.zone-numbers.result) c.block_at-at.ensures c.geometry-geometry.ensures c.zone-numbers.ensures in
    let room = room_of t zone (length bytes / t.geometry.block) c.requires.known.table c.requires.is_zone c.requires.room in
    let long : image_bytes t.geometry ≤ length old = omega (arith, g.met.F.ByteFile.told c.args.file.now told c.requires.known.zones.known, c.requires.known.zones.long) in
    let within = blocks_inside t.geometry zone (slot_at t zone).written (length bytes) c.requires.known.table.possible.valid c.requires.is_zone c.requires.whole room in
    let fits : block_at t.geometry zone (slot_at t zone).written + length bytes ≤ length old = omega (arith, within, long) in
    let outside = patched_outside (block_at t.geometry zone (slot_at t zone).written) bytes old fits in
    subst (λ (x : Known). Describes new x.zones.geometry x.descriptors) (sym c.set_zone.ensures)
    (subst (λ (l : List ℕ). Describes l t.geometry k.descriptors) (sym (c.in_ok-write_at.ensures.written told ∙ ap (λ n. patched n bytes old) at))
    (described_behind t.geometry k.descriptors old (patched (block_at t.geometry zone (slot_at t zone).written) bytes old) outside (omega arith) (c.requires.said told)))

pub returns-clause-still_known : goal.returns-clause-still_known
returns-clause-still_known g c =
    let k = c.args.table.now in
    let t = k.zones in
    let zone = c.args.zone in
    let count = length c.args.bytes.now / t.geometry.block in
    let after : numbers_of c.appended-after.result ≡ slot_appended t.geometry.capacity count (slot_at t zone) =
    c.appended-after.ensures
    ∙ ap (λ (shape : Geometry). slot_appended shape.capacity (length c.args.bytes.now / shape.block) (numbers_of c.zone-numbers.result)) c.geometry-geometry.ensures
    ∙ ap (slot_appended t.geometry.capacity count) c.zone-numbers.ensures in
    subst (λ (x : Known). HoldsTable g.F.ByteFile.is_open g.F.ByteFile.is_sized g.F.ByteFile.size x c.write_at.new.self) (sym c.set_zone.ensures) (record {
      table = subst (λ (n : Numbers). IsTable (with_slot t zone n)) (sym after) (table_with_appended t zone c.requires.known.table c.requires.is_zone count c.requires.unsealed c.requires.room c.requires.active);
      count = c.requires.known.count;
      zones = record {
        opened = c.write_at.ensures.still_open;
        known = c.write_at.ensures.still_known;
        long = omega (arith, c.write_at.ensures.same_size, c.requires.known.zones.long);
      };
    })
