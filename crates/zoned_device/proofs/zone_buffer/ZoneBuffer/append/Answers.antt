-- The bytes fit the memory that was taken, so they are all there.
use Rattle.std.proofs.Common.{◌≡◌, ◌+◌, ◌/◌, ◌||◌, ◌==◌, ◌++◌, length, ap, sym, ◌∙◌, arith}
use Rattle.zoned_device.proofs.Buffers.{room_for, longer_zone}
use Rattle.zoned_device.proofs.zone_buffer.ZoneBuffer.append.Goals as goal
use Rattle.zoned_device.proofs.zone_buffer.ZoneBuffer.append.Goals.{then-self, else-self}

pub returns-clause-zone : goal.returns-clause-zone
returns-clause-zone c =
    let b = c.args.self.now in
    let g = c.args.geometry.now in
    let bytes = c.args.bytes.now in
    let count = length bytes / g.block in
    let fits = room_for (length bytes) g.block b.written g.capacity _ c.requires.whole c.requires.room c.requires.buffer.room in
    let ok = c.extend_from_slice.ensures.succeeds (omega (arith, fits, c.requires.buffer.whole)) in
    let items : c.extend_from_slice.new.self.items ≡ b.bytes.items ++ bytes = cc in
    let full = b.written + count == g.capacity in
    let sealed : c.if-self.self ≡ (b.sealed || full) = elim c.if-self.branch [ then-self w ↦ w.self-is ∙ w.if-self.true ∙ ap (λ s. s || full) (sym w.if-self.true) | else-self w ↦ w.self-is ∙ ap (λ s. s || full) (sym w.if-self.false) ] in
    longer_zone g.block g.capacity b.written count b.kept b.bytes.items bytes c.extend_from_slice.new.self.items b.sealed c.if-self.self c.requires.buffer.whole items sealed
