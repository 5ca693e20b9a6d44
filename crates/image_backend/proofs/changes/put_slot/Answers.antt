use Rattle.std.proofs.Common.{◌≡◌, ◌≤◌, List, ℕ, false, length, sym, ◌∙◌, ap, subst, arith}
use Rattle.image_backend.specs.Contents.{patched}
use Rattle.image_backend.specs.Format.{image_bytes, descriptor_at, descriptor_bytes}
use Rattle.image_backend.specs.Table.{TableState, slot_info, with_slot}
use Rattle.image_backend.specs.FileImage.{Describes}
use Rattle.image_backend.proofs.Answering.{ok_part}
use Rattle.image_backend.proofs.Described.{described_slot}
use Rattle.image_backend.proofs.changes.put_slot.Goals as goal

pub returns-clause-described : goal.returns-clause-described
returns-clause-described g c told unbroken =
    let t = c.args.table.now in
    let zone = c.args.zone in
    let old = g.F.ByteFile.contents c.args.file.now in
    let size = g.met.F.ByteFile.told c.args.file.now told c.requires.holds.known in
    let long : image_bytes t.geometry ≤ length old = omega (arith, size, c.requires.holds.long) in
    let done : c.is_err.result ≡ false = c.if-is_err.false in
    let written = ok_part c.write_part.result (g.F.ByteFile.tells → g.F.ByteFile.contents c.write_part.new.file ≡ patched c.descriptor_at.result c.descriptor-bytes.result old) (sym c.is_err.ensures.value ∙ done) c.write_part.ensures.written told in
    let piece : c.descriptor-bytes.result ≡ descriptor_bytes (slot_info c.args.slot) = c.descriptor-bytes.ensures ∙ ap descriptor_bytes c.info.ensures in
    let after : g.F.ByteFile.contents c.write_part.new.file ≡ patched (descriptor_at zone) (descriptor_bytes (slot_info c.args.slot)) old =
    written ∙ ap (λ k. patched k c.descriptor-bytes.result old) c.descriptor_at.ensures ∙ ap (λ (l : List ℕ). patched (descriptor_at zone) l old) piece in
    subst (λ (new : TableState). Describes (g.F.ByteFile.contents c.write_part.new.file) new) (sym c.set.ensures)
    (subst (λ (l : List ℕ). Describes l (with_slot t zone c.args.slot)) (sym after)
    (described_slot t zone c.args.slot old c.requires.valid c.requires.is_zone long c.requires.possible (c.requires.described told unbroken)))
