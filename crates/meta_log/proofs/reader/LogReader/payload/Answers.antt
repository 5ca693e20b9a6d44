use Rattle.std.proofs.Common.{◌*◌, ◌≤◌, length, take, drop, ap, ◌∙◌, subst}
use Rattle.std.proofs.lemmas.Result.{IfOk-weaker}
use Rattle.zone_image.specs.Image.{zone_at}
use Rattle.meta_log.proofs.Held.{copied_is, held_there}
use Rattle.meta_log.proofs.Windows.{zone_whole}
use Rattle.meta_log.proofs.reader.LogReader.payload.Goals as goal

pub returns-clause-payload : goal.returns-clause-payload
returns-clause-payload g c =
    IfOk-weaker c.copied.result _ _ (λ payload is told.
    let D = g.D.ZonedDevice in
    let dev = c.args.dev.now in
    let r = c.args.self.now in
    let h = c.hold.new.self in
    let blocks = (zone_at (D.image dev) r.zone).blocks in
    let whole = zone_whole (D.geometry dev) (D.infos dev) (D.image dev) r.zone r.block_size (g.met.D.ZonedDevice.told dev told c.requires.is_known) c.requires.same_block in
    let held = held_there r h (D.image dev) (D.image c.hold.new.dev) c.hold.ensures.place (c.hold.ensures.device.same_image told) (c.hold.ensures.held told) in
    let enough : c.args.count * r.block_size ≤ length h.held = subst (λ b. c.args.count * b ≤ length h.held) c.hold.ensures.place.block_size c.in_ok-hold.ensures.enough in
    is ∙ ap (λ b. take c.args.len (drop 8 b)) c.blocks-2.ensures ∙ copied_is r.block_size r.next c.args.len c.args.count h.held blocks whole held enough c.requires.room)
    c.copied.ensures.payload
