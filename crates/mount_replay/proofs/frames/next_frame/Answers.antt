use Rattle.std.proofs.Common.{◌≡◌, ◌<◌, ◌-◌, length, drop, sym, ◌∙◌, ap, arith, length-drop}
use Rattle.zone_image.specs.Image.{zone_at}
use Rattle.mount_replay.specs.FrameWalk.{frame_of}
use Rattle.mount_replay.proofs.FrameWalks.{no_frame, frame_read, written_is}
use Rattle.mount_replay.proofs.frames.next_frame.Goals as goal

pub returns-then-at-written-clause-frame : goal.returns-then-at-written-clause-frame
returns-then-at-written-clause-frame g c = λ told.
    let D = g.D.ZonedDevice in
    let dev = c.args.dev.now in
    let blocks = (zone_at (D.image dev) c.args.zone).blocks in
    let written : c.args.written ≡ length blocks =
    c.requires.same_written ∙ written_is (D.geometry dev) (D.infos dev) (D.image dev) c.args.zone (g.met.D.ZonedDevice.possible dev c.requires.is_known) (g.met.D.ZonedDevice.told dev told c.requires.is_known) c.requires.is_zone in
    sym (no_frame c.args.geometry.now.block c.args.at blocks (omega (arith, written, c.if-at-written.true)))

pub returns-clause-frame : goal.returns-clause-frame
returns-clause-frame g c = λ told.
    let D = g.D.ZonedDevice in
    let dev = c.args.dev.now in
    let blocks = (zone_at (D.image dev) c.args.zone).blocks in
    let block = c.args.geometry.now.block in
    let left = c.args.written - c.args.at in
    let written : c.args.written ≡ length blocks =
    c.requires.same_written ∙ written_is (D.geometry dev) (D.infos dev) (D.image dev) c.args.zone (g.met.D.ZonedDevice.possible dev c.requires.is_known) (g.met.D.ZonedDevice.told dev told c.requires.is_known) c.requires.is_zone in
    let same : left ≡ length (drop c.args.at blocks) = ap (λ n. n - c.args.at) written ∙ sym (length-drop c.args.at blocks) in
    let some : 0 < length (drop c.args.at blocks) = omega (arith, same, c.requires.within, c.if-at-written.false) in
    c.frame_of.ensures.exact
    ∙ ap (frame_of block left) c.first_number.ensures
    ∙ frame_read block left c.read_block.new.block (drop c.args.at blocks) some same (c.in_ok-read_block.ensures.read told)
