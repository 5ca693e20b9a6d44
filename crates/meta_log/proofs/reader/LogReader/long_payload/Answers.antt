use Rattle.std.proofs.Common.{◌≡◌, ◌+◌, ◌-◌, ◌≤◌, ◌++◌, length, drop, ap, ◌∙◌, arith}
use Rattle.std.proofs.lemmas.List.{length-take-le}
use Rattle.zone_image.specs.Image.{zone_at}
use Rattle.zone_image.specs.Changes.{bytes_at}
use Rattle.meta_log.proofs.Held.{first_held, header_fits, joined_is}
use Rattle.meta_log.proofs.Windows.{zone_whole}
use Rattle.meta_log.proofs.reader.LogReader.long_payload.Goals as goal

pub returns-clause-payload : goal.returns-clause-payload
returns-clause-payload g c = λ told.
    let D = g.D.ZonedDevice in
    let dev = c.args.dev.now in
    let r = c.args.self.now in
    let s = c.self.inside in
    let blocks = (zone_at (D.image dev) r.zone).blocks in
    let first = c.first_block.result.now in
    let whole = zone_whole (D.geometry dev) (D.infos dev) (D.image dev) r.zone r.block_size (g.met.D.ZonedDevice.told dev told c.requires.is_known) c.requires.same_block in
    let first_is = first_held r.block_size r.next r.held first blocks whole (c.requires.held told) c.requires.first c.first_block.ensures in
    let size : length first ≡ r.block_size = ap length c.first_block.ensures ∙ length-take-le r.block_size r.held c.requires.first in
    let room : 8 ≤ length first = omega (arith, size, c.requires.same_block, header_fits (D.geometry dev) (g.met.D.ZonedDevice.possible dev c.requires.is_known).valid) in
    let place : bytes_at (D.image dev) s.zone (s.next + 1) (c.args.count - 1) ≡ bytes_at (D.image dev) r.zone (r.next + 1) (c.args.count - 1) =
    ap (λ q. bytes_at (D.image dev) q.zone (q.next + 1) (c.args.count - 1)) c.self.view_is in
    c.from_vec.ensures ∙ c.truncate.ensures.items
    ∙ joined_is r.next c.args.len c.args.count first c.read_blocks.new.bytes.items blocks c.requires.some room first_is
    (c.in_ok-read_blocks.ensures.read told
    ∙ ap (λ b. b ++ bytes_at (D.image dev) s.zone (s.next + 1) (c.args.count - 1)) c.in_ok-bytes.ensures.bytes
    ∙ ap (λ b. drop 8 first ++ b) place)
