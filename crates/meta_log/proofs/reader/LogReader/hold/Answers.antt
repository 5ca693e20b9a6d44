use Rattle.std.proofs.Common.{◌≡◌, ◌*◌, ◌++◌, length, take, drop, ap, sym, ◌∙◌, subst, arith}
use Rattle.std.specs.List.{concat}
use Rattle.zone_image.specs.Image.{zone_at}
use Rattle.zone_image.specs.Changes.{bytes_at}
use Rattle.meta_log.specs.Reader.{last_blocks}
use Rattle.meta_log.proofs.Windows.{last_all, read_held, zone_whole}
use Rattle.meta_log.proofs.reader.LogReader.hold.Goals as goal

pub returns-clause-held : goal.returns-clause-held
returns-clause-held g c = λ told.
    let D = g.D.ZonedDevice in
    let dev = c.args.dev.now in
    let s = c.self.inside in
    let more = c.min-more.result in
    let bytes = c.read_blocks.new.bytes.items in
    let blocks = (zone_at (D.image dev) s.zone).blocks in
    let same_block : s.block_size ≡ (D.geometry dev).block = subst (λ r. r.block_size ≡ (D.geometry dev).block) (sym c.self.view_is) c.requires.same_block in
    let whole = zone_whole (D.geometry dev) (D.infos dev) (D.image dev) s.zone s.block_size (g.met.D.ZonedDevice.told dev told c.requires.is_known) same_block in
    let long : length bytes ≡ more * s.block_size = omega (arith, c.in_ok-read_blocks.ensures.len, ap length c.clear.ensures.items) in
    let read : bytes ≡ concat (take more (drop s.next blocks)) = c.in_ok-read_blocks.ensures.read told ∙ ap (λ l. l ++ bytes_at (D.image dev) s.zone s.next more) c.clear.ensures.items in
    subst (λ i. last_blocks s.block_size more bytes ≡ take (length (last_blocks s.block_size more bytes)) (concat (drop s.next (zone_at i s.zone).blocks)))
    (sym (c.read_blocks.ensures.device.same_image told))
    (subst (λ b. b ≡ take (length b) (concat (drop s.next blocks))) (sym (last_all s.block_size more bytes long)) (read_held s.block_size s.next more bytes blocks whole read long))
