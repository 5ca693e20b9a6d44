use Rattle.std.proofs.Common.{◌≡◌, ◌<◌, ◌≤◌, ◌+◌, ◌-◌, ◌*◌, ◌⊎◌, length, take, drop, refl, ap, sym, ◌∙◌, subst, arith, length-drop}
use Rattle.std.specs.List.{concat}
use Rattle.std.proofs.lemmas.Grind.{div_ceil_times}
use Rattle.std.proofs.lemmas.List.{length-take-le}
use Rattle.zone_image.specs.Image.{zone_at}
use Rattle.zone_image.specs.Infos.{info_at}
use Rattle.zone_image.proofs.ReadLaws.{reads_on}
use Rattle.superblock_core.specs.Superblock.{u32_at}
use Rattle.log_model.specs.LogScan.{blocks_of, first_item}
use Rattle.log_model.specs.LogScan.Item.{NoMore}
use Rattle.meta_log.proofs.Held.{block_sizes, first_held, first_number, header_fits, held_there, payload_there}
use Rattle.meta_log.proofs.Reading.{block_positive, blocks_positive, none_left, unfinished, whole, written_is}
use Rattle.meta_log.proofs.Windows.{zone_whole}
use Rattle.meta_log.proofs.reader.LogReader.found.Goals as goal

pub returns-then-self-clause-first : goal.returns-then-self-clause-first
returns-then-self-clause-first g c = λ told.
    let D = g.D.ZonedDevice in
    let dev = c.args.dev.now in
    let s = c.self.inside in
    let in_range = subst (λ r. r.zone < (D.geometry dev).zones) (sym c.self.view_is) c.requires.is_zone in
    let written : s.written ≡ length (zone_at (D.image dev) s.zone).blocks =
    subst (λ r. r.written ≡ (info_at (D.infos dev) r.zone).written) (sym c.self.view_is) c.requires.same_written
    ∙ written_is (D.geometry dev) (D.infos dev) (D.image dev) s.zone (g.met.D.ZonedDevice.possible dev c.requires.is_known) (g.met.D.ZonedDevice.told dev told c.requires.is_known) in_range in
    subst (λ r. first_item r.block_size (drop r.next (zone_at (D.image dev) r.zone).blocks) ≡ NoMore) c.self.view_is
    (none_left s.block_size s.next (zone_at (D.image dev) s.zone).blocks (omega (arith, written, c.if-self.true)))

pub blocks_of-count-requires-clause-block_size : goal.blocks_of-count-requires-clause-block_size
blocks_of-count-requires-clause-block_size g c =
    let D = g.D.ZonedDevice in
    let dev = c.args.dev.now in
    let same : c.self-2.inside.block_size ≡ (D.geometry dev).block = ap (λ r. r.block_size) c.self-2.view_is ∙ c.hold.ensures.place.block_size ∙ c.requires.same_block in
    subst (λ b. (b ≡ 512) ⊎ (b ≡ 4096)) (sym same) (block_sizes (D.geometry dev) (g.met.D.ZonedDevice.possible dev c.requires.is_known).valid)

pub returns-then-count-from-clause-first : goal.returns-then-count-from-clause-first
returns-then-count-from-clause-first g c = λ told.
    let D = g.D.ZonedDevice in
    let dev = c.args.dev.now in
    let r = c.args.self.now in
    let h = c.hold.new.self in
    let blocks = (zone_at (D.image dev) r.zone).blocks in
    let place = c.hold.ensures.place in
    let first = c.first_block-first.result.now in
    let told_image = g.met.D.ZonedDevice.told dev told c.requires.is_known in
    let wholes = zone_whole (D.geometry dev) (D.infos dev) (D.image dev) r.zone r.block_size told_image c.requires.same_block in
    let held = held_there r h (D.image dev) (D.image c.hold.new.dev) place (c.hold.ensures.device.same_image told) (c.hold.ensures.held told) in
    let enough : r.block_size ≤ length h.held = omega (arith, c.in_ok-hold.ensures.enough, place.block_size) in
    let first_is = first_held r.block_size r.next h.held first blocks wholes held enough (c.first_block-first.ensures ∙ ap (λ b. take b h.held) place.block_size) in
    let written : r.written ≡ length blocks =
    c.requires.same_written ∙ written_is (D.geometry dev) (D.infos dev) (D.image dev) r.zone (g.met.D.ZonedDevice.possible dev c.requires.is_known) told_image c.requires.is_zone in
    let left : length (drop r.next blocks) ≡ r.written - r.next = length-drop r.next blocks ∙ ap (λ n. n - r.next) (sym written) in
    let same_size : c.self-2.inside.block_size ≡ r.block_size = ap (λ q. q.block_size) c.self-2.view_is ∙ place.block_size in
    let count : c.blocks_of-count.result ≡ blocks_of r.block_size (u32_at 4 first) =
    c.blocks_of-count.ensures ∙ ap (blocks_of c.self-2.inside.block_size) (c.from.ensures ∙ c.u32_at-len.ensures) ∙ ap (λ b. blocks_of b (u32_at 4 first)) same_size in
    let next_same : c.self-2.inside.next ≡ r.next = ap (λ q. q.next) c.self-2.view_is ∙ place.next in
    let written_same : c.self-2.inside.written ≡ r.written = ap (λ q. q.written) c.self-2.view_is ∙ place.written in
    let old_next : c.self.inside.next ≡ r.next = ap (λ q. q.next) c.self.view_is in
    let old_written : c.self.inside.written ≡ r.written = ap (λ q. q.written) c.self.view_is in
    let some : 0 < length (drop r.next blocks) = omega (arith, left, c.if-self.false, c.self.invariant.within, old_next, old_written) in
    let more : length (drop r.next blocks) < blocks_of r.block_size (u32_at 4 first) = omega (arith, left, count, c.if-count-from.true, c.from-2.ensures, next_same, written_same) in
    unfinished r.block_size (drop r.next blocks) first some first_is more

pub payload-requires-clause-room : goal.payload-requires-clause-room
payload-requires-clause-room g c =
    let D = g.D.ZonedDevice in
    let dev = c.args.dev.now in
    let h = c.hold.new.self in
    let len = c.u32_at-len.result in
    let same : c.self-2.inside.block_size ≡ h.block_size = ap (λ q. q.block_size) c.self-2.view_is in
    let count : c.blocks_of-count.result ≡ blocks_of h.block_size len = c.blocks_of-count.ensures ∙ ap (blocks_of c.self-2.inside.block_size) c.from.ensures ∙ ap (λ b. blocks_of b len) same in
    let positive : 0 < h.block_size =
    subst (λ b. 0 < b) (sym (c.hold.ensures.place.block_size ∙ c.requires.same_block)) (block_positive (D.geometry dev) (g.met.D.ZonedDevice.possible dev c.requires.is_known).valid) in
    let room : 8 + len ≤ blocks_of h.block_size len * h.block_size = (div_ceil_times (8 + len) h.block_size positive).0 in
    omega (arith, room, ap (λ n. n * h.block_size) count)

pub returns-in_err-payload-clause-device : goal.returns-in_err-payload-clause-device
returns-in_err-payload-clause-device g c = reads_on g.met.D.ZonedDevice.moments c.hold.ensures.device c.payload.ensures.device

pub returns-clause-device : goal.returns-clause-device
returns-clause-device g c = reads_on g.met.D.ZonedDevice.moments c.hold.ensures.device c.payload.ensures.device

pub returns-clause-first : goal.returns-clause-first
returns-clause-first g c = λ told.
    let D = g.D.ZonedDevice in
    let dev = c.args.dev.now in
    let r = c.args.self.now in
    let h = c.hold.new.self in
    let blocks = (zone_at (D.image dev) r.zone).blocks in
    let place = c.hold.ensures.place in
    let first = c.first_block-first.result.now in
    let count = c.blocks_of-count.result in
    let len = c.u32_at-len.result in
    let told_image = g.met.D.ZonedDevice.told dev told c.requires.is_known in
    let possible = g.met.D.ZonedDevice.possible dev c.requires.is_known in
    let wholes = zone_whole (D.geometry dev) (D.infos dev) (D.image dev) r.zone r.block_size told_image c.requires.same_block in
    let same_image = c.hold.ensures.device.same_image told in
    let held = held_there r h (D.image dev) (D.image c.hold.new.dev) place same_image (c.hold.ensures.held told) in
    let enough : r.block_size ≤ length h.held = omega (arith, c.in_ok-hold.ensures.enough, place.block_size) in
    let first_by : first ≡ take r.block_size h.held = c.first_block-first.ensures ∙ ap (λ b. take b h.held) place.block_size in
    let first_is = first_held r.block_size r.next h.held first blocks wholes held enough first_by in
    let size : length first ≡ r.block_size = ap length first_by ∙ length-take-le r.block_size h.held enough in
    let room : 4 ≤ length first = omega (arith, size, c.requires.same_block, header_fits (D.geometry dev) possible.valid) in
    let written : r.written ≡ length blocks = c.requires.same_written ∙ written_is (D.geometry dev) (D.infos dev) (D.image dev) r.zone possible told_image c.requires.is_zone in
    let left : length (drop r.next blocks) ≡ r.written - r.next = length-drop r.next blocks ∙ ap (λ n. n - r.next) (sym written) in
    let same_size : c.self-2.inside.block_size ≡ r.block_size = ap (λ q. q.block_size) c.self-2.view_is ∙ place.block_size in
    let count_is : count ≡ blocks_of r.block_size (u32_at 4 first) =
    c.blocks_of-count.ensures ∙ ap (blocks_of c.self-2.inside.block_size) (c.from.ensures ∙ c.u32_at-len.ensures) ∙ ap (λ b. blocks_of b (u32_at 4 first)) same_size in
    let next_same : c.self-2.inside.next ≡ r.next = ap (λ q. q.next) c.self-2.view_is ∙ place.next in
    let written_same : c.self-2.inside.written ≡ r.written = ap (λ q. q.written) c.self-2.view_is ∙ place.written in
    let old_next : c.self.inside.next ≡ r.next = ap (λ q. q.next) c.self.view_is in
    let old_written : c.self.inside.written ≡ r.written = ap (λ q. q.written) c.self.view_is in
    let some : 0 < length (drop r.next blocks) = omega (arith, left, c.if-self.false, c.self.invariant.within, old_next, old_written) in
    let there : count ≤ length (drop r.next blocks) = omega (arith, left, c.if-count-from.false, c.from-2.ensures, next_same, written_same) in
    let positive : 0 < r.block_size = subst (λ b. 0 < b) (sym c.requires.same_block) (block_positive (D.geometry dev) possible.valid) in
    let counted : 0 < count = omega (arith, count_is, blocks_positive r.block_size (u32_at 4 first) positive) in
    let bytes = concat (take count (drop r.next blocks)) in
    whole r.block_size (drop r.next blocks) first bytes len count some first_is c.u32_at-len.ensures count_is there refl
    ∙ c.judged.ensures.first bytes
    (c.in_ok-payload.ensures.payload told ∙ payload_there r h (D.image dev) (D.image c.hold.new.dev) len count place same_image)
    (c.u32_at-stored.ensures ∙ first_number r.next count first blocks counted room first_is)
