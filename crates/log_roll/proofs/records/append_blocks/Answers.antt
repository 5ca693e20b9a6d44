use Rattle.std.proofs.Common.{◌≡◌, ◌*◌, ◌<◌, length, ap, sym, subst}
use Rattle.std.specs.Prelude.{IsErr}
use Rattle.zone_image.specs.Changes.{blocks_in, chunks}
use Rattle.zone_image.specs.Moments.{PassedByAppend}
use Rattle.meta_log.proofs.Adding.{blocks_known}
use Rattle.meta_log.proofs.Reading.{block_positive}
use Rattle.zoned_device.specs.DeviceSteps.{ChangesDevice}
use Rattle.log_roll.proofs.records.append_blocks.Goals as goal

pub returns-clause-device : goal.returns-clause-device
returns-clause-device g c =
    let D = g.D.ZonedDevice in
    let dev = c.args.dev.now in
    let bytes = c.args.bytes.now in
    let count = c.args.count in
    let some : 0 < (D.geometry dev).block = block_positive (D.geometry dev) (g.met.D.ZonedDevice.possible dev c.requires.is_known).valid in
    let known : blocks_in (D.geometry dev) bytes ≡ chunks c.args.block count bytes =
    blocks_known (D.geometry dev) bytes count (chunks c.args.block count bytes) some
    (subst (λ b. length bytes ≡ count * b) c.requires.same_block c.requires.whole) (ap (λ b. chunks b count bytes) (sym c.requires.same_block)) in
    subst
    (λ blocks. ChangesDevice D.known D.geometry D.tells D.image D.tick D.since D.faults D.failed_changes dev c.append.new.dev (IsErr c.append.result) (PassedByAppend (D.image dev) c.args.zone blocks))
    known c.append.ensures.device
