use Rattle.std.proofs.Common.{◌≡◌, ◌*◌, length, subst, ◌<◌, ap, ◌∙◌}
use Rattle.zone_image.specs.Changes.{chunks, blocks_in}
use Rattle.log_store.proofs.AppendedImages.{appended_valid}
use Rattle.std.specs.Prelude.{IsErr}
use Rattle.zone_image.specs.declared.Geometry.{Geometry}
use Rattle.zone_image.specs.Moments.{PassedByAppend}
use Rattle.meta_log.proofs.Adding.{blocks_known}
use Rattle.meta_log.proofs.Reading.{block_positive}
use Rattle.zoned_device.specs.DeviceSteps.{ChangesDevice}
use Rattle.log_store.proofs.calls.append.Goals as goal

pub returns-clause-valid : goal.returns-clause-valid
returns-clause-valid g c = λ told.
    let D = g.D.ZonedDevice in
    let m = g.met.D.ZonedDevice in
    let dev = c.args.dev.now in
    let blocks = c.args.added.now.blocks in
    let bytes = c.bytes.result.now in
    appended_valid c.args.geometry.now (D.geometry dev) (D.infos dev) (D.image dev) c.args.zone (length blocks) bytes blocks c.requires.same_geometry (m.possible dev c.requires.is_known)
    (m.told dev told c.requires.is_known) c.requires.is_zone
    (subst (λ b. length bytes ≡ length blocks * b) c.requires.same_block c.bytes.ensures.whole)
    (subst (λ b. chunks b (length blocks) bytes ≡ blocks) c.requires.same_block c.bytes.ensures.blocks)
    c.requires.unsealed c.requires.room c.requires.active

pub returns-clause-device : goal.returns-clause-device
returns-clause-device g c =
    let D = g.D.ZonedDevice in
    let dev = c.args.dev.now in
    let blocks = c.args.added.now.blocks in
    let bytes = c.bytes.result.now in
    let some : 0 < (D.geometry dev).block = block_positive (D.geometry dev) (g.met.D.ZonedDevice.possible dev c.requires.is_known).valid in
    let block : c.args.added.now.block ≡ (D.geometry dev).block = c.requires.same_block ∙ ap (λ (s : Geometry). s.block) c.requires.same_geometry in
    let known : blocks_in (D.geometry dev) bytes ≡ blocks =
    blocks_known (D.geometry dev) bytes (length blocks) blocks some
    (subst (λ b. length bytes ≡ length blocks * b) block c.bytes.ensures.whole) (subst (λ b. chunks b (length blocks) bytes ≡ blocks) block c.bytes.ensures.blocks) in
    subst
    (λ bs. ChangesDevice D.known D.geometry D.tells D.image D.tick D.since D.faults D.failed_changes dev c.append_bytes.new.dev (IsErr c.append_bytes.result) (PassedByAppend (D.image dev) c.args.zone bs))
    known c.append_bytes.ensures.device
