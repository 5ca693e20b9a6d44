use Rattle.std.proofs.Common.{◌≡◌, Ok, Some, ap, sym, ◌∙◌, subst}
use Rattle.zone_image.specs.Image.{zone_at}
use Rattle.zone_image.proofs.ReadLaws.{reads_on}
use Rattle.meta_log.specs.Reader.{scan_left}
use Rattle.log_roll.specs.Records.{Begins}
use Rattle.log_roll.specs.Rests.{rest_of}
use Rattle.log_roll.specs.Summaries.{log_of, superblock_in}
use Rattle.log_roll.proofs.ZoneSummaries.{log_begins}
use Rattle.log_roll.proofs.summary.summary_by.Goals as goal

pub returns-in_err-rest-in-Ok-Some-clause-device : goal.returns-in_err-rest-in-Ok-Some-clause-device
returns-in_err-rest-in-Ok-Some-clause-device g c = reads_on g.met.D.ZonedDevice.moments c.in_ok-next.ensures.device c.in_err-rest-in-Ok-Some.ensures.device

pub returns-clause-device : goal.returns-clause-device
returns-clause-device g c = reads_on g.met.D.ZonedDevice.moments c.in_ok-next.ensures.device c.in_ok-rest-in-Ok-Some.ensures.device

pub returns-clause-summary : goal.returns-clause-summary
returns-clause-summary g c = λ told.
    let D = g.D.ZonedDevice in
    let image = D.image c.args.dev.now in
    let reader = c.args.reader.now in
    let reader_behind = c.next_record.new.reader in
    let blocks = (zone_at image reader.zone).blocks in
    let shape = c.args.geometry.now in
    let zone = c.args.zone in
    let bytes = c.in-Payload.bytes in
    let s = c.in-Ok-Some.superblock in
    let same_blocks : (zone_at (D.image c.next_record.new.dev) reader_behind.zone).blocks ≡ blocks =
    ap (λ i. (zone_at i reader_behind.zone).blocks) (c.in_ok-next.ensures.device.same_image told) ∙ ap (λ z. (zone_at image z).blocks) c.in_ok-next.ensures.same.zone in
    let payload_is = subst (λ n. Begins (scan_left reader blocks) n (scan_left reader_behind blocks)) c.in-Payload.is (c.in_ok-next.ensures.begins told) in
    let rest_is : c.in_ok-rest-in-Ok-Some.rest ≡ rest_of zone (scan_left reader_behind blocks) =
    c.in_ok-rest-in-Ok-Some.ensures.rest told ∙ ap (λ bs. rest_of zone (scan_left reader_behind bs)) same_blocks in
    let superblock_is : superblock_in shape zone bytes ≡ Ok (Some s) =
    ap (superblock_in shape zone) (sym c.items.ensures) ∙ (sym c.in-Ok-Some.ensures.exact ∙ ap (λ o. Ok o) c.in-Ok-Some.field-0-is) in
    ap (λ r. Ok (Some (log_of zone s r))) rest_is
    ∙ sym (log_begins shape zone c.in-Payload.block bytes (scan_left reader blocks) (scan_left reader_behind blocks) s payload_is superblock_is)
