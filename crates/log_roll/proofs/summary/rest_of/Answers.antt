use Rattle.std.proofs.Common.{◌≡◌, ap, ◌∙◌, subst}
use Rattle.std.proofs.lemmas.Result.{IfOk-weaker}
use Rattle.zone_image.specs.Image.{zone_at}
use Rattle.zone_image.proofs.ReadLaws.{reads_on}
use Rattle.meta_log.specs.Reader.{scan_left}
use Rattle.log_roll.specs.Records.{Begins}
use Rattle.log_roll.specs.Rests.{tail_of}
use Rattle.log_roll.specs.Summaries.{rest_with}
use Rattle.log_roll.proofs.Tails.{rest_behind}
use Rattle.log_roll.proofs.summary.rest_of.Goals as goal

pub returns-in_err-tail-in-Payload-clause-device : goal.returns-in_err-tail-in-Payload-clause-device
returns-in_err-tail-in-Payload-clause-device g c = reads_on g.met.D.ZonedDevice.moments c.in_ok-next.ensures.device c.in_err-tail-in-Payload.ensures.device

pub returns-in_ok-tail-in-Payload-clause-device : goal.returns-in_ok-tail-in-Payload-clause-device
returns-in_ok-tail-in-Payload-clause-device g c = reads_on g.met.D.ZonedDevice.moments c.in_ok-next.ensures.device c.in_ok-tail-in-Payload.ensures.device

pub returns-in_ok-tail-in-Payload-clause-rest : goal.returns-in_ok-tail-in-Payload-clause-rest
returns-in_ok-tail-in-Payload-clause-rest g c =
    IfOk-weaker c.rest_with.result _ _ (λ rest is told.
    let D = g.D.ZonedDevice in
    let image = D.image c.args.dev.now in
    let reader = c.args.reader.now in
    let reader_behind = c.next_record.new.reader in
    let blocks = (zone_at image reader.zone).blocks in
    let zone = c.args.zone in
    let block = c.in-Payload.block in
    let bytes = c.in-Payload.bytes in
    let same_blocks : (zone_at (D.image c.next_record.new.dev) reader_behind.zone).blocks ≡ blocks =
    ap (λ i. (zone_at i reader_behind.zone).blocks) (c.in_ok-next.ensures.device.same_image told) ∙ ap (λ z. (zone_at image z).blocks) c.in_ok-next.ensures.same.zone in
    let payload_is = subst (λ n. Begins (scan_left reader blocks) n (scan_left reader_behind blocks)) c.in-Payload.is (c.in_ok-next.ensures.begins told) in
    let tail_is : c.in_ok-tail-in-Payload.tail ≡ tail_of (scan_left reader_behind blocks) =
    c.in_ok-tail-in-Payload.ensures.tail told ∙ ap (λ bs. tail_of (scan_left reader_behind bs)) same_blocks in
    is
    ∙ (ap (λ p. rest_with zone block p c.in_ok-tail-in-Payload.tail) c.items.ensures
    ∙ (ap (rest_with zone block bytes) tail_is ∙ rest_behind zone block bytes (scan_left reader blocks) (scan_left reader_behind blocks) payload_is)))
    c.rest_with.ensures.exact
