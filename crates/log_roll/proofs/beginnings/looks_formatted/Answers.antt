use Rattle.std.proofs.Common.{◌≡◌, ap, sym, ◌∙◌, subst}
use Rattle.zone_image.specs.Image.{zone_at}
use Rattle.zone_image.proofs.ReadLaws.{reads_on}
use Rattle.log_model.specs.LogScan.{scan}
use Rattle.meta_log.specs.Reader.{scan_left}
use Rattle.log_roll.specs.Records.{Begins}
use Rattle.log_roll.specs.Beginnings.{has_magic}
use Rattle.log_roll.proofs.BeginningLaws.{magic_looks, none_looks, payload_by}
use Rattle.log_roll.proofs.beginnings.looks_formatted.Goals as goal

pub returns-in-End-clause-looks : goal.returns-in-End-clause-looks
unfolding scan
returns-in-End-clause-looks g c = λ told.
    let D = g.D.ZonedDevice in
    let dev = c.args.dev.now in
    let shape = c.args.geometry.now in
    let reader = c.new-reader.result in
    let blocks = (zone_at (D.image c.written_of.new.dev) reader.zone).blocks in
    let whole = scan_left reader blocks in
    let whole_is : whole ≡ scan shape.block (zone_at (D.image dev) c.args.zone).blocks =
    ap (λ r. scan_left r (zone_at (D.image c.written_of.new.dev) r.zone).blocks) c.new-reader.ensures
    ∙ ap (λ i. scan shape.block (zone_at i c.args.zone).blocks) (c.in_ok-written.ensures.device.same_image told) in
    let end_is = subst (λ n. Begins whole n (scan_left c.next_record.new.reader blocks)) c.in-End.is (c.in_ok-next.ensures.begins told) in
    none_looks whole end_is.0
    ∙ payload_by shape (D.image dev) c.args.zone whole ((g.met.D.ZonedDevice.told dev told c.requires.is_known).shape ∙ sym c.requires.same_geometry) (sym whole_is)

pub returns-clause-looks : goal.returns-clause-looks
unfolding scan
returns-clause-looks g c = λ told.
    let D = g.D.ZonedDevice in
    let dev = c.args.dev.now in
    let shape = c.args.geometry.now in
    let reader = c.new-reader.result in
    let blocks = (zone_at (D.image c.written_of.new.dev) reader.zone).blocks in
    let whole = scan_left reader blocks in
    let whole_is : whole ≡ scan shape.block (zone_at (D.image dev) c.args.zone).blocks =
    ap (λ r. scan_left r (zone_at (D.image c.written_of.new.dev) r.zone).blocks) c.new-reader.ensures
    ∙ ap (λ i. scan shape.block (zone_at i c.args.zone).blocks) (c.in_ok-written.ensures.device.same_image told) in
    let payload_is = subst (λ n. Begins whole n (scan_left c.next_record.new.reader blocks)) c.in-Payload.is (c.in_ok-next.ensures.begins told) in
    c.has_magic.ensures
    ∙ (ap has_magic c.items.ensures
    ∙ (magic_looks whole (scan_left c.next_record.new.reader blocks) c.in-Payload.block c.in-Payload.bytes payload_is
    ∙ payload_by shape (D.image dev) c.args.zone whole ((g.met.D.ZonedDevice.told dev told c.requires.is_known).shape ∙ sym c.requires.same_geometry) (sym whole_is)))

pub returns-in-End-clause-device : goal.returns-in-End-clause-device
returns-in-End-clause-device g c = reads_on g.met.D.ZonedDevice.moments c.in_ok-written.ensures.device c.in_ok-next.ensures.device

pub returns-clause-device : goal.returns-clause-device
returns-clause-device g c = reads_on g.met.D.ZonedDevice.moments c.in_ok-written.ensures.device c.in_ok-next.ensures.device
