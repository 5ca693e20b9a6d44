use Rattle.std.proofs.Common.{ap, ◌∙◌}
use Rattle.std.proofs.lemmas.Result.{IfOk-weaker}
use Rattle.zone_image.specs.Image.{zone_at}
use Rattle.zone_image.proofs.ReadLaws.{reads_on}
use Rattle.log_model.specs.LogScan.{scan}
use Rattle.meta_log.specs.Reader.{scan_left}
use Rattle.log_roll.specs.Summaries.{zone_summary}
use Rattle.log_roll.proofs.summary.summary_of.Goals as goal

pub returns-clause-device : goal.returns-clause-device
returns-clause-device g c = reads_on g.met.D.ZonedDevice.moments c.in_ok-written.ensures.device c.summary_by.ensures.device

pub returns-clause-summary : goal.returns-clause-summary
unfolding scan
returns-clause-summary g c = IfOk-weaker c.summary_by.result _ _ (λ found is told.
    let D = g.D.ZonedDevice in
    let shape = c.args.geometry.now in
    is told
    ∙ ap (λ r. zone_summary shape c.args.zone (scan_left r (zone_at (D.image c.written_of.new.dev) r.zone).blocks)) c.new-reader.ensures
    ∙ ap (λ i. zone_summary shape c.args.zone (scan shape.block (zone_at i c.args.zone).blocks)) (c.in_ok-written.ensures.device.same_image told)) c.summary_by.ensures.summary
