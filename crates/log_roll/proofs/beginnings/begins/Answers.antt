use Rattle.std.proofs.Common.{true, false, ap, sym, ◌∙◌}
use Rattle.zone_image.proofs.ReadLaws.{reads_on}
use Rattle.log_roll.proofs.BeginningLaws.{begins_by, begins_first, begins_second, looks}
use Rattle.log_roll.proofs.beginnings.begins.Goals as goal

pub returns-then-first-clause-begins : goal.returns-then-first-clause-begins
returns-then-first-clause-begins g c = λ told. begins_first _ (sym c.if-first.true ∙ c.in_ok-first.ensures.looks told)

pub returns-then-second-clause-begins : goal.returns-then-second-clause-begins
returns-then-second-clause-begins g c = λ told.
    begins_second (g.D.ZonedDevice.image c.args.dev.now) (sym c.if-first.false ∙ c.in_ok-first.ensures.looks told)
    (sym c.if-second.true ∙ (c.in_ok-second.ensures.looks told ∙ ap (λ i. looks i 1) (c.in_ok-first.ensures.device.same_image told)))

pub returns-then-third-clause-begins : goal.returns-then-third-clause-begins
returns-then-third-clause-begins g c = λ told.
    begins_by (g.D.ZonedDevice.image c.args.dev.now) false false true (sym c.if-first.false ∙ c.in_ok-first.ensures.looks told)
    (sym c.if-second.false ∙ (c.in_ok-second.ensures.looks told ∙ ap (λ i. looks i 1) (c.in_ok-first.ensures.device.same_image told)))
    (sym c.if-third.true ∙ (c.in_ok-third.ensures.looks told
    ∙ ap (λ i. looks i 2) (c.in_ok-second.ensures.device.same_image told ∙ c.in_ok-first.ensures.device.same_image told)))

pub returns-clause-begins : goal.returns-clause-begins
returns-clause-begins g c = λ told.
    begins_by (g.D.ZonedDevice.image c.args.dev.now) false false false (sym c.if-first.false ∙ c.in_ok-first.ensures.looks told)
    (sym c.if-second.false ∙ (c.in_ok-second.ensures.looks told ∙ ap (λ i. looks i 1) (c.in_ok-first.ensures.device.same_image told)))
    (sym c.if-third.false ∙ (c.in_ok-third.ensures.looks told
    ∙ ap (λ i. looks i 2) (c.in_ok-second.ensures.device.same_image told ∙ c.in_ok-first.ensures.device.same_image told)))

pub returns-in_err-third-clause-device : goal.returns-in_err-third-clause-device
returns-in_err-third-clause-device g c =
    let laws = g.met.D.ZonedDevice.moments in
    reads_on laws (reads_on laws c.in_ok-first.ensures.device c.in_ok-second.ensures.device) c.in_err-third.ensures.device

pub returns-then-third-clause-device : goal.returns-then-third-clause-device
returns-then-third-clause-device g c =
    let laws = g.met.D.ZonedDevice.moments in
    reads_on laws (reads_on laws c.in_ok-first.ensures.device c.in_ok-second.ensures.device) c.in_ok-third.ensures.device

pub returns-clause-device : goal.returns-clause-device
returns-clause-device g c =
    let laws = g.met.D.ZonedDevice.moments in
    reads_on laws (reads_on laws c.in_ok-first.ensures.device c.in_ok-second.ensures.device) c.in_ok-third.ensures.device
