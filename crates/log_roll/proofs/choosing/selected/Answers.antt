use Rattle.std.proofs.Common.{Ok, Err, refl, ap, sym, ◌∙◌}
use Rattle.zone_image.proofs.ReadLaws.{reads_on}
use Rattle.log_roll.proofs.ChoiceLaws.{choice_by, zone_of}
use Rattle.log_roll.proofs.choosing.selected.Goals as goal

pub returns-in-Err-clause-exact : goal.returns-in-Err-clause-exact
returns-in-Err-clause-exact g c = λ told.
    let dev = c.args.dev.now in
    let image = g.D.ZonedDevice.image dev in
    let shape = c.args.geometry.now in
    choice_by shape image ((g.met.D.ZonedDevice.told dev told c.requires.is_known).shape ∙ sym c.requires.same_geometry) (Err c.in-Err.refusal) (zone_of shape image 1) (zone_of shape image 2)
    (sym c.in-Err.is ∙ c.in_ok-of_first.ensures.summary told) refl refl

pub returns-in-Err-of_second-clause-exact : goal.returns-in-Err-of_second-clause-exact
returns-in-Err-of_second-clause-exact g c = λ told.
    let dev = c.args.dev.now in
    let image = g.D.ZonedDevice.image dev in
    let shape = c.args.geometry.now in
    choice_by shape image ((g.met.D.ZonedDevice.told dev told c.requires.is_known).shape ∙ sym c.requires.same_geometry) (Ok c.in-Ok.log) (Err c.in-Err-of_second.refusal) (zone_of shape image 2)
    (sym c.in-Ok.is ∙ c.in_ok-of_first.ensures.summary told)
    (sym c.in-Err-of_second.is ∙ (c.in_ok-of_second.ensures.summary told ∙ ap (λ i. zone_of shape i 1) (c.in_ok-of_first.ensures.device.same_image told)))
    refl

pub returns-in-Err-of_third-clause-exact : goal.returns-in-Err-of_third-clause-exact
returns-in-Err-of_third-clause-exact g c = λ told.
    let dev = c.args.dev.now in
    let image = g.D.ZonedDevice.image dev in
    let shape = c.args.geometry.now in
    choice_by shape image ((g.met.D.ZonedDevice.told dev told c.requires.is_known).shape ∙ sym c.requires.same_geometry) (Ok c.in-Ok.log) (Ok c.in-Ok-of_second.log) (Err c.in-Err-of_third.refusal)
    (sym c.in-Ok.is ∙ c.in_ok-of_first.ensures.summary told)
    (sym c.in-Ok-of_second.is ∙ (c.in_ok-of_second.ensures.summary told ∙ ap (λ i. zone_of shape i 1) (c.in_ok-of_first.ensures.device.same_image told)))
    (sym c.in-Err-of_third.is ∙ (c.in_ok-of_third.ensures.summary told
    ∙ ap (λ i. zone_of shape i 2) (c.in_ok-of_second.ensures.device.same_image told ∙ c.in_ok-of_first.ensures.device.same_image told)))

pub returns-clause-exact : goal.returns-clause-exact
returns-clause-exact g c = λ told.
    let dev = c.args.dev.now in
    let image = g.D.ZonedDevice.image dev in
    let shape = c.args.geometry.now in
    c.select.ensures.exact
    ∙ choice_by shape image ((g.met.D.ZonedDevice.told dev told c.requires.is_known).shape ∙ sym c.requires.same_geometry) (Ok c.in-Ok.log) (Ok c.in-Ok-of_second.log) (Ok c.in-Ok-of_third.log)
    (sym c.in-Ok.is ∙ c.in_ok-of_first.ensures.summary told)
    (sym c.in-Ok-of_second.is ∙ (c.in_ok-of_second.ensures.summary told ∙ ap (λ i. zone_of shape i 1) (c.in_ok-of_first.ensures.device.same_image told)))
    (sym c.in-Ok-of_third.is ∙ (c.in_ok-of_third.ensures.summary told
    ∙ ap (λ i. zone_of shape i 2) (c.in_ok-of_second.ensures.device.same_image told ∙ c.in_ok-of_first.ensures.device.same_image told)))

pub returns-in_err-of_third-clause-device : goal.returns-in_err-of_third-clause-device
returns-in_err-of_third-clause-device g c =
    let laws = g.met.D.ZonedDevice.moments in
    reads_on laws (reads_on laws c.in_ok-of_first.ensures.device c.in_ok-of_second.ensures.device) c.in_err-of_third.ensures.device

pub returns-in-Err-of_third-clause-device : goal.returns-in-Err-of_third-clause-device
returns-in-Err-of_third-clause-device g c =
    let laws = g.met.D.ZonedDevice.moments in
    reads_on laws (reads_on laws c.in_ok-of_first.ensures.device c.in_ok-of_second.ensures.device) c.in_ok-of_third.ensures.device

pub returns-clause-device : goal.returns-clause-device
returns-clause-device g c =
    let laws = g.met.D.ZonedDevice.moments in
    reads_on laws (reads_on laws c.in_ok-of_first.ensures.device c.in_ok-of_second.ensures.device) c.in_ok-of_third.ensures.device
