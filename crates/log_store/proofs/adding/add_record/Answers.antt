use Rattle.std.proofs.Common.{refl, subst, sym, ap, ◌∙◌}
use Rattle.zone_image.specs.Changes.{synced}
use Rattle.log_roll.proofs.Blanking.{ok_then}
use Rattle.zoned_device.proofs.DeviceLaws.{done_as, done_then, whole_append}
use Rattle.log_store.specs.Adding.{GoesOn, LeftByRecord, RestsWithRecord}
use Rattle.log_store.proofs.AddingLaws.{goes_on_with_record, left_by_append, rests_with_record}
use Rattle.log_roll.proofs.KeptData.{both_kept}
use Rattle.log_store.proofs.adding.add_record.Goals as goal

pub returns-in-Err-clause-device : goal.returns-in-Err-clause-device
returns-in-Err-clause-device g c =
    let D = g.D.ZonedDevice in
    let i = D.image c.args.dev.now in
    let chosen = c.args.chosen.now in
    let blocks = c.args.added.now.blocks in
    done_as g.met.D.ZonedDevice.moments _ (LeftByRecord blocks i) c.in-Err.ensures.device (λ failed. refl) (λ failed. refl)
    (λ j told passed. left_by_append i chosen blocks (c.requires.selected told) c.requires.goes_on (c.in-Err.ensures.valid told) j passed)

pub returns-in-Ok-clause-at_rest : goal.returns-in-Ok-clause-at_rest
returns-in-Ok-clause-at_rest g c =
    let D = g.D.ZonedDevice in
    let i = D.image c.args.dev.now in
    let chosen = c.args.chosen.now in
    let blocks = c.args.added.now.blocks in
    ok_then _ (D.tells → RestsWithRecord blocks i (D.image c.sync.new.dev)) c.sync.result c.sync.ensures.image
    (λ made told.
    subst (RestsWithRecord blocks i) (sym (made told ∙ ap synced (c.in-Ok.ensures.image told)))
    (rests_with_record i chosen blocks (c.requires.selected told) c.requires.goes_on (c.in-Ok.ensures.valid told)))

pub returns-in-Ok-clause-selects : goal.returns-in-Ok-clause-selects
returns-in-Ok-clause-selects g c =
    let D = g.D.ZonedDevice in
    let i = D.image c.args.dev.now in
    let chosen = c.args.chosen.now in
    let blocks = c.args.added.now.blocks in
    ok_then _ (D.tells → GoesOn chosen blocks i (D.image c.sync.new.dev)) c.sync.result c.sync.ensures.image
    (λ made told.
    subst (GoesOn chosen blocks i) (sym (made told ∙ ap synced (c.in-Ok.ensures.image told)))
    (goes_on_with_record i chosen blocks (c.requires.selected told) c.requires.goes_on (c.in-Ok.ensures.valid told)))

pub returns-in-Ok-clause-device : goal.returns-in-Ok-clause-device
returns-in-Ok-clause-device g c =
    let D = g.D.ZonedDevice in
    let i = D.image c.args.dev.now in
    let chosen = c.args.chosen.now in
    let blocks = c.args.added.now.blocks in
    done_then g.met.D.ZonedDevice.moments (LeftByRecord blocks i) c.in-Ok.ensures.device (λ failed. cc) c.sync.ensures.device
    (λ j told passed. left_by_append i chosen blocks (c.requires.selected told) c.requires.goes_on (c.in-Ok.ensures.valid told) j passed)
    (λ j told crash.
    left_by_append i chosen blocks (c.requires.selected told) c.requires.goes_on (c.in-Ok.ensures.valid told) j
    (whole_append i (D.image c.append.new.dev) j chosen.zone blocks (c.in-Ok.ensures.image told) crash))

pub returns-in-Ok-clause-data_kept : goal.returns-in-Ok-clause-data_kept
returns-in-Ok-clause-data_kept g c = both_kept (c.in-Ok.ensures.data_kept c.requires.is_metadata) c.sync.ensures.data_kept
