use Rattle.std.proofs.Common.{◌≡◌, ◌<◌, length, drop, Err, Ok, refl, sym, ◌∙◌, ap, subst}
use Rattle.zone_image.specs.Infos.{active_zones}
use Rattle.log_model.specs.LogSelection.{selected_log}
use Rattle.fs_model.specs.FsState.{recorded}
use Rattle.log_roll.specs.Rolling.{RefusesAs, next_chosen, roll_refusal}
use Rattle.zoned_device.proofs.DeviceLaws.{done_as, valid_image}
use Rattle.log_store.specs.Settling.{RestsSettled, infos_sealed}
use Rattle.log_store.proofs.SettlingLaws.{only_fault}
use Rattle.fs_tables.specs.Steps.{infos_in}
use Rattle.fs_core.specs.Beginning.{LeftByBeginning}
use Rattle.fs_core.proofs.NewLogs.{cleared_is_snapshot, left_by_beginning, new_log_stands, not_refused, settles, token_free}
use Rattle.fs_core.proofs.beginning.roll_settled.Goals as goal

pub settle_log-requires-clause-snapshot : goal.settle_log-requires-clause-snapshot
settle_log-requires-clause-snapshot g c =
    cleared_is_snapshot c.args.tables.now.state c.items-snapshot.result.now c.valid.ensures.sound c.requires.may (c.items-snapshot.ensures ∙ c.requires.ready.payload)

pub settle_log-requires-clause-active : goal.settle_log-requires-clause-active
settle_log-requires-clause-active g c =
    let s = c.args.tables.now.state in
    subst (λ infos. active_zones (drop 3 (infos_sealed infos c.args.finish)) < c.geometry-geometry.result.active_limit) c.requires.told
    (subst (λ n. active_zones (drop 3 (infos_sealed (infos_in s) c.args.finish)) < n) (sym (ap (λ h. h.active_limit) c.geometry-geometry.ensures.value)) (token_free c.args.finish s c.requires.finish))

pub returns-in-Ok-clause-stands : goal.returns-in-Ok-clause-stands
returns-in-Ok-clause-stands g c = λ told next becomes.
    let D = g.D.ZonedDevice in
    let m = g.met.D.ZonedDevice in
    let dev = c.args.dev.now in
    let s = c.args.tables.now.state in
    let p = c.items-snapshot.result.now in
    let j = D.image c.settle_log.new.dev in
    let valid = valid_image (D.geometry dev) (D.infos dev) (D.image dev) (m.possible dev c.requires.is_known) (m.told dev told c.requires.is_known) in
    let settled = settles (D.image dev) s p valid (c.requires.mounted told) c.valid.ensures.sound c.requires.may (c.items-snapshot.ensures ∙ c.requires.ready.payload) in
    new_log_stands (D.image dev) j s next p c.valid.ensures.sound settled
    (subst (λ l. RestsSettled l p (D.image dev) j) c.log.ensures (c.in-Ok.ensures.at_rest told))
    (subst (λ l. selected_log j ≡ Ok (next_chosen l)) c.log.ensures (c.in-Ok.ensures.selects told)) becomes

pub returns-in-Ok-clause-alike : goal.returns-in-Ok-clause-alike
returns-in-Ok-clause-alike g c = λ told t mounts.
    let D = g.D.ZonedDevice in
    let m = g.met.D.ZonedDevice in
    let dev = c.args.dev.now in
    let s = c.args.tables.now.state in
    let p = c.items-snapshot.result.now in
    let valid = valid_image (D.geometry dev) (D.infos dev) (D.image dev) (m.possible dev c.requires.is_known) (m.told dev told c.requires.is_known) in
    let settled = settles (D.image dev) s p valid (c.requires.mounted told) c.valid.ensures.sound c.requires.may (c.items-snapshot.ensures ∙ c.requires.ready.payload) in
    c.in-Ok.ensures.alike told (recorded s) settled t mounts

pub returns-in-Ok-clause-device : goal.returns-in-Ok-clause-device
returns-in-Ok-clause-device g c =
    let D = g.D.ZonedDevice in
    let m = g.met.D.ZonedDevice in
    let dev = c.args.dev.now in
    let s = c.args.tables.now.state in
    let p = c.items-snapshot.result.now in
    done_as m.moments _ (LeftByBeginning (D.image dev)) c.in-Ok.ensures.device (λ failed. cc) (λ failed. cc)
    (λ j told left.
    let valid = valid_image (D.geometry dev) (D.infos dev) (D.image dev) (m.possible dev c.requires.is_known) (m.told dev told c.requires.is_known) in
    left_by_beginning (D.image dev) j s p
    (settles (D.image dev) s p valid (c.requires.mounted told) c.valid.ensures.sound c.requires.may (c.items-snapshot.ensures ∙ c.requires.ready.payload)) left)

pub returns-in-Err-clause-device : goal.returns-in-Err-clause-device
returns-in-Err-clause-device g c =
    let D = g.D.ZonedDevice in
    let m = g.met.D.ZonedDevice in
    let dev = c.args.dev.now in
    let s = c.args.tables.now.state in
    let p = c.items-snapshot.result.now in
    let allowed : roll_refusal c.geometry-geometry.result c.log.result.now (length p) ≡ Ok tt =
    subst (λ h. roll_refusal h c.log.result.now (length p) ≡ Ok tt) (sym c.geometry-geometry.ensures.value)
    (subst (λ l. roll_refusal s.geometry l (length p) ≡ Ok tt) (sym c.log.ensures)
    (subst (λ bytes. roll_refusal s.geometry s.log (length bytes) ≡ Ok tt) (sym (c.items-snapshot.ensures ∙ c.requires.ready.payload)) (not_refused s c.valid.ensures.sound c.requires.may))) in
    let why = only_fault (Err c.in-Err.field-0) (subst (λ r. RefusesAs r (Err c.in-Err.field-0)) allowed c.in-Err.ensures.refused) c.in-Err.ensures.no_memory in
    done_as m.moments _ (LeftByBeginning (D.image dev)) c.in-Err.ensures.device (λ failed. refl) (λ failed. ap (λ e. Err e) why)
    (λ j told left.
    let valid = valid_image (D.geometry dev) (D.infos dev) (D.image dev) (m.possible dev c.requires.is_known) (m.told dev told c.requires.is_known) in
    left_by_beginning (D.image dev) j s p
    (settles (D.image dev) s p valid (c.requires.mounted told) c.valid.ensures.sound c.requires.may (c.items-snapshot.ensures ∙ c.requires.ready.payload)) left)
