use Rattle.std.proofs.Common.{◌≡◌, ℕ, ◌^◌, ◌<◌, length, map, Option, None, Ok, sym, ◌∙◌, ap, subst}
use Rattle.std.specs.List.{All}
use Rattle.std.proofs.lemmas.List.{with_items_is}
use Rattle.zone_image.proofs.ReadLaws.{reads_on}
use Rattle.zone_image.specs.Image.{Image}
use Rattle.log_model.specs.FileTable.{Table, size_of}
use Rattle.log_model.specs.Mounted.{all_extents, broken_rule, recovered_entry}
use Rattle.mount_replay.specs.Rules.{IsWrittenExtent}
use Rattle.mount_replay.specs.SoundTables.{IsSoundTable}
use Rattle.extent_map.specs.Records.{recorded_of}
use Rattle.mount_replay.specs.Recovering.{IsBrokenAs}
use Rattle.mount_replay.proofs.MountLaws.{mounted_table, refused_by_log, refused_by_rule}
use Rattle.mount_replay.proofs.mounted_files.mounted_files.Goals as goal

pub returns-in-Err-clause-damaged : goal.returns-in-Err-clause-damaged
returns-in-Err-clause-damaged g c = λ told.
    refused_by_log (g.D.ZonedDevice.image c.args.dev.now) c.args.log.zone c.in-Err.e (c.requires.selected told) (c.in-Err.ensures.damaged told)

pub returns-clause-damaged : goal.returns-clause-damaged
returns-clause-damaged g c = λ told.
    let D = g.D.ZonedDevice in
    let i = D.image c.args.dev.now in
    let j = D.image c.log_table.new.dev in
    let es : Table = recorded_of c.in-Ok.made.table.rows in
    let same = c.in-Ok.ensures.device.same_image told in
    let old : c.deref_mut.result.now ≡ es = c.deref_mut.ensures.value ∙ c.in_ok-files.ensures in
    refused_by_rule i c.args.log.zone c.in-Ok.made.last es c.in-Err-found_files.e (c.requires.selected told) (c.in-Ok.ensures.table told) (c.in-Ok.ensures.last told)
    (subst (λ (o : Option ℕ). IsBrokenAs c.args.log.zone c.in-Ok.made.last o c.in-Err-found_files.e) (ap (broken_rule j) old ∙ ap (λ (k : Image). broken_rule k es) same) (c.in-Err-found_files.ensures.damaged told))

pub found_files-requires-clause-sound : goal.found_files-requires-clause-sound
found_files-requires-clause-sound g c = subst IsSoundTable (sym (c.deref_mut.ensures.value ∙ c.in_ok-files.ensures)) c.in-Ok.ensures.sound

pub returns-in-Ok-found_files-clause-mounted : goal.returns-in-Ok-found_files-clause-mounted
returns-in-Ok-found_files-clause-mounted g c = λ told.
    let D = g.D.ZonedDevice in
    let i = D.image c.args.dev.now in
    let j = D.image c.log_table.new.dev in
    let es : Table = recorded_of c.in-Ok.made.table.rows in
    let ws = c.found_files.new.files in
    let same = c.in-Ok.ensures.device.same_image told in
    let old : c.deref_mut.result.now ≡ es = c.deref_mut.ensures.value ∙ c.in_ok-files.ensures in
    let long : length ws ≡ c.in_ok-files.files.len = c.found_files.auto.files ∙ c.deref_mut.ensures.len in
    let keeps : broken_rule i es ≡ None = sym (ap (broken_rule j) old ∙ ap (λ (k : Image). broken_rule k es) same) ∙ c.in-Ok-found_files.ensures.keeps told in
    let found : ws ≡ map (recovered_entry i) es =
    c.in-Ok-found_files.ensures.found told ∙ ap (λ (k : Image). map (recovered_entry k) c.deref_mut.result.now) same ∙ ap (map (recovered_entry i)) old in
    mounted_table i c.args.log.zone es (c.requires.selected told) (c.in-Ok.ensures.table told) keeps ∙ ap Ok (sym (with_items_is c.in_ok-files.files ws long ∙ found))

pub returns-in-Ok-found_files-clause-sound : goal.returns-in-Ok-found_files-clause-sound
returns-in-Ok-found_files-clause-sound g c =
    let ws = c.found_files.new.files in
    let long : length ws ≡ c.in_ok-files.files.len = c.found_files.auto.files ∙ c.deref_mut.ensures.len in
    subst IsSoundTable (sym (with_items_is c.in_ok-files.files ws long)) c.in-Ok-found_files.ensures.sound

pub returns-in-Ok-found_files-clause-lie : goal.returns-in-Ok-found_files-clause-lie
returns-in-Ok-found_files-clause-lie g c =
    let ws = c.found_files.new.files in
    let long : length ws ≡ c.in_ok-files.files.len = c.found_files.auto.files ∙ c.deref_mut.ensures.len in
    subst (λ (es : Table). All (IsWrittenExtent c.args.geometry.now c.args.infos.now) (all_extents es)) (sym (with_items_is c.in_ok-files.files ws long)) c.in-Ok-found_files.ensures.lie

pub returns-in-Ok-found_files-clause-fits : goal.returns-in-Ok-found_files-clause-fits
returns-in-Ok-found_files-clause-fits g c =
    let ws = c.found_files.new.files in
    let long : length ws ≡ c.in_ok-files.files.len = c.found_files.auto.files ∙ c.deref_mut.ensures.len in
    subst (λ (es : Table). size_of (all_extents es) < 2 ^ 64) (sym (with_items_is c.in_ok-files.files ws long)) c.in-Ok-found_files.ensures.fits

pub returns-in-Ok-found_files-clause-device : goal.returns-in-Ok-found_files-clause-device
returns-in-Ok-found_files-clause-device g c = reads_on g.met.D.ZonedDevice.moments c.in-Ok.ensures.device c.in-Ok-found_files.ensures.device

pub returns-clause-device : goal.returns-clause-device
returns-clause-device g c = reads_on g.met.D.ZonedDevice.moments c.in-Ok.ensures.device c.in-Err-found_files.ensures.device
