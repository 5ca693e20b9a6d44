use Rattle.std.proofs.Common.{◌≡◌, ◌^◌, ◌<◌, Bool, List, map, Ok, sym, ◌∙◌, ap, subst}
use Rattle.std.specs.List.{All, AllByRecursion}
use Rattle.std.proofs.lemmas.List.Elements.{All-weaker}
use Rattle.zone_image.proofs.ReadLaws.{reads_on}
use Rattle.zone_image.specs.declared.Geometry.{Geometry}
use Rattle.zone_image.specs.declared.ZoneInfo.{ZoneInfo}
use Rattle.zone_image.specs.Image.{Image}
use Rattle.zone_image.specs.Infos.{IsImage, IsPossible}
use Rattle.zone_alloc.specs.ZoneTableState.{ZoneTableState, IsInDataZone}
use Rattle.record_model.specs.Grammar.{IsWritable}
use Rattle.log_model.specs.FileTable.{Table, size_of}
use Rattle.log_model.specs.Mounted.{all_extents, table_in}
use Rattle.extent_map.specs.Records.{recorded_of}
use Rattle.mount_replay.specs.Filling.{filled_zones}
use Rattle.mount_replay.specs.Replaying.{IsSelectedZone, IsRefusedAs}
use Rattle.mount_replay.specs.Rules.{IsWrittenExtent}
use Rattle.mount_replay.proofs.WrittenLaws.{possible_as, in_data_zone}
use Rattle.mount_replay.proofs.MountLaws.{has_tables, infos_of_filled, undamaged_refused}
use Rattle.mount_replay.proofs.mount.replay.Goals as goal

-- the zones that the files of a table fill
abbrev filled_as : Geometry → Bool → Table → List ZoneInfo → ZoneTableState
filled_as g collect es infos = record { geometry = g; collect = collect; zones = filled_zones g es infos }

pub returns-in-Err-clause-damaged : goal.returns-in-Err-clause-damaged
returns-in-Err-clause-damaged g c = λ told. undamaged_refused (g.D.ZonedDevice.image c.args.dev.now) c.in-Err.e c.in-Err.ensures.only

pub mounted_files-requires-clause-selected : goal.mounted_files-requires-clause-selected
mounted_files-requires-clause-selected g c = λ told.
    subst (λ (i : Image). IsSelectedZone i c.args.zone) (sym (c.in-Ok.ensures.device.same_image told)) (c.requires.selected told)

pub returns-in-Err-mounted_files-clause-damaged : goal.returns-in-Err-mounted_files-clause-damaged
returns-in-Err-mounted_files-clause-damaged g c = λ told.
    subst (λ (i : Image). IsRefusedAs i c.in-Err-mounted_files.e) (c.in-Ok.ensures.device.same_image told) (c.in-Err-mounted_files.ensures.damaged told)

pub returns-in-Err-mounted_files-clause-device : goal.returns-in-Err-mounted_files-clause-device
returns-in-Err-mounted_files-clause-device g c = reads_on g.met.D.ZonedDevice.moments c.in-Ok.ensures.device c.in-Err-mounted_files.ensures.device

pub filled_table-requires-clause-possible : goal.filled_table-requires-clause-possible
filled_table-requires-clause-possible g c =
    let D = g.D.ZonedDevice in
    let dev = c.args.dev.now in
    subst (λ (s : Geometry). IsPossible s c.in-Ok.infos.items) (sym c.requires.same_geometry) (subst (λ (l : List ZoneInfo). IsPossible (D.geometry dev) l) (sym c.in-Ok.ensures.infos) (g.met.D.ZonedDevice.possible dev c.requires.is_known))

pub filled_table-requires-clause-lie : goal.filled_table-requires-clause-lie
filled_table-requires-clause-lie g c =
    let D = g.D.ZonedDevice in
    let dev = c.args.dev.now in
    let shape = c.args.geometry.now in
    let infos = c.in-Ok.infos.items in
    let possible = possible_as shape (D.geometry dev) infos (D.infos dev) c.requires.same_geometry c.in-Ok.ensures.infos (g.met.D.ZonedDevice.possible dev c.requires.is_known) in
    subst (λ (es : Table). All (IsInDataZone shape) (all_extents es)) (sym c.deref-3.ensures.value)
    (All-weaker (IsWrittenExtent shape infos) (IsInDataZone shape) (λ x is. in_data_zone shape infos x possible is) (all_extents c.in-Ok-mounted_files.files.items)
    (subst (λ (l : List ZoneInfo). All (IsWrittenExtent shape l) (all_extents c.in-Ok-mounted_files.files.items)) c.deref-2.ensures.value c.in-Ok-mounted_files.ensures.lie))

pub returns-in_err-zones-clause-device : goal.returns-in_err-zones-clause-device
returns-in_err-zones-clause-device g c = reads_on g.met.D.ZonedDevice.moments c.in-Ok.ensures.device c.in-Ok-mounted_files.ensures.device

pub returns-in_err-files-clause-device : goal.returns-in_err-files-clause-device
returns-in_err-files-clause-device g c = reads_on g.met.D.ZonedDevice.moments c.in-Ok.ensures.device c.in-Ok-mounted_files.ensures.device

pub returns-clause-device : goal.returns-clause-device
returns-clause-device g c = reads_on g.met.D.ZonedDevice.moments c.in-Ok.ensures.device c.in-Ok-mounted_files.ensures.device

pub returns-clause-tables : goal.returns-clause-tables
returns-clause-tables g c = λ told.
    let D = g.D.ZonedDevice in
    let dev = c.args.dev.now in
    let i = D.image dev in
    let shape = c.args.geometry.now in
    let infos = c.in-Ok.infos.items in
    let all = c.in-Ok-mounted_files.files.items in
    let image : IsImage shape infos i = subst (λ (s : Geometry). IsImage s infos i) (sym c.requires.same_geometry) (subst (λ (l : List ZoneInfo). IsImage (D.geometry dev) l i) (sym c.in-Ok.ensures.infos) (g.met.D.ZonedDevice.told dev told c.requires.is_known)) in
    let mounted : table_in i ≡ Ok all = subst (λ (k : Image). table_in k ≡ Ok all) (c.in-Ok.ensures.device.same_image told) (c.in-Ok-mounted_files.ensures.mounted told) in
    has_tables i shape infos c.args.collect all c.in_ok-files.files c.in_ok-zones.zones image mounted c.in_ok-files.ensures.rows c.in_ok-files.ensures.greatest
    (c.in_ok-zones.ensures ∙ ap (λ (es : Table). filled_as shape c.args.collect es infos) c.deref-3.ensures.value)

pub returns-clause-infos : goal.returns-clause-infos
returns-clause-infos g c =
    ap (λ (t : ZoneTableState). map (λ z. z.info) t.zones) c.in_ok-zones.ensures ∙ infos_of_filled c.args.geometry.now c.deref-3.result.now 0 c.in-Ok.infos.items ∙ c.in-Ok.ensures.infos

pub returns-clause-states : goal.returns-clause-states
returns-clause-states g c =
    let shape = c.args.geometry.now in
    let infos = c.in-Ok.infos.items in
    ap (λ (t : ZoneTableState). t.zones) c.in_ok-zones.ensures
    ∙ ap (λ (es : Table). filled_zones shape es infos) (c.deref-3.ensures.value ∙ sym c.in_ok-files.ensures.recorded)
    ∙ ap (λ (l : List ZoneInfo). filled_zones shape (recorded_of c.in_ok-files.files.rows) l) c.in-Ok.ensures.infos

pub returns-clause-written : goal.returns-clause-written
returns-clause-written g c =
    subst (λ (es : Table). All (IsWrittenExtent c.args.geometry.now (g.D.ZonedDevice.infos c.args.dev.now)) (all_extents es)) (sym c.in_ok-files.ensures.recorded)
    (subst (λ (l : List ZoneInfo). All (IsWrittenExtent c.args.geometry.now l) (all_extents c.in-Ok-mounted_files.files.items)) (c.deref-2.ensures.value ∙ c.in-Ok.ensures.infos)
    c.in-Ok-mounted_files.ensures.lie)

pub returns-clause-writable : goal.returns-clause-writable
returns-clause-writable g c = subst (AllByRecursion IsWritable) (sym c.in_ok-files.ensures.recorded) c.in-Ok-mounted_files.ensures.sound.writable

pub returns-clause-fits : goal.returns-clause-fits
returns-clause-fits g c = subst (λ (es : Table). size_of (all_extents es) < 2 ^ 64) (sym c.in_ok-files.ensures.recorded) c.in-Ok-mounted_files.ensures.fits
