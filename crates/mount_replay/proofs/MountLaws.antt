-- What the image of a device mounts to, by its log's table.
use Rattle.std.proofs.Common.{◌≡◌, ℕ, ◌+◌, Bool, List, [], ◌∷◌, drop, map, Option, Some, None, option_map, Ok, Err, refl, sym, ◌∙◌, ap}
use Rattle.std.specs.List.{enumerate_from}
use Rattle.zone_image.specs.declared.Geometry.{Geometry}
use Rattle.zone_image.specs.declared.ZoneInfo.{ZoneInfo}
use Rattle.zone_image.specs.Image.{Image}
use Rattle.zone_image.specs.Infos.{IsImage}
use Rattle.record_model.specs.FieldDecoding.{◌>>=◌}
use Rattle.log_model.specs.declared.selection.Chosen.{Chosen}
use Rattle.log_model.specs.declared.selection.Damage.{Damage}
use Rattle.log_model.specs.declared.selection.Refusal.TheVariants as refusal
use Rattle.log_model.specs.AppendLaws.{scan_at, IsSelectedOn}
use Rattle.log_model.specs.FileTable.{Table, replay_log}
use Rattle.log_model.specs.LogSelection.{LogAt, chosen_of, select_log, scans_of}
use Rattle.log_model.specs.Mounted.{last_block, in_zone, checked_table, recovered_entry, broken_rule, table_of, table_in}
use Rattle.log_model.proofs.AppendLaws.{own_zone}
use Rattle.log_model.proofs.MountedLogLaws.{selected_table_mounts}
use Rattle.log_model.proofs.SelectedLog.{went_on, ok_is}
use Rattle.log_model.proofs.SelectionLaws.{some_is}
use Rattle.fs_model.specs.FsState.{greatest_id}
use Rattle.extent_map.specs.Applying.{rows_of}
use Rattle.extent_map.specs.Records.{recorded_of}
use Rattle.extent_map.specs.TableState.{TableState}
use Rattle.zone_alloc.specs.ZoneTableState.{ZoneTableState}
use Rattle.mount_replay.specs.declared.error.ReplayError.{ReplayError}
use Rattle.mount_replay.specs.declared.error.ReplayError.TheVariants.{Damaged, DevFault, NoMemory}
use Rattle.mount_replay.specs.Filling.{filled_zone, filled_zones}
use Rattle.mount_replay.specs.Folding.{IsDamagedAs}
use Rattle.mount_replay.specs.Payloads.{IsNoDamage}
use Rattle.mount_replay.specs.Recovering.{damage_by, IsBrokenAs}
use Rattle.mount_replay.specs.Replaying.{IsSelectedZone, HasTables, IsRefusedAs}
use Rattle.mount_replay.proofs.FillingLaws.{states_are_filled}
use Rattle.mount_replay.proofs.TableStates.{recorded_rows}

-- the selected log of a zone, with its payloads
record LogOf (i : Image) (zone : ℕ) : Type 0 where
  log : LogAt
  greatest : ℕ
  selected : IsSelectedOn i log greatest
  here : log.zone ≡ zone
  payloads : log.scan.payloads ≡ (scan_at i zone).payloads

log_of : (i : Image) (zone : ℕ) → IsSelectedZone i zone → LogOf i zone
log_of i zone s =
    let a = went_on (select_log i.geometry (scans_of i)) (λ l. Ok (chosen_of l)) s.chosen s.selected in
    let it : a.0.0.zone ≡ zone = ap (λ (c : Chosen). c.zone) (ok_is a.2) ∙ s.here in
    record {
      log = a.0.0;
      greatest = a.0.1;
      selected = a.1;
      here = it;
      payloads = ap (λ c. c.payloads) (own_zone i a.0.0 a.0.1 a.1 ∙ ap (scan_at i) it);
    }

-- the table of the image is that of its log
table_by_log : (i : Image) (zone : ℕ) (l : LogOf i zone) → table_in i ≡ table_of i l.log
unfolding table_in
table_by_log i zone l = ap (λ r. r >>= (λ s. table_of i s.0)) l.selected

-- a log that doesn't replay
pub refused_by_log : (i : Image) (zone : ℕ) (e : ReplayError) → IsSelectedZone i zone → IsDamagedAs zone (replay_log (drop 1 (scan_at i zone).payloads)) e → IsRefusedAs i e
unfolding table_of
refused_by_log i zone (Damaged d) s is =
    let l = log_of i zone s in
    let replayed : replay_log (drop 1 l.log.scan.payloads) ≡ Err (d.block, d.why) = ap (λ ps. replay_log (drop 1 ps)) l.payloads ∙ is.0 in
    let damage : ℕ → Damage = λ z. record { zone = z; block = d.block; why = d.why } in
    table_by_log i zone l
    ∙ ap (λ r. in_zone l.log.zone r >>= (λ es. checked_table i l.log es (broken_rule i es))) replayed
    ∙ ap (λ z. Err (refusal.Damaged (damage z))) (l.here ∙ sym is.1)
refused_by_log i zone DevFault s is = tt
refused_by_log i zone NoMemory s is = tt

-- a table that breaks a rule
broken_table : (i : Image) (log : LogAt) (es : Table) (o : Option ℕ) (zone block : ℕ) (d : Damage) → log.zone ≡ zone → last_block log.scan.payloads ≡ block → option_map (damage_by zone block) o ≡ Some d
    → checked_table i log es o ≡ Err (refusal.Damaged d)
broken_table i log es None zone block d here last is = cc
broken_table i log es (Some rule) zone block d here last is =
    ap (λ z. Err (refusal.Damaged (damage_by z (last_block log.scan.payloads) rule))) here
    ∙ ap (λ b. Err (refusal.Damaged (damage_by zone b rule))) last
    ∙ ap (λ x. Err (refusal.Damaged x)) (some_is is)

pub refused_by_rule : (i : Image) (zone block : ℕ) (es : Table) (e : ReplayError) → IsSelectedZone i zone → replay_log (drop 1 (scan_at i zone).payloads) ≡ Ok es → block ≡ last_block (scan_at i zone).payloads
    → IsBrokenAs zone block (broken_rule i es) e → IsRefusedAs i e
unfolding table_of
refused_by_rule i zone block es (Damaged d) s replays last is =
    let l = log_of i zone s in
    let replayed : replay_log (drop 1 l.log.scan.payloads) ≡ Ok es = ap (λ ps. replay_log (drop 1 ps)) l.payloads ∙ replays in
    table_by_log i zone l
    ∙ ap (λ r. in_zone l.log.zone r >>= (λ t. checked_table i l.log t (broken_rule i t))) replayed
    ∙ broken_table i l.log es (broken_rule i es) zone block d l.here (ap last_block l.payloads ∙ sym last) is
refused_by_rule i zone block es DevFault s replays last is = tt
refused_by_rule i zone block es NoMemory s replays last is = tt

-- a table that breaks none
pub mounted_table : (i : Image) (zone : ℕ) (es : Table) → IsSelectedZone i zone → replay_log (drop 1 (scan_at i zone).payloads) ≡ Ok es → broken_rule i es ≡ None → table_in i ≡ Ok (map (recovered_entry i) es)
mounted_table i zone es s replays keeps =
    let l = log_of i zone s in
    (selected_table_mounts i l.log l.greatest es (record { selected = l.selected; table = ap (λ ps. replay_log (drop 1 ps)) l.payloads ∙ replays }) keeps).table

-- the tables of the image
pub has_tables : (i : Image) (g : Geometry) (infos : List ZoneInfo) (collect : Bool) (all : Table) (files : TableState) (zones : ZoneTableState) → IsImage g infos i → table_in i ≡ Ok all
    → files.rows ≡ rows_of all → files.greatest ≡ greatest_id (recorded_of files.rows)
    → zones ≡ record { geometry = g; collect = collect; zones = filled_zones g all infos } → HasTables i collect files zones
has_tables i g infos collect all files zones image mounts rows greatest filled = record {
  table = all;
  mounts = mounts;
  rows = λ log. rows;
  greatest = λ log. greatest ∙ ap (λ rs. greatest_id (recorded_of rs)) rows ∙ ap greatest_id (recorded_rows all);
  same_geometry = ap (λ (t : ZoneTableState). t.geometry) filled ∙ sym image.shape;
  same_collect = ap (λ (t : ZoneTableState). t.collect) filled;
  states = λ log.
      ap (λ (t : ZoneTableState). t.zones) filled
      ∙ ap (λ (h : Geometry). filled_zones h all infos) (sym image.shape)
      ∙ ap (λ (l : List ZoneInfo). filled_zones i.geometry all l) (sym image.told)
      ∙ sym (states_are_filled i all log);
}

-- what the device tells of the zones
pub infos_of_filled : (g : Geometry) (es : Table) (a : ℕ) (infos : List ZoneInfo) → map (λ s. s.info) (map (filled_zone g es) (enumerate_from a infos)) ≡ infos
infos_of_filled g es a [] = refl
infos_of_filled g es a (info ∷ infos) = ap (λ (l : List ZoneInfo). info ∷ l) (infos_of_filled g es (a + 1) infos)

-- neither a fault of the device nor want of memory is damage
pub undamaged_refused : (i : Image) (e : ReplayError) → IsNoDamage e → IsRefusedAs i e
undamaged_refused i (Damaged d) none = absurd none
undamaged_refused i DevFault none = tt
undamaged_refused i NoMemory none = tt
