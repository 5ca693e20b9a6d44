-- The tables that are replayed are those of a mounted file system.
use Rattle.std.proofs.Common.{◌≡◌, ℕ, ◌+◌, ◌%◌, ◌^◌, ◌<◌, ◌≤◌, Bool, List, [], ◌∷◌, length, map, Ok, refl, sym, ◌∙◌, ap, subst}
use Rattle.std.specs.Prelude.{◌==◌}
use Rattle.std.specs.List.{All, AllByRecursion, enumerate_from}
use Rattle.std.proofs.lemmas.List.{length-map}
use Rattle.std.proofs.lemmas.List.Elements.{All-nil, All-cons, All-weaker}
use Rattle.zone_image.specs.declared.Geometry.{Geometry}
use Rattle.zone_image.specs.declared.ZoneInfo.{ZoneInfo}
use Rattle.zone_image.specs.Image.{Image}
use Rattle.zone_image.specs.Infos.{IsPossible}
use Rattle.record_model.specs.Grammar.{IsWritable}
use Rattle.log_model.specs.declared.selection.Chosen.{Chosen}
use Rattle.log_model.specs.FileTable.{Table}
use Rattle.log_model.specs.LogSelection.{selected_log}
use Rattle.log_model.specs.Mounted.{all_extents}
use Rattle.fs_model.specs.declared.zones.Owner.TheVariants.{Idle}
use Rattle.fs_model.specs.declared.zones.ZoneState.{ZoneState}
use Rattle.fs_model.specs.FsState.{ZoneDescriptor, state_in, zone_states}
use Rattle.zone_alloc.specs.Descriptors.{descriptor_of, state_of_tables}
use Rattle.zone_alloc.specs.ZoneTableState.{ZoneTableState, IsInDataZone}
use Rattle.extent_map.specs.Applying.{rows_of}
use Rattle.extent_map.specs.Records.{recorded_of, snapshot_len}
use Rattle.extent_map.specs.TableState.{TableState}
use Rattle.mount_replay.specs.Filling.{filled_zone, filled_zones}
use Rattle.mount_replay.specs.Replaying.{HasTables}
use Rattle.mount_replay.specs.Rules.{IsWrittenExtent}
use Rattle.mount_replay.proofs.TableStates.{filled_are_states, told_tables_state}
use Rattle.mount_replay.proofs.WrittenLaws.{in_data_zone}
use Rattle.fs_tables.specs.MountedTables.{AreMounted, state_from}
use Rattle.fs_core.proofs.Reasons.{table_and_log}

-- the numbers and seals of zones without their live counts
pub infos_of_descriptors : (zs : List ZoneState) → map (λ z. z.info) (map descriptor_of zs) ≡ map (λ z. z.info) zs
infos_of_descriptors [] = refl
infos_of_descriptors (z ∷ zs) = ap (λ (l : List ZoneInfo). z.info ∷ l) (infos_of_descriptors zs)

-- nobody holds a zone
idle_from : (g : Geometry) (es : Table) (a : ℕ) (infos : List ZoneInfo) → All (λ (z : ZoneDescriptor). z.owner ≡ Idle) (map descriptor_of (map (filled_zone g es) (enumerate_from a infos)))
idle_from g es a [] = All-nil (λ (z : ZoneDescriptor). z.owner ≡ Idle)
idle_from g es a (info ∷ infos) =
    All-cons (λ (z : ZoneDescriptor). z.owner ≡ Idle) (descriptor_of (filled_zone g es (a, info))) (map descriptor_of (map (filled_zone g es) (enumerate_from (a + 1) infos))) refl (idle_from g es (a + 1) infos)

-- what is known of tables that were replayed
pub record AreReplayed (g : Geometry) (infos : List ZoneInfo) (log : Chosen) (files : TableState) (zones : ZoneTableState) : Type 0 where
  pub settled : files.rows ≡ rows_of (recorded_of files.rows)
  pub shape : zones.geometry ≡ g
  pub collect : zones.collect ≡ (log.superblock.flags % 2 == 1)
  pub told : map (λ z. z.info) zones.zones ≡ infos
  pub states : zones.zones ≡ filled_zones g (recorded_of files.rows) infos
  pub written : All (IsWrittenExtent g infos) (all_extents (recorded_of files.rows))
  pub writable : AllByRecursion IsWritable (recorded_of files.rows)
  pub short : snapshot_len files.rows < 2 ^ 62
  pub metadata : log.zone < 3
  pub flags : log.superblock.flags ≤ 1

pub are_mounted : (g : Geometry) (infos : List ZoneInfo) (log : Chosen) (files : TableState) (zones : ZoneTableState) → IsPossible g infos → AreReplayed g infos log files zones → AreMounted g log files zones
are_mounted g infos log files zones possible r =
    let es : Table = recorded_of files.rows in
    record {
      sound = record {
        valid = possible.valid;
        count = length-map zones.zones descriptor_of ∙ sym (length-map zones.zones (λ (z : ZoneState). z.info)) ∙ ap length r.told ∙ possible.count;
        settled = r.settled;
        writable = r.writable;
        lie = All-weaker (IsWrittenExtent g infos) (IsInDataZone g) (λ x is. in_data_zone g infos x possible is) (all_extents es) r.written;
        idle = subst (λ (zs : List ZoneState). All (λ (z : ZoneDescriptor). z.owner ≡ Idle) (map descriptor_of zs)) (sym r.states) (idle_from g es 0 infos);
        log_zone = r.metadata;
        flags = r.flags;
        short = r.short;
      };
      counted =
          r.states ∙ filled_are_states g infos files.rows files.greatest log r.settled
          ∙ ap (λ (zs : List ZoneState). zone_states (state_of_tables g zs files.rows files.greatest log)) (sym r.states);
      same_geometry = r.shape;
      same_collect = r.collect;
    }

-- and of those of an image that is told
pub told_state : (i : Image) (g : Geometry) (collect : Bool) (log : Chosen) (files : TableState) (zones : ZoneTableState) → HasTables i collect files zones → zones.geometry ≡ g → selected_log i ≡ Ok log
    → state_in i ≡ Ok (state_from g log files zones)
told_state i g collect log files zones h shape selected =
    table_and_log i h.table log h.mounts selected
    ∙ ap Ok (sym (told_tables_state i collect files zones log h) ∙ ap (λ (s : Geometry). state_of_tables s zones.zones files.rows files.greatest log) shape)
