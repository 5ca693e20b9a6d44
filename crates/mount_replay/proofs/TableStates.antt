-- The zones that the extents of files fill are those of the state that these tables make.
use Rattle.std.proofs.Common.{◌≡◌, ℕ, ◌+◌, ◌^◌, Bool, List, [], ◌∷◌, map, sum_by, refl, sym, ◌∙◌, ap, add-zero, append-nil}
use Rattle.std.specs.List.{enumerate_from}
use Rattle.zone_image.specs.declared.Geometry.{Geometry}
use Rattle.zone_image.specs.declared.ZoneInfo.{ZoneInfo}
use Rattle.zone_image.specs.Image.{Image}
use Rattle.record_model.specs.declared.types.Extent.{Extent}
use Rattle.record_model.specs.declared.types.FileEntry.{FileEntry}
use Rattle.log_model.specs.declared.selection.Chosen.{Chosen}
use Rattle.log_model.specs.FileTable.{Table, size_of}
use Rattle.fs_model.specs.declared.zones.Owner.TheVariants.{Idle}
use Rattle.fs_model.specs.declared.zones.ZoneState.{ZoneState}
use Rattle.fs_model.specs.FsState.{FsState, TableRow, ZoneDescriptor, mounted_row, working_entry, working_of, touched, hint_from, state_of, state_with, zone_states}
use Rattle.extent_map.specs.Applying.{rows_of}
use Rattle.extent_map.specs.Records.{recorded_of}
use Rattle.extent_map.specs.TableState.{TableState}
use Rattle.mount_replay.specs.Filling.{extents_within, filled_zone, filled_zones}
use Rattle.zone_alloc.specs.Descriptors.{descriptor_of, state_of_tables}
use Rattle.zone_alloc.specs.ZoneTableState.{ZoneTableState}
use Rattle.mount_replay.specs.Replaying.{HasTables}
use Rattle.mount_replay.proofs.FillingLaws.{working_extents}

-- the entries of rows in which everything is recorded
pub recorded_rows : (es : Table) → recorded_of (rows_of es) ≡ es
recorded_rows [] = refl
recorded_rows (e ∷ es) = ap (λ (fs : Table). e ∷ fs) (recorded_rows es)

-- and with all their extents
pub working_rows : (es : Table) → working_of (rows_of es) ≡ es
working_rows [] = refl
working_rows (e ∷ es) = ap (λ (f : FileEntry). f ∷ working_of (rows_of es)) (working_recorded e) ∙ ap (λ (fs : Table). e ∷ fs) (working_rows es)
  where
    working_recorded : (e : FileEntry) → working_entry (mounted_row e) ≡ e
    working_recorded e =
        ap (λ (xs : List Extent). record e { extents = xs; size = e.size + 0 }) (append-nil e.extents) ∙ ap (λ (n : ℕ). record e { size = n }) (add-zero e.size)

module _ (g : Geometry) (es : Table) (zones : List ZoneState) (greatest : ℕ) (log : Chosen) where
  -- a zone
  filled_is_state : (a : ℕ) (info : ZoneInfo) → filled_zone g es (a, info) ≡ state_of (state_of_tables g zones (rows_of es) greatest log) (a, descriptor_of (filled_zone g es (a, info)))
  filled_is_state a info =
      ap (λ (xs : List Extent). record { info = info; owner = Idle; hint = hint_from g a (2 ^ 64) 0 es; live = sum_by (touched g.block) (extents_within g a xs); live_bytes = size_of (extents_within g a xs) })
      (sym (working_extents es))

  -- zones from a number on
  filled_from : (a : ℕ) (infos : List ZoneInfo) → map (filled_zone g es) (enumerate_from a infos)
      ≡ map (state_of (state_of_tables g zones (rows_of es) greatest log)) (enumerate_from a (map descriptor_of (map (filled_zone g es) (enumerate_from a infos))))
  filled_from a [] = refl
  filled_from a (info ∷ infos) =
      ap (λ (s : ZoneState). s ∷ map (filled_zone g es) (enumerate_from (a + 1) infos)) (filled_is_state a info)
      ∙ ap (λ (ss : List ZoneState). state_of (state_of_tables g zones (rows_of es) greatest log) (a, descriptor_of (filled_zone g es (a, info))) ∷ ss) (filled_from (a + 1) infos)

-- all zones, of files of which everything is recorded and shown
pub filled_are_states : (g : Geometry) (infos : List ZoneInfo) (rows : List TableRow) (greatest : ℕ) (log : Chosen) → rows ≡ rows_of (recorded_of rows)
    → filled_zones g (recorded_of rows) infos ≡ zone_states (state_of_tables g (filled_zones g (recorded_of rows) infos) rows greatest log)
filled_are_states g infos rows greatest log settled =
    filled_from g (recorded_of rows) (filled_zones g (recorded_of rows) infos) greatest log 0 infos
    ∙ ap (λ (rs : List TableRow). zone_states (state_of_tables g (filled_zones g (recorded_of rows) infos) rs greatest log)) (sym settled)

-- a state's zones without their live counts
descriptors_from : (s : FsState) (a : ℕ) (zs : List ZoneDescriptor) → map descriptor_of (map (state_of s) (enumerate_from a zs)) ≡ zs
descriptors_from s a [] = refl
descriptors_from s a (z ∷ zs) = ap (λ (l : List ZoneDescriptor). z ∷ l) (descriptors_from s (a + 1) zs)

pub descriptors_of_states : (s : FsState) → map descriptor_of (zone_states s) ≡ s.zones
descriptors_of_states s = descriptors_from s 0 s.zones

-- the tables of an image that is told make the state to which it mounts
pub told_tables_state : (i : Image) (collect : Bool) (files : TableState) (zones : ZoneTableState) (log : Chosen) (h : HasTables i collect files zones)
    → state_of_tables zones.geometry zones.zones files.rows files.greatest log ≡ state_with i h.table log
told_tables_state i collect files zones log h =
    ap (λ (g : Geometry). state_of_tables g zones.zones files.rows files.greatest log) h.same_geometry
    ∙ ap (λ (rs : List TableRow). state_of_tables i.geometry zones.zones rs files.greatest log) (h.rows log)
    ∙ ap (λ (n : ℕ). state_of_tables i.geometry zones.zones (state_with i h.table log).rows n log) (h.greatest log)
    ∙ ap with_zones (ap (map descriptor_of) (h.states log) ∙ descriptors_of_states (state_with i h.table log))
  where
    with_zones : List ZoneDescriptor → FsState
    with_zones zs = record (state_with i h.table log) { zones = zs }
