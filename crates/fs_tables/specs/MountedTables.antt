-- What the tables of a mounted file system are to their callers.
use Rattle.std.specs.Prelude.{◌≡◌, ℕ, ◌^◌, ◌<◌, ◌≤◌, length, Option, IsTrue, All}
use Rattle.std.specs.List.{AllByRecursion}
use Rattle.zone_image.specs.declared.Geometry.{Geometry}
use Rattle.zone_image.specs.Image.{is_valid}
use Rattle.record_model.specs.Grammar.{IsWritable}
use Rattle.log_model.specs.declared.selection.Chosen.{Chosen}
use Rattle.log_model.specs.Mounted.{all_extents}
use Rattle.log_model.specs.TableLaws.{IsTable, AreSized}
use Rattle.fs_model.specs.declared.zones.Owner.TheVariants.{Idle}
use Rattle.fs_model.specs.FsState.{FsState, recorded, zone_states, collects}
use Rattle.extent_map.specs.Applying.{rows_of}
use Rattle.extent_map.specs.Records.{snapshot_len}
use Rattle.extent_map.specs.TableState.{TableState}
use Rattle.zone_alloc.specs.Descriptors.{state_of_tables}
use Rattle.zone_alloc.specs.ZoneTableState.{ZoneTableState, IsInDataZone}

-- the state, the number of changes of names for which room is made, and the id for which room was made last
pub record MountedTables : Type 0 where
  pub state : FsState
  pub names_spare : ℕ
  pub reserved : Option ℕ

-- the state of these tables
abbrev pub state_from : Geometry → Chosen → TableState → ZoneTableState → FsState
state_from g log files zones = state_of_tables g zones.zones files.rows files.greatest log

-- The device has these zones; everything is recorded and shown, each entry can be written, each extent lies in one data zone,
-- nobody holds a zone, the log is in a metadata zone, and the snapshot is no longer than a machine can hold.
pub record AreSound (s : FsState) : Type 0 where
  pub valid : IsTrue (is_valid s.geometry)
  pub count : length s.zones ≡ s.geometry.zones
  pub settled : s.rows ≡ rows_of (recorded s)
  pub writable : AllByRecursion IsWritable (recorded s)
  pub lie : All (IsInDataZone s.geometry) (all_extents (recorded s))
  pub idle : All (λ z. z.owner ≡ Idle) s.zones
  pub log_zone : s.log.zone < 3
  pub flags : s.log.superblock.flags ≤ 1
  pub short : snapshot_len s.rows < 2 ^ 62

-- what callers may know of the state of tables besides: its files are a table with right sizes
pub record IsSoundState (s : FsState) : Type 0 where
  pub sound : AreSound s
  pub table : IsTable (recorded s)
  pub sized : AreSized (recorded s)

-- the tables are sound, and the live blocks and bytes of each zone are counted
pub record AreMounted (g : Geometry) (log : Chosen) (files : TableState) (zones : ZoneTableState) : Type 0 where
  pub sound : AreSound (state_from g log files zones)
  pub counted : zones.zones ≡ zone_states (state_from g log files zones)
  pub same_geometry : zones.geometry ≡ g
  pub same_collect : zones.collect ≡ collects (state_from g log files zones)
