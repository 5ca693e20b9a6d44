-- The state of a file system, of its tables of zones and of files.
use Rattle.std.specs.Prelude.{ℕ, List, [], map}
use Rattle.zone_image.specs.declared.Geometry.{Geometry}
use Rattle.log_model.specs.declared.selection.Chosen.{Chosen}
use Rattle.fs_model.specs.declared.zones.ZoneState.{ZoneState}
use Rattle.fs_model.specs.FsState.{FsState, TableRow, ZoneDescriptor}

-- a zone without its live counts
abbrev pub descriptor_of : ZoneState → ZoneDescriptor
descriptor_of z = record { info = z.info; owner = z.owner; hint = z.hint }

-- a file system of these tables, into which nobody writes
abbrev pub state_of_tables : Geometry → List ZoneState → List TableRow → ℕ → Chosen → FsState
state_of_tables g zones rows greatest log = record {
  geometry = g;
  zones = map descriptor_of zones;
  rows = rows;
  greatest = greatest;
  writers = [];
  log = log;
}
