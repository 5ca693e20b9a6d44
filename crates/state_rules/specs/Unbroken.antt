-- A table that keeps the rules breaks none on an image where all that it records is written.
use Rattle.std.specs.Prelude.{◌≡◌, ◌≢◌, ◌*◌, ◌%◌, ◌≤◌, true, List, None}
use Rattle.std.specs.List.{AllByRecursion, AllZip, list_all}
use Rattle.zone_image.specs.declared.Geometry.{Geometry}
use Rattle.zone_image.specs.Image.{Image, zone_of, offset_of}
use Rattle.zone_image.specs.Infos.{IsValidImage}
use Rattle.record_model.specs.declared.types.FileEntry.{FileEntry}
use Rattle.log_model.specs.FileTable.{Table}
use Rattle.log_model.specs.Frames.{no_active}
use Rattle.log_model.specs.Mounted.{is_written, all_extents, broken_rule}
use Rattle.fs_model.specs.declared.zones.Owner.TheVariants.{Writer}
use Rattle.fs_model.specs.FsState.{FsState, ZoneDescriptor, descriptor_in, recorded}
use Rattle.fs_model.specs.CrashClauses.{SameZone}
use Rattle.state_rules.specs.Rules.{owner_in, EndBefore, KeepsRules}

-- a recovery point lies in the zone of its file's writer, at a block's start, behind all that is recorded there, and at most
-- at the next block
pub record PointLies (g : Geometry) (zones : List ZoneDescriptor) (es : Table) (e : FileEntry) : Type 0 where
  pub owner : owner_in zones (zone_of g e.active) ≡ Writer e.id
  pub whole : offset_of g e.active % g.block ≡ 0
  pub behind : EndBefore g e.active es
  pub within : offset_of g e.active ≤ (descriptor_in zones (zone_of g e.active)).info.written * g.block

-- so of each file that has one
abbrev pub PointRules : Geometry → List ZoneDescriptor → Table → Type 0
PointRules g zones es = AllByRecursion (λ e. e.active ≢ no_active → PointLies g zones es e) es

-- an image that the zone table describes, with all that is recorded written
pub record HasRecorded (i : Image) (s : FsState) : Type 0 where
  pub valid : IsValidImage i
  pub geometry : i.geometry ≡ s.geometry
  pub zones : AllZip SameZone s.zones i.zones
  pub written : list_all (is_written i) (all_extents (recorded s)) ≡ true

-- what is recorded breaks no rule of an image
abbrev pub RulesUnbroken : Type 0
RulesUnbroken = (i : Image) (s : FsState) → KeepsRules s → PointRules s.geometry s.zones (recorded s) → HasRecorded i s
    → broken_rule i (recorded s) ≡ None
