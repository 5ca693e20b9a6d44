-- What is found again of files.
use Rattle.std.specs.Prelude.{◌≡◌, ⊤, ℕ, ◌++◌, ◌<◌, ◌≤◌, List, length, slice_index_or, Option, Some, All}
use Rattle.std.specs.Option.{option_map}
use Rattle.zone_image.specs.declared.Geometry.{Geometry}
use Rattle.zone_image.specs.declared.ZoneInfo.{ZoneInfo}
use Rattle.zone_image.specs.Image.{Image}
use Rattle.record_model.specs.declared.types.FileEntry.{FileEntry}
use Rattle.log_model.specs.declared.selection.Damage.{Damage}
use Rattle.log_model.specs.declared.selection.DamageWhy.TheVariants as why
use Rattle.log_model.specs.FileTable.{Table, size_of}
use Rattle.log_model.specs.Frames.{recovered_extents}
use Rattle.mount_replay.specs.Rules.{IsWrittenExtent}
use Rattle.mount_replay.specs.declared.error.ReplayError.{ReplayError}
use Rattle.mount_replay.specs.declared.error.ReplayError.TheVariants.{Damaged}

-- a file with other extents: its own and those that are found again, where the image is told, and ones that lie in data zones as its own do
pub record IsFound (told : Type 0) (g : Geometry) (infos : List ZoneInfo) (i : Image) (e f : FileEntry) : Type 0 where
  pub same : f ≡ record e { extents = f.extents }
  pub found : told → f.extents ≡ e.extents ++ recovered_extents i e
  pub lie : All (IsWrittenExtent g infos) e.extents → All (IsWrittenExtent g infos) f.extents

-- a file that states the size of its extents
abbrev pub sized : FileEntry → FileEntry
sized e = record e { size = size_of e.extents }

-- damage by a rule, at a record
abbrev pub damage_by : ℕ → ℕ → ℕ → Damage
damage_by zone block rule = record { zone = zone; block = block; why = why.Rule rule }

-- the answer is the rule that is broken, with that record, or another cause
abbrev pub IsBrokenAs : ℕ → ℕ → Option ℕ → ReplayError → Type 0
IsBrokenAs zone block rule (Damaged d) = option_map (damage_by zone block) rule ≡ Some d
IsBrokenAs zone block rule _ = ⊤

-- the first files of a table, so many, were changed so, and the others are as they were
pub record FoundSoFar (told : Type 0) (g : Geometry) (infos : List ZoneInfo) (i : Image) (n : ℕ) (xs ys : Table) : Type 0 where
  pub first : (k : ℕ) (d e : FileEntry) → k < n → k < length xs → IsFound told g infos i (slice_index_or xs k d) (slice_index_or ys k e)
  pub rest : (k : ℕ) (d : FileEntry) → n ≤ k → k < length xs → slice_index_or ys k d ≡ slice_index_or xs k d
  pub same_length : length ys ≡ length xs
