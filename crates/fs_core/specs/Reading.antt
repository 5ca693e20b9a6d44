-- What a read of a file gives.
use Rattle.std.specs.Prelude.{◌≡◌, ℕ, ◌-◌, ◌≤◌, List, ◌++◌, length, take, drop, min, All, IsSomeAnd}
use Rattle.zone_image.specs.declared.Geometry.{Geometry}
use Rattle.zone_image.specs.declared.ZoneInfo.{ZoneInfo}
use Rattle.zone_image.specs.Image.{Image}
use Rattle.fs_model.specs.FsState.{TableRow, row_of}
use Rattle.fs_model.specs.CrashClauses.{shown_file}
use Rattle.extent_map.specs.Lookups.{extents_of}
use Rattle.mount_replay.specs.Rules.{IsWrittenExtent}

-- as many of the bytes that are shown from an offset on as there are and as there is room for; behind them the room stays
pub record IsRead (tells : Type 0) (i : Image) (r : TableRow) (offset : ℕ) (old : List ℕ) (count : ℕ) (new : List ℕ) : Type 0 where
  pub many : count ≡ min (length old) (r.shown - offset)
  pub bytes : tells → new ≡ take count (drop offset (shown_file i r).bytes) ++ drop count old

-- all extents of a file lie in what is written
abbrev pub IsWrittenRow : Geometry → List ZoneInfo → TableRow → Type 0
IsWrittenRow g infos r = All (IsWrittenExtent g infos) (extents_of r)

-- a file is there, and so many of its bytes are shown
abbrev pub IsShown : ℕ → ℕ → List TableRow → Type 0
IsShown id count rows = IsSomeAnd (row_of id rows) (λ r. count ≤ r.shown)
