-- The zones of an image that is mounted, by the extents of its files.
use Rattle.std.specs.Prelude.{◌≡◌, ℕ, ◌+◌, ◌^◌, ◌<◌, List, [], ◌∷◌, length, map, filter, Option, Some, None, nat_lt, ◌==◌, if◌then◌else◌, slice_index_or, sum_by, All, IsTrue}
use Rattle.std.specs.List.{enumerate_from}
use Rattle.zone_image.specs.declared.Geometry.{Geometry}
use Rattle.zone_image.specs.declared.ZoneInfo.{ZoneInfo}
use Rattle.zone_image.specs.Image.{zone_of}
use Rattle.record_model.specs.declared.types.Extent.{Extent}
use Rattle.log_model.specs.FileTable.{Table, size_of}
use Rattle.log_model.specs.Mounted.{all_extents}
use Rattle.fs_model.specs.declared.zones.Owner.TheVariants.{Idle}
use Rattle.fs_model.specs.declared.zones.ZoneState.{ZoneState}
use Rattle.fs_model.specs.FsState.{touched, hint_from}
use Rattle.fs_model.specs.ZonePolicy.{is_idle}
use Rattle.zone_alloc.specs.ZoneTableState.{ZoneTableState, no_state, live_added, live_blocks, live_bytes}

-- the extents that lie in a zone
abbrev pub extents_within : Geometry → ℕ → List Extent → List Extent
extents_within g n xs = filter (λ x. zone_of g x.start == n) xs

-- a zone of an image that is mounted, by its number and what the device tells of it
abbrev pub filled_zone : Geometry → Table → ℕ × ZoneInfo → ZoneState
filled_zone g es z = record {
  info = z.1;
  owner = Idle;
  hint = hint_from g z.0 (2 ^ 64) 0 es;
  live = sum_by (touched g.block) (extents_within g z.0 (all_extents es));
  live_bytes = size_of (extents_within g z.0 (all_extents es));
}

-- all its zones
abbrev pub filled_zones : Geometry → Table → List ZoneInfo → List ZoneState
filled_zones g es infos = map (filled_zone g es) (enumerate_from 0 infos)

-- ---- one extent after another

-- the lowest start so far, which is 2^64 where there is none
abbrev pub start_of : Option ℕ → ℕ
start_of None = 2 ^ 64
start_of (Some start) = start

-- the lower of it and of this start
abbrev pub lowered : ℕ → Option ℕ → Option ℕ
lowered start o = if nat_lt start (start_of o) then Some start else o

-- a zone with one extent more, which gives it the hint of its file where it stands before the others
abbrev pub entered : ℕ → ℕ → Extent → ℕ → ZoneState → ZoneState
entered block hint x low s = record (live_added block x s) { hint = if nat_lt x.start low then hint else s.hint }

-- a zone with the lowest start of its extents
pub record ZoneMark : Type 0 where
  pub start : ℕ
  pub state : ZoneState

-- the zone of this number
abbrev pub mark_at : List (Option ℕ) → List ZoneState → ℕ → ZoneMark
mark_at starts zones n = record { start = start_of (slice_index_or starts n None); state = slice_index_or zones n no_state }

-- it after an extent of a file of this hint
abbrev pub marked : Geometry → ℕ → ℕ → Extent → ZoneMark → ZoneMark
marked g n hint x m =
    if zone_of g x.start == n then (record { start = if nat_lt x.start m.start then x.start else m.start; state = entered g.block hint x m.start m.state }) else m

-- it after all extents of the file
abbrev pub marked_all : Geometry → ℕ → ℕ → List Extent → ZoneMark → ZoneMark
marked_all g n hint [] m = m
marked_all g n hint (x ∷ xs) m = marked_all g n hint xs (marked g n hint x m)

-- it after all files
abbrev pub marked_files : Geometry → ℕ → Table → ZoneMark → ZoneMark
marked_files g n [] m = m
marked_files g n (e ∷ es) m = marked_files g n es (marked_all g n e.hint e.extents m)

-- zones of this device that nobody holds, and a start for each
pub record AreMarks (g : Geometry) (starts : List (Option ℕ)) (t : ZoneTableState) : Type 0 where
  pub same : t.geometry ≡ g
  pub all_zones : length t.zones ≡ g.zones
  pub all_starts : length starts ≡ g.zones
  pub idle : All (λ z. IsTrue (is_idle z)) t.zones

-- extents were entered: each zone became what they make of it, and the sums rose by theirs
pub record Entered (g : Geometry) (step : ℕ → ZoneMark → ZoneMark) (more_blocks more_bytes : ℕ) (old_starts : List (Option ℕ)) (old : ZoneTableState) (starts : List (Option ℕ)) (t : ZoneTableState) : Type 0 where
  pub marks : AreMarks g starts t
  pub collect : t.collect ≡ old.collect
  pub each : (n : ℕ) → n < g.zones → mark_at starts t.zones n ≡ step n (mark_at old_starts old.zones n)
  pub blocks : live_blocks t.zones ≡ live_blocks old.zones + more_blocks
  pub bytes : live_bytes t.zones ≡ live_bytes old.zones + more_bytes
