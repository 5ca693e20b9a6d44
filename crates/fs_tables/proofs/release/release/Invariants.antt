use Rattle.std.proofs.Common.{◌≡◌, drop}
use Rattle.fs_tables.specs.Released.{AreLive, released}
use Rattle.fs_tables.proofs.release.release.Given as goal

-- the rest is live, and without it the zones are as they shall be
abbrev pub invariant-loop-extent : goal.invariant-loop-extent
invariant-loop-extent l = AreLive (drop l.extent-index l.extents) l.zones × (released (drop l.extent-index l.extents) l.zones ≡ released l.extents l.fn.zones)
