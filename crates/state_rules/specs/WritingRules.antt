-- What is true besides of the tables of a mount that writes, and that a data zone may grow and be finished under it.
use Rattle.std.specs.Prelude.{◌≡◌, ◌≢◌, ℕ, ◌<◌, ◌≤◌, true, false}
use Rattle.log_model.specs.Headroom.{has_room}
use Rattle.fs_model.specs.ZonePolicy.{is_idle_owner}
use Rattle.fs_model.specs.FsState.{FsState, working, recorded, descriptor_at}
use Rattle.fs_model.specs.LogSteps.{append_blocks, finish_zone, is_used}
use Rattle.state_rules.specs.Rules.{owner_in, KeepsRules}
use Rattle.state_rules.specs.Tokens.{LeavesToken}
use Rattle.state_rules.specs.Unbroken.{PointRules}

-- the table has room in a new log, a token is left for the log, the log's zone has a block and the other two of metadata have
-- nothing, and each recovery point lies with its file's writer
pub record KeepsWritingRules (s : FsState) : Type 0 where
  pub rules : KeepsRules s
  pub room : has_room s.geometry.capacity s.geometry.block (working s) ≡ true
  pub token : LeavesToken s
  pub written : 0 < (descriptor_at s s.log.zone).info.written
  pub unused : (m : ℕ) → m < 3 → m ≢ s.log.zone → is_used (descriptor_at s m) ≡ false
  pub points : PointRules s.geometry s.zones (recorded s)

-- blocks that are appended to a data zone that somebody holds
abbrev pub AppendKeepsWriting : Type 0
AppendKeepsWriting = (s : FsState) (zone count : ℕ) → KeepsWritingRules s → is_idle_owner (owner_in s.zones zone) ≡ false
    → KeepsWritingRules (append_blocks zone count s).last

-- a finish of a data zone
abbrev pub FinishKeepsWriting : Type 0
FinishKeepsWriting = (s : FsState) (zone : ℕ) → KeepsWritingRules s → 3 ≤ zone → KeepsWritingRules (finish_zone zone s).last
