-- Once a mount has its new log, changes can be recorded.
use Rattle.std.proofs.Common.{◌≡◌, ℕ, zero, suc, ◌+◌, ◌*◌, ◌<◌, ◌≤◌, false, map, length, sym, ◌∙◌, ap, subst, arith}
use Rattle.std.proofs.lemmas.Grind.{div_ceil_times}
use Rattle.zone_image.specs.declared.ZoneInfo.{ZoneInfo}
use Rattle.zone_image.specs.Infos.{info_at}
use Rattle.log_model.specs.Headroom.{has_room, superblock_blocks}
use Rattle.fs_model.specs.FsState.{FsState, descriptor_at, working_of}
use Rattle.fs_model.specs.LogSteps.{next_log}
use Rattle.fs_model.specs.TreeSteps.{cleared}
use Rattle.change_records.specs.Recorded.{entries}
use Rattle.change_cover.specs.MountRoom.{MayMount}
use Rattle.change_cover.specs.Rests.{Becomes, HaveNoPoints}
use Rattle.change_cover.proofs.MountSteps.{mount_clears_rows}
use Rattle.change_cover.proofs.RoomLaws.{may_mount_has_room}
use Rattle.fs_tables.specs.MountedTables.{AreSound}
use Rattle.fs_tables.specs.Steps.{infos_in}
use Rattle.fs_tables.specs.Tokens.{HasFreeToken}
use Rattle.fs_tables.proofs.RollLaws.{some_zones}
use Rattle.fs_tables.proofs.ZoneReads.{info_at_is}
use Rattle.fs_core.specs.FsValue.{CanWrite}
use Rattle.fs_core.proofs.NewLogs.{large_blocks}

-- what holds some bytes is some blocks
some_blocks : (n block : ℕ) → 520 ≤ n * block → 0 < n
some_blocks zero block h = absurd (omega (arith, h))
some_blocks (suc n) block h = omega arith

-- a superblock has a block
pub superblock_is_some : (block : ℕ) → 512 ≤ block → 0 < superblock_blocks block
superblock_is_some block large = some_blocks (superblock_blocks block) block (div_ceil_times (8 + 512) block (omega arith)).0

-- the state with the new log and with room
pub settled_can_write : (s next : FsState) (blocks : ℕ) → AreSound s → AreSound next → MayMount s → Becomes (next_log s) (map cleared s.rows) next → next.geometry ≡ s.geometry
    → HasFreeToken next → info_at (infos_in next) next.log.zone ≡ record { written = blocks; sealed = false } → 0 < blocks → CanWrite next
settled_can_write s next blocks sound there may becomes shape free info some =
    let zone : next.log.zone < length next.zones = omega (arith, there.log_zone, some_zones next there) in
    let written : (descriptor_at next next.log.zone).info.written ≡ blocks = ap (λ (i : ZoneInfo). i.written) (sym (info_at_is next next.log.zone zone) ∙ info) in
    record {
      room =
          ap (λ g. has_room g.capacity g.block (working_of next.rows)) shape
          ∙ (ap (λ rows. has_room s.geometry.capacity s.geometry.block (working_of rows)) becomes.rows ∙ may_mount_has_room s (large_blocks s sound) sound.settled may);
      ends = ap (λ l. l.can_end) becomes.log;
      active = free;
      points = subst (λ rows. HaveNoPoints (entries rows)) (sym becomes.rows) (mount_clears_rows s.rows).points;
      log = omega (arith, written, some);
    }
