-- The log with which a mount begins to write.
use Rattle.std.proofs.Common.{◌≡◌, ℕ, ◌+◌, ◌*◌, ◌^◌, ◌<◌, ◌≤◌, List, Option, Some, None, Ok, length, map, drop, inl, inr, ⊎_elim, sym, ◌∙◌, ap, subst, arith}
use Rattle.std.specs.Prelude.{MatchOption}
use Rattle.std.proofs.Math.Nat.{mul-le-mul_left}
use Rattle.zone_image.specs.declared.Geometry.{Geometry}
use Rattle.zone_image.specs.Image.{Image, IsCrash}
use Rattle.zone_image.specs.Infos.{IsValidImage, active_zones}
use Rattle.record_model.specs.Decoding.{record_of}
use Rattle.record_model.specs.declared.types.Record.TheVariants.{Snapshot}
use Rattle.log_model.specs.Headroom.{snapshot_blocks, superblock_blocks}
use Rattle.log_model.specs.LogScan.{blocks_of}
use Rattle.log_model.specs.LogSelection.{selected_log}
use Rattle.fs_model.specs.FsState.{FsState, recorded, state_in}
use Rattle.fs_model.specs.LogSteps.{next_log}
use Rattle.fs_model.specs.TreeSteps.{cleared}
use Rattle.log_roll.specs.Rolling.{IsSnapshot, next_chosen, roll_refusal}
use Rattle.log_store.specs.Settling.{LeftBySettling, RestsSettled, Settles, infos_sealed}
use Rattle.log_store.specs.RollRest.{new_log}
use Rattle.change_records.specs.Recorded.{entries}
use Rattle.change_records.proofs.StepsWithoutRecord.{mount_clears_points}
use Rattle.change_records.proofs.Writable.{payload_reads_again}
use Rattle.change_cover.specs.MountRoom.{MayMount}
use Rattle.change_cover.specs.Rests.{Becomes, Stands}
use Rattle.change_cover.proofs.MountSteps.{mount_clears_rows, mounted_shows_image, settled_stands}
use Rattle.change_cover.proofs.RoomLaws.{may_mount_fits, may_mount_is_short, may_mount_rolls}
use Rattle.fs_tables.specs.MountedTables.{AreSound}
use Rattle.fs_tables.specs.Steps.{infos_in}
use Rattle.fs_tables.specs.Tokens.{FinishesNone, FinishesZone}
use Rattle.fs_tables.proofs.StepLaws.{infos_after_finish}
use Rattle.fs_core.specs.Beginning.{LeftByBeginning, cleared_payload}

-- the payload is read as the snapshot of what is recorded, without recovery points
pub cleared_reads : (s : FsState) → AreSound s → MayMount s → record_of (cleared_payload s) ≡ Ok (Snapshot (entries (map cleared s.rows)))
cleared_reads s sound may =
    payload_reads_again (Snapshot (entries (map cleared s.rows))) ((mount_clears_points s.rows).writable sound.writable) (may_mount_is_short s sound.valid sound.settled may)

-- so it is that of a snapshot
pub cleared_is_snapshot : (s : FsState) (snapshot : List ℕ) → AreSound s → MayMount s → snapshot ≡ cleared_payload s → IsSnapshot snapshot
cleared_is_snapshot s snapshot sound may is = record { files = entries (map cleared s.rows); reads = ap record_of is ∙ cleared_reads s sound may }

-- and of the table that the image mounts
pub settles : (i : Image) (s : FsState) (snapshot : List ℕ) → IsValidImage i → state_in i ≡ Ok s → AreSound s → MayMount s → snapshot ≡ cleared_payload s → Settles i snapshot (recorded s)
settles i s snapshot valid mounted sound may is = record {
  mounted = (mounted_shows_image i s valid mounted).table;
  reads = ap record_of is ∙ (cleared_reads s sound may ∙ ap (λ es. Ok (Snapshot es)) (mount_clears_rows s.rows).records);
}

-- fewer zones are active than may be, once one is finished where it is to be
pub token_free : (finish : Option ℕ) (s : FsState) → MatchOption finish (FinishesNone s) (FinishesZone s) → active_zones (drop 3 (infos_sealed (infos_in s) finish)) < s.geometry.active_limit
token_free None s h = h.free
token_free (Some zone) s h = subst (λ infos. active_zones (drop 3 infos) < s.geometry.active_limit) (infos_after_finish s zone) h.free

-- what a crash leaves, where the image mounts to the state's table
pub left_by_beginning : (i j : Image) (s : FsState) (snapshot : List ℕ) → Settles i snapshot (recorded s) → LeftBySettling snapshot i j → LeftByBeginning i j
left_by_beginning i j s snapshot settled left = ⊎_elim (λ (crash : IsCrash i j). inl crash) (λ alike. inr (alike (recorded s) settled)) left

-- the state with the new log stands
pub new_log_stands : (i j : Image) (s next : FsState) (snapshot : List ℕ) → AreSound s → Settles i snapshot (recorded s) → RestsSettled s.log snapshot i j
    → selected_log j ≡ Ok (next_chosen s.log) → Becomes (next_log s) (map cleared s.rows) next → Stands j next
new_log_stands i j s next snapshot sound settled rests selected becomes =
    settled_stands j s next (new_log j.geometry s.log snapshot) (s.log.greatest + 1) sound.settled becomes (rests (recorded s) settled) selected

-- blocks have 512 bytes or more
pub large_blocks : (s : FsState) → AreSound s → 512 ≤ s.geometry.block
large_blocks s sound = grind (arith, sound.valid)

-- the roll isn't refused
pub not_refused : (s : FsState) → AreSound s → MayMount s → roll_refusal s.geometry s.log (length (cleared_payload s)) ≡ Ok tt
not_refused s sound may = may_mount_rolls s (large_blocks s sound) sound.settled may

-- its blocks leave room in a zone
pub fits_zone : (s : FsState) → AreSound s → MayMount s
    → superblock_blocks s.geometry.block + snapshot_blocks s.geometry.block (entries (map cleared s.rows)) < s.geometry.capacity
fits_zone s sound may = may_mount_fits s (large_blocks s sound) sound.settled may

-- a zone has fewer than 2 ^ 32 blocks
pub few_blocks : (s : FsState) → AreSound s → s.geometry.capacity < 2 ^ 32
few_blocks s sound =
    let g = s.geometry in
    let bytes : g.zone_blocks * g.block < 2 ^ 32 = grind (arith, sound.valid) in
    let less : g.capacity ≤ g.zone_blocks = grind (arith, sound.valid) in
    let more : g.zone_blocks * 512 ≤ g.zone_blocks * g.block = mul-le-mul_left g.zone_blocks (large_blocks s sound) in
    omega (arith, less, more, bytes)

-- the blocks of the payload and of a superblock
pub payload_fits : (s : FsState) (g : Geometry) (payload : List ℕ) → AreSound s → MayMount s → g ≡ s.geometry → payload ≡ cleared_payload s
    → blocks_of g.block 512 + blocks_of g.block (length payload) < s.geometry.capacity
payload_fits s g payload sound may same is =
    subst (λ h. blocks_of h.block 512 + blocks_of h.block (length payload) < s.geometry.capacity) (sym same)
    (subst (λ bytes. blocks_of s.geometry.block 512 + blocks_of s.geometry.block (length bytes) < s.geometry.capacity) (sym is) (fits_zone s sound may))
