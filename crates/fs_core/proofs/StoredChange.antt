-- What a stored record makes of an image on which a state stands.
use Rattle.std.proofs.Common.{◌≡◌, ℕ, ◌+◌, ◌≤◌, List, length, ◌∙◌, subst}
use Rattle.zone_image.specs.Image.{Image}
use Rattle.record_model.specs.Encoding.{payload_of}
use Rattle.record_model.specs.declared.types.Record.TheVariants.{Snapshot}
use Rattle.log_model.specs.declared.selection.Chosen.{Chosen}
use Rattle.fs_model.specs.FsState.{FsState, recorded}
use Rattle.fs_model.specs.LogSteps.{next_log}
use Rattle.log_roll.proofs.RollFacts.{short_payload}
use Rattle.log_store.specs.Adding.{GoesOn, LeftByRecord, RestsWithRecord}
use Rattle.log_store.specs.RollCalls.{GoesOnRolled, LeftByBoth, RestsRolled}
use Rattle.change_cover.specs.Stored.{CanSnapshot, snapshot_of}
use Rattle.change_cover.proofs.StoredRecords.{record_behind_roll_leaves, record_behind_roll_stands, record_leaves, record_stands}
use Rattle.fs_tables.specs.MountedTables.{AreSound}
use Rattle.fs_core.specs.Storing.{LeavesChange, StoresChange, new_log_blocks}

-- a snapshot for which there is room can be written
pub can_snapshot : (s : FsState) → AreSound s → new_log_blocks s + 2 ≤ s.geometry.capacity → CanSnapshot s
can_snapshot s sound room = record { writable = sound.writable; short = short_payload s.geometry (length (payload_of (Snapshot (recorded s)))) sound.valid room }

-- a record that was added
pub stores_behind : (blocks : List (List ℕ)) (i j : Image) (s : FsState) (log counts : Chosen) → log ≡ s.log → counts ≡ s.log → RestsWithRecord blocks i j → GoesOn log blocks i j
    → StoresChange blocks i s j counts
stores_behind blocks i j s log counts is same rests goes_on c r after next stands change spelled becomes shown =
    record_stands i j s next c r after stands change (record { rows = becomes.rows; log = becomes.log ∙ same }) shown
    (subst (λ bs. RestsWithRecord bs i j) spelled rests)
    (subst (λ bs. GoesOn s.log bs i j) spelled (subst (λ l. GoesOn l blocks i j) is goes_on))

-- what a crash leaves meanwhile
pub leaves_behind : (blocks : List (List ℕ)) (i j : Image) (s : FsState) → LeftByRecord blocks i j → LeavesChange blocks i s j
leaves_behind blocks i j s left c r after stands change spelled = record_leaves i j s c r after stands change (subst (λ bs. LeftByRecord bs i j) spelled left)

-- a record that was added behind a roll
pub stores_rolled : (blocks : List (List ℕ)) (snapshot : List ℕ) (i j : Image) (s : FsState) (log counts : Chosen) → CanSnapshot s → snapshot ≡ snapshot_of s → log ≡ s.log → counts ≡ next_log s
    → RestsRolled log snapshot blocks i j → GoesOnRolled log snapshot blocks i j → StoresChange blocks i s j counts
stores_rolled blocks snapshot i j s log counts can taken is same rests goes_on c r after next stands change spelled becomes shown =
    record_behind_roll_stands i j s next c r after stands change can (record { rows = becomes.rows; log = becomes.log ∙ same }) shown
    (subst (λ bs. RestsRolled s.log (snapshot_of s) bs i j) spelled (subst (λ p. RestsRolled s.log p blocks i j) taken (subst (λ l. RestsRolled l snapshot blocks i j) is rests)))
    (subst (λ bs. GoesOnRolled s.log (snapshot_of s) bs i j) spelled (subst (λ p. GoesOnRolled s.log p blocks i j) taken (subst (λ l. GoesOnRolled l snapshot blocks i j) is goes_on)))

-- what a crash leaves meanwhile
pub leaves_rolled : (blocks : List (List ℕ)) (snapshot : List ℕ) (i j : Image) (s : FsState) → CanSnapshot s → snapshot ≡ snapshot_of s → LeftByBoth snapshot blocks i j → LeavesChange blocks i s j
leaves_rolled blocks snapshot i j s can taken left c r after stands change spelled =
    record_behind_roll_leaves i j s c r after stands change can (subst (λ bs. LeftByBoth (snapshot_of s) bs i j) spelled (subst (λ p. LeftByBoth p blocks i j) taken left))
