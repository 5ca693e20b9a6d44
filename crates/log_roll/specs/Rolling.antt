-- How a log is rolled.
use Rattle.std.specs.Prelude.{◌≡◌, ℕ, ◌+◌, ◌-◌, ◌%◌, ◌^◌, ◌⊎◌, Bool, true, false, not, ◌&&◌, List, [], ◌∷◌, ◌++◌, drop, codes, Result, Ok, Err, nat_lt, ◌==◌, if◌then◌else◌}
use Rattle.zone_image.specs.declared.Geometry.{Geometry}
use Rattle.zone_image.specs.declared.ZoneInfo.{ZoneInfo}
use Rattle.zone_image.specs.Image.{Image, IsCrash, no_zone, zone_at}
use Rattle.zone_image.specs.Changes.{change_at, appended, finished, synced}
use Rattle.zone_image.specs.Infos.{no_info, info_at, info_of, infos_appended, infos_finished}
use Rattle.zone_image.specs.Moments.{PassedByAppend, PassedByFinish, PassedByReset}
use Rattle.record_model.specs.Decoding.{record_of}
use Rattle.record_model.specs.Numbers.{u32}
use Rattle.record_model.specs.declared.types.FileEntry.{FileEntry}
use Rattle.record_model.specs.declared.types.Record.TheVariants.{Snapshot}
use Rattle.superblock_core.specs.declared.superblock.Superblock.{Superblock}
use Rattle.log_model.specs.declared.selection.Chosen.{Chosen}
use Rattle.log_model.specs.LogScan.{blocks_of, record_blocks}
use Rattle.log_model.specs.Format.{durable_zone}
use Rattle.zoned_device.specs.DeviceSteps.{Then}
use Rattle.log_roll.specs.Resets.{PassedByTwoResets, emptied_two, infos_emptied_two}
use Rattle.log_roll.specs.NewLog.{PassedByNewLog, begun}
use Rattle.log_roll.specs.declared.roll_error.RollError.{RollError}
use Rattle.log_roll.specs.declared.roll_error.RollError.TheVariants.{SequenceEnd, MetaFull, DevFault}

-- a value of what has none
abbrev pub NoValue : Type 0
NoValue = Unit {0}

-- the payload is that of a snapshot
pub record IsSnapshot (payload : List ℕ) : Type 0 where
  pub files : List FileEntry
  pub reads : record_of payload ≡ Ok (Snapshot files)

-- the metadata zone behind this one
abbrev pub next_zone : ℕ → ℕ
next_zone zone = (zone + 1) % 3

-- the metadata zone behind that
abbrev pub third_zone : ℕ → ℕ
third_zone zone = (zone + 2) % 3

-- the superblock of the log that follows
abbrev pub next_superblock : Chosen → Superblock
next_superblock old = record (old.superblock) { sequence = old.greatest + 1; version_text = codes "profile-2" }

-- the log that follows
abbrev pub next_chosen : Chosen → Chosen
next_chosen old = record { zone = next_zone old.zone; superblock = next_superblock old; greatest = old.greatest + 1; can_end = true }

-- what the new log needs: the superblock, a snapshot of this length, and two more blocks
abbrev pub roll_need : ℕ → ℕ → ℕ
roll_need block len = blocks_of block 512 + blocks_of block len + 2

-- the zone gets an end record: it may have one, isn't sealed and has a free block
abbrev pub gets_end : ℕ → Bool → ZoneInfo → Bool
gets_end capacity can_end info = can_end && not info.sealed && nat_lt info.written capacity

-- the blocks of an end record
abbrev pub end_blocks : ℕ → List (List ℕ)
end_blocks block = record_blocks block (u32 4)

-- the numbers and seals after that
abbrev pub infos_ended : Geometry → Bool → ℕ → List ZoneInfo → List ZoneInfo
infos_ended g can_end zone infos =
    if gets_end g.capacity can_end (info_at infos zone) then infos_appended g infos zone 1 else infos

-- the image after that
abbrev pub ended : Bool → ℕ → Image → Image
ended can_end zone i =
    if gets_end i.geometry.capacity can_end (info_of (zone_at i zone)) then appended i zone (end_blocks i.geometry.block) else i

-- what that passes
abbrev pub PassedByEnd : Bool → ℕ → Image → Image → Type 0
PassedByEnd can_end zone i j = IsCrash i j ⊎ ((can_end ≡ true) × PassedByAppend i zone (end_blocks i.geometry.block) j)

-- the old log ends and its zone is sealed
abbrev pub infos_closed : Geometry → Bool → ℕ → List ZoneInfo → List ZoneInfo
infos_closed g can_end zone infos = infos_finished (infos_ended g can_end zone infos) zone

-- the image after that
abbrev pub closed : Bool → ℕ → Image → Image
closed can_end zone i = finished (ended can_end zone i) zone

-- what that passes
abbrev pub PassedByClose : Bool → ℕ → Image → Image → Type 0
PassedByClose can_end zone = Then (PassedByEnd can_end zone) (ended can_end zone) (λ i. PassedByFinish i zone)

-- a sync, and the resets of the other metadata zones
abbrev pub PassedByStart : ℕ → ℕ → Image → Image → Type 0
PassedByStart first second = Then (λ i. IsCrash i) synced (PassedByTwoResets first second)

-- the numbers and seals when the old log is closed
abbrev pub infos_old_closed : Geometry → Bool → ℕ → List ZoneInfo → List ZoneInfo
infos_old_closed g can_end zone infos = infos_closed g can_end zone (infos_emptied_two infos (next_zone zone) (third_zone zone))

-- the image then
abbrev pub old_closed : Bool → ℕ → Image → Image
old_closed can_end zone i = closed can_end zone (emptied_two (synced i) (next_zone zone) (third_zone zone))

-- what is passed until then
abbrev pub PassedByOld : Bool → ℕ → Image → Image → Type 0
PassedByOld can_end zone =
    Then (PassedByStart (next_zone zone) (third_zone zone)) (λ i. emptied_two (synced i) (next_zone zone) (third_zone zone)) (PassedByClose can_end zone)

-- a new log, and a sync
abbrev pub PassedByWrite : ℕ → List (List ℕ) → List (List ℕ) → Image → Image → Type 0
PassedByWrite zone superblock snapshot = Then (PassedByNewLog zone superblock snapshot) (begun zone superblock snapshot) (λ i. IsCrash i)

-- a new log behind this zone, a sync, and the reset of this zone
abbrev pub PassedByReplace : ℕ → List (List ℕ) → List (List ℕ) → Image → Image → Type 0
PassedByReplace zone superblock snapshot =
    Then (PassedByWrite (next_zone zone) superblock snapshot) (λ i. synced (begun (next_zone zone) superblock snapshot i)) (λ i. PassedByReset i zone)

-- all of a roll
abbrev pub PassedByRoll : Bool → ℕ → List (List ℕ) → List (List ℕ) → Image → Image → Type 0
PassedByRoll can_end zone superblock snapshot = Then (PassedByOld can_end zone) (old_closed can_end zone) (PassedByReplace zone superblock snapshot)

-- the numbers and seals after a roll: the new log has so many blocks, and the other two metadata zones are empty
abbrev pub rolled_infos : List ZoneInfo → ℕ → ℕ → List ZoneInfo
rolled_infos infos zone count =
    change_at zone (λ _. record { written = count; sealed = false }) (no_info ∷ no_info ∷ no_info ∷ []) ++ drop 3 infos

-- the image after a roll: the new log has these blocks, the other two metadata zones are empty, the data zones are as they were, and nothing is pending
abbrev pub rolled_image : Image → ℕ → List (List ℕ) → Image
rolled_image i zone blocks =
    record i { zones = change_at zone (λ _. durable_zone blocks) (no_zone ∷ no_zone ∷ no_zone ∷ []) ++ drop 3 (synced i).zones }

-- the last sequence
abbrev pub last_sequence : ℕ
last_sequence = 2 ^ 32 - 1

-- why a log can't be rolled, by what is known before: no sequence is left, or the new log needs more than a zone's capacity
abbrev pub roll_refusal : Geometry → Chosen → ℕ → Result NoValue RollError
roll_refusal g old len =
    if old.greatest == last_sequence then Err SequenceEnd
    else if nat_lt g.capacity (roll_need g.block len) then Err (MetaFull (roll_need g.block len) g.capacity)
    else Ok tt

-- the answer is one of these two refusals
abbrev pub IsRefused : Result Chosen RollError → Type 0
IsRefused (Err SequenceEnd) = Unit {0}
IsRefused (Err (MetaFull need capacity)) = Unit {0}
IsRefused _ = ⊥

-- an answer refuses exactly what is refused
abbrev pub RefusesAs : Result NoValue RollError → Result Chosen RollError → Type 0
RefusesAs (Err why) answer = answer ≡ Err why
RefusesAs (Ok value) answer = IsRefused answer → ⊥

-- an answer that comes before any call of the device
abbrev pub IsUnwritten : Result Chosen RollError → Type 0
IsUnwritten (Err DevFault) = ⊥
IsUnwritten (Err why) = Unit {0}
IsUnwritten (Ok chosen) = ⊥
