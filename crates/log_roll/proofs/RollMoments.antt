-- The moments of a roll, by what is known where it begins.
use Rattle.std.specs.Prelude.{◌≡◌, ℕ, ◌<◌, ◌≤◌, List, length, Result, Ok, Err, IsErrOf, IsTrue, Bool, true, false, cond, nat_lt, ◌==◌}
use Rattle.std.proofs.Common.{◌∙◌, ap, sym, subst, arith}
use Rattle.std.proofs.lemmas.Grind.{common_steps}
use Rattle.zone_image.specs.declared.Geometry.{Geometry}
use Rattle.zone_image.specs.declared.ZoneInfo.{ZoneInfo}
use Rattle.zone_image.specs.Image.{Image, is_valid}
use Rattle.zone_image.specs.Infos.{IsPossible, IsImage}
use Rattle.record_model.specs.Numbers.{u32}
use Rattle.superblock_core.specs.Superblock.{superblock_bytes}
use Rattle.log_model.specs.declared.selection.Chosen.{Chosen}
use Rattle.log_model.specs.LogScan.{blocks_of, record_blocks}
use Rattle.log_model.proofs.RecordLaws.{length_record}
use Rattle.log_roll.specs.RollLeaves.{LeftByRoll}
use Rattle.log_roll.specs.Rolling.{NoValue, PassedByRoll, last_sequence, next_superblock, roll_need, roll_refusal}
use Rattle.log_roll.specs.declared.roll_error.RollError.{RollError}
use Rattle.log_roll.specs.declared.roll_error.RollError.TheVariants.{SequenceEnd, MetaFull, DevFault}
use Rattle.zoned_device.proofs.DeviceLaws.{valid_image}
use Rattle.log_roll.proofs.ZoneChanges.{zones_of_image}
use Rattle.log_roll.proofs.RollSelects.{IsNext}
use Rattle.log_roll.proofs.RollCrash.{while_rolled}

-- an end record is one block
one_end : (g : Geometry) → IsTrue (is_valid g) → blocks_of g.block 4 ≡ 1
one_end g valid = grind (arith, common_steps)

-- a device has data zones
pub three_zones : (g : Geometry) → IsTrue (is_valid g) → 2 < g.zones
three_zones g valid = grind (arith, common_steps)

-- what the steps of a roll pass
pub roll_passed : (shape g : Geometry) (infos : List ZoneInfo) (i : Image) (old : Chosen) (snapshot payload : List ℕ) → shape ≡ g → IsPossible g infos → IsImage g infos i → IsNext i old snapshot
    → payload ≡ superblock_bytes (next_superblock old) → roll_need shape.block (length snapshot) ≤ shape.capacity
    → (j : Image) → PassedByRoll old.can_end old.zone (record_blocks shape.block payload) (record_blocks shape.block snapshot) i j → LeftByRoll old snapshot i j
roll_passed shape g infos i old snapshot payload same possible image next bytes room j passed =
    let shapes : shape ≡ i.geometry = same ∙ sym image.shape in
    let first : record_blocks shape.block payload ≡ record_blocks i.geometry.block (superblock_bytes (next_superblock old)) =
    ap (record_blocks shape.block) bytes ∙ ap (λ (x : Geometry). record_blocks x.block (superblock_bytes (next_superblock old))) shapes in
    let second : record_blocks shape.block snapshot ≡ record_blocks i.geometry.block snapshot = ap (λ (x : Geometry). record_blocks x.block snapshot) shapes in
    let count : length i.zones ≡ g.zones = zones_of_image g infos i possible image in
    let some : 2 < g.zones = three_zones g possible.valid in
    let long : 2 < length i.zones = omega (arith, count, some) in
    let one : length (record_blocks i.geometry.block (u32 4)) ≡ 1 = length_record i.geometry.block (u32 4) ∙ one_end i.geometry next.valid in
    let need : roll_need i.geometry.block (length snapshot) ≤ i.geometry.capacity = subst (λ (x : Geometry). roll_need x.block (length snapshot) ≤ x.capacity) shapes room in
    let size : length (record_blocks i.geometry.block (superblock_bytes (next_superblock old))) ≡ blocks_of i.geometry.block 512 =
    length_record i.geometry.block (superblock_bytes (next_superblock old)) ∙ ap (blocks_of i.geometry.block) next.size in
    let size_two : length (record_blocks i.geometry.block snapshot) ≡ blocks_of i.geometry.block (length snapshot) = length_record i.geometry.block snapshot in
    while_rolled i old snapshot next (valid_image g infos i possible image) long one j (omega (arith, size, size_two, need))
    (subst (λ bs. PassedByRoll old.can_end old.zone (record_blocks i.geometry.block (superblock_bytes (next_superblock old))) bs i j) second
    (subst (λ bs. PassedByRoll old.can_end old.zone bs (record_blocks shape.block snapshot) i j) first passed))

-- a refusal that is known before is no fault
no_fault : (a b : Bool) (need capacity : ℕ) (why : RollError)
    → ◌≡◌ {A = Result NoValue RollError} (Err why) (cond a (Err SequenceEnd) (cond b (Err (MetaFull need capacity)) (Ok tt))) → IsErrOf {T = Chosen} (Err why) DevFault → ⊥
no_fault true b need capacity why h fault = cc
no_fault false true need capacity why h fault = cc
no_fault false false need capacity why h fault = cc

pub refusal_is_no_fault : (g : Geometry) (old : Chosen) (len : ℕ) (why : RollError) → Err why ≡ roll_refusal g old len → IsErrOf {T = Chosen} (Err why) DevFault → ⊥
refusal_is_no_fault g old len why h fault =
    no_fault (old.greatest == last_sequence) (nat_lt g.capacity (roll_need g.block len)) (roll_need g.block len) g.capacity why h fault
