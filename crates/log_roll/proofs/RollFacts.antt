-- What is known of a roll that isn't refused.
use Rattle.std.specs.Prelude.{◌≡◌, ◌≢◌, ℕ, ◌*◌, ◌<◌, ◌≤◌, max, Bool, true, false, cond, List, [], ◌∷◌, length, Result, Ok, Err, nat_lt, ◌==◌, IsTrue, ◌^◌, refl}
use Rattle.std.proofs.Common.{arith}
use Rattle.std.proofs.lemmas.Bool.{eqb-false, ltb-false}
use Rattle.std.proofs.Math.Nat.{mul-le-mul_right}
use Rattle.std.proofs.lemmas.Grind.{common_steps}
use Rattle.zone_image.specs.declared.Geometry.{Geometry}
use Rattle.zone_image.specs.Image.{is_valid}
use Rattle.record_model.specs.Decoding.{record_of}
use Rattle.record_model.specs.declared.types.Record.{Record}
use Rattle.log_model.specs.declared.selection.Chosen.{Chosen}
use Rattle.log_model.specs.LogScan.{blocks_of}
use Rattle.log_model.proofs.LengthLaws.{blocks_grow}
use Rattle.log_roll.specs.RollMemory.{roll_blocks}
use Rattle.log_roll.specs.Rolling.{NoValue, last_sequence, roll_need, roll_refusal}
use Rattle.log_roll.specs.declared.roll_error.RollError.{RollError}

-- neither of the two tests held
allowed : (a b : Bool) (x y : RollError) (v : NoValue) → ◌≡◌ {A = Result NoValue RollError} (Ok v) (cond a (Err x) (cond b (Err y) (Ok tt))) → (a ≡ false) × (b ≡ false)
allowed true b x y v h = cc
allowed false true x y v h = cc
allowed false false x y v h = (refl, refl)

pub not_refused : (g : Geometry) (old : Chosen) (len : ℕ) (v : NoValue) → Ok v ≡ roll_refusal g old len → (old.greatest ≢ last_sequence) × (roll_need g.block len ≤ g.capacity)
not_refused g old len v h =
    let parts = allowed (old.greatest == last_sequence) (nat_lt g.capacity (roll_need g.block len)) _ _ v h in
    (eqb-false old.greatest last_sequence parts.0, ltb-false g.capacity (roll_need g.block len) parts.1)

-- a payload that is read has a byte
pub some_payload : (payload : List ℕ) (r : Record) → record_of payload ≡ Ok r → 1 ≤ length payload
unfolding record_of
some_payload [] r h = cc
some_payload (x ∷ xs) r h = omega arith

-- the memory of a roll suffices for a record
pub enough_memory : (block capacity most len memory : ℕ) → 0 < block → len ≤ max most 512 → blocks_of block len ≤ capacity → roll_blocks block capacity most * block ≤ memory
    → blocks_of block len * block ≤ memory
enough_memory block capacity most len memory some short fits room =
    let more : blocks_of block len ≤ blocks_of block (max most 512) = blocks_grow block len (max most 512) some short in
    let less : blocks_of block len ≤ roll_blocks block capacity most = omega (arith, more, fits) in
    let product : blocks_of block len * block ≤ roll_blocks block capacity most * block = mul-le-mul_right block less in
    omega (arith, product, room)

-- a payload of which a zone has room is short
pub short_payload : (g : Geometry) (len : ℕ) → IsTrue (is_valid g) → roll_need g.block len ≤ g.capacity → len < 2 ^ 32
short_payload g len valid fits = grind (arith, common_steps)
