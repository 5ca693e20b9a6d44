-- The log that is selected on a formatted device.
use Rattle.std.specs.Prelude.{◌≡◌, ◌≢◌, ℕ, zero, suc, ◌-◌, [], length, replicate, Ok, IsTrue, refl}
use Rattle.std.proofs.Common.{ap, arith}
use Rattle.zone_image.specs.declared.Geometry.{Geometry}
use Rattle.zone_image.specs.Image.{Zone, is_valid, no_zone, zone_in}
use Rattle.record_model.specs.Decoding.{record_of}
use Rattle.record_model.specs.FieldDecoding.{slice_at}
use Rattle.record_model.specs.Encoding.{payload_of}
use Rattle.record_model.specs.Numbers.{varint}
use Rattle.record_model.specs.declared.types.Record.TheVariants.{Snapshot}
use Rattle.superblock_core.specs.Superblock.{superblock_bytes, superblock_of, fits}
use Rattle.superblock_core.specs.declared.superblock.Superblock.{Superblock}
use Rattle.log_model.specs.Format.{formatted_blocks, formatted_image}
use Rattle.log_model.specs.ScanLaws.{IsRecordOf}
use Rattle.log_roll.specs.FormatLeaves.{HasNewLog}
use Rattle.log_roll.proofs.LoneLogs.{IsLone, IsSuperblock, lone_log}
use Rattle.log_roll.proofs.RollSelects.{head_fits}

-- all zones are empty
pub none_in : (n m : ℕ) → zone_in (replicate n no_zone) m ≡ no_zone
none_in zero m = refl
none_in (suc n) zero = refl
none_in (suc n) (suc m) = none_in n m

-- zone 0 alone has blocks
formatted_lone : (g : Geometry) (s : Superblock) → IsLone 0 (formatted_blocks g s) (formatted_image g s)
unfolding formatted_image
formatted_lone g s = record {
  metadata = omega arith;
  here = refl;
  others = λ m less differs. rest m differs;
}
  where
    rest : (m : ℕ) → m ≢ 0 → (zone_in (formatted_image g s).zones m).blocks ≡ []
    rest zero differs = absurd (differs refl)
    rest (suc m) differs = ap (λ (z : Zone). z.blocks) (none_in (g.zones - 1) m)

-- the empty snapshot is read as one
empty_reads : record_of (payload_of (Snapshot [])) ≡ Ok (Snapshot [])
unfolding record_of payload_of varint slice_at
empty_reads = refl

short_snapshot : length (payload_of (Snapshot [])) ≡ 5
unfolding payload_of varint
short_snapshot = refl

-- what makes the first snapshot one that is selected
pub record EmptySnapshot (block : ℕ) : Type 0 where
  pub fits : IsRecordOf block (payload_of (Snapshot []))
  pub reads : record_of (payload_of (Snapshot [])) ≡ Ok (Snapshot [])

pub empty_snapshot_is : (g : Geometry) → IsTrue (is_valid g) → EmptySnapshot g.block
empty_snapshot_is g valid = record { fits = (head_fits g valid, omega (arith, short_snapshot), omega (arith, short_snapshot)); reads = empty_reads }

-- the first superblock is one of this device
pub first_superblock_is : (g : Geometry) (s : Superblock) → IsTrue (is_valid g) → superblock_of (superblock_bytes s) ≡ Ok s → length (superblock_bytes s) ≡ 512 → IsTrue (fits s g)
    → IsSuperblock g (superblock_bytes s) s
first_superblock_is g s valid reads size device =
    record { fits = (head_fits g valid, omega (arith, size), omega (arith, size)); size = size; reads = reads; device = device }

pub formatted_log : (g : Geometry) (s : Superblock) → IsTrue (is_valid g) → superblock_of (superblock_bytes s) ≡ Ok s → length (superblock_bytes s) ≡ 512 → IsTrue (fits s g)
    → HasNewLog 0 s (payload_of (Snapshot [])) (formatted_image g s)
unfolding formatted_image
formatted_log g s valid reads size device = record {
  selected = lone_log 0 (formatted_image g s) (superblock_bytes s) (payload_of (Snapshot [])) s [] (first_superblock_is g s valid reads size device) (empty_snapshot_is g valid).fits
      empty_reads (formatted_lone g s);
}
