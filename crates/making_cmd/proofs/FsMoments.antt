-- What a crash leaves while a file system is made.
use Rattle.std.specs.Prelude.{◌≡◌}
use Rattle.std.proofs.Common.{subst}
use Rattle.zone_image.specs.declared.Geometry.{Geometry}
use Rattle.zone_image.specs.Image.{Image, IsCrash}
use Rattle.superblock_core.specs.declared.superblock.Superblock.{Superblock}
use Rattle.log_roll.specs.FormatLeaves.{FormatLeaves}
use Rattle.log_roll.specs.Formatting.{LeftByFormat}
use Rattle.log_roll.proofs.FormatCrash.{crash_is_old}
use Rattle.making_cmd.specs.NewFs.{LeavesOldOrNewFs}

-- before anything is changed
pub crash_leaves : (superblock : Geometry → Superblock) (i j : Image) → IsCrash i j → LeavesOldOrNewFs superblock i j
crash_leaves superblock i j crash = λ logs. crash_is_old (superblock i.geometry) i j crash logs

-- the same of an image that was only read
pub leaves_read : (superblock : Geometry → Superblock) (i k j : Image) → k ≡ i → LeavesOldOrNewFs superblock k j → LeavesOldOrNewFs superblock i j
leaves_read superblock i k j same left = subst (λ x. LeavesOldOrNewFs superblock x j) same left

-- what formatting leaves
pub format_leaves : (superblock : Geometry → Superblock) (g shape : Geometry) (s : Superblock) (i j : Image) → s ≡ superblock shape → shape ≡ i.geometry → LeftByFormat g s i j → LeavesOldOrNewFs superblock i j
format_leaves superblock g shape s i j is same left = λ logs.
    subst (λ x. FormatLeaves (superblock x) i j) same (subst (λ x. FormatLeaves x i j) is (left.cases logs))
