-- What the commands leave.
use Rattle.std.specs.Prelude.{◌≡◌, ◌⊎◌, ⊤, ℕ, List, Option, Some, None, Ok}
use Rattle.zone_image.specs.declared.Geometry.{Geometry}
use Rattle.zone_image.specs.declared.ZoneInfo.{ZoneInfo}
use Rattle.zone_image.specs.Image.{Image, IsCrash}
use Rattle.log_model.specs.FileTree.{Tree, SameButTimes, apply_all}
use Rattle.log_model.specs.Format.{new_superblock}
use Rattle.log_model.specs.Mounted.{MountsTo, table_in}
use Rattle.fs_model.specs.CrashClauses.{Agrees}
use Rattle.fs_model.specs.FsState.{FsState, recorded, state_in}
use Rattle.change_cover.specs.SameTrees.{MountsTheSame}
use Rattle.command_model.specs.CommandLine.{Command, bad_name_of}
use Rattle.command_model.specs.CommandLine.Command.{MakeImage, MakeFs, LinkFile, RenameFile, DeleteFile}
use Rattle.fs_report.specs.declared.cause.Cause.{Cause}
use Rattle.fs_report.specs.declared.cause.Cause.TheVariants.{NoMemory}
use Rattle.making_cmd.specs.Made.{IsBlank}
use Rattle.making_cmd.specs.NewFs.{HasNewFs, LeavesOldOrNewFs}
use Rattle.zenfs_cmd.specs.Plans.{changes_of, planned}

-- the second image mounts to each tree of the first with the command's changes made, and so does whatever a crash leaves of it
pub record MountsChanged (c : Command) (i j : Image) : Type 0 where
  pub standing : (t : Tree) → MountsTo i t → MountsTo j (apply_all (changes_of c) t)
  pub crashed : (t : Tree) → MountsTo i t → (k : Image) → IsCrash j k → MountsTo k (apply_all (changes_of c) t)

-- The first image mounts, and the command's change of its state is done as a whole: the second image has the table and the
-- zones of the state after it, and mounts to the tree with the change made.
pub record IsChanged (c : Command) (i j : Image) : Type 0 where
  pub before : FsState
  pub mounted : state_in i ≡ Ok before
  pub answered : (planned c before).answer ≡ Ok tt
  pub table : table_in j ≡ Ok (recorded (planned c before).last)
  pub agrees : Agrees (planned c before).last j
  pub trees : MountsChanged c i j

-- nothing is printed, the names are names, and the image is changed
abbrev pub LeavesChanged : (quiet tells : Type 0) → Command → Image → Image → Type 0
LeavesChanged quiet tells c i j = quiet × (bad_name_of c ≡ None) × (tells → IsChanged c i j)

-- a blank device of the stated shape, a new file system of the stated superblock, the image with a change made, or as it was
abbrev pub Leaves : {D : Type 0} → (known : D → Type 0) → (geometry : D → Geometry) → (infos : D → List ZoneInfo) → (tells : Type 0) → (image : D → Image)
    → (quiet : Type 0) → (random : ℕ) → (old new : D) → Command → Type 0
Leaves known geometry infos tells image quiet random old new (MakeImage at g over) = IsBlank known geometry infos tells image g new
Leaves known geometry infos tells image quiet random old new (MakeFs at aux threshold collect over) =
    HasNewFs known geometry infos tells image (λ g. new_superblock g random aux threshold collect) old new
Leaves known geometry infos tells image quiet random old new (LinkFile at from to) = LeavesChanged quiet tells (LinkFile at from to) (image old) (image new)
Leaves known geometry infos tells image quiet random old new (RenameFile at from to) = LeavesChanged quiet tells (RenameFile at from to) (image old) (image new)
Leaves known geometry infos tells image quiet random old new (DeleteFile at name) = LeavesChanged quiet tells (DeleteFile at name) (image old) (image new)
Leaves known geometry infos tells image quiet random old new _ = tells → image new ≡ image old

-- the second image mounts to exactly the tree of the first, and so does whatever a crash leaves of it that isn't left of the first
pub record LeavesTheTree (i j : Image) : Type 0 where
  pub standing : MountsTheSame i j
  pub crashed : (k : Image) → IsCrash j k → IsCrash i k ⊎ MountsTheSame i k

-- a change that ends in want of memory keeps this
abbrev pub IsKeptWithoutMemory : Cause → Type 0 → Type 0
IsKeptWithoutMemory NoMemory kept = kept
IsKeptWithoutMemory _ kept = ⊤

-- the second image mounts to the tree of the first or to that with the command's changes made, but for times
abbrev pub MountsEither : Command → Image → Image → Type 0
MountsEither c i j = (t : Tree) → MountsTo i t → (u : Tree) × MountsTo j u × (SameButTimes u t ⊎ SameButTimes u (apply_all (changes_of c) t))

-- a crash within a change of names leaves a crash of the image at entry, or one of the two trees
abbrev pub LeftByChange : Command → Image → Image → Type 0
LeftByChange c i j = IsCrash i j ⊎ MountsEither c i j

-- What a crash within a command may leave: a crash of the image at entry; or the tree before or after a change of names; or
-- what formatting leaves, where each crash of the image at entry has a log that counts: the old file system, none, or the new one.
abbrev pub MayLeave : (random : ℕ) → Option Command → Image → Image → Type 0
MayLeave random (Some (LinkFile at old new)) i j = LeftByChange (LinkFile at old new) i j
MayLeave random (Some (RenameFile at old new)) i j = LeftByChange (RenameFile at old new) i j
MayLeave random (Some (DeleteFile at name)) i j = LeftByChange (DeleteFile at name) i j
MayLeave random (Some (MakeFs at aux threshold collect over)) i j = IsCrash i j ⊎ LeavesOldOrNewFs (λ g. new_superblock g random aux threshold collect) i j
MayLeave random _ i j = IsCrash i j
