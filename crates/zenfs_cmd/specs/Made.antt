-- A change that was made on a mounted file system.
use Rattle.std.specs.Prelude.{◌≡◌, Ok}
use Rattle.zone_image.specs.Image.{Image}
use Rattle.log_model.specs.Mounted.{table_in}
use Rattle.fs_model.specs.CrashClauses.{Agrees}
use Rattle.fs_model.specs.FsState.{FsState, recorded}
use Rattle.command_model.specs.CommandLine.{Command}
use Rattle.zenfs_cmd.specs.Leaving.{MountsChanged}
use Rattle.zenfs_cmd.specs.Plans.{planned}

-- the state is the one after the command's change
pub record IsPlanned (c : Command) (old new : FsState) : Type 0 where
  pub answered : (planned c old).answer ≡ Ok tt
  pub last : new ≡ (planned c old).last

-- the second image has this state, and mounts to the trees of the first with the change made
pub record IsMade (c : Command) (i j : Image) (s : FsState) : Type 0 where
  pub table : table_in j ≡ Ok (recorded s)
  pub agrees : Agrees s j
  pub trees : MountsChanged c i j
