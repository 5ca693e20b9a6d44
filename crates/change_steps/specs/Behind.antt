-- What a check passes isn't refused behind the mount for writing.
use Rattle.std.specs.Prelude.{◌≡◌, ℕ, ◌<◌, ◌≤◌, Bool, false, List, length, Ok}
use Rattle.fs_model.specs.FsState.{FsState}
use Rattle.fs_model.specs.LogSteps.{FsAction, NoValue}
use Rattle.fs_model.specs.TreeSteps.{link, rename, delete, mount_write}
use Rattle.fs_model.specs.Check.{check}
use Rattle.change_steps.specs.Checking.{create_only}

-- blocks of 512 bytes or more, and a log in one of three zones for metadata, which are there
pub record HasLogZones (s : FsState) : Type 0 where
  pub block : 512 ≤ s.geometry.block
  pub log : s.log.zone < 3
  pub zones : 3 ≤ length s.zones

-- where a check passes the change before the mount for writing, the change is done behind that mount
abbrev pub PassesBehindMount : FsAction NoValue → Type 0
PassesBehindMount change = (s t : FsState) → HasLogZones s → (check false change s).answer ≡ Ok tt → t ≡ (mount_write s).last → (change t).answer ≡ Ok tt

-- so it is for new files
abbrev pub CreationPassesBehindMount : Type 0
CreationPassesBehindMount = (name : List ℕ) (hint : ℕ) (sparse : Bool) (now : ℕ) → PassesBehindMount (create_only name hint sparse now)

-- for links
abbrev pub LinkPassesBehindMount : Type 0
LinkPassesBehindMount = (old new : List ℕ) → PassesBehindMount (link old new)

-- for renames
abbrev pub RenamePassesBehindMount : Type 0
RenamePassesBehindMount = (old new : List ℕ) → PassesBehindMount (rename old new)

-- and for deletions
abbrev pub DeletionPassesBehindMount : Type 0
DeletionPassesBehindMount = (name : List ℕ) → PassesBehindMount (delete name)
