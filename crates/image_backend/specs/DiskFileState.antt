-- What is known of a file on a disk.
use Rattle.std.specs.Prelude.{◌≡◌, ℕ, List, Option, Bool}
use Rattle.std.specs.Option.{unwrap_or}
use Rattle.image_backend.specs.declared.access.Access.{Access}

-- its path, what is done with it, whether it is open, whether it was found to be missing, its length once it is known, and the faults
pub record DiskFileState : Type 0 where
  pub path : List ℕ
  pub access : Access
  pub opened : Bool
  pub missing : Bool
  pub size : Option ℕ
  pub faults : ℕ

-- the length where it is known
abbrev pub disk_size : DiskFileState → ℕ
disk_size s = unwrap_or s.size 0

-- all but the count of faults is as it was
pub record SameButFaults (old new : DiskFileState) : Type 0 where
  pub path : new.path ≡ old.path
  pub access : new.access ≡ old.access
  pub opened : new.opened ≡ old.opened
  pub missing : new.missing ≡ old.missing
  pub size : new.size ≡ old.size
