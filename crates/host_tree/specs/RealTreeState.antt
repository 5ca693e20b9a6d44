-- The directories of a real host.
use Rattle.std.specs.Prelude.{ℕ, []}
use Rattle.host_tree.specs.declared.host_tree.OpenMode.{OpenMode}
use Rattle.host_tree.specs.HostFiles.{OpenFile}

-- what a file is open for, and the faults
pub record RealTreeState : Type 0 where
  pub mode : OpenMode
  pub faults : ℕ

-- what stands for a file that isn't told
abbrev pub nowhere : OpenFile
nowhere = record { dir = []; path = []; place = 0 }
