-- What is done with a file on a disk.
use Rattle.std.specs.Prelude.{Bool, true, false}
use Rattle.image_backend.specs.declared.access.Access.{Access}
use Rattle.image_backend.specs.declared.access.Access.TheVariants as access

-- the file is written
abbrev pub is_change : Access → Bool
is_change access.Read = false
is_change access.Change = true
