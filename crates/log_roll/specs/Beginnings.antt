-- What making a file system looks for in a zone.
use Rattle.std.specs.Prelude.{Bool, ◌&&◌, ℕ, List, length, ◌==◌}
use Rattle.superblock_core.specs.Superblock.{magic, u32_at}

-- a payload has the length and the magic number of a superblock
abbrev pub has_magic : List ℕ → Bool
has_magic payload = (length payload == 512) && (u32_at 0 payload == magic)
