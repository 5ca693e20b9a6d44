-- The files of a host tree, and which of them is open.
use Rattle.std.specs.Prelude.{◌≡◌, ◌↔◌, ◌&&◌, ℕ, Bool, false, List, [], drop, Option, IsSome}
use Rattle.std.specs.Option.{unwrap_or}
use Rattle.std.specs.Str.{bytes_eq}
use Rattle.std.specs.List.{Contains}
use Rattle.std.specs.List.Sorted.{IsStrictlySortedBy}
use Rattle.std.specs.Cmp.Lexicographic.{slice_cmp}
use Rattle.std.specs.Ordering.{nat_cmp}
use Rattle.host_tree.specs.declared.host_tree.OpenMode.{OpenMode}

-- the file that is open: its directory, its path in it, and the place of the next byte that is read
pub record OpenFile : Type 0 where
  pub dir : List ℕ
  pub path : List ℕ
  pub place : ℕ

-- the bytes of the open file
abbrev pub open_bytes : (List ℕ → List ℕ → Option (List ℕ)) → OpenFile → List ℕ
open_bytes files f = unwrap_or (files f.dir f.path) []

-- those of them that weren't read yet
abbrev pub unread : (List ℕ → List ℕ → Option (List ℕ)) → OpenFile → List ℕ
unread files f = drop f.place (open_bytes files f)

-- the paths of a directory's files, each once and in byte order
pub record IsListing (files : List ℕ → List ℕ → Option (List ℕ)) (dir : List ℕ) (paths : List (List ℕ)) : Type 0 where
  pub in_order : IsStrictlySortedBy (slice_cmp nat_cmp) paths
  pub each : (path : List ℕ) → Contains paths path ↔ IsSome (files dir path)

-- whether a second directory and path are the first
abbrev pub is_at : List ℕ → List ℕ → List ℕ → List ℕ → Bool
is_at dir path d p = bytes_eq d dir && bytes_eq p path

-- all files but one are as they were
abbrev pub OthersSame : List ℕ → List ℕ → (List ℕ → List ℕ → Option (List ℕ)) → (List ℕ → List ℕ → Option (List ℕ)) → Type 0
OthersSame dir path old new = (d p : List ℕ) → is_at d p dir path ≡ false → new d p ≡ old d p

-- the same file is open, or none as before
pub record SameOpen (tells : Type 0) (old_mode new_mode : OpenMode) (old new : OpenFile) : Type 0 where
  pub mode : new_mode ≡ old_mode
  pub file : tells → new ≡ old

-- the same file is open, at whatever place
pub record SameFile (tells : Type 0) (old_mode new_mode : OpenMode) (old new : OpenFile) : Type 0 where
  pub mode : new_mode ≡ old_mode
  pub dir : tells → new.dir ≡ old.dir
  pub path : tells → new.path ≡ old.path
