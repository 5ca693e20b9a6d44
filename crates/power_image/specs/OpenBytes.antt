-- Open bytes: those that were written since a file was last made durable. A loss of power may leave anything of each.
use Rattle.std.specs.Prelude.{◌≡◌, ℕ, suc, ◌+◌, ◌-◌, Bool, true, false, List, [], ◌∷◌, ◌++◌, length, take, drop, replicate, slice_index_or}

-- for each byte whether it is open, after a write of so many bytes from this offset on
abbrev pub opened : ℕ → ℕ → List Bool → List Bool
opened at count flags = take at flags ++ replicate count true ++ drop (at + count) flags

-- none is open
abbrev pub all_closed : List Bool → List Bool
all_closed flags = replicate (length flags) false

-- after the length was set: bytes that are new are open
abbrev pub flags_resized : ℕ → List Bool → List Bool
flags_resized count flags = take count flags ++ replicate (count - length flags) true

-- what a loss of power may leave of these bytes: as many, and each as it stands that isn't open
pub record MayLeave (flags : List Bool) (bytes left : List ℕ) : Type 0 where
  pub long : length left ≡ length bytes
  pub same : (n : ℕ) → slice_index_or flags n false ≡ false → slice_index_or left n 0 ≡ slice_index_or bytes n 0

-- how many are open
abbrev pub open_count : List Bool → ℕ
open_count [] = 0
open_count (false ∷ flags) = open_count flags
open_count (true ∷ flags) = suc (open_count flags)

-- other bytes in the open places, in their order
abbrev pub filled : List Bool → List ℕ → List ℕ → List ℕ
filled [] bytes fill = bytes
filled (f ∷ flags) [] fill = []
filled (false ∷ flags) (x ∷ bytes) fill = x ∷ filled flags bytes fill
filled (true ∷ flags) (x ∷ bytes) [] = x ∷ filled flags bytes []
filled (true ∷ flags) (x ∷ bytes) (y ∷ fill) = y ∷ filled flags bytes fill

-- the bytes in the open places, in their order
abbrev pub taken : List Bool → List ℕ → List ℕ
taken [] bytes = []
taken (f ∷ flags) [] = []
taken (false ∷ flags) (x ∷ bytes) = taken flags bytes
taken (true ∷ flags) (x ∷ bytes) = x ∷ taken flags bytes
