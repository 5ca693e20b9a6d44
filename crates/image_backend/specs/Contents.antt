-- What the calls of a file make of its bytes.
use Rattle.std.specs.Prelude.{◌≡◌, ℕ, ◌+◌, ◌-◌, List, ◌++◌, length, take, drop, replicate}

-- bytes cut to a length, or filled up with zeros
abbrev pub resized : ℕ → List ℕ → List ℕ
resized count bytes = take count bytes ++ replicate (count - length bytes) 0

-- bytes with a piece written over them from this offset on
abbrev pub patched : ℕ → List ℕ → List ℕ → List ℕ
patched at piece bytes = take at bytes ++ piece ++ drop (at + length piece) bytes

-- the bytes before and behind a range are the same
pub record SameOutside (at count : ℕ) (old new : List ℕ) : Type 0 where
  pub before : take at new ≡ take at old
  pub behind : drop (at + count) new ≡ drop (at + count) old
  pub long : length new ≡ length old

-- a call leaves a file, its length and its bytes as they were
pub record SameFile {F : Type 0} (is_open is_sized : F → Type 0) (size : F → ℕ) (tells : Type 0) (contents : F → List ℕ) (old new : F) : Type 0 where
  pub still_open : is_open old → is_open new
  pub still_sized : is_sized old → is_sized new
  pub same_size : is_sized old → size new ≡ size old
  pub same_contents : tells → contents new ≡ contents old
