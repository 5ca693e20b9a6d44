-- What a change of names is refused for before anything is written.
use Rattle.std.specs.Prelude.{◌≡◌, ℕ, true, false, nat_lt, Option, Some}
use Rattle.fs_model.specs.declared.error.FsError.{FsError}
use Rattle.fs_model.specs.declared.error.FsError.TheVariants.{SequenceEnd, MetaFull}
use Rattle.fs_model.specs.FsState.{FsState}
use Rattle.change_steps.specs.Endings.{lacks_room, lacks_sequence}

-- a record of so many blocks has a sequence, and its change room
pub record IsGranted (s : FsState) (blocks : ℕ) (need : Option ℕ) : Type 0 where
  pub sequence : lacks_sequence s blocks ≡ false
  pub room : lacks_room s need ≡ false

-- the sequence is wanting, or else the room
abbrev pub IsWanting : FsState → ℕ → Option ℕ → FsError → Type 0
IsWanting s blocks need SequenceEnd = lacks_sequence s blocks ≡ true
IsWanting s blocks need (MetaFull wanted capacity) =
    (lacks_sequence s blocks ≡ false) × (need ≡ Some wanted) × (nat_lt s.geometry.capacity wanted ≡ true) × (capacity ≡ s.geometry.capacity)
IsWanting s blocks need _ = ⊥
