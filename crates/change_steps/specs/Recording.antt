-- What a roll and a record that is added leave.
use Rattle.std.specs.Prelude.{◌≡◌, ℕ, true, false, Ok}
use Rattle.fs_model.specs.FsState.{FsState}
use Rattle.fs_model.specs.LogSteps.{append_blocks, add_record, must_roll, roll}

-- the state after a roll
abbrev pub after_roll : FsState → FsState
after_roll s = (roll s).last

-- the state after a record that needed no roll
abbrev pub after_blocks : ℕ → FsState → FsState
after_blocks blocks s = (append_blocks s.log.zone blocks s).last

-- the state after a record, whether it needed a roll or not
abbrev pub after_record : ℕ → FsState → FsState
after_record blocks s = (add_record blocks s).last

-- nothing but zones and the log differs
pub record KeepsFiles (s t : FsState) : Type 0 where
  pub geometry : t.geometry ≡ s.geometry
  pub rows : t.rows ≡ s.rows
  pub greatest : t.greatest ≡ s.greatest
  pub writers : t.writers ≡ s.writers

-- a record that has room for itself and for an end goes behind the others
abbrev pub RecordGoesBehind : Type 0
RecordGoesBehind = (s : FsState) (blocks : ℕ) → must_roll s blocks ≡ false → after_record blocks s ≡ after_blocks blocks s

-- else it goes behind the snapshot of a roll
abbrev pub RecordGoesBehindRoll : Type 0
RecordGoesBehindRoll = (s : FsState) (blocks : ℕ) → must_roll s blocks ≡ true → after_record blocks s ≡ after_blocks blocks (after_roll s)

-- a roll is never refused
abbrev pub RollAnswers : Type 0
RollAnswers = (s : FsState) → (roll s).answer ≡ Ok tt

-- nor is a record that is added
abbrev pub RecordAnswers : Type 0
RecordAnswers = (s : FsState) (blocks : ℕ) → (add_record blocks s).answer ≡ Ok tt

-- a roll keeps the files
abbrev pub RollKeepsFiles : Type 0
RollKeepsFiles = (s : FsState) → KeepsFiles s (after_roll s)

-- so does a record that is added
abbrev pub RecordKeepsFiles : Type 0
RecordKeepsFiles = (s : FsState) (blocks : ℕ) → KeepsFiles s (after_record blocks s)
