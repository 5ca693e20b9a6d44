-- How a mount for writing ends.
use Rattle.std.specs.Prelude.{◌≡◌, ℕ, true, false, map, nat_lt, Ok, Err}
use Rattle.log_model.specs.Headroom.{log_need}
use Rattle.fs_model.specs.declared.error.FsError.TheVariants.{SequenceEnd, MetaFull}
use Rattle.fs_model.specs.FsState.{FsState, working}
use Rattle.fs_model.specs.Trace.{Refines}
use Rattle.fs_model.specs.LogSteps.{at_sequence_end, block_of}
use Rattle.fs_model.specs.TreeSteps.{cleared, free_token, mount_write}
use Rattle.change_steps.specs.Recording.{after_roll, KeepsFiles}
use Rattle.change_steps.specs.Endings.{Ends}

-- what a log with the whole table needs
abbrev pub mount_need : FsState → ℕ
mount_need s = log_need (block_of s) (working s)

-- the state without recovery points
abbrev pub cleared_state : FsState → FsState
cleared_state s = record s { rows = map cleared s.rows }

-- the state after a zone was finished, where all tokens were taken
abbrev pub after_token : FsState → FsState
after_token s = (free_token s).last

-- the state once the log is rolled
abbrev pub settled_state : FsState → FsState
settled_state s = after_roll (after_token (cleared_state s))

-- a token is freed without a refusal
abbrev pub TokenAnswers : Type 0
TokenAnswers = (s : FsState) → (free_token s).answer ≡ Ok tt

-- and without a change of files
abbrev pub TokenKeepsFiles : Type 0
TokenKeepsFiles = (s : FsState) → KeepsFiles s (after_token s)

-- the sequence is at its end
abbrev pub MountAtSequenceEnd : Type 0
MountAtSequenceEnd = (s : FsState) → at_sequence_end s ≡ true → Refines mount_write s (Err SequenceEnd) s

-- a log can't take the table
abbrev pub MountIsFull : Type 0
MountIsFull = (s : FsState) → at_sequence_end s ≡ false → nat_lt s.geometry.capacity (mount_need s) ≡ true
    → Refines mount_write s (Err (MetaFull (mount_need s) s.geometry.capacity)) s

-- else nothing is done yet, or the log is rolled, and dead zones are being reset
abbrev pub MountEnds : Type 0
MountEnds = (s : FsState) → at_sequence_end s ≡ false → nat_lt s.geometry.capacity (mount_need s) ≡ false → Ends mount_write tt s (settled_state s)
