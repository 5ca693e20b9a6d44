use Rattle.std.proofs.Common.{◌≡◌, drop}
use Rattle.fs_model.specs.FileSteps.{moved_start}
use Rattle.extent_map.proofs.moves.moved_start.Given as goal

-- the move is among the rest
abbrev pub invariant-loop-change : goal.invariant-loop-change
invariant-loop-change l = moved_start (drop l.change-index l.moves) l.start ≡ moved_start l.moves l.start
