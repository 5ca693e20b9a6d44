use Rattle.std.proofs.Common.{◌≡◌, take}
use Rattle.log_model.specs.Mounted.{all_extents}
use Rattle.mount_replay.proofs.checks.all_extents.Given as goal

abbrev pub invariant-loop-file : goal.invariant-loop-file
invariant-loop-file l = l.all.items ≡ all_extents (take l.file-index l.files)
