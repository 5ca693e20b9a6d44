-- The exit codes of the programs.
use Rattle.std.specs.Prelude.{ℕ}
use Rattle.fs_report.specs.declared.status.Status.{Status}
use Rattle.fs_report.specs.declared.status.Status.TheVariants as status

-- the exit code of a status
abbrev pub exit_code : Status → ℕ
exit_code status.Ok = 0
exit_code status.Refused = 1
exit_code status.Words = 2
exit_code status.Fault = 3
exit_code status.Memory = 4
exit_code status.Damaged = 5
