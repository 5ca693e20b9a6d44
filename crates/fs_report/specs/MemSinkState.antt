-- A sink in memory, and what a write leaves of it.
use Rattle.std.specs.Prelude.{ℕ, ◌-◌, ◌==◌, Bool, ◌&&◌, not, List, ◌++◌, length, take, min, Result, Ok, Err, if◌then◌else◌}
use Rattle.std.specs.List.{list_any}
use Rattle.zone_image.specs.Counts.{next_count}
use Rattle.fs_report.specs.declared.sink.SinkFault.{SinkFault}

-- what was written, how many bytes fit in all, the calls that were made, those that are to fail, and the faults
pub record MemSinkState : Type 0 where
  pub written : List ℕ
  pub room : ℕ
  pub calls : ℕ
  pub fails : List ℕ
  pub faults : ℕ

-- whether the next call is listed to fail
abbrev pub is_next_listed : MemSinkState → Bool
is_next_listed s = list_any (λ n. n == next_count s.calls) s.fails

-- how many of so many bytes still fit
abbrev pub fitting : MemSinkState → ℕ → ℕ
fitting s len = min len (s.room - length s.written)

-- what a write of this piece answers
abbrev pub mem_answer : MemSinkState → List ℕ → Result ℕ SinkFault
mem_answer s piece = if is_next_listed s then Err (record {}) else Ok (fitting s (length piece))

-- a fault is counted where there is room for nothing of a piece
abbrev pub is_stuck : MemSinkState → List ℕ → Bool
is_stuck s piece = (fitting s (length piece) == 0) && not (length piece == 0)

-- the sink after as much of a piece as fits
abbrev pub mem_added : MemSinkState → List ℕ → MemSinkState
mem_added s piece = record s {
  written = s.written ++ take (fitting s (length piece)) piece;
  faults = if is_stuck s piece then next_count s.faults else s.faults;
}

-- the sink as a call begins
abbrev pub mem_called : MemSinkState → MemSinkState
mem_called s = record s { calls = next_count s.calls }

-- the sink after a call that is listed to fail
abbrev pub mem_failed : MemSinkState → MemSinkState
mem_failed s = record s { faults = next_count s.faults }

-- the sink after a write of this piece
abbrev pub mem_after : MemSinkState → List ℕ → MemSinkState
mem_after s piece = if is_next_listed s then mem_failed (mem_called s) else mem_added (mem_called s) piece
