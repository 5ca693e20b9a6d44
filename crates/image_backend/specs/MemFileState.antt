-- A file in memory.
use Rattle.std.specs.Prelude.{◌≡◌, ℕ, List, [], Bool, false, ◌==◌, cond}
use Rattle.std.proofs.Common.{ap}
use Rattle.std.specs.List.{list_any}
use Rattle.zone_image.specs.Counts.{next_count}

-- whether a file is there, its bytes, whether the last good sync left them so, the number of the last call, the calls that
-- are to fail, and the faults
pub record MemFileState : Type 0 where
  pub there : Bool
  pub bytes : List ℕ
  pub durable : Bool
  pub calls : ℕ
  pub fails : List ℕ
  pub faults : ℕ

-- whether the next call is listed to fail
abbrev pub is_next_listed : MemFileState → Bool
is_next_listed s = list_any (λ n. n == next_count s.calls) s.fails

-- after a call began, which fails where it is listed
abbrev pub called : MemFileState → MemFileState
called s = record s { calls = next_count s.calls; faults = cond (is_next_listed s) (next_count s.faults) s.faults }

-- the bytes, none where no file is there
abbrev pub mem_contents : MemFileState → List ℕ
mem_contents s = cond s.there s.bytes []

pub no_contents : (s : MemFileState) → s.there ≡ false → mem_contents s ≡ []
no_contents s missing = ap (λ b. cond b s.bytes []) missing
