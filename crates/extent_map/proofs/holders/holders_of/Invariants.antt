use Rattle.std.proofs.Common.{take}
use Rattle.extent_map.specs.Holding.{AreKnown}
use Rattle.extent_map.specs.Records.{recorded_of}
use Rattle.extent_map.proofs.SettingLaws.{settled_to}
use Rattle.extent_map.proofs.holders.holders_of.Given as goal

-- what is known of the first files
abbrev pub invariant-loop-row : goal.invariant-loop-row
invariant-loop-row l = AreKnown l.holders (recorded_of (take l.row-index l.rows)) × settled_to l.row-index l.rows
