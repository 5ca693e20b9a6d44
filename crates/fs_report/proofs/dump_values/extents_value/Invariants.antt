use Rattle.std.proofs.Common.{◌≡◌, take, map}
use Rattle.serde_json.specs.View.{view}
use Rattle.fs_report.specs.DumpValues.{extent_data}
use Rattle.fs_report.proofs.dump_values.extents_value.Given as goal

-- the values of the extents so far
abbrev pub invariant-loop-extent : goal.invariant-loop-extent
invariant-loop-extent l = map view l.values.items ≡ map extent_data (take l.extent-index l.extents)
