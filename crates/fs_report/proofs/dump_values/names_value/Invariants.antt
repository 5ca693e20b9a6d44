use Rattle.std.proofs.Common.{◌≡◌, true, take, map}
use Rattle.std.specs.List.{list_all}
use Rattle.serde_json.specs.Data.{string}
use Rattle.serde_json.specs.View.{view}
use Rattle.fs_report.specs.DumpValues.{is_plain}
use Rattle.fs_report.proofs.dump_values.names_value.Given as goal

-- the values of the names so far, none of which has a control character
abbrev pub invariant-loop-name : goal.invariant-loop-name
invariant-loop-name l = (map view l.values.items ≡ map string (take l.name-index l.names)) × (list_all is_plain (take l.name-index l.names) ≡ true)
