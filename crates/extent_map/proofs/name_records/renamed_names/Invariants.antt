use Rattle.std.proofs.Common.{◌≡◌, take}
use Rattle.log_model.specs.FileTree.{renamed}
use Rattle.extent_map.proofs.name_records.renamed_names.Given as goal

abbrev pub invariant-loop-name : goal.invariant-loop-name
invariant-loop-name l = l.copies.items ≡ renamed l.old l.new (take l.name-index l.names)
