use Rattle.std.proofs.Common.{◌≡◌, length, take}
use Rattle.std.specs.List.{flat_map}
use Rattle.record_model.specs.Encoding.{field_bytes}
use Rattle.record_model.specs.declared.field.Field.TheVariants.{Linked}
use Rattle.record_codec.specs.Length.{told}
use Rattle.extent_map.proofs.lengths.names_len.Given as goal

abbrev pub invariant-loop-name : goal.invariant-loop-name
invariant-loop-name l = l.len ≡ told (length (flat_map (λ name. field_bytes (Linked name)) (take l.name-index l.names)))
