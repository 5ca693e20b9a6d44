use Rattle.std.proofs.Common.{◌≡◌, ◌++◌, take}
use Rattle.std.specs.List.{flat_map}
use Rattle.record_model.specs.Encoding.{field_bytes}
use Rattle.record_model.specs.declared.field.Field.TheVariants.{Piece}
use Rattle.record_codec.proofs.encoder.push_extents.Given as goal

abbrev pub invariant-loop-extent : goal.invariant-loop-extent
invariant-loop-extent l = l.out.items ≡ l.fn.out.items ++ flat_map (λ e. field_bytes (Piece e)) (take l.extent-index l.extents)
