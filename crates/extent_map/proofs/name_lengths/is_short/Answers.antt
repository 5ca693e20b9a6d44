use Rattle.std.proofs.Common.{◌≤◌, List, ℕ, length, subst}
use Rattle.record_codec.proofs.FieldLaws.{name_short}
use Rattle.extent_map.proofs.name_lengths.is_short.Goals as goal

pub returns : goal.returns
returns c = subst (λ (n : List ℕ). length n ≤ 255) c.items.ensures.bytes (name_short c.items.result.now c.items.ensures.rule)
