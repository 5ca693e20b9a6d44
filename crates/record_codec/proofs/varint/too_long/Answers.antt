use Rattle.std.proofs.Common.{rules, tests, ltb, sym, ◌≡◌, refl}
use Rattle.std.proofs.lemmas.Iterator.{YieldsList-from_slice}
use Rattle.std.proofs.lemmas.Iterator.Search.{any_from_yields_List}
use Rattle.std.specs.List.{list_any}
use Rattle.record_codec.proofs.varint.too_long.Goals as goal

pub returns-else-any : goal.returns-else-any
returns-else-any c =
    let found : list_any (λ b. ltb b 128) c.args.bytes.now ≡ c.any.result = sym (any_from_yields_List (λ b. ltb b 128) _ _ c.any.result c.any.ensures.ran (YieldsList-from_slice c.args.bytes.now cc) (λ x b q k. search (rules, tests))) in
    rw (found, c.if-any.false) refl
