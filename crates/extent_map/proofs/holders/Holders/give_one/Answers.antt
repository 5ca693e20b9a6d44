use Rattle.std.proofs.Common.{List, ℕ, Some, subst, ◌∙◌}
use Rattle.std.specs.BTreeMap.{UpdatesBy}
use Rattle.std.specs.Cmp.Lexicographic.{slice_cmp}
use Rattle.std.specs.Ordering.{nat_cmp}
use Rattle.extent_map.specs.declared.holders.Holders.{Holders}
use Rattle.extent_map.proofs.HolderLaws.{given_one}
use Rattle.extent_map.proofs.holders.Holders.give_one.Goals as goal

pub returns : goal.returns
returns c = λ other.
    let old : Holders = c.args.self.now in
    let new : Holders = record { ids = c.insert.new.self } in
    given_one old new c.args.name.now c.args.id
    (subst (λ (bs : List ℕ). UpdatesBy (λ x y. slice_cmp nat_cmp x.items y.items) (λ k. slice_cmp nat_cmp bs k.items) old.ids new.ids (Some c.args.id))
    (c.in_ok-key.ensures.items ∙ c.items.ensures.bytes) c.in_ok-insert.ensures.updates) other
