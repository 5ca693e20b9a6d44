use Rattle.std.proofs.Common.{rules}
use Rattle.std.specs.List.Sorted.{IsNonDecreasingBy}
use Rattle.std.proofs.lemmas.List.Sorted.{IsNonDecreasingBy-from_sort_by_key}
use Rattle.fs_model.specs.FsState.{TableRow}
use Rattle.extent_map.proofs.OrderLaws.{in_order}
use Rattle.extent_map.proofs.order.rows_by_id.Goals as goal

pub returns : goal.returns
returns c =
    let rise : IsNonDecreasingBy (λ (r : TableRow). r.entry.id) c.sort_unstable_by_key.new.self.items =
    IsNonDecreasingBy-from_sort_by_key (λ (r : TableRow). r.entry.id) _ c.sort_unstable_by_key.ensures.sorted (λ a r q k. search rules) in
    in_order c.args.files.now _ _ c.in_ok-rows.ensures c.sort_unstable_by_key.ensures.permutation rise
