use Rattle.std.proofs.Common.{◌≡◌, suc, ◌+◌, List, ℕ, set, true, false, ap, sym, ◌∙◌, arith, add-one}
use Rattle.log_model.specs.FileTable.{is_named}
use Rattle.fs_model.specs.FsState.{TableRow}
use Rattle.extent_map.specs.Naming.{without_names}
use Rattle.extent_map.proofs.TakenLaws.{left_from, kept_from, gone_from, all_taken}
use Rattle.extent_map.proofs.taken.take_names.Goals as goal

pub rows-preserved-then-lose_names : goal.rows-preserved-then-lose_names
rows-preserved-then-lose_names c =
    let taken : List (List ℕ) = c.args.taken.now in
    let rows : List TableRow = c.rows.rows.items in
    let row = c.index_mut-row.result.now in
    let named : is_named (without_names taken row).entry ≡ true = sym c.lose_names.ensures.left ∙ c.if-lose_names.true in
    let next : c.rows.at + 1 ≡ suc c.rows.at = add-one c.rows.at in (
      ap (λ k. left_from taken k (set rows c.rows.at c.lose_names.new.self)) next
          ∙ kept_from taken c.rows.at rows row c.lose_names.new.self (omega arith) c.index_mut-row.ensures.value (c.lose_names.ensures.row c.if-lose_names.true) named
          ∙ c.rows.invariant.0,
      c.rows.invariant.1,
    )

pub rows-preserved : goal.rows-preserved
rows-preserved c =
    let taken : List (List ℕ) = c.args.taken.now in
    let rows : List TableRow = c.rows.rows.items in
    let row = c.index_mut-row.result.now in
    let named : is_named (without_names taken row).entry ≡ false = sym c.lose_names.ensures.left ∙ c.if-lose_names.false in (
      ap (left_from taken c.rows.at) c.remove.ensures.items
          ∙ gone_from taken c.rows.at rows row c.lose_names.new.self (omega arith) c.index_mut-row.ensures.value named
          ∙ c.rows.invariant.0,
      c.remove.ensures.capacity ∙ c.rows.invariant.1,
    )

pub returns-clause-rows : goal.returns-clause-rows
returns-clause-rows c =
    sym (all_taken c.args.taken.now c.rows.at c.rows.rows.items (omega arith)) ∙ c.rows.invariant.0
