use Rattle.std.proofs.Common.{◌≡◌, ◌+◌, ◌++◌, [], ◌∷◌, List, take, ap, sym, subst, ◌∙◌, arith, add-one}
use Rattle.std.proofs.lemmas.List.{map-append, take_all, take_more}
use Rattle.fs_model.specs.FsState.{TableRow}
use Rattle.extent_map.specs.Holding.{AreKnown}
use Rattle.extent_map.specs.Records.{recorded_of}
use Rattle.extent_map.proofs.SettingLaws.{settled_to, settled_next, settled_all}
use Rattle.extent_map.proofs.holders.holders_of.Goals as goal

pub loop-row-preserved : goal.loop-row-preserved
loop-row-preserved c =
    let rows = c.args.rows.now in
    let at = c.loop-row.row-index in
    let row : TableRow = c.row-item.result in
    let more : recorded_of (take (at + 1) rows) ≡ recorded_of (take at rows) ++ row.entry ∷ [] =
    ap recorded_of (take_more rows at row (omega arith) ∙ ap (λ (r : TableRow). take at rows ++ r ∷ []) (sym c.row-item.is)) ∙ map-append (λ (r : TableRow). r.entry) (take at rows) (row ∷ []) in (
      subst (AreKnown c.in_ok-holders.holders) (sym more) (c.in_ok-holders.ensures.known (recorded_of (take at rows)) c.loop-row.invariant.0),
      subst (λ k. settled_to k rows) (sym (add-one at)) (settled_next at rows row (omega arith) c.row-item.is c.in_ok-holders.ensures.settled c.loop-row.invariant.1),
    )

pub returns-clause-known : goal.returns-clause-known
returns-clause-known c =
    subst (λ (rs : List TableRow). AreKnown c.loop-row.holders (recorded_of rs)) (take_all c.loop-row.row-index c.args.rows.now c.loop-row-test.false) c.loop-row.invariant.0

pub returns-clause-settled : goal.returns-clause-settled
returns-clause-settled c = settled_all c.loop-row.row-index c.args.rows.now c.loop-row-test.false c.loop-row.invariant.1
