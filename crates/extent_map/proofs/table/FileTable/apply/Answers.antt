use Rattle.std.proofs.Common.{◌≡◌, [], List, arith, ap, sym, subst, ◌∙◌}
use Rattle.std.proofs.lemmas.List.Elements.{All-from_recursion, recursion_from_All}
use Rattle.std.specs.List.{AllByRecursion}
use Rattle.log_model.specs.FileTable.{after_record}
use Rattle.log_model.specs.TableLaws.{IdsRise}
use Rattle.log_model.proofs.TableKept.{record_keeps_table}
use Rattle.fs_model.specs.FsState.{TableRow, greatest_id}
use Rattle.extent_map.specs.Applying.{AreSettled}
use Rattle.extent_map.specs.Records.{recorded_of}
use Rattle.extent_map.specs.TableState.{TableState}
use Rattle.extent_map.proofs.ApplyLaws.{below_greatest, named_record}
use Rattle.extent_map.proofs.SettingLaws.{plain_recorded, plain_rows, plain_settled, settled_rows}
use Rattle.extent_map.proofs.table.FileTable.apply.Goals as goal

pub change_rows-requires-clause-plain : goal.change_rows-requires-clause-plain
change_rows-requires-clause-plain c =
    let recorded = recursion_from_All (λ (r : TableRow). r.unrecorded ≡ []) c.args.self.now.rows c.requires.recorded in
    plain_rows c.self.inside.rows.items
    (subst (AllByRecursion (λ (r : TableRow). r.unrecorded ≡ [])) (sym (ap (λ (t : TableState). t.rows) c.self.view_is)) recorded)
    (subst AreSettled c.deref.ensures.value c.in_ok-holders.ensures.settled)

pub greatest_id-self-inside-requires : goal.greatest_id-self-inside-requires
greatest_id-self-inside-requires c =
    let old = recorded_of c.self.inside.rows.items in
    let new = recorded_of c.change_rows.new.rows.items in
    let table = record_keeps_table old new c.args.value.now c.self.invariant.0.table (named_record c.args.value.now c.requires.grammar) c.in_ok-self-inside.ensures.made in
    subst (λ (rows : List TableRow). IdsRise 0 (recorded_of rows)) (sym c.deref-2.ensures.value) table.ids

pub invariant_of-self-2 : goal.invariant_of-self-2
invariant_of-self-2 c =
    let old = recorded_of c.self.inside.rows.items in
    let rows = c.change_rows.new.rows.items in
    let greatest : greatest_id (recorded_of rows) ≡ c.greatest_id-self-inside.result =
    ap (λ (rs : List TableRow). greatest_id (recorded_of rs)) (sym c.deref-2.ensures.value) ∙ sym c.greatest_id-self-inside.ensures.greatest in (
      record {
        table = record_keeps_table old (recorded_of rows) c.args.value.now c.self.invariant.0.table (named_record c.args.value.now c.requires.grammar) c.in_ok-self-inside.ensures.made;
        above = below_greatest rows c.greatest_id-self-inside.result (omega (arith, greatest));
        limit = c.greatest_id-self-inside.ensures.limit;
      },
      λ holders is. (c.in_ok-self-inside.ensures.known holders is, plain_settled rows c.in_ok-self-inside.ensures.plain),
    )

pub returns-clause-made : goal.returns-clause-made
returns-clause-made c = record {
  made = ap (λ (t : TableState). after_record c.args.value.now (recorded_of t.rows)) (sym c.self.view_is) ∙ c.in_ok-self-inside.ensures.made;
  settled = settled_rows c.change_rows.new.rows.items c.in_ok-self-inside.ensures.plain;
}

pub returns-clause-recorded : goal.returns-clause-recorded
returns-clause-recorded c =
    All-from_recursion (λ (r : TableRow). r.unrecorded ≡ []) c.change_rows.new.rows.items (plain_recorded c.change_rows.new.rows.items c.in_ok-self-inside.ensures.plain)
