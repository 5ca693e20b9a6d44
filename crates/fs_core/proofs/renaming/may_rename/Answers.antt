use Rattle.std.proofs.Common.{ℕ, List, Some, ◌∙◌, ap, subst}
use Rattle.std.specs.Prelude.{IsTrue}
use Rattle.record_model.specs.Name.{is_name}
use Rattle.fs_model.specs.FsState.{TableRow}
use Rattle.fs_model.specs.TreeSteps.{rename}
use Rattle.change_steps.specs.NameChanges.{rename_demand}
use Rattle.change_steps.proofs.NameLaws.{rename_asks, rename_finds_no_file}
use Rattle.extent_map.specs.Lookups.{id_named}
use Rattle.fs_core.specs.Granting.{IsWanting}
use Rattle.fs_core.specs.NameCalls.{IsRefusal, MayRename}
use Rattle.fs_core.proofs.Refusals.{err_gives, needed_granted, needed_wanting, none_named, ok_gives, some_named, wanting_refuses}
use Rattle.fs_core.proofs.renaming.may_rename.Goals as goal

pub returns-in-None-clause-refused : goal.returns-in-None-clause-refused
returns-in-None-clause-refused c =
    let s = c.args.tables.now.state in
    record { steps = rename_finds_no_file s c.args.old.now c.args.new.now (none_named c.args.old.now s.rows (c.in-None.ensures ∙ ap (λ (rows : List TableRow). id_named c.args.old.now rows) c.files.ensures.files)); early = tt }

pub returns-in-Some-clause-granted : goal.returns-in-Some-clause-granted
returns-in-Some-clause-granted c =
    let s = c.args.tables.now.state in
    let old = c.args.old.now in
    let row = some_named old s.rows c.in-Some.field-0 (c.in-Some.ensures ∙ ap (λ (rows : List TableRow). id_named old rows) c.files.ensures.files) in
    ok_gives _ (MayRename s old c.args.new.now) c.grant.result c.grant.ensures.granted
    (λ granted. record {
      row = row.0;
      found = row.1;
      named = subst (λ (bytes : List ℕ). IsTrue (is_name bytes)) c.items.ensures.bytes c.items.ensures.rule;
      granted = needed_granted s _ _ c.rename_need.result (c.rename_need.ensures row.0 row.1) granted;
    })

pub returns-in-Some-clause-refused : goal.returns-in-Some-clause-refused
returns-in-Some-clause-refused c =
    let s = c.args.tables.now.state in
    let old = c.args.old.now in
    let new = c.args.new.now in
    let row = some_named old s.rows c.in-Some.field-0 (c.in-Some.ensures ∙ ap (λ (rows : List TableRow). id_named old rows) c.files.ensures.files) in
    err_gives (IsWanting s c.rename_need.result.blocks (Some c.rename_need.result.need)) (IsRefusal (rename old new) s) c.grant.result c.grant.ensures.refused
    (λ why wanting. wanting_refuses (rename old new) tt (rename_demand s row.0 old new) s why (rename_asks s old new row.0 row.1)
    (needed_wanting s _ _ c.rename_need.result why (c.rename_need.ensures row.0 row.1) wanting))
