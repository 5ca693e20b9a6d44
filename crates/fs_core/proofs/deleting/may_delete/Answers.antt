use Rattle.std.proofs.Common.{List, None, sym, ◌∙◌, ap, subst}
use Rattle.fs_model.specs.FsState.{TableRow}
use Rattle.fs_model.specs.TreeSteps.{delete}
use Rattle.change_steps.specs.NameChanges.{delete_demand}
use Rattle.change_steps.proofs.NameLaws.{delete_asks, delete_finds_no_file}
use Rattle.extent_map.specs.Lookups.{id_named}
use Rattle.fs_core.specs.Granting.{IsGranted, IsWanting}
use Rattle.fs_core.specs.NameCalls.{IsRefusal, MayDelete}
use Rattle.fs_core.proofs.Refusals.{err_gives, none_named, ok_gives, some_named, wanting_refuses}
use Rattle.fs_core.proofs.deleting.may_delete.Goals as goal

pub returns-in-None-clause-refused : goal.returns-in-None-clause-refused
returns-in-None-clause-refused c =
    let s = c.args.tables.now.state in
    let name = c.args.name.now in
    record { steps = delete_finds_no_file s name (none_named name s.rows (c.in-None.ensures ∙ ap (λ (rows : List TableRow). id_named name rows) c.files.ensures.files)); early = tt }

pub returns-in-Some-clause-granted : goal.returns-in-Some-clause-granted
returns-in-Some-clause-granted c =
    let s = c.args.tables.now.state in
    let name = c.args.name.now in
    let row = some_named name s.rows c.in-Some.field-0 (c.in-Some.ensures ∙ ap (λ (rows : List TableRow). id_named name rows) c.files.ensures.files) in
    ok_gives _ (MayDelete s name) c.grant_sequence.result c.grant_sequence.ensures.granted
    (λ granted. record { row = row.0; found = row.1; one = sym (c.delete_blocks.ensures.record row.0.entry.id) ∙ c.delete_blocks.ensures.one; granted = subst (λ n. IsGranted s n None) (c.delete_blocks.ensures.record row.0.entry.id) granted })

pub returns-in-Some-clause-refused : goal.returns-in-Some-clause-refused
returns-in-Some-clause-refused c =
    let s = c.args.tables.now.state in
    let name = c.args.name.now in
    let row = some_named name s.rows c.in-Some.field-0 (c.in-Some.ensures ∙ ap (λ (rows : List TableRow). id_named name rows) c.files.ensures.files) in
    err_gives (IsWanting s c.delete_blocks.result None) (IsRefusal (delete name) s) c.grant_sequence.result c.grant_sequence.ensures.refused
    (λ why wanting. wanting_refuses (delete name) tt (delete_demand s row.0 name) s why (delete_asks s name row.0 row.1)
    (subst (λ n. IsWanting s n None why) (c.delete_blocks.ensures.record row.0.entry.id) wanting))
