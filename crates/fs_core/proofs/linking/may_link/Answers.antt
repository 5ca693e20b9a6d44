use Rattle.std.proofs.Common.{ℕ, List, ◌∙◌, ap, subst}
use Rattle.std.specs.Prelude.{IsTrue}
use Rattle.record_model.specs.Name.{is_name}
use Rattle.fs_model.specs.FsState.{TableRow}
use Rattle.fs_model.specs.TreeSteps.{link}
use Rattle.change_steps.specs.NameChanges.{link_demand}
use Rattle.change_steps.proofs.NameLaws.{link_asks, link_finds_name, link_finds_no_file}
use Rattle.extent_map.specs.Lookups.{id_named}
use Rattle.fs_core.proofs.Refusals.{needed_granted, needed_wanting, none_named, some_named, wanting_refuses}
use Rattle.fs_core.proofs.linking.may_link.Goals as goal

pub returns-in-None-clause-refused : goal.returns-in-None-clause-refused
returns-in-None-clause-refused c =
    let s = c.args.tables.now.state in
    record { steps = link_finds_no_file s c.args.old.now c.args.new.now (none_named c.args.old.now s.rows (c.in-None.ensures ∙ ap (λ (rows : List TableRow). id_named c.args.old.now rows) c.files.ensures.files)); early = tt }

pub returns-in-Some-find-clause-refused : goal.returns-in-Some-find-clause-refused
returns-in-Some-find-clause-refused c =
    let s = c.args.tables.now.state in
    let old = c.args.old.now in
    let new = c.args.new.now in
    let row = some_named old s.rows c.in-Some.id (c.in-Some.ensures ∙ ap (λ (rows : List TableRow). id_named old rows) c.files.ensures.files) in
    let other = some_named new s.rows c.in-Some-find.field-0 (c.in-Some-find.ensures ∙ ap (λ (rows : List TableRow). id_named new rows) c.files-2.ensures.files) in
    record { steps = link_finds_name s old new row.0 other.0 row.1 other.1; early = tt }

pub returns-in-Ok-clause-granted : goal.returns-in-Ok-clause-granted
returns-in-Ok-clause-granted c =
    let s = c.args.tables.now.state in
    let old = c.args.old.now in
    let new = c.args.new.now in
    let row = some_named old s.rows c.in-Some.id (c.in-Some.ensures ∙ ap (λ (rows : List TableRow). id_named old rows) c.files.ensures.files) in
    record {
      row = row.0;
      found = row.1;
      free = none_named new s.rows (c.in-None-find.ensures ∙ ap (λ (rows : List TableRow). id_named new rows) c.files-2.ensures.files);
      named = subst (λ (bytes : List ℕ). IsTrue (is_name bytes)) c.items.ensures.bytes c.items.ensures.rule;
      granted = needed_granted s _ _ c.link_need.result (c.link_need.ensures row.0 row.1) c.in-Ok.ensures.granted;
    }

pub returns-in-Err-clause-refused : goal.returns-in-Err-clause-refused
returns-in-Err-clause-refused c =
    let s = c.args.tables.now.state in
    let old = c.args.old.now in
    let new = c.args.new.now in
    let row = some_named old s.rows c.in-Some.id (c.in-Some.ensures ∙ ap (λ (rows : List TableRow). id_named old rows) c.files.ensures.files) in
    let free = none_named new s.rows (c.in-None-find.ensures ∙ ap (λ (rows : List TableRow). id_named new rows) c.files-2.ensures.files) in
    wanting_refuses (link old new) tt (link_demand s row.0 new) s c.in-Err.why (link_asks s old new row.0 row.1 free)
    (needed_wanting s _ _ c.link_need.result c.in-Err.why (c.link_need.ensures row.0 row.1) c.in-Err.ensures.refused)
