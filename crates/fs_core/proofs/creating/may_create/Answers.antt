use Rattle.std.proofs.lemmas.Bool.{eq-eqb, ne_eqb}
use Rattle.std.proofs.Common.{◌+◌, ◌-◌, ◌^◌, List, sym, ◌∙◌, ap}
use Rattle.fs_model.specs.FsState.{TableRow}
use Rattle.fs_model.specs.TreeSteps.{create}
use Rattle.change_steps.specs.NameChanges.{create_demand}
use Rattle.change_steps.proofs.NameLaws.{create_asks, create_finds_name, create_finds_no_id}
use Rattle.extent_map.specs.Lookups.{id_named}
use Rattle.fs_core.proofs.Refusals.{needed_wanting, none_named, some_named, wanting_refuses}
use Rattle.fs_core.proofs.creating.may_create.Goals as goal

pub returns-in-Some-clause-refused : goal.returns-in-Some-clause-refused
returns-in-Some-clause-refused c = λ hint time.
    let s = c.args.tables.now.state in
    let name = c.args.name.now in
    let row = some_named name s.rows c.in-Some.field-0 (c.in-Some.ensures ∙ ap (λ (rows : List TableRow). id_named name rows) c.files.ensures.files) in
    record { steps = create_finds_name s name hint c.args.sparse time row.0 row.1; early = tt }

pub returns-then-greatest-eq-LAST_ID-clause-refused :
    goal.returns-then-greatest-eq-LAST_ID-clause-refused
returns-then-greatest-eq-LAST_ID-clause-refused c = λ hint time.
    let s = c.args.tables.now.state in
    let name = c.args.name.now in
    let free = none_named name s.rows (c.in-None.ensures ∙ ap (λ (rows : List TableRow). id_named name rows) c.files.ensures.files) in
    record {
      steps = create_finds_no_id s name hint c.args.sparse time free (eq-eqb s.greatest (2 ^ 64 - 2) (sym (c.greatest.ensures ∙ c.files-2.ensures.greatest) ∙ c.if-greatest-eq-LAST_ID.true));
      early = tt;
    }

pub returns-in-Err-clause-refused : goal.returns-in-Err-clause-refused
returns-in-Err-clause-refused c = λ hint time.
    let s = c.args.tables.now.state in
    let name = c.args.name.now in
    let sparse = c.args.sparse in
    let free = none_named name s.rows (c.in-None.ensures ∙ ap (λ (rows : List TableRow). id_named name rows) c.files.ensures.files) in
    let left = ne_eqb s.greatest (2 ^ 64 - 2) (λ same. c.if-greatest-eq-LAST_ID.false (c.greatest.ensures ∙ c.files-2.ensures.greatest ∙ same)) in
    wanting_refuses (create name hint sparse time) (s.greatest + 1) (create_demand s name hint sparse time) s c.in-Err.why (create_asks s name hint sparse time free left)
    (needed_wanting s _ _ c.create_need.result c.in-Err.why (c.create_need.ensures (s.greatest + 1) hint time) c.in-Err.ensures.refused)
