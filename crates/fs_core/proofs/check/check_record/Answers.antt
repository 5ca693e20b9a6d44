use Rattle.std.proofs.Common.{sym}
use Rattle.std.proofs.lemmas.Bool.{and_from}
use Rattle.fs_model.specs.LogSteps.{must_roll, at_sequence_end}
use Rattle.fs_core.proofs.Checks.{record_is_refused}
use Rattle.fs_core.proofs.check.check_record.Goals as goal

pub returns-then-at_sequence_end-clause-refused : goal.returns-then-at_sequence_end-clause-refused
returns-then-at_sequence_end-clause-refused c =
    let s = c.args.tables.now.state in
    record_is_refused s c.args.blocks
    (and_from (must_roll s c.args.blocks) (at_sequence_end s) (sym c.if-must_roll.ensures.exact) (sym c.if-at_sequence_end.ensures))
