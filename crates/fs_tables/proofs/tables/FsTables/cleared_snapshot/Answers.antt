use Rattle.std.proofs.Common.{sym, subst}
use Rattle.record_model.specs.Grammar.{InGrammar}
use Rattle.record_model.specs.declared.types.Record.{Record}
use Rattle.change_records.proofs.StepsWithoutRecord.{mount_clears_points}
use Rattle.fs_tables.proofs.tables.FsTables.cleared_snapshot.Goals as goal

pub returns-clause-grammar : goal.returns-clause-grammar
returns-clause-grammar c =
    subst (λ (r : Record). InGrammar r) (sym c.in_ok-snapshot.ensures) ((mount_clears_points c.self.inside.files.rows).writable c.self.invariant.sound.writable)
