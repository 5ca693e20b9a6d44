use Rattle.std.proofs.Common.{◌≡◌, List, ℕ, None, is_some, true, sym, subst}
use Rattle.std.specs.Prelude.{IsTrue}
use Rattle.record_model.specs.Grammar.{InGrammar}
use Rattle.record_model.specs.Name.{is_name}
use Rattle.record_model.specs.declared.types.Record.{Record}
use Rattle.fs_model.specs.FsState.{TableRow, row_named}
use Rattle.change_records.specs.Recorded.{AreValid}
use Rattle.change_records.proofs.Writable.{unlink_stays_writable}
use Rattle.fs_tables.specs.MountedTables.{MountedTables}
use Rattle.fs_tables.proofs.NeedLaws.{file_there, rows_sized}
use Rattle.fs_tables.proofs.tables.FsTables.delete_record.Goals as goal

pub returns-clause-grammar : goal.returns-clause-grammar
returns-clause-grammar c =
    let rows : List TableRow = c.self.inside.files.rows in
    let name : List ℕ = c.args.name.now in
    let there = subst (λ (m : MountedTables). is_some (row_named name m.state.rows) ≡ true) (sym c.self.view_is) c.requires in
    let found = file_there (row_named name rows) there in
    subst (λ (r : Record). InGrammar r) (sym (c.in_ok-deletion.ensures found.0 found.1)) (unlink_stays_writable rows found.0 name c.self.invariant.sound.writable found.1).spelled
