use Rattle.std.proofs.Common.{◌≡◌, List, ℕ, None, is_some, true, sym, subst}
use Rattle.std.specs.Prelude.{IsTrue}
use Rattle.record_model.specs.Grammar.{InGrammar}
use Rattle.record_model.specs.Name.{is_name}
use Rattle.record_model.specs.declared.types.Record.{Record}
use Rattle.fs_model.specs.FsState.{TableRow, row_named}
use Rattle.change_records.specs.Recorded.{AreValid}
use Rattle.change_records.proofs.Writable.{link_stays_writable}
use Rattle.fs_tables.specs.MountedTables.{MountedTables}
use Rattle.fs_tables.proofs.NeedLaws.{file_there, rows_sized}
use Rattle.fs_tables.proofs.tables.FsTables.link_record.Goals as goal

pub returns-clause-grammar : goal.returns-clause-grammar
returns-clause-grammar c =
    let rows : List TableRow = c.self.inside.files.rows in
    let old : List ℕ = c.args.old.now in
    let new : List ℕ = c.args.new.now in
    let free = subst (λ (m : MountedTables). row_named new m.state.rows ≡ None) (sym c.self.view_is) c.requires.free in
    let good : IsTrue (is_name new) = subst (λ (n : List ℕ). IsTrue (is_name n)) c.items.ensures.bytes c.items.ensures.rule in
    let there = subst (λ (m : MountedTables). is_some (row_named old m.state.rows) ≡ true) (sym c.self.view_is) c.requires.there in
    let found = file_there (row_named old rows) there in
    subst (λ (r : Record). InGrammar r) (sym (c.in_ok-update.ensures found.0 found.1)) (link_stays_writable rows found.0 old new c.self.invariant.sound.writable found.1 free good).spelled
