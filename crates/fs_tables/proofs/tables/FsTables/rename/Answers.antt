use Rattle.std.proofs.Common.{◌≡◌, ◌<◌, ◌^◌, List, ℕ, Some, is_some, true, ap, sym, subst, ◌∙◌}
use Rattle.std.specs.List.{AllByRecursion}
use Rattle.std.specs.Option.{ForSome}
use Rattle.std.specs.Prelude.{IsTrue}
use Rattle.record_model.specs.Grammar.{IsWritable}
use Rattle.record_model.specs.Name.{is_name}
use Rattle.record_model.specs.declared.types.Extent.{Extent}
use Rattle.fs_model.specs.FsState.{FsState, TableRow, row_named}
use Rattle.fs_model.specs.TreeSteps.{renamed_rows}
use Rattle.extent_map.specs.Records.{recorded_of, snapshot_len}
use Rattle.change_records.specs.Recorded.{AreValid}
use Rattle.change_records.proofs.Writable.{rename_stays_writable}
use Rattle.fs_tables.specs.MountedTables.{MountedTables, state_from}
use Rattle.fs_tables.specs.Released.{AreLive, released}
use Rattle.fs_tables.proofs.NeedLaws.{file_there, rows_sized}
use Rattle.fs_tables.proofs.LosingLaws.{lost_live, mounted_renamed, state_without}
use Rattle.fs_tables.proofs.tables.FsTables.rename.Goals as goal

pub release-requires : goal.release-requires
release-requires c =
    let t = c.self.inside in
    subst (λ (xs : List Extent). AreLive xs t.zones) (sym c.lost_extents.ensures) (lost_live t.geometry t.log t.files t.zones c.args.new c.self.invariant c.valid.ensures.table)

pub invariant_of-self : goal.invariant_of-self
invariant_of-self c =
    let t = c.self.inside in
    let are = c.self.invariant in
    let rows : List TableRow = t.files.rows in
    let old : List ℕ = c.args.old.now in
    let new : List ℕ = c.args.new in
    let there = subst (λ (m : MountedTables). is_some (row_named old m.state.rows) ≡ true) (sym c.self.view_is) c.requires.there in
    let found = file_there (row_named old rows) there in
    let r : TableRow = found.0 in
    let shorts = subst (λ (m : MountedTables). ForSome (row_named old m.state.rows) (λ q. snapshot_len (renamed_rows q (row_named new m.state.rows) old new m.state.rows) < 2 ^ 62)) (sym c.self.view_is) c.requires.short in
    let made : c.rename.new.self.rows ≡ renamed_rows r (row_named new rows) old new rows = c.rename.ensures.rows r found.1 in
    let good : IsTrue (is_name new) = subst (λ (n : List ℕ). IsTrue (is_name n)) c.items.ensures.bytes c.items.ensures.rule in
    let valid : AreValid rows = record { table = c.valid.ensures.table.table; sized = rows_sized rows c.valid.ensures.rows } in
    let writable = (rename_stays_writable rows r old new valid are.sound.writable found.1 good).again in
    let differs = rw (c.find.ensures, c.find-2.ensures) at (sym c.eq.ensures ∙ c.if-eq.false) in
    mounted_renamed t.geometry t.log t.files c.rename.new.self t.zones c.release.new.zones old new r are c.valid.ensures.table found.1 differs
    (c.release.ensures ∙ ap (λ (xs : List Extent). released xs t.zones) c.lost_extents.ensures) made
    (subst (λ (rs : List TableRow). AllByRecursion IsWritable (recorded_of rs)) (sym made) writable)
    (subst (λ (rs : List TableRow). snapshot_len rs < 2 ^ 62) (sym made) (shorts r found.1))

pub returns : goal.returns
returns c = λ x is.
    let t = c.self.inside in
    let rows : List TableRow = t.files.rows in
    let old : List ℕ = c.args.old.now in
    let new : List ℕ = c.args.new in
    let s : FsState = state_from t.geometry t.log t.files t.zones in
    let found : row_named old rows ≡ Some x = ap (λ (m : MountedTables). row_named old m.state.rows) c.self.view_is ∙ is in
    let made : c.rename.new.self.rows ≡ renamed_rows x (row_named new rows) old new rows = c.rename.ensures.rows x found in
    state_without t.geometry t.log c.rename.new.self t.zones c.release.new.zones c.lost_extents.result.now c.release.ensures
    ∙ ap (λ (rs : List TableRow). record s { rows = rs; greatest = c.rename.new.self.greatest }) made
    ∙ ap (λ n. record s { rows = renamed_rows x (row_named new rows) old new rows; greatest = n }) c.rename.ensures.greatest
    ∙ ap (λ (m : MountedTables). record (m.state) { rows = renamed_rows x (row_named new m.state.rows) old new m.state.rows }) c.self.view_is
