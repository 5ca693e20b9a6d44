use Rattle.std.proofs.Common.{◌≡◌, ◌<◌, ◌^◌, ◌++◌, ◌∷◌, [], List, ℕ, Some, None, Ok, is_some, true, ap, sym, subst, ◌∙◌}
use Rattle.std.specs.List.{AllByRecursion}
use Rattle.record_model.specs.Grammar.{IsWritable}
use Rattle.record_model.specs.Name.{is_name}
use Rattle.std.specs.Prelude.{IsTrue, OnOk}
use Rattle.std.specs.Option.{ForSome}
use Rattle.fs_model.specs.FsState.{TableRow, row_named}
use Rattle.extent_map.specs.Naming.{linked_rows}
use Rattle.extent_map.specs.Records.{recorded_of, snapshot_len}
use Rattle.change_records.proofs.Writable.{link_stays_writable}
use Rattle.fs_tables.specs.MountedTables.{MountedTables}
use Rattle.fs_tables.proofs.NeedLaws.{file_there}
use Rattle.fs_tables.proofs.FileChanges.{IsWhole, all_whole, whole_named, extents_of_rows, extents_named, mounted_files}
use Rattle.fs_tables.proofs.tables.FsTables.link.Goals as goal

pub invariant_of-self : goal.invariant_of-self
invariant_of-self c =
    let t = c.self.inside in
    let are = c.self.invariant in
    let rows : List TableRow = t.files.rows in
    let old : List ℕ = c.args.old.now in
    let new : List ℕ = c.args.new in
    let there = subst (λ (m : MountedTables). is_some (row_named old m.state.rows) ≡ true) (sym c.self.view_is) c.requires.there in
    let found = file_there (row_named old rows) there in
    let r : TableRow = found.0 in
    let free = subst (λ (m : MountedTables). row_named new m.state.rows ≡ None) (sym c.self.view_is) c.requires.free in
    let shorts = subst (λ (m : MountedTables). ForSome (row_named old m.state.rows) (λ q. snapshot_len (linked_rows new q m.state.rows) < 2 ^ 62)) (sym c.self.view_is) c.requires.short in
    let made = (rw c.unwrap.ensures at c.link.ensures.rows) r found.1 in
    let good : IsTrue (is_name new) = subst (λ (n : List ℕ). IsTrue (is_name n)) c.items.ensures.bytes c.items.ensures.rule in
    let names : List (List ℕ) = r.entry.names ++ new ∷ [] in
    let whole = whole_named r.entry.id names rows (all_whole rows are.sound.settled) in
    let writable = (link_stays_writable rows r old new are.sound.writable found.1 free good).again in
    mounted_files t.geometry t.log t.files c.link.new.self t.zones are
    (subst (λ (rs : List TableRow). AllByRecursion IsWhole rs) (sym made) whole)
    (subst (λ (rs : List TableRow). AllByRecursion IsWritable (recorded_of rs)) (sym made) writable)
    (ap extents_of_rows made ∙ extents_named r.entry.id names rows)
    (subst (λ (rs : List TableRow). snapshot_len rs < 2 ^ 62) (sym made) (shorts r found.1))
