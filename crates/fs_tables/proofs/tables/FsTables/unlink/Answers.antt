use Rattle.std.proofs.Common.{◌≡◌, ◌<◌, ◌^◌, List, ℕ, Some, Ok, is_some, true, refl, ap, sym, subst, ◌∙◌, arith}
use Rattle.std.specs.List.{AllByRecursion}
use Rattle.record_model.specs.Grammar.{IsWritable}
use Rattle.record_model.specs.declared.types.Extent.{Extent}
use Rattle.fs_model.specs.FsState.{FsState, TableRow, row_named}
use Rattle.fs_model.specs.TreeSteps.{drop_name}
use Rattle.extent_map.specs.Naming.{lost_extents}
use Rattle.extent_map.specs.Records.{recorded_of, snapshot_len}
use Rattle.extent_map.proofs.GrowthLaws.{snapshot_dropped}
use Rattle.change_records.proofs.Writable.{unlink_stays_writable}
use Rattle.fs_tables.specs.MountedTables.{MountedTables, state_from}
use Rattle.fs_tables.specs.Released.{AreLive, released}
use Rattle.fs_tables.proofs.NeedLaws.{file_there}
use Rattle.fs_tables.proofs.FileChanges.{IsWhole, all_whole, whole_left, extents_of_rows}
use Rattle.fs_tables.proofs.LosingLaws.{can_lose, mounted_without, state_without}
use Rattle.fs_tables.proofs.tables.FsTables.unlink.Goals as goal

pub release-requires : goal.release-requires
release-requires c =
    let t = c.self.inside in
    let name : List ℕ = c.args.name.now in
    let there = subst (λ (m : MountedTables). is_some (row_named name m.state.rows) ≡ true) (sym c.self.view_is) c.requires in
    let found = file_there (row_named name t.files.rows) there in
    let can = can_lose t.geometry t.log t.files t.zones name found.0 c.self.invariant c.valid.ensures.table found.1 in
    subst (λ (xs : List Extent). AreLive xs t.zones) (sym c.lost_extents.ensures) can.done.live

pub invariant_of-self : goal.invariant_of-self
invariant_of-self c =
    let t = c.self.inside in
    let are = c.self.invariant in
    let rows : List TableRow = t.files.rows in
    let name : List ℕ = c.args.name.now in
    let there = subst (λ (m : MountedTables). is_some (row_named name m.state.rows) ≡ true) (sym c.self.view_is) c.requires in
    let found = file_there (row_named name rows) there in
    let can = can_lose t.geometry t.log t.files t.zones name found.0 are c.valid.ensures.table found.1 in
    let made : c.unlink.new.self.rows ≡ drop_name name rows = (rw c.unwrap.ensures at c.unlink.ensures.rows) in
    let whole = whole_left name rows (all_whole rows are.sound.settled) in
    let writable = (unlink_stays_writable rows found.0 name are.sound.writable found.1).again in
    let short : snapshot_len (drop_name name rows) < 2 ^ 62 = omega (arith, snapshot_dropped name rows, are.sound.short) in
    mounted_without t.geometry t.log t.files c.unlink.new.self t.zones c.release.new.zones name are can
    (c.release.ensures ∙ ap (λ (xs : List Extent). released xs t.zones) c.lost_extents.ensures)
    (ap extents_of_rows made)
    (subst (λ (rs : List TableRow). AllByRecursion IsWhole rs) (sym made) whole)
    (subst (λ (rs : List TableRow). AllByRecursion IsWritable (recorded_of rs)) (sym made) writable)
    (subst (λ (rs : List TableRow). snapshot_len rs < 2 ^ 62) (sym made) short)

pub returns : goal.returns
returns c =
    let t = c.self.inside in
    let name : List ℕ = c.args.name.now in
    let s : FsState = state_from t.geometry t.log t.files t.zones in
    let made : c.unlink.new.self.rows ≡ drop_name name t.files.rows = (rw c.unwrap.ensures at c.unlink.ensures.rows) in
    state_without t.geometry t.log c.unlink.new.self t.zones c.release.new.zones c.lost_extents.result.now c.release.ensures
    ∙ ap (λ (rs : List TableRow). record s { rows = rs; greatest = c.unlink.new.self.greatest }) made
    ∙ ap (λ n. record s { rows = drop_name name t.files.rows; greatest = n }) c.unlink.ensures.greatest
    ∙ ap (λ (m : MountedTables). record (m.state) { rows = drop_name name m.state.rows }) c.self.view_is
