use Rattle.std.proofs.Common.{◌≡◌, ◌<◌, ◌≤◌, ◌^◌, List, map, ap, sym, subst, ◌∙◌, arith}
use Rattle.std.specs.List.{AllByRecursion}
use Rattle.record_model.specs.Grammar.{IsWritable}
use Rattle.fs_model.specs.FsState.{TableRow}
use Rattle.fs_model.specs.TreeSteps.{cleared}
use Rattle.extent_map.specs.Records.{recorded_of, snapshot_len}
use Rattle.extent_map.specs.TableState.{TableState}
use Rattle.extent_map.proofs.GrowthLaws.{snapshot_cleared}
use Rattle.change_records.proofs.StepsWithoutRecord.{mount_clears_points}
use Rattle.fs_tables.proofs.FileChanges.{IsWhole, all_whole, whole_cleared, extents_of_rows, extents_cleared, mounted_files}
use Rattle.fs_tables.proofs.tables.FsTables.clear_points.Goals as goal

pub invariant_of-self : goal.invariant_of-self
invariant_of-self c =
    let t = c.self.inside in
    let are = c.self.invariant in
    let rows : List TableRow = t.files.rows in
    let made = c.clear_points.ensures.rows in
    let whole = whole_cleared rows (all_whole rows are.sound.settled) in
    let writable = (mount_clears_points rows).writable are.sound.writable in
    let short : snapshot_len (map cleared rows) < 2 ^ 62 = omega (arith, snapshot_cleared rows, are.sound.short) in
    mounted_files t.geometry t.log t.files c.clear_points.new.self t.zones are
    (subst (λ (rs : List TableRow). AllByRecursion IsWhole rs) (sym made) whole)
    (subst (λ (rs : List TableRow). AllByRecursion IsWritable (recorded_of rs)) (sym made) writable)
    (ap extents_of_rows made ∙ extents_cleared rows)
    (subst (λ (rs : List TableRow). snapshot_len rs < 2 ^ 62) (sym made) short)
