use Rattle.std.proofs.Common.{subst}
use Rattle.fs_tables.specs.MountedTables.{IsSoundState, MountedTables}
use Rattle.fs_tables.proofs.NeedLaws.{rows_sized}
use Rattle.fs_tables.proofs.tables.FsTables.valid.Goals as goal

pub returns : goal.returns
returns c =
    subst (λ (t : MountedTables). IsSoundState t.state) c.self.view_is
    (record { sound = c.self.invariant.sound; table = c.valid.ensures.table.table; sized = rows_sized c.self.inside.files.rows c.valid.ensures.rows })
