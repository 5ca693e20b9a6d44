use Rattle.std.proofs.Common.{Bool, sym, subst, IfErr}
use Rattle.fs_core.specs.Checking.{IsRefusedBy}
use Rattle.fs_core.proofs.check.check_log.Goals as goal

pub returns-clause-refused : goal.returns-clause-refused
returns-clause-refused c =
    subst (λ (w : Bool). IfErr c.check_mount.result (IsRefusedBy c.args.blocks w c.args.tables.now.state)) (sym c.if-writing.false) (c.check_mount.ensures.refused c.args.blocks)
