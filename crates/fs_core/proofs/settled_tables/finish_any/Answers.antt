use Rattle.std.proofs.Common.{◌∙◌, ap, sym}
use Rattle.log_store.specs.Settling.{infos_sealed}
use Rattle.fs_tables.specs.Steps.{infos_in}
use Rattle.fs_tables.proofs.StepLaws.{infos_after_finish}
use Rattle.fs_core.proofs.settled_tables.finish_any.Goals as goal

pub returns-in-Some-clause-infos : goal.returns-in-Some-clause-infos
returns-in-Some-clause-infos c = ap infos_in c.finish.ensures.state ∙ infos_after_finish c.args.tables.now.state c.in-Some.zone ∙ ap (infos_sealed (infos_in c.args.tables.now.state)) (sym c.in-Some.is)
