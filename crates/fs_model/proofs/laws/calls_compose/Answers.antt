use Rattle.fs_model.proofs.TraceLaws.{refines_then, refines_stops}
use Rattle.fs_model.proofs.laws.calls_compose.Goals as goal

pub returns-clause-goes_on : goal.returns-clause-goes_on
returns-clause-goes_on g c = refines_then

pub returns-clause-stops : goal.returns-clause-stops
returns-clause-stops g c = refines_stops
