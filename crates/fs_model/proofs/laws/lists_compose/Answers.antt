use Rattle.fs_model.proofs.EachLaws.{each_then, each_stops}
use Rattle.fs_model.proofs.laws.lists_compose.Goals as goal

pub returns-clause-goes_on : goal.returns-clause-goes_on
returns-clause-goes_on g c = each_then

pub returns-clause-stops : goal.returns-clause-stops
returns-clause-stops g c = each_stops
