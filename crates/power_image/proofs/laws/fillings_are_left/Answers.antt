use Rattle.power_image.proofs.Filling.{filled_may, left_filled}
use Rattle.power_image.proofs.laws.fillings_are_left.Goals as goal

pub returns-clause-may : goal.returns-clause-may
returns-clause-may c = filled_may

pub returns-clause-each : goal.returns-clause-each
returns-clause-each c flags bytes left long may = left_filled flags bytes left long may.long may.same
