use Rattle.fs_model.proofs.PartLaws.{then_assoc}
use Rattle.fs_model.proofs.laws.grouping_is_free.Goals as goal

pub returns : goal.returns
returns g c = then_assoc
