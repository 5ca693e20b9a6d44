use Rattle.fs_model.proofs.PartLaws.{refines_on_part}
use Rattle.fs_model.proofs.laws.part_is_lifted.Goals as goal

pub returns : goal.returns
returns g c = refines_on_part
