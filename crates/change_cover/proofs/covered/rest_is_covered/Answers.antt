use Rattle.change_cover.proofs.CoveredLaws.{rest_is_covered}
use Rattle.change_cover.proofs.covered.rest_is_covered.Goals as goal

pub returns : goal.returns
returns c = rest_is_covered
