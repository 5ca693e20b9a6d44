use Rattle.power_image.proofs.Fitting.{one_fits, grown_fit}
use Rattle.power_image.proofs.laws.changes_fit.Goals as goal

pub returns-clause-one : goal.returns-clause-one
returns-clause-one c g zone ds count in_range old new = one_fits g zone ds count in_range old new

pub returns-clause-several : goal.returns-clause-several
returns-clause-several c g opening ds after long limit grows = grown_fit g opening ds after long limit grows
