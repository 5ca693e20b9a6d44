use Rattle.change_cover.proofs.ShownTrees.{rest_shows_recorded}
use Rattle.change_cover.proofs.shown.rest_shows_recorded.Goals as goal

pub returns : goal.returns
returns c = rest_shows_recorded
