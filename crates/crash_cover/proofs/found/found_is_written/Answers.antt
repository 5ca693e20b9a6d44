use Rattle.crash_cover.proofs.FoundLaws.{found_is_written}
use Rattle.crash_cover.proofs.found.found_is_written.Goals as goal

pub returns : goal.returns
returns c = found_is_written
