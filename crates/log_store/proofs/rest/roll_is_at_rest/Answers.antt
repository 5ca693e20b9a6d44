use Rattle.log_store.proofs.RollLaws.{roll_is_at_rest}
use Rattle.log_store.proofs.rest.roll_is_at_rest.Goals as goal

pub returns : goal.returns
returns c = roll_is_at_rest
