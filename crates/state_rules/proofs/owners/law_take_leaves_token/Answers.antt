use Rattle.state_rules.proofs.Tokens.{take_leaves_token}
use Rattle.state_rules.proofs.owners.law_take_leaves_token.Goals as goal

pub returns : goal.returns
returns c = take_leaves_token
