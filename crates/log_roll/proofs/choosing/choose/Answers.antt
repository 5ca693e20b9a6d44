use Rattle.std.proofs.Common.{sym, ◌∙◌}
use Rattle.log_roll.proofs.choosing.choose.Goals as goal

pub returns-in-Ok-Err-clause-refused : goal.returns-in-Ok-Err-clause-refused
returns-in-Ok-Err-clause-refused g c = λ told. c.refused.ensures.same _ (sym (c.in-Ok-Err.ensures.exact told) ∙ c.in-Ok-Err.field-0-is)
