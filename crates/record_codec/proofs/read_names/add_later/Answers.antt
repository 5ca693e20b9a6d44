use Rattle.std.proofs.Common.{arith}
use Rattle.record_codec.proofs.NameSetLaws.{few_more, later_more}
use Rattle.record_codec.proofs.read_names.add_later.Goals as goal

pub returns-then-count-lt-FEW-clause-added : goal.returns-then-count-lt-FEW-clause-added
returns-then-count-lt-FEW-clause-added c = λ names is h. few_more names _ _ (omega arith) h

pub returns-clause-added : goal.returns-clause-added
returns-clause-added c = λ names is h. later_more names c.args.later.now c.insert.new.self c.args.name (omega arith) c.in_ok-insert.ensures.updates h
