use Rattle.std.proofs.Common.{◌∙◌, ap, sym, subst}
use Rattle.fs_report.proofs.DumpTexts.{texts_pushed, whole_pushed}
use Rattle.fs_report.specs.DumpValues.{HaveNoFloat, texts_of}
use Rattle.fs_report.proofs.dump_values.push_value.Goals as goal

pub returns-clause-texts : goal.returns-clause-texts
returns-clause-texts c = ap texts_of c.in_ok-push.ensures.ok ∙ texts_pushed c.args.values.now.items c.args.value

pub returns-clause-whole : goal.returns-clause-whole
returns-clause-whole c = λ whole h. subst HaveNoFloat (sym c.in_ok-push.ensures.ok) (whole_pushed c.args.values.now.items c.args.value whole h)
