use Rattle.std.proofs.Common.{not, ap, ◌∙◌}
use Rattle.extent_map.proofs.NameLaws.{some_left}
use Rattle.extent_map.proofs.name_lists.keeps_name.Goals as goal

pub returns : goal.returns
returns c = ap not c.are_among.ensures ∙ some_left c.args.taken.now c.args.names.now
