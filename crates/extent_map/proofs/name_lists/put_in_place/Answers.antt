use Rattle.std.proofs.Common.{sym}
use Rattle.extent_map.proofs.NameLaws.{renamed_absent, renamed_at}
use Rattle.extent_map.proofs.name_lists.put_in_place.Goals as goal

pub returns-in-None : goal.returns-in-None
returns-in-None c =
    let absent = rw c.deref.ensures.value at c.in-None.ensures.absent in
    sym (renamed_absent c.args.old.now c.args.new c.args.names.now.items absent)

pub returns-in-Some : goal.returns-in-Some
returns-in-Some c =
    let within = rw c.deref.ensures.value at c.in-Some.ensures.within in
    let there = rw c.deref.ensures.value at (c.in-Some.ensures.there c.args.new) in
    renamed_at c.args.old.now c.args.new c.args.new c.args.names.now.items c.in-Some.at c.requires within there
