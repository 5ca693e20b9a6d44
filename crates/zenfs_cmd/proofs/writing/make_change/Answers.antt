use Rattle.std.proofs.Common.{◌≡◌, ap, [], false}
use Rattle.fs_core.specs.declared.check.Change.{Change}
use Rattle.zenfs_cmd.specs.Names.{command_named}
use Rattle.zenfs_cmd.specs.Plans.{changes_names}
use Rattle.zenfs_cmd.proofs.ChangeEnds.{goes_on_after}
use Rattle.zenfs_cmd.proofs.TreeStays.{wants_unwritten}
use Rattle.zenfs_cmd.proofs.writing.make_change.Goals as goal

pub unreachable-requires : goal.unreachable-requires
unreachable-requires g c =
    let none : changes_names (command_named [] c.args.change) ≡ false = ap (λ (n : Change). changes_names (command_named [] n)) c.in-Create.is in
    let is = c.requires.named [] in
    cc

pub returns-in-Link-clause-goes_on : goal.returns-in-Link-clause-goes_on
returns-in-Link-clause-goes_on g c = goes_on_after c.link.result c.args.fs.now.stopped c.link.new.self.stopped c.link.ensures.stopped

pub returns-in-Rename-clause-goes_on : goal.returns-in-Rename-clause-goes_on
returns-in-Rename-clause-goes_on g c = goes_on_after c.rename.result c.args.fs.now.stopped c.rename.new.self.stopped c.rename.ensures.stopped

pub returns-in-Unlink-clause-goes_on : goal.returns-in-Unlink-clause-goes_on
returns-in-Unlink-clause-goes_on g c = goes_on_after c.delete.result c.args.fs.now.stopped c.delete.new.self.stopped c.delete.ensures.stopped

pub returns-in-Link-clause-any_moment : goal.returns-in-Link-clause-any_moment
returns-in-Link-clause-any_moment g c = rw c.in-Link.is (λ at. c.link.ensures.any_moment)

pub returns-in-Rename-clause-any_moment : goal.returns-in-Rename-clause-any_moment
returns-in-Rename-clause-any_moment g c = rw c.in-Rename.is (λ at. c.rename.ensures.any_moment)

pub returns-in-Unlink-clause-any_moment : goal.returns-in-Unlink-clause-any_moment
returns-in-Unlink-clause-any_moment g c = rw c.in-Unlink.is (λ at. c.delete.ensures.any_moment)

pub returns-in-Link-clause-unwritten : goal.returns-in-Link-clause-unwritten
returns-in-Link-clause-unwritten g c = λ wanting. (c.link.ensures.unwritten (wants_unwritten c.link.result wanting)).1

pub returns-in-Rename-clause-unwritten : goal.returns-in-Rename-clause-unwritten
returns-in-Rename-clause-unwritten g c = λ wanting. (c.rename.ensures.unwritten (wants_unwritten c.rename.result wanting)).1

pub returns-in-Unlink-clause-unwritten : goal.returns-in-Unlink-clause-unwritten
returns-in-Unlink-clause-unwritten g c = λ wanting. (c.delete.ensures.unwritten (wants_unwritten c.delete.result wanting)).1
