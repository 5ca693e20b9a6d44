use Rattle.std.proofs.Common.{rules, ◌≡◌, [], ◌∷◌, ◌++◌}
use Rattle.host_tree.specs.MemTreeState.{empty_file}
use Rattle.host_tree.proofs.LastEntries.{created_which, created_empty, created_others}
use Rattle.host_tree.proofs.entries.add_empty.Goals as goal

pub returns-clause-which : goal.returns-clause-which
returns-clause-which c = created_which c.args.files.now.items c.push.new.self.items c.args.dir.now c.args.path.now (search rules)

pub returns-clause-empty : goal.returns-clause-empty
returns-clause-empty c = created_empty c.args.files.now.items c.push.new.self.items c.args.dir.now c.args.path.now (search rules)

pub returns-clause-others : goal.returns-clause-others
returns-clause-others c = created_others c.args.files.now.items c.push.new.self.items c.args.dir.now c.args.path.now (search rules)
