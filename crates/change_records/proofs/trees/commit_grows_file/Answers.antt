use Rattle.change_records.proofs.TreesAfter.{commit_grows_file}
use Rattle.change_records.proofs.trees.commit_grows_file.Goals as goal

pub returns : goal.returns
returns c = commit_grows_file
