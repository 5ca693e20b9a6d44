use Rattle.change_steps.proofs.BehindLaws.{creation_passes, link_passes, rename_passes, deletion_passes}
use Rattle.change_steps.proofs.behind.passes_behind_mount.Goals as goal

pub returns-clause-creation : goal.returns-clause-creation
returns-clause-creation c = creation_passes

pub returns-clause-link : goal.returns-clause-link
returns-clause-link c = link_passes

pub returns-clause-rename : goal.returns-clause-rename
returns-clause-rename c = rename_passes

pub returns-clause-deletion : goal.returns-clause-deletion
returns-clause-deletion c = deletion_passes
