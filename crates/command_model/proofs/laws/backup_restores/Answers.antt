use Rattle.command_model.proofs.BackupLaws.{backup_restored}
use Rattle.command_model.proofs.laws.backup_restores.Goals as goal

pub returns : goal.returns
returns c = backup_restored
