use Rattle.fs_core.proofs.Deletions.{deletion_fits_zone}
use Rattle.fs_core.proofs.deleting.prepare_delete.Goals as goal

pub prepare_record-requires : goal.prepare_record-requires
prepare_record-requires c =
    deletion_fits_zone c.args.tables.now.state c.args.name.now c.in_ok-deletion.deletion c.valid.ensures c.requires.can_write c.requires.may c.in_ok-deletion.ensures.made
