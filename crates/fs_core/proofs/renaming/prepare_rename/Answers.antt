use Rattle.fs_core.proofs.Renames.{rename_fits_zone}
use Rattle.fs_core.proofs.renaming.prepare_rename.Goals as goal

pub prepare_record-requires : goal.prepare_record-requires
prepare_record-requires c =
    rename_fits_zone c.args.tables.now.state c.args.old.now c.args.new.now c.in_ok-update.update c.valid.ensures c.requires c.in_ok-update.ensures.made
