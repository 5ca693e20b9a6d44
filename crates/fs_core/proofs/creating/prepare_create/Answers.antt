use Rattle.fs_core.proofs.Creations.{create_fits_zone, id_left, ids_within}
use Rattle.fs_core.proofs.creating.prepare_create.Goals as goal

pub create_record-requires-clause-ids : goal.create_record-requires-clause-ids
create_record-requires-clause-ids c =
    let s = c.args.tables.now.state in
    id_left s (ids_within s _ _ c.files.ensures.files c.files.ensures.greatest c.valid-2.ensures.table) c.requires.may.ids

pub prepare_record-requires : goal.prepare_record-requires
prepare_record-requires c =
    create_fits_zone c.args.tables.now.state c.args.name.now c.args.hint c.args.sparse c.args.time c.in_ok-update.update c.valid.ensures c.requires.may c.in_ok-update.ensures.made
