use Rattle.zone_image.proofs.ReadLaws.{reads_on}
use Rattle.log_model.specs.LogSelection.{selected_log}
use Rattle.fs_model.specs.FsState.{state_in}
use Rattle.fs_core.proofs.Reasons.{reason_from, no_log_no_state}
use Rattle.fs_core.proofs.tables.read_tables.Goals as goal

pub returns-in-Err-clause-refused : goal.returns-in-Err-clause-refused
returns-in-Err-clause-refused g c =
    let D = g.D.ZonedDevice in
    let image = D.image c.args.dev.now in
    reason_from (selected_log image) (state_in image) c.in-Err.why (λ rose. rose) (λ told gone. gone) (λ told there gone. gone) (λ told w none. no_log_no_state image w none)
    c.in-Err.ensures.refused

pub returns-in-Ok-tables_of-clause-device : goal.returns-in-Ok-tables_of-clause-device
returns-in-Ok-tables_of-clause-device g c = reads_on g.met.D.ZonedDevice.moments c.log_of.ensures.device c.tables_of.ensures.device

pub returns-in-Err-tables_of-clause-device : goal.returns-in-Err-tables_of-clause-device
returns-in-Err-tables_of-clause-device g c = reads_on g.met.D.ZonedDevice.moments c.log_of.ensures.device c.tables_of.ensures.device
