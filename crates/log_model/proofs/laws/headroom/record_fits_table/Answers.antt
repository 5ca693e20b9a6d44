use Rattle.log_model.proofs.HeadroomLaws.{record_fits_table}
use Rattle.log_model.proofs.laws.headroom.record_fits_table.Goals as goal

pub returns : goal.returns
returns c = record_fits_table
