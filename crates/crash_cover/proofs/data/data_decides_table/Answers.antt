use Rattle.crash_cover.proofs.SameData.{data_decides_table}
use Rattle.crash_cover.proofs.data.data_decides_table.Goals as goal

pub returns : goal.returns
returns c = data_decides_table
