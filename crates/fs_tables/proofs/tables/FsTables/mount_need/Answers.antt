use Rattle.std.proofs.Common.{arith}
use Rattle.fs_model.specs.FsState.{working_of}
use Rattle.extent_map.proofs.LengthLaws.{longest_within}
use Rattle.fs_tables.proofs.tables.FsTables.mount_need.Goals as goal

pub log_need-requires-clause-longest : goal.log_need-requires-clause-longest
log_need-requires-clause-longest c =
    omega (arith, c.greatest_record-longest.ensures.length, longest_within (working_of c.self.inside.files.rows), c.self.invariant.sound.short)
