use Rattle.std.proofs.Common.{sym, ◌∙◌}
use Rattle.log_roll.proofs.KnownFlags.{flags_known}
use Rattle.log_roll.proofs.first.superblock_with.Goals as goal

pub fitting-requires : goal.fitting-requires
fitting-requires c = flags_known c.args.payload.now c.in-Ok.superblock (sym c.requires.of_payload ∙ c.in-Ok.is)
