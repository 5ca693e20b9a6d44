use Rattle.std.proofs.Common.{subst}
use Rattle.std.specs.Prelude.{[], ⊤, IsSomeAnd}
use Rattle.zenfs_cmd.specs.Plans.{target_of}
use Rattle.zenfs_cmd.specs.Words.{command_asked}
use Rattle.zenfs_cmd.proofs.words.Asked.target.Goals as goal

pub unreachable-requires : goal.unreachable-requires
unreachable-requires c = subst (λ a. IsSomeAnd (target_of (command_asked [] a)) (λ _. ⊤)) c.in-Delete.is (c.requires [])
