use Rattle.std.proofs.Common.{subst}
use Rattle.std.specs.Prelude.{[]}
use Rattle.fs_model.specs.declared.error.FsError.{FsError}
use Rattle.zenfs_cmd.specs.Reasons.{IsJudgement}
use Rattle.zenfs_cmd.specs.Words.{command_asked}
use Rattle.zenfs_cmd.proofs.causes.cause_of.Goals as goal

pub target-requires : goal.target-requires
target-requires c = λ at. subst (λ (e : FsError). IsJudgement (command_asked at c.args.asked) e) c.in-Exists.is (c.requires at)

pub unreachable-requires : goal.unreachable-requires
unreachable-requires c = subst (λ (e : FsError). IsJudgement (command_asked [] c.args.asked) e) c.in-Stopped.is (c.requires [])

pub unreachable-requires-in-Gone : goal.unreachable-requires-in-Gone
unreachable-requires-in-Gone c = subst (λ (e : FsError). IsJudgement (command_asked [] c.args.asked) e) c.in-Gone.is (c.requires [])

pub unreachable-requires-in-InUse : goal.unreachable-requires-in-InUse
unreachable-requires-in-InUse c = subst (λ (e : FsError). IsJudgement (command_asked [] c.args.asked) e) c.in-InUse.is (c.requires [])

pub unreachable-requires-in-IdsEnd : goal.unreachable-requires-in-IdsEnd
unreachable-requires-in-IdsEnd c = subst (λ (e : FsError). IsJudgement (command_asked [] c.args.asked) e) c.in-IdsEnd.is (c.requires [])

pub unreachable-requires-in-NoSpace : goal.unreachable-requires-in-NoSpace
unreachable-requires-in-NoSpace c = subst (λ (e : FsError). IsJudgement (command_asked [] c.args.asked) e) c.in-NoSpace.is (c.requires [])

pub unreachable-requires-in-Busy : goal.unreachable-requires-in-Busy
unreachable-requires-in-Busy c = subst (λ (e : FsError). IsJudgement (command_asked [] c.args.asked) e) c.in-Busy.is (c.requires [])

pub unreachable-requires-in-NoMemory : goal.unreachable-requires-in-NoMemory
unreachable-requires-in-NoMemory c = subst (λ (e : FsError). IsJudgement (command_asked [] c.args.asked) e) c.in-NoMemory.is (c.requires [])

pub unreachable-requires-in-DevFault : goal.unreachable-requires-in-DevFault
unreachable-requires-in-DevFault c = subst (λ (e : FsError). IsJudgement (command_asked [] c.args.asked) e) c.in-DevFault.is (c.requires [])
