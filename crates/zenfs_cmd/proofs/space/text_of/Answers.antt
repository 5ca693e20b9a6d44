use Rattle.std.proofs.Common.{refl}
use Rattle.command_model.specs.CommandLine.{bad_name_of}
use Rattle.command_model.specs.CommandLine.Command.{ShowSpace}
use Rattle.zenfs_cmd.proofs.ReasonLaws.{shows}
use Rattle.zenfs_cmd.proofs.space.text_of.Goals as goal

pub returns-in-Ok-text_in-clause-allowed : goal.returns-in-Ok-text_in-clause-allowed
unfolding bad_name_of
returns-in-Ok-text_in-clause-allowed g c = λ at told.
    let D = g.D.ZonedDevice in
    shows (ShowSpace at) D.tells (D.absent c.args.dev) (D.image c.args.dev) c.in-Ok.fs.state refl (c.in-Ok.ensures.there told) refl (c.in-Ok.ensures.state told)
